-- Counting the events of a history one by one.
use Rattle.std.proofs.Common.{◌≡◌, ◌+◌, ◌^◌, ◌<◌, ◌≤◌, ◌∷◌, ◌++◌, [], ℕ, Bool, List, ap, arith, cond, get_or, length, length-take-le, sym, take, ◌∙◌}
use Rattle.std.proofs.lemmas.List.{take_more}
use Rattle.std.proofs.lemmas.List.Sums.{count_by-le-length, sum_by_push}
use Rattle.std.specs.List.{count_by}
use Rattle.tx_events.specs.declared.event.Event.{Event}
use Rattle.script_gen.specs.declared.summary.Counts.{Counts}
use Rattle.script_gen.specs.Counts.{AreFew, counted, counts_of, gives_id, is_abort, is_commit, is_snap, is_undo}

one_more : (p : Event → Bool) (xs : List Event) (e : Event) → count_by p (xs ++ e ∷ []) ≡ count_by p xs + cond (p e) 1 0
one_more p xs e = sum_by_push (λ x. cond (p x) 1 0) xs e

counts_push : (xs : List Event) (e : Event) → counts_of (xs ++ e ∷ []) ≡ counted e (counts_of xs)
counts_push xs e = λ j. record {
  ids = one_more gives_id xs e j;
  undone = one_more is_undo xs e j;
  commits = one_more is_commit xs e j;
  aborts = one_more is_abort xs e j;
  snaps = one_more is_snap xs e j;
}

pub counts_next : (h : List Event) (i : ℕ) (e : Event) (c : Counts) → i < length h → e ≡ get_or h i e → c ≡ counts_of (take i h) → counted e c ≡ counts_of (take (i + 1) h)
counts_next h i e c low is so_far =
    ap (counted e) so_far ∙ sym (counts_push (take i h) e) ∙ ap (λ (x : Event). counts_of (take i h ++ x ∷ [])) is ∙ ap counts_of (sym (take_more h i e low))

pub counts_fit : (h : List Event) (i : ℕ) (c : Counts) → i < length h → length h < 2 ^ 64 → c ≡ counts_of (take i h) → AreFew c
counts_fit h i c low short so_far =
    let ids = ap (λ (c : Counts). c.ids) so_far in
    let undone = ap (λ (c : Counts). c.undone) so_far in
    let commits = ap (λ (c : Counts). c.commits) so_far in
    let aborts = ap (λ (c : Counts). c.aborts) so_far in
    let snaps = ap (λ (c : Counts). c.snaps) so_far in
    let size = length-take-le i h (omega arith) in
    record {
      ids = omega (arith, ids, count_by-le-length gives_id (take i h), size);
      undone = omega (arith, undone, count_by-le-length is_undo (take i h), size);
      commits = omega (arith, commits, count_by-le-length is_commit (take i h), size);
      aborts = omega (arith, aborts, count_by-le-length is_abort (take i h), size);
      snaps = omega (arith, snaps, count_by-le-length is_snap (take i h), size);
    }
