-- One line more.
use Rattle.tx_events.proofs.ListSteps.{range_push}
use Rattle.std.proofs.Common.{◌≡◌, ◌≢◌, ℕ, ◌+◌, ◌<◌, ◌≤◌, List, [], ◌∷◌, ◌++◌, refl, sym, ap, ◌∙◌, length, zero, suc, arith, Bool, true, false, cond, ◌==◌, get_or, get_or-set_same, get_or-set_other, set, length-append, eqb-true, eq-eqb, replicate, subst, ⊎_elim, Result, Ok, Err, OnOk}
use Rattle.std.proofs.Math.Seq.{get_or-append_seam}
use Rattle.std.proofs.lemmas.Bool.{false≢true, cases_lt}
use Rattle.std.proofs.lemmas.List.{get_or_past, get_or-replicate, length-replicate, length-set}
use Rattle.std.proofs.lemmas.List.Elements.{All-nil, All-push}
use Rattle.std.specs.List.{All, IsDistinct, range_with_len}
use Rattle.tx_model.specs.declared.command.Command.{Command}
use Rattle.tx_events.specs.Events.{same_name}
use Rattle.tx_events.specs.Places.{first_seen}
use Rattle.session_lang.specs.declared.script.Item.{Item}
use Rattle.session_lang.specs.declared.script.Item.TheVariants as items
use Rattle.tx_events.specs.Names.{is_name}
use Rattle.script_lines.specs.declared.directive.Directive.{Directive}
use Rattle.session_lang.specs.Reading.{HasRead, IsNew}
use Rattle.session_lang.specs.Rounds.{IsShort, count_of, open_round, rounds_of, sessions_in, turns_of}
use Rattle.session_lang.specs.Script.{item_of}
use Rattle.session_lang.proofs.CountLemmas.{count_of_push, sessions_end, sessions_push}
use Rattle.session_lang.proofs.DistinctLemmas.{distinct_push}
use Rattle.session_lang.proofs.RoundLemmas.{open_end, open_short, rounds_end, short_push, turns_push}
use Rattle.session_lang.proofs.SeenLemmas.{push_old, push_next, has_appeared, not_yet}

distinct_none : IsDistinct same_name []
unfolding IsDistinct
distinct_none = tt

pub has_read_none : (counts : List ℕ) → counts ≡ [] → HasRead [] counts []
has_read_none counts e = record {
  names = All-nil (λ name. is_name name ≡ true);
  distinct = distinct_none;
  numbered = refl;
  sessions = omega arith;
  lengths = ap length e;
  counted = λ k. ap (λ l. get_or l k 0) e;
  short = All-nil IsShort;
}

set_counted : (counts : List ℕ) (k n j m : ℕ) (b : Bool) → (k == j) ≡ b → k < length counts → n ≡ get_or counts k 0 + 1 → get_or counts j 0 ≡ m → get_or (set counts k n) j 0 ≡ m + cond b 1 0
set_counted counts k n j m true e l s t =
    let same : k ≡ j = eqb-true k j e in
    let w = get_or-set_same counts k n 0 l in
    let u = ap (λ i. get_or (set counts k n) i 0) same in
    let v = ap (λ i. get_or counts i 0) same in
    omega arith
set_counted counts k n j m false e l s t =
    let other : j ≢ k = λ same. false≢true (sym e ∙ eq-eqb k j (sym same)) in
    let w = get_or-set_other counts k j n 0 other in
    omega arith

few_more : (counts : List ℕ) (k n j m : ℕ) (b : Bool) → (k == j) ≡ b → n ≡ get_or counts k 0 → n < 100000 → get_or counts j 0 ≡ m → m ≤ 100000 → m + cond b 1 0 ≤ 100000
few_more counts k n j m true e s l t f = let v = ap (λ i. get_or counts i 0) (eqb-true k j e) in omega arith
few_more counts k n j m false e s l t f = omega arith

-- the round with a command more is short where each count is
short_more : (before : List Item) (k : ℕ) (command : Command) → All IsShort (rounds_of before) → ((j : ℕ) → count_of j before + cond (k == j) 1 0 ≤ 100000) → All IsShort (rounds_of (before ++ items.Run k command ∷ []))
short_more before k command a few = short_push [] before k command a (λ j. let f = few j in let e = turns_push (open_round before) k j command in omega arith)

-- of a session that has one
pub has_read_old : (named : List (List ℕ)) (counts : List ℕ) (before : List Item) (k n : ℕ) (command : Command) → HasRead named counts before → k < length named → n ≡ get_or counts k 0 → n < 100000 → HasRead named (set counts k (n + 1)) (before ++ items.Run k command ∷ [])
has_read_old named counts before k n command h l e f =
    let lengths = h.lengths in
    record {
      names = h.names;
      distinct = h.distinct;
      numbered = ap first_seen (sessions_push before k command) ∙ push_old k (sessions_in before) (has_appeared k (length named) (sessions_in before) h.numbered l) ∙ h.numbered;
      sessions = h.sessions;
      lengths = length-set counts k (n + 1) ∙ h.lengths;
      counted = λ j. set_counted counts k (n + 1) j (count_of j before) (k == j) refl (omega arith) (ap (λ m. m + 1) e) (h.counted j) ∙ sym (count_of_push before k j command);
      short = short_more before k command h.short (λ j. few_more counts k n j (count_of j before) (k == j) refl e f (h.counted j) (open_short [] before h.short j));
    }

push_other : (counts : List ℕ) (y j : ℕ) → j ≢ length counts → get_or (counts ++ y ∷ []) j 0 ≡ get_or counts j 0
push_other [] y zero n = absurd (n refl)
push_other [] y (suc j) n = refl
push_other (x ∷ xs) y zero n = refl
push_other (x ∷ xs) y (suc j) n = push_other xs y j (λ e. n (ap suc e))

new_counted : (counts : List ℕ) (k j m : ℕ) (b : Bool) → (k == j) ≡ b → k ≡ length counts → get_or counts j 0 ≡ m → get_or (counts ++ 1 ∷ []) j 0 ≡ m + cond b 1 0
new_counted counts k j m true e l t =
    let same : length counts ≡ j = sym l ∙ eqb-true k j e in
    let none : get_or counts j 0 ≡ 0 = get_or_past counts j 0 (omega arith) in
    let one : get_or (counts ++ 1 ∷ []) j 0 ≡ 1 = ap (λ i. get_or (counts ++ 1 ∷ []) i 0) (sym same) ∙ get_or-append_seam counts 1 [] 0 in
    omega arith
new_counted counts k j m false e l t =
    let same = push_other counts 1 j (λ at. false≢true (sym e ∙ eq-eqb k j (l ∙ sym at))) in
    omega arith

few_new : (counts : List ℕ) (k j m : ℕ) (b : Bool) → (k == j) ≡ b → k ≡ length counts → get_or counts j 0 ≡ m → m ≤ 100000 → m + cond b 1 0 ≤ 100000
few_new counts k j m true e l t f =
    let same : k ≡ j = eqb-true k j e in
    let none = get_or_past counts j 0 (omega arith) in
    omega arith
few_new counts k j m false e l t f = omega arith

-- of a new session
pub has_read_new : (named : List (List ℕ)) (counts : List ℕ) (before : List Item) (name : List ℕ) (command : Command) → HasRead named counts before → IsNew named name → is_name name ≡ true → length named < 64 → HasRead (named ++ name ∷ []) (counts ++ 1 ∷ []) (before ++ items.Run (length named) command ∷ [])
has_read_new named counts before name command h new i l =
    let k = length named in
    let size : length (named ++ name ∷ []) ≡ suc k = length-append named (name ∷ []) ∙ omega arith in
    let zeroed : k ≡ 0 + k = omega arith in
    let before_that = h.lengths in
    let lengths : length (counts ++ 1 ∷ []) ≡ length (named ++ name ∷ []) = length-append counts (1 ∷ []) ∙ omega arith in
    record {
      names = All-push (λ name. is_name name ≡ true) named name h.names i;
      distinct = distinct_push named name h.distinct new;
      numbered = ap first_seen (sessions_push before k command) ∙ push_next k (sessions_in before) (not_yet k k (sessions_in before) h.numbered (omega arith)) ∙ ap (λ t. t ++ k ∷ []) h.numbered ∙ ap (λ m. range_with_len 0 k ++ m ∷ []) zeroed ∙ sym (range_push 0 k) ∙ ap (range_with_len 0) (sym size);
      sessions = omega arith;
      lengths = lengths;
      counted = λ j. new_counted counts k j (count_of j before) (k == j) refl (sym h.lengths) (h.counted j) ∙ sym (count_of_push before k j command);
      short = short_more before k command h.short (λ j. few_new counts k j (count_of j before) (k == j) refl (sym h.lengths) (h.counted j) (open_short [] before h.short j));
    }

abbrev none_of : ℕ → List ℕ
none_of n = replicate n 0

zeros : (n j : ℕ) → get_or (none_of n) j 0 ≡ 0
zeros n j =
    ⊎_elim (λ l. get_or-replicate n j 0 0 l) (λ l. let e : length (none_of n) ≡ n = length-replicate n 0 in get_or_past (none_of n) j 0 (omega arith)) (cases_lt j n)

-- the end of a round
pub has_read_end : (named : List (List ℕ)) (counts : List ℕ) (before : List Item) (d : Directive) → HasRead named counts before → HasRead named (replicate (length counts) 0) (before ++ item_of d ∷ [])
has_read_end named counts before d h = record {
  names = h.names;
  distinct = h.distinct;
  numbered = ap first_seen (sessions_end before d) ∙ h.numbered;
  sessions = h.sessions;
  lengths = length-replicate (length counts) 0 ∙ h.lengths;
  counted = λ j. zeros (length counts) j ∙ sym (ap (λ t. length (turns_of j t)) (open_end [] before d));
  short = subst (All IsShort) (sym (rounds_end [] before d)) h.short;
}

pub end_round : {T E : Type 0} (r : Result T E) (named : List (List ℕ)) (counts : List ℕ) (before : List Item) (d : Directive) (counts' : List ℕ) (after : List Item) → HasRead named counts before → counts' ≡ replicate (length counts) 0 → OnOk r (after ≡ before ++ item_of d ∷ []) → OnOk r (HasRead named counts' after)
end_round (Ok x) named counts before d counts' after h c a =
    subst (λ k. HasRead named k after) (sym c) (subst (HasRead named (replicate (length counts) 0)) (sym a) (has_read_end named counts before d h))
end_round (Err x) named counts before d counts' after h c a = tt
