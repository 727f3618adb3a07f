-- The lines of a round among those of its life.
use Rattle.std.proofs.Common.{◌≡◌, ℕ, suc, zero, ◌+◌, ◌<◌, ◌≤◌, Bool, true, false, cond, List, [], ◌∷◌, ◌++◌, Some, get_or, length, map, take, drop, refl, sym, ap, subst, ◌∙◌, arith, append_assoc}
use Rattle.std.specs.List.{All, count_by, flat_map, slice_get}
use Rattle.std.proofs.lemmas.Grind.{flat_map-append}
use Rattle.std.proofs.lemmas.List.{length-append, length-take-le}
use Rattle.std.proofs.lemmas.List.Sums.{sum_by-append, sum_by-cons}
use Rattle.std.proofs.lemmas.Option.{slice_get-get_or, slice_get_within}
use Rattle.tx_events.specs.declared.event.By.{By}
use Rattle.tx_events.proofs.PlaceLemmas.{slice_get-grows}
use Rattle.tx_model.specs.declared.report.Line.{Line}
use Rattle.tx_model.specs.declared.report.Step.{Step}
use Rattle.tx_model.specs.Rounds.{lines_in}
use Rattle.place_columns.specs.Lined.{line_by}
use Rattle.event_rules.specs.Told.{AreToldEvents}
use Rattle.report_law.specs.Steps.{Judged, is_ok_trim, lines_of}
use Rattle.standing_rules.specs.Sessions.{AreBehind, Lived, with_line}
use Rattle.standing_rules.specs.declared.sessions.Session.{Session}
use Rattle.reply_lines.specs.At.{AtLine, StandsThere, before_at, lines_at, lived_at, rounds_at}
use Rattle.report_check.specs.Passing.{IsPassed, trims_with}
use Rattle.report_check.specs.declared.round_lines.Passed.{Passed}
use Rattle.report_check.proofs.Judging.{all_there}

split_suc : {X : Type 0} (xs : List X) (p : ℕ) (x : X) → slice_get xs p ≡ Some x → xs ≡ take p xs ++ x ∷ drop (suc p) xs
split_suc [] p x e = absurd cc
split_suc {X} (y ∷ xs) zero x e = let same : y ≡ x = cc in ap (λ (z : X). z ∷ xs) same
split_suc {X} (y ∷ xs) (suc p) x e = ap (λ (t : List X). y ∷ t) (split_suc xs p x e)

take_front : {X : Type 0} (xs ys : List X) → take (length xs) (xs ++ ys) ≡ xs
take_front [] ys = refl
take_front {X} (x ∷ xs) ys = ap (λ (t : List X). x ∷ t) (take_front xs ys)

got_behind : {X : Type 0} (xs ys : List X) (p : ℕ) (x : X) → slice_get ys p ≡ Some x → slice_get (xs ++ ys) (length xs + p) ≡ Some x
got_behind [] ys p x e = let z : p ≡ 0 + p = omega arith in subst (λ k. slice_get ys k ≡ Some x) z e
got_behind (y ∷ xs) ys p x e = let z : suc (length xs + p) ≡ suc (length xs) + p = omega arith in subst (λ k. slice_get (y ∷ (xs ++ ys)) k ≡ Some x) z (got_behind xs ys p x e)

mapped_at : {X Y : Type 0} (f : X → Y) (xs : List X) (p : ℕ) (x : X) → slice_get xs p ≡ Some x → slice_get (map f xs) p ≡ Some (f x)
mapped_at f [] p x e = absurd cc
mapped_at f (y ∷ xs) zero x e = let same : y ≡ x = cc in ap (λ z. Some (f z)) same
mapped_at f (y ∷ xs) (suc p) x e = mapped_at f xs p x e

pub line_there : {X : Type 0} (xs items : List X) (p q : ℕ) (x : X) → items ≡ xs → p ≡ q → p < length items → x ≡ get_or items p x → slice_get xs q ≡ Some x
line_there {X} xs items p q x are same l is =
    subst (λ (t : List X). slice_get t q ≡ Some x) are (subst (λ k. slice_get items k ≡ Some x) same (slice_get-get_or items p x l ∙ ap (λ (y : X). Some y) (sym is)))

-- ---- a step of the life

module _ (j : Judged) (n : ℕ) (step : Step) (told : slice_get j.steps n ≡ Some step) where
  abbrev before : List Line
  before = flat_map lines_in (take n j.steps)

  abbrev rest : List Line
  rest = flat_map lines_in (drop (suc n) j.steps)

  pub lines_split : lines_of j ≡ (before ++ lines_in step) ++ rest
  lines_split =
      ap (flat_map lines_in) (split_suc j.steps n step told) ∙ flat_map-append lines_in (take n j.steps) (step ∷ drop (suc n) j.steps)
      ∙ sym (append_assoc before (lines_in step) rest)

  pub rounds_are : before ≡ take (length before) (lines_of j)
  rounds_are = sym (ap (take (length before)) (lines_split ∙ append_assoc before (lines_in step) rest) ∙ take_front before (lines_in step ++ rest))

  pub round_is : before ++ lines_in step ≡ take (length before + length (lines_in step)) (lines_of j)
  round_is =
      let size : length (before ++ lines_in step) ≡ length before + length (lines_in step) = length-append before (lines_in step) in
      sym (ap (take (length before + length (lines_in step))) lines_split ∙ ap (λ k. take k ((before ++ lines_in step) ++ rest)) (sym size) ∙ take_front (before ++ lines_in step) rest)

  pub round_within : length before + length (lines_in step) ≤ length (lines_of j)
  round_within =
      let size : length (before ++ lines_in step) ≡ length before + length (lines_in step) = length-append before (lines_in step) in
      let all : length (lines_of j) ≡ length (before ++ lines_in step) + length rest = ap length lines_split ∙ length-append (before ++ lines_in step) rest in
      omega arith

  -- its lines are of few sessions
  pub line_few : All (λ (b : By). b.session < 64) (map line_by (lines_of j)) → (p : ℕ) (l : Line) → slice_get (lines_in step) p ≡ Some l → l.by.session < 64
  line_few a p l at =
      let whole : slice_get (lines_of j) (length before + p) ≡ Some l =
      subst (λ (t : List Line). slice_get t (length before + p) ≡ Some l) (sym (lines_split ∙ append_assoc before (lines_in step) rest)) (got_behind before (lines_in step ++ rest) p l (slice_get-grows (lines_in step) rest l p at)) in
      all_there (λ (b : By). b.session < 64) (map line_by (lines_of j)) (length before + p) l.by a (mapped_at line_by (lines_of j) (length before + p) l whole)

pub before_size : (at : AtLine) → at.place ≤ length (lines_at at) → length (before_at at) ≡ length (rounds_at at) + at.place
before_size at l =
    let size : length (take at.place (lines_at at)) ≡ at.place = length-take-le at.place (lines_at at) l in
    let all : length (before_at at) ≡ length (rounds_at at) + length (take at.place (lines_at at)) = length-append (rounds_at at) (take at.place (lines_at at)) in
    omega arith

pub stands_there : (at : AtLine) (number : ℕ) (l : Line) (p : Passed) → slice_get at.j.steps at.round ≡ Some at.step → slice_get (lines_at at) at.place ≡ Some l → IsPassed at.j (before_at at) p → number ≡ p.lines → StandsThere at number l
stands_there at number l p told there passed is = record {
  told = told;
  stands = there;
  number_is = let within = slice_get_within (lines_at at) at.place l there in is ∙ passed.size ∙ before_size at (omega arith);
}

-- ---- one line more

cond_more : (b : Bool) (n : ℕ) → cond b (n + 1) n ≡ n + cond b 1 0
cond_more true n = refl
cond_more false n = let z : n ≡ n + 0 = omega arith in z

trims_on : (lines : List Line) (l : Line) → trims_with (count_by is_ok_trim lines) l ≡ count_by is_ok_trim (lines ++ l ∷ [])
trims_on lines l =
    let both : count_by is_ok_trim (lines ++ l ∷ []) ≡ count_by is_ok_trim lines + count_by is_ok_trim (l ∷ []) = sum_by-append (λ (x : Line). cond (is_ok_trim x) 1 0) lines (l ∷ []) in
    let one : count_by is_ok_trim (l ∷ []) ≡ cond (is_ok_trim l) 1 0 + count_by is_ok_trim [] = sum_by-cons (λ (x : Line). cond (is_ok_trim x) 1 0) l [] in
    let none : count_by is_ok_trim [] ≡ 0 = refl in
    let more : trims_with (count_by is_ok_trim lines) l ≡ count_by is_ok_trim lines + cond (is_ok_trim l) 1 0 = cond_more (is_ok_trim l) (count_by is_ok_trim lines) in
    omega arith

pub passed_more : (at : AtLine) (l : Line) (old new : Passed) (number : ℕ) → IsPassed at.j (before_at at) old → number ≡ old.lines → AreBehind (with_line (lived_at at) l) 64 new.sessions.items → AreToldEvents at.j (number + 1) new.told.items
    → new.lines ≡ number + 1 → new.trims ≡ trims_with old.trims l → IsPassed at.j (before_at at ++ l ∷ []) new
passed_more at l old new number p is sessions told lines trims =
    let was = p.size in
    let more : length (before_at at ++ l ∷ []) ≡ length (before_at at) + 1 = length-append (before_at at) (l ∷ []) in
    let size : new.lines ≡ length (before_at at ++ l ∷ []) = omega arith in
    record {
      sessions = sessions;
      told = subst (λ n. AreToldEvents at.j n new.told.items) (sym lines ∙ size) told;
      size = size;
      trims = trims ∙ ap (λ k. trims_with k l) p.trims ∙ trims_on (before_at at) l;
    }

pub behind_slice : (v : Lived) (items slice : List Session) → slice ≡ items → AreBehind v 64 items → AreBehind v (length slice) slice
behind_slice v items slice is b =
    let size : 64 ≡ length slice = sym (ap length is ∙ b.size) in
    subst (λ n. AreBehind v n slice) size (subst (λ (t : List Session). AreBehind v 64 t) (sym is) b)
