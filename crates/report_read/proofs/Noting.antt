-- Names that are noted.
use Rattle.std.proofs.Common.{◌≡◌, ℕ, ◌+◌, ◌<◌, List, [], ◌∷◌, ◌++◌, Bool, true, false, cond, Option, Some, None, refl, sym, ap, ◌∙◌, subst, arith, length, length-append, one-add, suc}
use Rattle.std.specs.List.{AllByRecursion, IsDistinct}
use Rattle.std.specs.Str.{bytes_eq}
use Rattle.std.proofs.lemmas.Bool.{false≢true}
use Rattle.std.proofs.lemmas.Slice.Eq.{bytes_eq-Decides}
use Rattle.tx_events.specs.Events.{same_name}
use Rattle.tx_events.proofs.ListSteps.{all_push}
use Rattle.tx_events.proofs.Names.{same_name_equal}
use Rattle.tx_events.specs.Names.{IsName}
use Rattle.report_words.specs.Reading.{later_place, name_place}
use Rattle.report_read.specs.Grammar.{note, noted}
use Rattle.report_read.specs.Taking.{AreFew}

-- a name without a place is none's
differs : (n w : List ℕ) (b : Bool) → same_name n w ≡ b → bytes_eq n w ≡ false → same_name n w ≡ false
differs n w false e f = e
differs n w true e f = absurd (false≢true (sym f ∙ (bytes_eq-Decides n w).1 (same_name_equal n w e)))

record Absent (n : List ℕ) (ns : List (List ℕ)) (w : List ℕ) : Type 0 where
  pub here : bytes_eq n w ≡ false
  pub there : name_place ns w ≡ None

no_later : (o : Option ℕ) → later_place 1 o ≡ None → o ≡ None
no_later None e = refl
no_later (Some n) e = absurd cc

absent_at : (n : List ℕ) (ns : List (List ℕ)) (w : List ℕ) (b : Bool) → bytes_eq n w ≡ b → cond b (Some 0) (later_place 1 (name_place ns w)) ≡ None → Absent n ns w
absent_at n ns w true e f = absurd cc
absent_at n ns w false e f = record { here = e; there = no_later (name_place ns w) f }

pub distinct_push : (names : List (List ℕ)) (w : List ℕ) → IsDistinct same_name names → name_place names w ≡ None → IsDistinct same_name (names ++ w ∷ [])
unfolding IsDistinct
distinct_push [] w d e = (tt, tt)
distinct_push (n ∷ ns) w d e =
    let a : Absent n ns w = absent_at n ns w (bytes_eq n w) refl e in
    (all_push (λ m. same_name n m ≡ false) ns w d.0 (differs n w (same_name n w) refl a.here), distinct_push ns w d.1 a.there)

pub none_noted : (names : List (List ℕ)) (w : List ℕ) → name_place names w ≡ None → note names w ≡ names ++ w ∷ []
none_noted names w e = ap (noted names w) e

-- a name that is added stands last
pub pushed_place : (names : List (List ℕ)) (w : List ℕ) → name_place names w ≡ None → name_place (names ++ w ∷ []) w ≡ Some (length names)
pushed_place [] w e = rw ((bytes_eq-Decides w w).1 refl) refl
pushed_place (n ∷ ns) w e =
    let a : Absent n ns w = absent_at n ns w (bytes_eq n w) refl e in
    let more : 1 + length ns ≡ suc (length ns) = one-add (length ns) in
    rw (a.here, pushed_place ns w a.there) (ap Some more)

pub place_noted : (names : List (List ℕ)) (w : List ℕ) (k : ℕ) → name_place names w ≡ Some k → names ≡ note names w
place_noted names w k e = sym (ap (noted names w) e)

pub few_push : (names : List (List ℕ)) (w : List ℕ) → AreFew names → name_place names w ≡ None → IsName w → length names < 64 → AreFew (names ++ w ∷ [])
few_push names w f e n l =
    let k = length-append names (w ∷ []) in
    record { are = record { each = all_push IsName names w f.are.each n; distinct = distinct_push names w f.are.distinct e }; few = omega arith }

last_name : (names : List (List ℕ)) (w : List ℕ) → AllByRecursion IsName (names ++ w ∷ []) → IsName w
last_name [] w a = a.0
last_name (n ∷ ns) w a = last_name ns w a.1

pub not_few : (names : List (List ℕ)) (w : List ℕ) → name_place names w ≡ None → AreFew (note names w) → IsName w × (length names < 64)
not_few names w e f =
    let g : AreFew (names ++ w ∷ []) = subst (λ (ns : List (List ℕ)). AreFew ns) (none_noted names w e) f in
    let k = length-append names (w ∷ []) in
    let m = g.few in
    (last_name names w g.are.each, omega arith)
