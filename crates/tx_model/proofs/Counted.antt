-- The events of some lines, counted.
use Rattle.std.proofs.Common.{◌≡◌, ℕ, List, [], ◌∷◌, length, refl, ap, ◌∙◌, arith, Bool, cond, IsTrue}
use Rattle.std.specs.List.{All, AllByRecursion, count_by}
use Rattle.std.proofs.lemmas.List.Elements.{recursion_from_All}
use Rattle.std.proofs.lemmas.List.Sums.{sum_by-cons}
use Rattle.tx_events.specs.declared.event.Event.{Event}
use Rattle.tx_model.specs.declared.report.Line.{Line}
use Rattle.tx_model.specs.Lines.{has_line}

all_counted : {X : Type 0} (p : X → Bool) (xs : List X) → AllByRecursion (λ x. IsTrue (p x)) xs → count_by p xs ≡ length xs
all_counted p [] a = refl
all_counted p (x ∷ xs) a =
    let one : ℕ = cond (p x) 1 0 in
    let here : one ≡ 1 = ap (λ b. cond b 1 0) a.0 in
    let rest = all_counted p xs a.1 in
    sum_by-cons (λ y. cond (p y) 1 0) x xs ∙ omega (arith, here, rest)

-- where each event is of one of the lines, they have all events
pub all_are_counted : (h : List Event) (lines : List Line) → All (λ e. IsTrue (has_line lines e)) h → count_by (has_line lines) h ≡ length h
all_are_counted h lines a = all_counted (has_line lines) h (recursion_from_All (λ e. IsTrue (has_line lines e)) h a)
