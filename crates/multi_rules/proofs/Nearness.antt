-- Where a stored half means no id.
use Rattle.std.proofs.Common.{◌≡◌, ℕ, ◌+◌, ◌-◌, ◌%◌, ◌^◌, ◌<◌, ◌≤◌, Option, Some, None, refl, arith, ⊎_elim}
use Rattle.std.proofs.lemmas.Bool.{cases_lt}
use Rattle.tx_events.specs.Nearest.{near_id, offset_near}
use Rattle.tx_events.proofs.Nearness.{near_some}

far : (f x o : ℕ) → o ≡ (x + 2 ^ 31 + 2 ^ 32 - f % 2 ^ 32) % 2 ^ 32 → x < 2 ^ 32 → f + o < 2 ^ 31 → f + 2 ^ 31 ≤ x
far f x o is small l = omega arith

further : (f x o : ℕ) → o ≡ (x + 2 ^ 31 + 2 ^ 32 - f % 2 ^ 32) % 2 ^ 32 → x < 2 ^ 32 → f + 2 ^ 31 ≤ x → f + o < 2 ^ 31
further f x o is small l = omega arith

none_from : (o : Option ℕ) → ((y : ℕ) → o ≡ Some y → ⊥) → o ≡ None
none_from None never = refl
none_from (Some y) never = absurd (never y refl)

-- it means none where it would be below 0
pub none_is : (f x : ℕ) → x < 2 ^ 32 → near_id f x ≡ None → f + 2 ^ 31 ≤ x
none_is f x small e = ⊎_elim
    (λ (l : f + offset_near f x < 2 ^ 31). far f x (offset_near f x) refl small l)
    (λ (l : 2 ^ 31 ≤ f + offset_near f x). absurd (let y = (near_some f x).1 l in let z = y.1 in cc))
    (cases_lt (f + offset_near f x) (2 ^ 31))

pub none_again : (f x : ℕ) → x < 2 ^ 32 → f + 2 ^ 31 ≤ x → near_id f x ≡ None
none_again f x small l =
    let m = further f x (offset_near f x) refl small l in
    none_from (near_id f x) (λ y e. let n = (near_some f x).0 (y, e) in omega arith)
