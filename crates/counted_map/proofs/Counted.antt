-- Keys that are numbers, what is said after an error, and equal counts.
use Rattle.std.proofs.Common.{◌≡◌, ℕ, ◌<◌, Bool, true, false, ◌==◌, cond, refl, arith, Less, Equal, Greater, Result, Ok, Err, OnErr, ◌∙◌}
use Rattle.std.proofs.lemmas.Bool.Decides.{nat_tests}
use Rattle.std.specs.Prelude.{nat_lt}
use Rattle.std.specs.Ordering.{nat_cmp, is_eq}
use Rattle.std.specs.declared.cmp.Ordering.{Ordering}
use Rattle.counted_map.specs.declared.CountedMap.{CountedMap}
use Rattle.counted_map.specs.Counts.{Counts}

pub cmp_eq : (a b : ℕ) → is_eq (nat_cmp a b) ≡ (a == b)
cmp_eq a b = one (nat_lt a b) refl (a == b) refl
  where
    one : (c : Bool) → nat_lt a b ≡ c → (d : Bool) → (a == b) ≡ d → is_eq (cond c Less (cond d Equal Greater)) ≡ d
    one true e true f = absurd (let l : a < b = grind (arith, nat_tests) in let k : a ≡ b = grind (arith, nat_tests) in omega arith)
    one true e false f = refl
    one false e true f = refl
    one false e false f = refl

pub on_err : {T E : Type 0} (P : Type 0) (r : Result T E) → P → OnErr r P
on_err P (Ok x) holds = tt
on_err P (Err e) holds = holds

-- the same counts, said by another function
pub counts_alike : {K : Type 0} (cmp : K → K → Ordering) (f g : K → ℕ) (m : CountedMap K) → Counts cmp f m → ((k : K) → f k ≡ g k) → Counts cmp g m
counts_alike cmp f g m h same = record { each = λ k. h.each k ∙ same k; in_place = h.in_place; in_map = h.in_map }
