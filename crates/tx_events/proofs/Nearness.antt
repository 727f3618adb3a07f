-- Which number a stored half means near another, in the terms of a test of it.
use Rattle.std.proofs.Common.{◌≡◌, ℕ, ◌+◌, ◌-◌, ◌%◌, ◌^◌, ◌<◌, ◌≤◌, ◌↔◌, Bool, true, false, cond, nat_lt, Some, None, refl, ap, ◌∙◌, arith}
use Rattle.std.proofs.lemmas.Bool.Decides.{nat_tests}
use Rattle.tx_events.specs.Ids.{low_half}
use Rattle.tx_events.specs.Nearest.{near_id, offset_near}

pub some_of : (n k : ℕ) (b : Bool) → nat_lt n k ≡ b → (y : ℕ) → cond b None (Some (n - k)) ≡ Some y → (k ≤ n) × (n - k ≡ y)
some_of n k true t y e = absurd cc
some_of n k false t y e = (grind (arith, nat_tests), cc)

pub of_some : (n k : ℕ) (b : Bool) → nat_lt n k ≡ b → k ≤ n → cond b None (Some (n - k)) ≡ Some (n - k)
of_some n k true t l = absurd (grind (arith, nat_tests))
of_some n k false t l = refl

turned : (f x y o : ℕ) → o ≡ (x + 2 ^ 31 + 2 ^ 32 - f % 2 ^ 32) % 2 ^ 32 → 2 ^ 31 ≤ f + o → f + o - 2 ^ 31 ≡ y → (y % 2 ^ 32 ≡ x % 2 ^ 32) × (f ≤ y + 2 ^ 31) × (y < f + 2 ^ 31)
turned f x y o is l e = (omega arith, omega arith, omega arith)

again : (f x y o : ℕ) → o ≡ (x + 2 ^ 31 + 2 ^ 32 - f % 2 ^ 32) % 2 ^ 32 → y % 2 ^ 32 ≡ x % 2 ^ 32 → f ≤ y + 2 ^ 31 → y < f + 2 ^ 31 → (2 ^ 31 ≤ f + o) × (f + o - 2 ^ 31 ≡ y)
again f x y o is low a b = (omega arith, omega arith)

pub near_is : (f x y : ℕ) → near_id f x ≡ Some y → (low_half y ≡ low_half x) × (f ≤ y + 2 ^ 31) × (y < f + 2 ^ 31)
near_is f x y e =
    let s = some_of (f + offset_near f x) (2 ^ 31) (nat_lt (f + offset_near f x) (2 ^ 31)) refl y e in
    turned f x y (offset_near f x) refl s.0 s.1

pub near_again : (f x y : ℕ) → low_half y ≡ low_half x → f ≤ y + 2 ^ 31 → y < f + 2 ^ 31 → near_id f x ≡ Some y
near_again f x y low a b =
    let s = again f x y (offset_near f x) refl low a b in
    of_some (f + offset_near f x) (2 ^ 31) (nat_lt (f + offset_near f x) (2 ^ 31)) refl s.0 ∙ ap Some s.1

-- whether it means one at all
pub near_some : (f x : ℕ) → ((y : ℕ) × (near_id f x ≡ Some y)) ↔ (2 ^ 31 ≤ f + offset_near f x)
near_some f x = (
  λ z. (some_of (f + offset_near f x) (2 ^ 31) (nat_lt (f + offset_near f x) (2 ^ 31)) refl z.0 z.1).0,
  λ l. (f + offset_near f x - 2 ^ 31, of_some (f + offset_near f x) (2 ^ 31) (nat_lt (f + offset_near f x) (2 ^ 31)) refl l),
)

-- the least number from a bound on with this low half
least_low : (least x gap : ℕ) → gap ≡ (x + 2 ^ 32 - least % 2 ^ 32) % 2 ^ 32 → (least + gap) % 2 ^ 32 ≡ x % 2 ^ 32
least_low least x gap is = omega arith

least_least : (least x gap id : ℕ) → gap ≡ (x + 2 ^ 32 - least % 2 ^ 32) % 2 ^ 32 → id % 2 ^ 32 ≡ x % 2 ^ 32 → least ≤ id → least + gap ≤ id
least_least least x gap id is low l = omega arith

pub means_is : (least end x gap : ℕ) → gap ≡ (x + 2 ^ 32 - least % 2 ^ 32) % 2 ^ 32 → (gap < end - least) ↔ ((id : ℕ) × ((low_half id ≡ low_half x) × (least ≤ id) × (id < end)))
means_is least end x gap is = (
  λ l. (least + gap, (least_low least x gap is, omega arith, omega arith)),
  λ z. let low = z.1.0 in let a = z.1.1 in let b = z.1.2 in let c = least_least least x gap z.0 is low a in omega arith,
)
