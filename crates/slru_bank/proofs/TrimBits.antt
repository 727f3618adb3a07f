-- The bits of a byte from one id on are cleared.
use Rattle.std.proofs.Common.{◌≡◌, ℕ, zero, suc, ◌-◌, ◌<◌, ◌≤◌, ◌==◌, Bool, true, false, ◌&&◌, ◌||◌, if◌then◌else◌, nat_lt, bit_and, refl, arith, ◌∙◌}
use Rattle.std.proofs.lemmas.Bool.{eqb-true, ne_eqb, eq-eqb}
use Rattle.std.proofs.lemmas.Bool.Decides.{nat_tests}
use Rattle.store_pages.specs.Layouts.{bits_at}
use Rattle.slru_bank.specs.Bank.{masked}
use Rattle.slru_bank.specs.States.{times_4}
use Rattle.slru_bank.proofs.Mask.{every, each}

-- after the write of zeros, and where there were none but zeros
cleared_right : ℕ → ℕ → ℕ → Bool
cleared_right b r j =
    (bits_at (masked b (256 - times_4 1 r) 0) j == (if nat_lt j r then bits_at b j else 0))
    && (nat_lt j r || ((bits_at b j == 0) || (if bit_and b (256 - times_4 1 r) == 0 then false else true)))

all_cleared : every 256 (λ b. every 4 (λ r. (r == 0) || every 4 (λ j. cleared_right b r j))) ≡ true
unfolding every cleared_right
all_cleared = refl

left : (r s : Bool) → (r && s) ≡ true → r ≡ true
left true s e = refl
left false s e = e

right : (r s : Bool) → (r && s) ≡ true → s ≡ true
right true s e = e
right false s e = absurd cc

not_left : (r s : Bool) → (r || s) ≡ true → r ≡ false → s ≡ true
not_left true s e h = absurd cc
not_left false s e h = e

ruled : (b r j : ℕ) → b < 256 → 1 ≤ r → r < 4 → j < 4 → cleared_right b r j ≡ true
ruled b r j b_small r_some r_small j_small =
    let at_b = each 256 (λ b. every 4 (λ r. (r == 0) || every 4 (λ j. cleared_right b r j))) b b_small all_cleared in
    let at_r = each 4 (λ r. (r == 0) || every 4 (λ j. cleared_right b r j)) r r_small at_b in
    each 4 (λ j. cleared_right b r j) j j_small (not_left (r == 0) (every 4 (λ j. cleared_right b r j)) at_r (ne_eqb r 0 (omega arith)))

pub low_bits : (b r j : ℕ) → b < 256 → 1 ≤ r → r < 4 → j < 4 → j < r → bits_at (masked b (256 - times_4 1 r) 0) j ≡ bits_at b j
unfolding cleared_right
low_bits b r j b_small r_some r_small j_small below =
    let is : nat_lt j r ≡ true = grind (arith, nat_tests) in
    let both = eqb-true (bits_at (masked b (256 - times_4 1 r) 0) j) (if nat_lt j r then bits_at b j else 0) (left _ _ (ruled b r j b_small r_some r_small j_small)) in
    both ∙ rw is refl

pub high_bits : (b r j : ℕ) → b < 256 → 1 ≤ r → r < 4 → j < 4 → r ≤ j → bits_at (masked b (256 - times_4 1 r) 0) j ≡ 0
unfolding cleared_right
high_bits b r j b_small r_some r_small j_small past =
    let is : nat_lt j r ≡ false = grind (arith, nat_tests) in
    let both = eqb-true (bits_at (masked b (256 - times_4 1 r) 0) j) (if nat_lt j r then bits_at b j else 0) (left _ _ (ruled b r j b_small r_some r_small j_small)) in
    both ∙ rw is refl

pub zero_bits : (b r j : ℕ) → b < 256 → 1 ≤ r → r < 4 → j < 4 → r ≤ j → bit_and b (256 - times_4 1 r) ≡ 0 → bits_at b j ≡ 0
unfolding cleared_right
zero_bits b r j b_small r_some r_small j_small past none =
    let is : nat_lt j r ≡ false = grind (arith, nat_tests) in
    let free : (bit_and b (256 - times_4 1 r) == 0) ≡ true = eq-eqb (bit_and b (256 - times_4 1 r)) 0 none in
    let rule = not_left (nat_lt j r) ((bits_at b j == 0) || (if bit_and b (256 - times_4 1 r) == 0 then false else true)) (right _ _ (ruled b r j b_small r_some r_small j_small)) is in
    eqb-true (bits_at b j) 0 (either (bits_at b j == 0) (rw free at rule))
  where
    either : (r : Bool) → (r || false) ≡ true → r ≡ true
    either true e = refl
    either false e = e

pub bits_of_zero : (j : ℕ) → bits_at 0 j ≡ 0
bits_of_zero zero = refl
bits_of_zero (suc j) = bits_of_zero j
