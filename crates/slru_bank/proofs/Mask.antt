-- Two bits of a byte are set, and the other six stay.
use Rattle.std.proofs.Common.{◌≡◌, ◌⊎◌, ⊎_elim, ℕ, zero, suc, ◌<◌, ◌==◌, Bool, true, false, cond, ◌&&◌, refl, sym, subst, arith}
use Rattle.std.proofs.lemmas.Bool.{eqb-true}
use Rattle.slru_bank.specs.Bank.{masked}
use Rattle.store_pages.specs.Layouts.{bits_at}
use Rattle.slru_bank.specs.States.{times_4}

unfoldable pub every : ℕ → (ℕ → Bool) → Bool
every zero f = true
every (suc n) f = f n && every n f

left : (r s : Bool) → (r && s) ≡ true → r ≡ true
left true s e = refl
left false s e = e

right : (r s : Bool) → (r && s) ≡ true → s ≡ true
right true s e = e
right false s e = absurd cc

or_below : (i n : ℕ) → i < suc n → (i ≡ n) ⊎ (i < n)
or_below i n h = grind arith

pub each : (n : ℕ) (f : ℕ → Bool) (i : ℕ) → i < n → every n f ≡ true → f i ≡ true
unfolding every
each zero f i within all = absurd (omega arith)
each (suc n) f i within all = ⊎_elim (λ (e : i ≡ n). subst (λ (k : ℕ). f k ≡ true) (sym e) (left (f n) (every n f) all)) (λ (h : i < n). each n f i h (right (f n) (every n f) all)) (or_below i n within)

is_right : ℕ → ℕ → ℕ → ℕ → Bool
is_right b s k j = bits_at (masked b (times_4 3 k) (times_4 s k)) j == cond (j == k) s (bits_at b j)

all_right : every 256 (λ b. every 4 (λ s. every 4 (λ k. every 4 (λ j. is_right b s k j)))) ≡ true
unfolding every is_right
all_right = refl

pub set_bits : (b s k j : ℕ) → b < 256 → s < 4 → k < 4 → j < 4 → bits_at (masked b (times_4 3 k) (times_4 s k)) j ≡ cond (j == k) s (bits_at b j)
unfolding is_right
set_bits b s k j b_small s_small k_small j_small =
    let at_b = each 256 (λ b. every 4 (λ s. every 4 (λ k. every 4 (λ j. is_right b s k j)))) b b_small all_right in
    let at_s = each 4 (λ s. every 4 (λ k. every 4 (λ j. is_right b s k j))) s s_small at_b in
    let at_k = each 4 (λ k. every 4 (λ j. is_right b s k j)) k k_small at_s in
    eqb-true (bits_at (masked b (times_4 3 k) (times_4 s k)) j) (cond (j == k) s (bits_at b j)) (each 4 (λ j. is_right b s k j) j j_small at_k)
