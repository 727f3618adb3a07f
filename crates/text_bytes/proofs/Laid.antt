-- Bytes behind which room is laid out.
use Rattle.std.proofs.Common.{◌≡◌, ℕ, zero, suc, List, ◌++◌, ◌+◌, ◌-◌, ◌*◌, ◌/◌, ◌%◌, ◌<◌, ◌≤◌, Bool, true, ◌&&◌, T, eqb, get_or, take, length, arith, ap, sym, ◌∙◌, append_assoc, eq-zero-or-pos, eqb→eq, inl, inr}
use Rattle.std.proofs.lemmas.List.{length-take-le, take-take}
use Rattle.std.specs.Fmt.{decimal}
use lib.Ieee.Fits.{and_l, and_r}
use Rattle.itoa.proofs.Decimal.{decimal_four, decimal_pair}
use Rattle.text_bytes.specs.Digits.{pair}
use Rattle.text_bytes.specs.declared.bytes.TheConstants.{PAIRS}

-- ---- what was written piece by piece

pub then_two : (o a b z y : List ℕ) → y ≡ o ++ a → z ≡ y ++ b → z ≡ o ++ (a ++ b)
then_two o a b z y e f = f ∙ ap (λ t. t ++ b) e ∙ append_assoc o a b

pub then_three : (o a b c z y x : List ℕ) → x ≡ o ++ a → y ≡ x ++ b → z ≡ y ++ c → z ≡ o ++ (a ++ (b ++ c))
then_three o a b c z y x e f g = then_two x b c z y f g ∙ ap (λ t. t ++ (b ++ c)) e ∙ append_assoc o a (b ++ c)

-- ---- digits

abbrev are_pairs : ℕ → Bool
are_pairs zero = true
are_pairs (suc p) = (eqb (get_or PAIRS (p * 2) 0) (48 + p / 10) && eqb (get_or PAIRS (p * 2 + 1) 0) (48 + p % 10)) && are_pairs p

below : (n p : ℕ) → T (are_pairs n) → p < n → (get_or PAIRS (p * 2) 0 ≡ 48 + p / 10) × (get_or PAIRS (p * 2 + 1) 0 ≡ 48 + p % 10)
below zero p t h = absurd (omega arith)
below (suc n) p t h =
    elim (eq-zero-or-pos (n - p)) [
      | inl z ↦ let e : p ≡ n = omega arith in let a = and_l _ (are_pairs n) t in rw e (eqb→eq _ _ (and_l _ _ a), eqb→eq _ _ (and_r _ _ a))
      | inr g ↦ below n p (and_r _ (are_pairs n) t) (omega arith)
    ]

-- the table of two digits
pub pairs_at : (p : ℕ) → p < 100 → (get_or PAIRS (p * 2) 0 ≡ 48 + p / 10) × (get_or PAIRS (p * 2 + 1) 0 ≡ 48 + p % 10)
pairs_at p h = below 100 p tt h

pub of_few : (n : ℕ) → 100 ≤ n → n < 10000 → decimal n ≡ decimal (n / 100) ++ pair (n % 100)
of_few n lo hi = decimal_pair n lo (omega arith)

pub of_more : (n : ℕ) → 10000 ≤ n → n < 100000000 → decimal n ≡ decimal (n / 10000) ++ (pair (n % 10000 / 100) ++ pair (n % 10000 % 100))
of_more n lo hi = decimal_four n lo (omega arith)

-- ---- the text

-- a front of a front
pub cut_again : (xs : List ℕ) (n u : ℕ) → u ≤ length xs → n ≤ length (take u xs) → take n xs ≡ take n (take u xs)
cut_again xs n u h l =
    let size : length (take u xs) ≡ u = length-take-le u xs h in
    sym (take-take n u xs (omega arith))
