-- Numbers that differ in no bit are the same.
use Rattle.std.proofs.Common.{◌≡◌, ℕ, ◌/◌, ◌%◌, ◌^◌, bit_or, bit_xor, sym, ap, ◌∙◌, arith}
use Rattle.std.proofs.lemmas.Nat.{le_or_l, le_or_r}
use Rattle.std.proofs.lemmas.Nat.Bits.{same_from_bits, bit_at_xor, bit_at-zero, bit_at-lt}

same_from_xor : (a b : ℕ) → bit_xor a b ≡ 0 → a ≡ b
same_from_xor a b none =
    same_from_bits a b (λ i. omega (arith, sym (bit_at_xor a b i) ∙ ap (λ n. n / 2 ^ i % 2) none ∙ bit_at-zero i, bit_at-lt a i, bit_at-lt b i))

pub same_so_far : (found a b : ℕ) → bit_or found (bit_xor a b) ≡ 0 → (found ≡ 0) × (a ≡ b)
same_so_far found a b none =
    let here : bit_xor a b ≡ 0 = omega (arith, none, le_or_r found (bit_xor a b)) in
    (omega (arith, none, le_or_l found (bit_xor a b)), same_from_xor a b here)
