-- Numbers of four bytes on a page, byte by byte.
use Rattle.std.proofs.Common.{◌≡◌, ℕ, zero, suc, ◌+◌, ◌*◌, ◌/◌, ◌%◌, ◌^◌, ◌<◌, List, slice_index, sym, ap, ◌∙◌, arith}
use Rattle.store_pages.specs.Layouts.{number_in}
use Rattle.tx_events.specs.Ids.{low_half}
use Rattle.tx_core.specs.StoredBytes.{byte_of}
use Rattle.engine_parts.proofs.OffsetShelf.{word_made}

-- numbers of one value have the same bytes
record AreSame (a b c d p q r s : ℕ) : Type 0 where
  first : a ≡ p
  second : b ≡ q
  third : c ≡ r
  fourth : d ≡ s

same : (a b c d p q r s : ℕ) → a < 256 → b < 256 → c < 256 → p < 256 → q < 256 → r < 256 → a + 256 * (b + 256 * (c + 256 * d)) ≡ p + 256 * (q + 256 * (r + 256 * s)) → AreSame a b c d p q r s
same a b c d p q r s al bl cl pl ql rl e = record { first = omega arith; second = omega arith; third = omega arith; fourth = omega arith }

digits : (f g : ℕ → ℕ) → ((i : ℕ) → f i < 256) → ((i : ℕ) → g i < 256) → f 0 + 256 * (f 1 + 256 * (f 2 + 256 * f 3)) ≡ g 0 + 256 * (g 1 + 256 * (g 2 + 256 * g 3)) → (i : ℕ) → i < 4 → f i ≡ g i
digits f g fs gs e = at
  where
    all : AreSame (f 0) (f 1) (f 2) (f 3) (g 0) (g 1) (g 2) (g 3)
    all = same (f 0) (f 1) (f 2) (f 3) (g 0) (g 1) (g 2) (g 3) (fs 0) (fs 1) (fs 2) (gs 0) (gs 1) (gs 2) e

    at : (i : ℕ) → i < 4 → f i ≡ g i
    at zero lt = all.first
    at (suc zero) lt = all.second
    at (suc (suc zero)) lt = all.third
    at (suc (suc (suc zero))) lt = all.fourth
    at (suc (suc (suc (suc i)))) lt = absurd (omega arith)

byte_small : (a : ℕ) → a % 256 < 256
byte_small a = omega arith

shift : (xs : List ℕ) (at : ℕ) → slice_index xs (at + 0) + 256 * (slice_index xs (at + 1) + 256 * (slice_index xs (at + 2) + 256 * slice_index xs (at + 3))) ≡ number_in xs at
shift xs at = let e : at + 0 ≡ at = omega arith in ap (λ z. slice_index xs z + 256 * (slice_index xs (at + 1) + 256 * (slice_index xs (at + 2) + 256 * slice_index xs (at + 3)))) e

-- a number that stayed stayed byte by byte
pub bytes_same : (xs ys : List ℕ) (at : ℕ) → ((i : ℕ) → slice_index xs i < 256) → ((i : ℕ) → slice_index ys i < 256) → number_in xs at ≡ number_in ys at → (i : ℕ) → i < 4 → slice_index xs (at + i) ≡ slice_index ys (at + i)
bytes_same xs ys at sx sy e = digits (λ i. slice_index xs (at + i)) (λ i. slice_index ys (at + i)) (λ i. sx (at + i)) (λ i. sy (at + i)) (shift xs at ∙ (e ∙ sym (shift ys at)))

-- and one that was put there has its bytes
pub bytes_are : (xs : List ℕ) (at n : ℕ) → ((i : ℕ) → slice_index xs i < 256) → number_in xs at ≡ low_half n → (i : ℕ) → i < 4 → slice_index xs (at + i) ≡ byte_of n i
bytes_are xs at n small e = digits (λ i. slice_index xs (at + i)) (λ i. byte_of n i) (λ i. small (at + i)) (λ i. byte_small (n / 256 ^ i)) (shift xs at ∙ (e ∙ word_made n))
