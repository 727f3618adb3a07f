-- Numbers of four bytes, byte by byte.
use Rattle.std.proofs.Common.{List, ap, arith, subst, sym, ℕ, ⊎_elim, ◌*◌, ◌+◌, ◌/◌, ◌%◌, ◌<◌, ◌^◌, ◌∙◌, ◌≡◌, ◌⊎◌}
use Rattle.std.specs.List.{slice_index}
use Rattle.tx_events.specs.Ids.{low_half}
use Rattle.store_pages.specs.Layouts.{number_in}
use Rattle.recoverable.specs.Bytes.{byte_of}

pub which : (i : ℕ) → i < 4 → (i ≡ 0) ⊎ ((i ≡ 1) ⊎ ((i ≡ 2) ⊎ (i ≡ 3)))
which i lt = grind arith

-- the bytes of four that make a number
pub bytes_of : (b0 b1 b2 b3 n : ℕ) → b0 < 256 → b1 < 256 → b2 < 256 → b3 < 256 → b0 + 256 * (b1 + 256 * (b2 + 256 * b3)) ≡ n % 2 ^ 32
    → (b0 ≡ n % 256) × (b1 ≡ n / 256 % 256) × (b2 ≡ n / 65536 % 256) × (b3 ≡ n / 16777216 % 256)
bytes_of b0 b1 b2 b3 n s0 s1 s2 s3 e = (omega arith, omega arith, omega arith, omega arith)

pub byte_in : (bytes : List ℕ) (at n i : ℕ) → ((j : ℕ) → slice_index bytes j < 256) → number_in bytes at ≡ low_half n → i < 4 → slice_index bytes (at + i) ≡ byte_of n i
byte_in bytes at n i small e lt =
    let all = bytes_of (slice_index bytes at) (slice_index bytes (at + 1)) (slice_index bytes (at + 2)) (slice_index bytes (at + 3)) n (small at) (small (at + 1)) (small (at + 2)) (small (at + 3)) e in
    let first : slice_index bytes (at + 0) ≡ slice_index bytes at = ap (λ k. slice_index bytes k) (let z : at + 0 ≡ at = omega arith in z) in
    ⊎_elim
    (λ (q : i ≡ 0). subst (λ z. slice_index bytes (at + z) ≡ byte_of n z) (sym q) (first ∙ all.0 ∙ (let z : n % 256 ≡ byte_of n 0 = omega arith in z)))
    (λ h. ⊎_elim
    (λ (q : i ≡ 1). subst (λ z. slice_index bytes (at + z) ≡ byte_of n z) (sym q) (all.1 ∙ (let z : n / 256 % 256 ≡ byte_of n 1 = omega arith in z)))
    (λ k. ⊎_elim
    (λ (q : i ≡ 2). subst (λ z. slice_index bytes (at + z) ≡ byte_of n z) (sym q) (all.2 ∙ (let z : n / 65536 % 256 ≡ byte_of n 2 = omega arith in z)))
    (λ (q : i ≡ 3). subst (λ z. slice_index bytes (at + z) ≡ byte_of n z) (sym q) (all.3 ∙ (let z : n / 16777216 % 256 ≡ byte_of n 3 = omega arith in z)))
    k) h)
    (which i lt)

-- the bytes of a number are those that it is read from
pub own_bytes : (bytes : List ℕ) (at i : ℕ) → ((j : ℕ) → slice_index bytes j < 256) → i < 4 → slice_index bytes (at + i) ≡ byte_of (number_in bytes at) i
own_bytes bytes at i small lt =
    byte_in bytes at (number_in bytes at) i small (small_number (slice_index bytes at) (slice_index bytes (at + 1)) (slice_index bytes (at + 2)) (slice_index bytes (at + 3)) (small at) (small (at + 1)) (small (at + 2)) (small (at + 3))) lt
  where
    small_number : (b0 b1 b2 b3 : ℕ) → b0 < 256 → b1 < 256 → b2 < 256 → b3 < 256 → b0 + 256 * (b1 + 256 * (b2 + 256 * b3)) ≡ (b0 + 256 * (b1 + 256 * (b2 + 256 * b3))) % 2 ^ 32
    small_number b0 b1 b2 b3 s0 s1 s2 s3 = omega arith

-- where two numbers are the same, so are their bytes
pub byte_same : (old new : List ℕ) (at i : ℕ) → ((j : ℕ) → slice_index old j < 256) → ((j : ℕ) → slice_index new j < 256) → number_in new at ≡ number_in old at → i < 4 → slice_index new (at + i) ≡ slice_index old (at + i)
byte_same old new at i old_small new_small e lt = own_bytes new at i new_small lt ∙ ap (λ n. byte_of n i) e ∙ sym (own_bytes old at i old_small lt)
