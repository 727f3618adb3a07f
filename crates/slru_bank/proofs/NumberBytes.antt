-- Four bytes of a number put on a page.
use Rattle.std.proofs.Common.{◌≡◌, ⊎_elim, ℕ, ◌+◌, ◌*◌, ◌/◌, ◌%◌, ◌^◌, ◌<◌, ◌≤◌, List, ◌++◌, length, slice_index, Result, Ok, Err, OnOk, sym, ◌∙◌, ap, arith}
use Rattle.byteorder.specs.Endian.{little_bytes, little_from}
use Rattle.byteorder.specs.Numbers.{little_from-bytes}
use Rattle.store_pages.specs.Layouts.{number_in}
use Rattle.slru_bank.specs.Bank.{placed, PutsPage, StaysAPage}
use Rattle.slru_bank.specs.ByteRange.{PutsNumber, placed_before, placed_in, placed_past}
use Rattle.slru_bank.specs.declared.refusal.BankRefusal.{BankRefusal}

number_of_four : (from rest : List ℕ) (number : ℕ) → number < 2 ^ 32 → from ≡ little_bytes 4 number ++ rest
    → slice_index from 0 + 256 * (slice_index from 1 + 256 * (slice_index from 2 + 256 * slice_index from 3)) ≡ number
number_of_four from rest number fits is =
    let read : little_from 0 4 (little_bytes 4 number ++ rest) ≡ number / 256 ^ 0 % 256 ^ 4 = little_from-bytes 4 0 number rest in
    let here : little_from 0 4 from ≡ number / 256 ^ 0 % 256 ^ 4 = ap (little_from 0 4) is ∙ read in
    omega (arith, here)

pub puts_number : (m new : ℕ → List ℕ) (page at number : ℕ) (from rest : List ℕ) → at + 4 ≤ 8192 → number < 2 ^ 32 → length from ≡ 4 → from ≡ little_bytes 4 number ++ rest
    → StaysAPage page m new → PutsPage page (placed (m page) at from) m new → PutsNumber page at number m new
puts_number m new page at number from rest within fits four is pages puts =
    let xs : List ℕ = m page in
    let long : length (m page) ≡ 8192 = pages.was.whole in
    let b0 : slice_index (placed (m page) at from) (at + 0) ≡ slice_index from 0 = placed_in (m page) from at 0 (omega arith) (omega arith) in
    let b1 : slice_index (placed (m page) at from) (at + 1) ≡ slice_index from 1 = placed_in (m page) from at 1 (omega arith) (omega arith) in
    let b2 : slice_index (placed (m page) at from) (at + 2) ≡ slice_index from 2 = placed_in (m page) from at 2 (omega arith) (omega arith) in
    let b3 : slice_index (placed (m page) at from) (at + 3) ≡ slice_index from 3 = placed_in (m page) from at 3 (omega arith) (omega arith) in
    let at_0 : at + 0 ≡ at = omega arith in
    let first : slice_index (placed (m page) at from) at ≡ slice_index from 0 = ap (λ (i : ℕ). slice_index (placed (m page) at from) i) (sym at_0) ∙ b0 in
    record {
      here = ap (λ (bytes : List ℕ). number_in bytes at) puts.here ∙ rw (first, b1, b2, b3) (number_of_four from rest number fits is);
      bytes = λ i side. ap (λ (bytes : List ℕ). slice_index bytes i) puts.here ∙ ⊎_elim
          (λ (h : i < at). placed_before (m page) from at i (omega arith) h)
          (λ (h : at + 4 ≤ i). placed_past (m page) from at i (omega arith) (omega arith))
          side;
      pages = pages;
      others = puts.others;
    }

pub puts_number_ok : (r : Result (Unit {0}) BankRefusal) (m new : ℕ → List ℕ) (page at number : ℕ) (from rest : List ℕ) → at + 4 ≤ 8192 → number < 2 ^ 32 → length from ≡ 4 → from ≡ little_bytes 4 number ++ rest
    → OnOk r (StaysAPage page m new) → OnOk r (PutsPage page (placed (m page) at from) m new) → OnOk r (PutsNumber page at number m new)
puts_number_ok (Ok x) m new page at number from rest within fits four is pages puts = puts_number m new page at number from rest within fits four is pages puts
puts_number_ok (Err e) m new page at number from rest within fits four is pages puts = tt
