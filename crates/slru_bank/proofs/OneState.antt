-- A change of two bits of a page is a change of one id's state.
use Rattle.std.proofs.Common.{◌≡◌, ◌≢◌, ◌⊎◌, ⊎_elim, ℕ, ◌/◌, ◌%◌, ◌<◌, ◌==◌, Bool, true, false, cond, List, length, slice_index, slice_set, Result, Ok, Err, OnOk, refl, sym, ◌∙◌, ap, arith}
use Rattle.std.proofs.lemmas.Bool.{ne_eqb, eq-eqb}
use Rattle.std.proofs.lemmas.List.{get_or-set_same, get_or-set_other}
use Rattle.slru_bank.specs.declared.refusal.BankRefusal.{BankRefusal}
use Rattle.slru_bank.specs.Bank.{masked, PutsPage, IsPage, StaysAPage}
use Rattle.store_pages.specs.Layouts.{bits_at, state_in}
use Rattle.slru_bank.specs.States.{times_4}
use Rattle.slru_bank.specs.Changes.{SetsState}
use Rattle.slru_bank.proofs.Mask.{set_bits}

same_or_not : (a b : ℕ) → (a ≡ b) ⊎ (a ≢ b)
same_or_not a b = grind arith

abbrev new_byte : List ℕ → ℕ → ℕ → ℕ
new_byte l n s = masked (slice_index l (n / 4)) (times_4 3 (n % 4)) (times_4 s (n % 4))

own_bits : (l : List ℕ) (n s : ℕ) → n < 32768 → s < 4 → IsPage l → state_in (slice_set l (n / 4) (new_byte l n s)) n ≡ s
own_bits l n s n_small s_small is =
    let long : length l ≡ 8192 = is.whole in
    let byte : slice_index (slice_set l (n / 4) (new_byte l n s)) (n / 4) ≡ new_byte l n s = get_or-set_same l (n / 4) (new_byte l n s) 0 (omega arith) in
    let same : (n % 4 == n % 4) ≡ true = eq-eqb (n % 4) (n % 4) refl in
    ap (λ (b : ℕ). bits_at b (n % 4)) byte ∙ set_bits (slice_index l (n / 4)) s (n % 4) (n % 4) (is.small (n / 4)) s_small (omega arith) (omega arith) ∙ ap (λ (r : Bool). cond r s (bits_at (slice_index l (n / 4)) (n % 4))) same

other_bits : (l : List ℕ) (n s k : ℕ) → n < 32768 → s < 4 → IsPage l → k ≢ n → state_in (slice_set l (n / 4) (new_byte l n s)) k ≡ state_in l k
other_bits l n s k n_small s_small is differs =
    let long : length l ≡ 8192 = is.whole in
    ⊎_elim
    (λ (h : k / 4 ≡ n / 4).
    let byte : slice_index (slice_set l (n / 4) (new_byte l n s)) (n / 4) ≡ new_byte l n s = get_or-set_same l (n / 4) (new_byte l n s) 0 (omega arith) in
    let apart : k % 4 ≢ n % 4 = omega arith in
    let other : (k % 4 == n % 4) ≡ false = ne_eqb (k % 4) (n % 4) apart in
    ap (λ (i : ℕ). bits_at (slice_index (slice_set l (n / 4) (new_byte l n s)) i) (k % 4)) h ∙ ap (λ (b : ℕ). bits_at b (k % 4)) byte
    ∙ set_bits (slice_index l (n / 4)) s (n % 4) (k % 4) (is.small (n / 4)) s_small (omega arith) (omega arith)
    ∙ ap (λ (r : Bool). cond r s (bits_at (slice_index l (n / 4)) (k % 4))) other ∙ ap (λ (i : ℕ). bits_at (slice_index l i) (k % 4)) (sym h))
    (λ (h : k / 4 ≢ n / 4). ap (λ (b : ℕ). bits_at b (k % 4)) (get_or-set_other l (n / 4) (k / 4) (new_byte l n s) 0 h))
    (same_or_not (k / 4) (n / 4))

pub sets_state : (m after : ℕ → List ℕ) (page n s : ℕ) → n < 32768 → s < 4 → IsPage (m page) → PutsPage page (slice_set (m page) (n / 4) (new_byte (m page) n s)) m after → SetsState page n s m after
sets_state m after page n s n_small s_small is puts = record {
  here = ap (λ (l : List ℕ). state_in l n) puts.here ∙ own_bits (m page) n s n_small s_small is;
  same_page = λ k within differs. ap (λ (l : List ℕ). state_in l k) puts.here ∙ other_bits (m page) n s k n_small s_small is differs;
  others = puts.others;
}

pub sets_state_ok : (r : Result (Unit {0}) BankRefusal) (m after : ℕ → List ℕ) (page n s : ℕ) → n < 32768 → s < 4 → OnOk r (StaysAPage page m after) → OnOk r (PutsPage page (slice_set (m page) (n / 4) (new_byte (m page) n s)) m after) → OnOk r (SetsState page n s m after)
sets_state_ok (Ok x) m after page n s n_small s_small pages puts = sets_state m after page n s n_small s_small pages.was puts
sets_state_ok (Err e) m after page n s n_small s_small pages puts = tt

pub sets_state_by : (r : Result (Unit {0}) BankRefusal) (m after : ℕ → List ℕ) (p page n s mask bits : ℕ) → n < 32768 → s < 4 → p ≡ page → mask ≡ times_4 3 (n % 4) → bits ≡ times_4 s (n % 4)
    → OnOk r (StaysAPage p m after) → OnOk r (PutsPage p (slice_set (m p) (n / 4) (masked (slice_index (m p) (n / 4)) mask bits)) m after) → OnOk r (SetsState page n s m after)
sets_state_by r m after p page n s mask bits n_small s_small page_is mask_is bits_is pages puts =
    let pages1 = rw page_is at pages in
    let puts1 = rw (page_is, mask_is, bits_is) at puts in
    sets_state_ok r m after page n s n_small s_small pages1 puts1
