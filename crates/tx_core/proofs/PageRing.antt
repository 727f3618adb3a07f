-- Stored pages compare as the pages in full do, where their numbers are less than a quarter of the ring apart.
use Rattle.std.proofs.Common.{arith, false, refl, sym, true, ℕ, ⊎_elim, nat_lt, ◌&&◌, ◌*◌, ◌+◌, ◌-◌, ◌/◌, ◌%◌, ◌<◌, ◌^◌, ◌∙◌, ◌≡◌, ◌≤◌}
use Rattle.std.proofs.lemmas.Bool.{le-leb, le-ltb, lt-leb, lt-ltb}
use Rattle.tx_events.specs.Pages.{member_page_in_full}
use Rattle.tx_events.proofs.ListSteps.{le_or_over}
use Rattle.tx_events.specs.Order.{ring_before, xid_before}
use Rattle.tx_events.specs.PageOrder.{Ids, Multis, Offsets, Shape, is_before, page_number, page_precedes}

ring_before_by : (a b d : ℕ) → 0 < d → d ≤ 2 ^ 31 → b ≡ a + d → ring_before (a % 2 ^ 32) (b % 2 ^ 32) ≡ true
ring_before_by a b d some near way =
    let far : 2 ^ 31 ≤ (a % 2 ^ 32 + (2 ^ 32 - b % 2 ^ 32)) % 2 ^ 32 = omega arith in
    le-leb (2 ^ 31) ((a % 2 ^ 32 + (2 ^ 32 - b % 2 ^ 32)) % 2 ^ 32) far

ring_not_before : (a b d : ℕ) → d < 2 ^ 31 → a ≡ b + d → ring_before (a % 2 ^ 32) (b % 2 ^ 32) ≡ false
ring_not_before a b d near way =
    let far : (a % 2 ^ 32 + (2 ^ 32 - b % 2 ^ 32)) % 2 ^ 32 < 2 ^ 31 = omega arith in
    lt-leb (2 ^ 31) ((a % 2 ^ 32 + (2 ^ 32 - b % 2 ^ 32)) % 2 ^ 32) far

-- two pages whose numbers stand on the ring for these two
pub ordered : (shape : Shape) (n p q a b : ℕ) → 1 ≤ n → n ≤ 2 ^ 15 → a < b + 2 ^ 30 → b < a + 2 ^ 30
    → is_before shape (page_number shape n p) (page_number shape n q) ≡ ring_before (a % 2 ^ 32) (b % 2 ^ 32)
    → is_before shape (page_number shape n p) ((page_number shape n q + (n - 1)) % 2 ^ 32) ≡ ring_before (a % 2 ^ 32) ((b + (n - 1)) % 2 ^ 32)
    → page_precedes shape n p q ≡ nat_lt a b
ordered shape n p q a b some few near far first second =
    ⊎_elim
    (λ (ge : b ≤ a).
    let one = first ∙ ring_not_before a b (a - b) (omega arith) (omega arith) in
    (λ j. one j && is_before shape (page_number shape n p) ((page_number shape n q + (n - 1)) % 2 ^ 32)) ∙ sym (le-ltb a b ge))
    (λ (lt : a < b).
    let one = first ∙ ring_before_by a b (b - a) (omega arith) (omega arith) (omega arith) in
    let two = second ∙ ring_before_by a (b + (n - 1)) (b + (n - 1) - a) (omega arith) (omega arith) (omega arith) in
    (λ j. one j && two j) ∙ sym (lt-ltb a b lt))
    (le_or_over b a)

-- where the order is that of two other numbers
pub same_order : (a b c d : ℕ) → (a < b → c < d) → (b ≤ a → d ≤ c) → nat_lt c d ≡ nat_lt a b
same_order a b c d up down = ⊎_elim (λ (ge : b ≤ a). le-ltb c d (down ge) ∙ sym (le-ltb a b ge)) (λ (lt : a < b). lt-ltb c d (up lt) ∙ sym (lt-ltb a b lt)) (le_or_over b a)

-- ids that are no special ones compare on the ring
on_ring : (a b : ℕ) → 3 ≤ a → 3 ≤ b → xid_before a b ≡ ring_before a b
on_ring a b p q = rw (le-ltb a 3 p, le-ltb b 3 q) refl

-- ---- the four stores

pub xact_order : (p q : ℕ) → p * 32768 < q * 32768 + 2 ^ 30 → q * 32768 < p * 32768 + 2 ^ 30 → page_precedes Ids 32768 (p % 2 ^ 17) (q % 2 ^ 17) ≡ nat_lt p q
xact_order p q near far =
    let at_p : page_number Ids 32768 (p % 2 ^ 17) ≡ (p * 32768 + 4) % 2 ^ 32 = omega arith in
    let at_q : page_number Ids 32768 (q % 2 ^ 17) ≡ (q * 32768 + 4) % 2 ^ 32 = omega arith in
    let past_q : (page_number Ids 32768 (q % 2 ^ 17) + (32768 - 1)) % 2 ^ 32 ≡ (q * 32768 + 4 + (32768 - 1)) % 2 ^ 32 = omega arith in
    ordered Ids 32768 (p % 2 ^ 17) (q % 2 ^ 17) (p * 32768 + 4) (q * 32768 + 4) (omega arith) (omega arith) (omega arith) (omega arith)
    (on_ring (page_number Ids 32768 (p % 2 ^ 17)) (page_number Ids 32768 (q % 2 ^ 17)) (omega arith) (omega arith) ∙ (λ j. ring_before (at_p j) (at_q j)))
    (on_ring (page_number Ids 32768 (p % 2 ^ 17)) ((page_number Ids 32768 (q % 2 ^ 17) + (32768 - 1)) % 2 ^ 32) (omega arith) (omega arith) ∙ (λ j. ring_before (at_p j) (past_q j)))
    ∙ same_order p q (p * 32768 + 4) (q * 32768 + 4) (λ lt. omega arith) (λ ge. omega arith)

pub parent_order : (p q : ℕ) → p * 2048 < q * 2048 + 2 ^ 30 → q * 2048 < p * 2048 + 2 ^ 30 → page_precedes Ids 2048 (p % 2 ^ 21) (q % 2 ^ 21) ≡ nat_lt p q
parent_order p q near far =
    let at_p : page_number Ids 2048 (p % 2 ^ 21) ≡ (p * 2048 + 4) % 2 ^ 32 = omega arith in
    let at_q : page_number Ids 2048 (q % 2 ^ 21) ≡ (q * 2048 + 4) % 2 ^ 32 = omega arith in
    let past_q : (page_number Ids 2048 (q % 2 ^ 21) + (2048 - 1)) % 2 ^ 32 ≡ (q * 2048 + 4 + (2048 - 1)) % 2 ^ 32 = omega arith in
    ordered Ids 2048 (p % 2 ^ 21) (q % 2 ^ 21) (p * 2048 + 4) (q * 2048 + 4) (omega arith) (omega arith) (omega arith) (omega arith)
    (on_ring (page_number Ids 2048 (p % 2 ^ 21)) (page_number Ids 2048 (q % 2 ^ 21)) (omega arith) (omega arith) ∙ (λ j. ring_before (at_p j) (at_q j)))
    (on_ring (page_number Ids 2048 (p % 2 ^ 21)) ((page_number Ids 2048 (q % 2 ^ 21) + (2048 - 1)) % 2 ^ 32) (omega arith) (omega arith) ∙ (λ j. ring_before (at_p j) (past_q j)))
    ∙ same_order p q (p * 2048 + 4) (q * 2048 + 4) (λ lt. omega arith) (λ ge. omega arith)

pub offset_order : (p q : ℕ) → p * 2048 < q * 2048 + 2 ^ 30 → q * 2048 < p * 2048 + 2 ^ 30 → page_precedes Multis 2048 (p % 2 ^ 21) (q % 2 ^ 21) ≡ nat_lt p q
offset_order p q near far =
    let at_p : page_number Multis 2048 (p % 2 ^ 21) ≡ (p * 2048 + 2) % 2 ^ 32 = omega arith in
    let at_q : page_number Multis 2048 (q % 2 ^ 21) ≡ (q * 2048 + 2) % 2 ^ 32 = omega arith in
    let past_q : (page_number Multis 2048 (q % 2 ^ 21) + (2048 - 1)) % 2 ^ 32 ≡ (q * 2048 + 2 + (2048 - 1)) % 2 ^ 32 = omega arith in
    ordered Multis 2048 (p % 2 ^ 21) (q % 2 ^ 21) (p * 2048 + 2) (q * 2048 + 2) (omega arith) (omega arith) (omega arith) (omega arith)
    (λ j. ring_before (at_p j) (at_q j)) (λ j. ring_before (at_p j) (past_q j))
    ∙ same_order p q (p * 2048 + 2) (q * 2048 + 2) (λ lt. omega arith) (λ ge. omega arith)

-- the first offset on a page of members in full
abbrev pub first_on : ℕ → ℕ
first_on p = p / 2625286 * 2 ^ 32 + p % 2625286 * 1636

pub member_on : (x p : ℕ) → p ≡ member_page_in_full x → (first_on p ≤ x) × (x < first_on p + 1636)
member_on x p is =
    let lap : p / 2625286 ≡ x / 2 ^ 32 = omega arith in
    let page : p % 2625286 ≡ x % 2 ^ 32 / 1636 = omega arith in
    (omega arith, omega arith)

-- pages in full rise with their first offsets
pub first_rises : (p q : ℕ) → p ≤ q → first_on p ≤ first_on q
first_rises p q le = omega arith

pub member_order : (p q : ℕ) → first_on p < first_on q + 2 ^ 30 → first_on q < first_on p + 2 ^ 30 → page_precedes Offsets 1636 (p % 2625286) (q % 2625286) ≡ nat_lt p q
member_order p q near far =
    let at_p : page_number Offsets 1636 (p % 2625286) ≡ first_on p % 2 ^ 32 = omega arith in
    let at_q : page_number Offsets 1636 (q % 2625286) ≡ first_on q % 2 ^ 32 = omega arith in
    let past_q : (page_number Offsets 1636 (q % 2625286) + (1636 - 1)) % 2 ^ 32 ≡ (first_on q + (1636 - 1)) % 2 ^ 32 = omega arith in
    ordered Offsets 1636 (p % 2625286) (q % 2625286) (first_on p) (first_on q) (omega arith) (omega arith) (omega arith) (omega arith)
    (λ j. ring_before (at_p j) (at_q j)) (λ j. ring_before (at_p j) (past_q j))
    ∙ same_order p q (first_on p) (first_on q) (λ lt. strict p q lt) (λ ge. first_rises q p ge)
  where
    strict : (p q : ℕ) → p < q → first_on p < first_on q
    strict p q lt = omega arith
