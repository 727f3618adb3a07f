-- A page that one cutoff cuts a later one cuts too, where both are less than half a ring past the segment of the oldest id.
use Rattle.std.proofs.Common.{◌≡◌, ◌⊎◌, ⊎_elim, ℕ, ◌+◌, ◌-◌, ◌*◌, ◌/◌, ◌%◌, ◌^◌, ◌<◌, ◌≤◌, Bool, true, false, ◌&&◌, refl, sym, subst, arith, ◌∙◌}
use Rattle.std.proofs.lemmas.Bool.{false≢true, le-leb, le-ltb, lt-leb}
use Rattle.store_pages.specs.Layouts.{word_page_of, xact_page_of}
use Rattle.tx_events.proofs.ListSteps.{le_or_over}
use Rattle.tx_events.specs.Ids.{low_half}
use Rattle.tx_events.specs.Order.{ring_before, xid_before}
use Rattle.tx_events.specs.PageOrder.{Ids, is_before, is_cut, page_number, page_precedes}
use Rattle.tx_events.specs.PageWindow.{id_is_kept, parent_is_kept}
use Rattle.tx_events.specs.Pages.{subtrans_page, xact_page}

ring_before_by : (a b d : ℕ) → 0 < d → d ≤ 2 ^ 31 → b ≡ a + d → ring_before (a % 2 ^ 32) (b % 2 ^ 32) ≡ true
ring_before_by a b d some near way =
    let far : 2 ^ 31 ≤ (a % 2 ^ 32 + (2 ^ 32 - b % 2 ^ 32)) % 2 ^ 32 = omega arith in
    le-leb (2 ^ 31) ((a % 2 ^ 32 + (2 ^ 32 - b % 2 ^ 32)) % 2 ^ 32) far

ring_not_before : (a b d : ℕ) → d < 2 ^ 31 → a ≡ b + d → ring_before (a % 2 ^ 32) (b % 2 ^ 32) ≡ false
ring_not_before a b d near way =
    let far : (a % 2 ^ 32 + (2 ^ 32 - b % 2 ^ 32)) % 2 ^ 32 < 2 ^ 31 = omega arith in
    lt-leb (2 ^ 31) ((a % 2 ^ 32 + (2 ^ 32 - b % 2 ^ 32)) % 2 ^ 32) far

-- ids that are no special ones compare on the ring
on_ring : (a b : ℕ) → 3 ≤ a → 3 ≤ b → xid_before a b ≡ ring_before a b
on_ring a b p q = rw (le-ltb a 3 p, le-ltb b 3 q) refl

-- both tests hold
pub both : (a b : Bool) → (a && b) ≡ true → (a ≡ true) × (b ≡ true)
both true true e = (refl, refl)
both true false e = absurd (false≢true e)
both false b e = absurd (false≢true e)

pub not_true : (b : Bool) → (b ≡ true → ⊥) → b ≡ false
not_true true f = absurd (f refl)
not_true false f = refl

-- ---- pages of pg_xact

xact_before : (p q : ℕ) → p < q → q ≤ p + 65535 → page_precedes Ids 32768 (p % 2 ^ 17) (q % 2 ^ 17) ≡ true
xact_before p q lt near =
    let at_p : page_number Ids 32768 (p % 2 ^ 17) ≡ (p * 32768 + 4) % 2 ^ 32 = omega arith in
    let at_q : page_number Ids 32768 (q % 2 ^ 17) ≡ (q * 32768 + 4) % 2 ^ 32 = omega arith in
    let past_q : (page_number Ids 32768 (q % 2 ^ 17) + (32768 - 1)) % 2 ^ 32 ≡ (q * 32768 + 4 + (32768 - 1)) % 2 ^ 32 = omega arith in
    let one : is_before Ids (page_number Ids 32768 (p % 2 ^ 17)) (page_number Ids 32768 (q % 2 ^ 17)) ≡ true =
    on_ring (page_number Ids 32768 (p % 2 ^ 17)) (page_number Ids 32768 (q % 2 ^ 17)) (omega arith) (omega arith) ∙ ((λ j. ring_before (at_p j) (at_q j)) ∙ ring_before_by (p * 32768 + 4) (q * 32768 + 4) ((q - p) * 32768) (omega arith) (omega arith) (omega arith)) in
    let two : is_before Ids (page_number Ids 32768 (p % 2 ^ 17)) ((page_number Ids 32768 (q % 2 ^ 17) + (32768 - 1)) % 2 ^ 32) ≡ true =
    on_ring (page_number Ids 32768 (p % 2 ^ 17)) ((page_number Ids 32768 (q % 2 ^ 17) + (32768 - 1)) % 2 ^ 32) (omega arith) (omega arith)
    ∙ ((λ j. ring_before (at_p j) (past_q j)) ∙ ring_before_by (p * 32768 + 4) (q * 32768 + 4 + (32768 - 1)) ((q - p) * 32768 + (32768 - 1)) (omega arith) (omega arith) (omega arith)) in
    (λ j. one j && two j)

pub xact_not_before : (p q : ℕ) → q ≤ p → p ≤ q + 65535 → page_precedes Ids 32768 (p % 2 ^ 17) (q % 2 ^ 17) ≡ false
xact_not_before p q ge near =
    let at_p : page_number Ids 32768 (p % 2 ^ 17) ≡ (p * 32768 + 4) % 2 ^ 32 = omega arith in
    let at_q : page_number Ids 32768 (q % 2 ^ 17) ≡ (q * 32768 + 4) % 2 ^ 32 = omega arith in
    let one : is_before Ids (page_number Ids 32768 (p % 2 ^ 17)) (page_number Ids 32768 (q % 2 ^ 17)) ≡ false =
    on_ring (page_number Ids 32768 (p % 2 ^ 17)) (page_number Ids 32768 (q % 2 ^ 17)) (omega arith) (omega arith) ∙ ((λ j. ring_before (at_p j) (at_q j)) ∙ ring_not_before (p * 32768 + 4) (q * 32768 + 4) ((p - q) * 32768) (omega arith) (omega arith)) in
    (λ j. one j && is_before Ids (page_number Ids 32768 (p % 2 ^ 17)) ((page_number Ids 32768 (q % 2 ^ 17) + (32768 - 1)) % 2 ^ 32))

-- the page of an id that isn't before the cutoff's page isn't cut
xact_kept : (c x oldest : ℕ) → xact_page oldest ≤ c → c ≤ xact_page x → x + 49990 < oldest + 2 ^ 31 → is_cut Ids 32768 (c % 2 ^ 17) (xact_page_of x) ≡ false
xact_kept c x oldest from ge near = ⊎_elim
    (λ (le : xact_page x ≤ c). let on : c % 2 ^ 17 ≡ low_half x / 32768 = omega arith in subst (λ z. is_cut Ids 32768 z (xact_page_of x) ≡ false) (sym on) (id_is_kept x x (omega arith) (omega arith)))
    (λ (lt : c < xact_page x).
    let o : ℕ = c * 32768 + 32767 in
    let on : c % 2 ^ 17 ≡ low_half o / 32768 = omega arith in
    subst (λ z. is_cut Ids 32768 z (xact_page_of x) ≡ false) (sym on) (id_is_kept o x (omega arith) (omega arith)))
    (le_or_over (xact_page x) c)

xact_stored : (x : ℕ) → xact_page_of x ≡ xact_page x % 2 ^ 17
xact_stored x = omega arith

xact_first : (q : ℕ) → q % 2 ^ 17 / 32 * 32 ≡ q / 32 * 32 % 2 ^ 17
xact_first q = omega arith

xact_last : (q : ℕ) → q % 2 ^ 17 / 32 * 32 + 31 ≡ (q / 32 * 32 + 31) % 2 ^ 17
xact_last q = omega arith

pub xact_cut_later : (c page x oldest : ℕ) → c < page → xact_page oldest ≤ c → page < xact_page oldest / 32 * 32 + 2 ^ 16 → oldest ≤ x → x + 49990 < oldest + 2 ^ 31 → is_cut Ids 32768 (c % 2 ^ 17) (xact_page_of x) ≡ true → is_cut Ids 32768 (page % 2 ^ 17) (xact_page_of x) ≡ true
xact_cut_later c page x oldest lt from to old near cut = ⊎_elim
    (λ (ge : c ≤ xact_page x). absurd (false≢true (sym (xact_kept c x oldest from ge near) ∙ cut)))
    (λ (below : xact_page x < c).
    let q : ℕ = xact_page x in
    let up : xact_page oldest ≤ q = omega arith in
    let first : xact_page_of x / 32 * 32 ≡ q / 32 * 32 % 2 ^ 17 = subst (λ z. z / 32 * 32 ≡ q / 32 * 32 % 2 ^ 17) (sym (xact_stored x)) (xact_first q) in
    let last : xact_page_of x / 32 * 32 + 31 ≡ (q / 32 * 32 + 31) % 2 ^ 17 = subst (λ z. z / 32 * 32 + 31 ≡ (q / 32 * 32 + 31) % 2 ^ 17) (sym (xact_stored x)) (xact_last q) in
    let two : page_precedes Ids 32768 ((q / 32 * 32 + 31) % 2 ^ 17) (c % 2 ^ 17) ≡ true = subst (λ z. page_precedes Ids 32768 z (c % 2 ^ 17) ≡ true) last (both (page_precedes Ids 32768 (xact_page_of x / 32 * 32) (c % 2 ^ 17)) (page_precedes Ids 32768 (xact_page_of x / 32 * 32 + 31) (c % 2 ^ 17)) cut).1 in
    ⊎_elim
    (λ (over : c ≤ q / 32 * 32 + 31). absurd (false≢true (sym (xact_not_before (q / 32 * 32 + 31) c over (omega arith)) ∙ two)))
    (λ (whole : q / 32 * 32 + 31 < c).
    let a : page_precedes Ids 32768 (xact_page_of x / 32 * 32) (page % 2 ^ 17) ≡ true = subst (λ z. page_precedes Ids 32768 z (page % 2 ^ 17) ≡ true) (sym first) (xact_before (q / 32 * 32) page (omega arith) (omega arith)) in
    let b : page_precedes Ids 32768 (xact_page_of x / 32 * 32 + 31) (page % 2 ^ 17) ≡ true = subst (λ z. page_precedes Ids 32768 z (page % 2 ^ 17) ≡ true) (sym last) (xact_before (q / 32 * 32 + 31) page (omega arith) (omega arith)) in
    (λ j. a j && b j))
    (le_or_over c (q / 32 * 32 + 31)))
    (le_or_over c (xact_page x))

-- ---- pages of pg_subtrans

parent_before : (p q : ℕ) → p < q → q ≤ p + 1048575 → page_precedes Ids 2048 (p % 2 ^ 21) (q % 2 ^ 21) ≡ true
parent_before p q lt near =
    let at_p : page_number Ids 2048 (p % 2 ^ 21) ≡ (p * 2048 + 4) % 2 ^ 32 = omega arith in
    let at_q : page_number Ids 2048 (q % 2 ^ 21) ≡ (q * 2048 + 4) % 2 ^ 32 = omega arith in
    let past_q : (page_number Ids 2048 (q % 2 ^ 21) + (2048 - 1)) % 2 ^ 32 ≡ (q * 2048 + 4 + (2048 - 1)) % 2 ^ 32 = omega arith in
    let one : is_before Ids (page_number Ids 2048 (p % 2 ^ 21)) (page_number Ids 2048 (q % 2 ^ 21)) ≡ true =
    on_ring (page_number Ids 2048 (p % 2 ^ 21)) (page_number Ids 2048 (q % 2 ^ 21)) (omega arith) (omega arith) ∙ ((λ j. ring_before (at_p j) (at_q j)) ∙ ring_before_by (p * 2048 + 4) (q * 2048 + 4) ((q - p) * 2048) (omega arith) (omega arith) (omega arith)) in
    let two : is_before Ids (page_number Ids 2048 (p % 2 ^ 21)) ((page_number Ids 2048 (q % 2 ^ 21) + (2048 - 1)) % 2 ^ 32) ≡ true =
    on_ring (page_number Ids 2048 (p % 2 ^ 21)) ((page_number Ids 2048 (q % 2 ^ 21) + (2048 - 1)) % 2 ^ 32) (omega arith) (omega arith)
    ∙ ((λ j. ring_before (at_p j) (past_q j)) ∙ ring_before_by (p * 2048 + 4) (q * 2048 + 4 + (2048 - 1)) ((q - p) * 2048 + (2048 - 1)) (omega arith) (omega arith) (omega arith)) in
    (λ j. one j && two j)

pub parent_not_before : (p q : ℕ) → q ≤ p → p ≤ q + 1048575 → page_precedes Ids 2048 (p % 2 ^ 21) (q % 2 ^ 21) ≡ false
parent_not_before p q ge near =
    let at_p : page_number Ids 2048 (p % 2 ^ 21) ≡ (p * 2048 + 4) % 2 ^ 32 = omega arith in
    let at_q : page_number Ids 2048 (q % 2 ^ 21) ≡ (q * 2048 + 4) % 2 ^ 32 = omega arith in
    let one : is_before Ids (page_number Ids 2048 (p % 2 ^ 21)) (page_number Ids 2048 (q % 2 ^ 21)) ≡ false =
    on_ring (page_number Ids 2048 (p % 2 ^ 21)) (page_number Ids 2048 (q % 2 ^ 21)) (omega arith) (omega arith) ∙ ((λ j. ring_before (at_p j) (at_q j)) ∙ ring_not_before (p * 2048 + 4) (q * 2048 + 4) ((p - q) * 2048) (omega arith) (omega arith)) in
    (λ j. one j && is_before Ids (page_number Ids 2048 (p % 2 ^ 21)) ((page_number Ids 2048 (q % 2 ^ 21) + (2048 - 1)) % 2 ^ 32))

-- the page of an id that isn't before the cutoff's page isn't cut
parent_kept : (c x oldest : ℕ) → subtrans_page oldest ≤ c + 1 → c ≤ subtrans_page x → x + 49990 < oldest + 2 ^ 31 → is_cut Ids 2048 (c % 2 ^ 21) (word_page_of x) ≡ false
parent_kept c x oldest from ge near = ⊎_elim
    (λ (le : subtrans_page x ≤ c). let on : c % 2 ^ 21 ≡ low_half x / 2048 = omega arith in subst (λ z. is_cut Ids 2048 z (word_page_of x) ≡ false) (sym on) (parent_is_kept x x (omega arith) (omega arith)))
    (λ (lt : c < subtrans_page x).
    let o : ℕ = c * 2048 + 2047 in
    let on : c % 2 ^ 21 ≡ low_half o / 2048 = omega arith in
    subst (λ z. is_cut Ids 2048 z (word_page_of x) ≡ false) (sym on) (parent_is_kept o x (omega arith) (omega arith)))
    (le_or_over (subtrans_page x) c)

parent_stored : (x : ℕ) → word_page_of x ≡ subtrans_page x % 2 ^ 21
parent_stored x = omega arith

parent_first : (q : ℕ) → q % 2 ^ 21 / 32 * 32 ≡ q / 32 * 32 % 2 ^ 21
parent_first q = omega arith

parent_last : (q : ℕ) → q % 2 ^ 21 / 32 * 32 + 31 ≡ (q / 32 * 32 + 31) % 2 ^ 21
parent_last q = omega arith

pub parent_cut_later : (c page x oldest : ℕ) → c < page → subtrans_page oldest ≤ c + 1 → page + 2 ≤ subtrans_page oldest / 32 * 32 + 2 ^ 20 → oldest ≤ x → x + 49990 < oldest + 2 ^ 31 → is_cut Ids 2048 (c % 2 ^ 21) (word_page_of x) ≡ true → is_cut Ids 2048 (page % 2 ^ 21) (word_page_of x) ≡ true
parent_cut_later c page x oldest lt from to old near cut = ⊎_elim
    (λ (ge : c ≤ subtrans_page x). absurd (false≢true (sym (parent_kept c x oldest from ge near) ∙ cut)))
    (λ (below : subtrans_page x < c).
    let q : ℕ = subtrans_page x in
    let up : subtrans_page oldest ≤ q = omega arith in
    let first : word_page_of x / 32 * 32 ≡ q / 32 * 32 % 2 ^ 21 = subst (λ z. z / 32 * 32 ≡ q / 32 * 32 % 2 ^ 21) (sym (parent_stored x)) (parent_first q) in
    let last : word_page_of x / 32 * 32 + 31 ≡ (q / 32 * 32 + 31) % 2 ^ 21 = subst (λ z. z / 32 * 32 + 31 ≡ (q / 32 * 32 + 31) % 2 ^ 21) (sym (parent_stored x)) (parent_last q) in
    let two : page_precedes Ids 2048 ((q / 32 * 32 + 31) % 2 ^ 21) (c % 2 ^ 21) ≡ true = subst (λ z. page_precedes Ids 2048 z (c % 2 ^ 21) ≡ true) last (both (page_precedes Ids 2048 (word_page_of x / 32 * 32) (c % 2 ^ 21)) (page_precedes Ids 2048 (word_page_of x / 32 * 32 + 31) (c % 2 ^ 21)) cut).1 in
    ⊎_elim
    (λ (over : c ≤ q / 32 * 32 + 31). absurd (false≢true (sym (parent_not_before (q / 32 * 32 + 31) c over (omega arith)) ∙ two)))
    (λ (whole : q / 32 * 32 + 31 < c).
    let a : page_precedes Ids 2048 (word_page_of x / 32 * 32) (page % 2 ^ 21) ≡ true = subst (λ z. page_precedes Ids 2048 z (page % 2 ^ 21) ≡ true) (sym first) (parent_before (q / 32 * 32) page (omega arith) (omega arith)) in
    let b : page_precedes Ids 2048 (word_page_of x / 32 * 32 + 31) (page % 2 ^ 21) ≡ true = subst (λ z. page_precedes Ids 2048 z (page % 2 ^ 21) ≡ true) (sym last) (parent_before (q / 32 * 32 + 31) page (omega arith) (omega arith)) in
    (λ j. a j && b j))
    (le_or_over c (q / 32 * 32 + 31)))
    (le_or_over c (subtrans_page x))
