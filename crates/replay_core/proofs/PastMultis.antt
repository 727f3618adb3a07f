-- Which multixacts and which offsets of members lie past one.
use Rattle.std.proofs.Common.{◌≡◌, ◌⊎◌, inl, inr, ⊎_elim, ℕ, ◌+◌, ◌-◌, ◌*◌, ◌/◌, ◌%◌, ◌==◌, ◌^◌, ◌<◌, ◌≤◌, Bool, true, false, cond, ◌&&◌, refl, sym, ap, arith, ◌∙◌}
use Rattle.std.proofs.lemmas.Bool.{le-leb, lt-leb}
use Rattle.std.proofs.lemmas.Bool.Decides.{nat_tests}
use Rattle.tx_events.specs.Ids.{low_half}
use Rattle.tx_events.specs.Order.{ring_before}
use Rattle.tx_events.specs.Pages.{id_at, member_page_in_full, mode_at}
use Rattle.store_pages.specs.Layouts.{member_page_of, member_place_of, mode_place_of, word_page_of, word_place_of}
use Rattle.tx_events.specs.PageOrder.{Multis, Offsets, page_number, page_precedes}
use Rattle.tx_events.proofs.ListSteps.{not_both}
use Rattle.tx_core.specs.StoredBytes.{slot_place_of}
use Rattle.replay_multis.specs.Restore.{IsPastMulti, IsPastOffset}

and_false : (r s : Bool) → r ≡ false → (r && s) ≡ false
and_false r s e = rw e refl

and_true : (r s : Bool) → r ≡ true → s ≡ true → (r && s) ≡ true
and_true r s e f = rw (e, f) refl

same_or_not : (a b : ℕ) → (a ≡ b) ⊎ ((a ≡ b) → ⊥)
same_or_not a b = grind arith

-- ---- multixacts

not_ahead : (from x : ℕ) → x < from → from + 2 ^ 15 < x + 2 ^ 31 → (page_number Multis 2048 (low_half from / 2048) + (2 ^ 32 - page_number Multis 2048 (low_half x / 2048))) % 2 ^ 32 < 2 ^ 31
not_ahead from x below near = omega arith

same_page : (from x i : ℕ) → i < 4 → x < from → from + 2 ^ 15 < x + 2 ^ 31 → low_half x / 2048 ≡ low_half from / 2048 → 4 * (low_half from % 2048) ≤ 4 * (low_half x % 2048) + i → ⊥
same_page from x i small below near page place = omega arith

-- the place of a multixact before one isn't past that
pub not_past : (from x i : ℕ) → i < 4 → x < from → from + 2 ^ 15 < x + 2 ^ 31 → IsPastMulti from (word_page_of x) (word_place_of x + i) → ⊥
not_past from x i small below near past =
    ⊎_elim
    (λ (h : (word_page_of x ≡ word_page_of from) × (word_place_of from ≤ word_place_of x + i)). same_page from x i small below near h.0 h.1)
    (λ (h : page_precedes Multis 2048 (word_page_of from) (word_page_of x) ≡ true).
    let ring : ring_before (page_number Multis 2048 (low_half from / 2048)) (page_number Multis 2048 (low_half x / 2048)) ≡ false = lt-leb (2 ^ 31) ((page_number Multis 2048 (low_half from / 2048) + (2 ^ 32 - page_number Multis 2048 (low_half x / 2048))) % 2 ^ 32) (not_ahead from x below near) in
    not_both (page_precedes Multis 2048 (word_page_of from) (word_page_of x)) h (and_false (ring_before (page_number Multis 2048 (low_half from / 2048)) (page_number Multis 2048 (low_half x / 2048))) _ ring))
    past

first_ahead : (next x : ℕ) → next ≤ x → x + 2 ^ 15 < next + 2 ^ 31 → (low_half x / 2048 ≡ low_half next / 2048 → ⊥)
    → 2 ^ 31 ≤ (page_number Multis 2048 (low_half next / 2048) + (2 ^ 32 - page_number Multis 2048 (low_half x / 2048))) % 2 ^ 32
first_ahead next x from near differs = omega (arith, differs)

last_ahead : (next x : ℕ) → next ≤ x → x + 2 ^ 15 < next + 2 ^ 31 → (low_half x / 2048 ≡ low_half next / 2048 → ⊥)
    → 2 ^ 31 ≤ (page_number Multis 2048 (low_half next / 2048) + (2 ^ 32 - (page_number Multis 2048 (low_half x / 2048) + 2047) % 2 ^ 32)) % 2 ^ 32
last_ahead next x from near differs = omega (arith, differs)

here : (next x i : ℕ) → next ≤ x → x + 2 ^ 15 < next + 2 ^ 31 → low_half x / 2048 ≡ low_half next / 2048 → 4 * (low_half next % 2048) ≤ 4 * (low_half x % 2048) + i
here next x i from near same = omega arith

-- that of one from it on is
pub is_past : (next x i : ℕ) → next ≤ x → x + 2 ^ 15 < next + 2 ^ 31 → IsPastMulti next (word_page_of x) (word_place_of x + i)
is_past next x i from near =
    ⊎_elim
    (λ (same : word_page_of x ≡ word_page_of next). inl (same, here next x i from near same))
    (λ (differs : word_page_of x ≡ word_page_of next → ⊥).
    let a : ℕ = page_number Multis 2048 (low_half next / 2048) in
    let first : ring_before (page_number Multis 2048 (low_half next / 2048)) (page_number Multis 2048 (low_half x / 2048)) ≡ true
    = le-leb (2 ^ 31) ((page_number Multis 2048 (low_half next / 2048) + (2 ^ 32 - page_number Multis 2048 (low_half x / 2048))) % 2 ^ 32) (first_ahead next x from near differs) in
    let last : ring_before (page_number Multis 2048 (low_half next / 2048)) ((page_number Multis 2048 (low_half x / 2048) + 2047) % 2 ^ 32) ≡ true
    = le-leb (2 ^ 31) ((page_number Multis 2048 (low_half next / 2048) + (2 ^ 32 - (page_number Multis 2048 (low_half x / 2048) + 2047) % 2 ^ 32)) % 2 ^ 32) (last_ahead next x from near differs) in
    inr (and_true (ring_before (page_number Multis 2048 (low_half next / 2048)) (page_number Multis 2048 (low_half x / 2048))) (ring_before (page_number Multis 2048 (low_half next / 2048)) ((page_number Multis 2048 (low_half x / 2048) + 2047) % 2 ^ 32)) first last))
    (same_or_not (word_page_of x) (word_page_of next))

-- places of two multixacts on one page
pub word_halves : (x y i k : ℕ) → i < 4 → k < 4 → word_page_of x ≡ word_page_of y → word_place_of x + i ≡ word_place_of y + k → (low_half x ≡ low_half y) × (i ≡ k)
word_halves x y i k si sk page place = (omega arith, omega arith)

-- two numbers of a window less than the ring that have one low half are one
pub one_number : (low high x y : ℕ) → high ≤ low + 2 ^ 31 → low ≤ x → x ≤ high → low ≤ y → y ≤ high → low_half x ≡ low_half y → x ≡ y
one_number low high x y near a b c d e = omega arith

-- ---- offsets of members

-- an id begins behind each id and mode of a slot before its own
before_id : (a b i : ℕ) → a < b → i < 4 → id_at a + i < id_at b
before_id a b i lt small = omega arith

mode_before : (a b : ℕ) → a < b → mode_at a < id_at b
mode_before a b lt = omega arith

behind_id : (a b i : ℕ) → a ≤ b → id_at a ≤ id_at b + i
behind_id a b i le = omega arith

lower_place : (from x : ℕ) → x < from → from + 2 ^ 15 < x + 2 ^ 31 → low_half x / 1636 ≡ low_half from / 1636 → low_half x % 1636 < low_half from % 1636
lower_place from x below near page = omega arith

higher_place : (next x : ℕ) → next ≤ x → x + 2 ^ 15 < next + 2 ^ 31 → low_half x / 1636 ≡ low_half next / 1636 → low_half next % 1636 ≤ low_half x % 1636
higher_place next x from near page = omega arith

not_far : (from x : ℕ) → x < from → from + 2 ^ 15 < x + 2 ^ 31 → (page_number Offsets 1636 (low_half from / 1636) + (2 ^ 32 - page_number Offsets 1636 (low_half x / 1636))) % 2 ^ 32 < 2 ^ 31
not_far from x below near = omega arith

not_mode : (k : ℕ) → k < 4 → (k == 4) ≡ false
not_mode k lt = grind (arith, nat_tests)

is_mode : (k : ℕ) → k < 5 → (k < 4) ⊎ (k ≡ 4)
is_mode k lt = grind arith

-- where the bytes of a slot stand
pub slot_at : (x i : ℕ) → i < 5 → ((i < 4) × (slot_place_of x i ≡ member_place_of x + i)) ⊎ ((i ≡ 4) × (slot_place_of x i ≡ mode_place_of x))
slot_at x i small = ⊎_elim
    (λ (lt : i < 4). inl (lt, ap (λ (z : Bool). cond z (mode_place_of x) (member_place_of x + i)) (not_mode i lt)))
    (λ (e : i ≡ 4). inr (e, ap (slot_place_of x) e))
    (is_mode i small)

pub not_past_slot : (from x i : ℕ) → i < 5 → x < from → from + 2 ^ 15 < x + 2 ^ 31 → IsPastOffset from (member_page_of x) (slot_place_of x i) → ⊥
not_past_slot from x i small below near past =
    ⊎_elim
    (λ (h : (member_page_of x ≡ member_page_of from) × (member_place_of from ≤ slot_place_of x i)).
    let lower = lower_place from x below near h.0 in let at = h.1 in
    ⊎_elim
    (λ (s : (i < 4) × (slot_place_of x i ≡ member_place_of x + i)). let z = before_id (low_half x % 1636) (low_half from % 1636) i lower s.0 in let e = s.1 in omega (arith, z, e, at))
    (λ (s : (i ≡ 4) × (slot_place_of x i ≡ mode_place_of x)). let z = mode_before (low_half x % 1636) (low_half from % 1636) lower in let e = s.1 in omega (arith, z, e, at))
    (slot_at x i small))
    (λ (h : page_precedes Offsets 1636 (member_page_of from) (member_page_of x) ≡ true).
    let ring : ring_before (page_number Offsets 1636 (low_half from / 1636)) (page_number Offsets 1636 (low_half x / 1636)) ≡ false = lt-leb (2 ^ 31) ((page_number Offsets 1636 (low_half from / 1636) + (2 ^ 32 - page_number Offsets 1636 (low_half x / 1636))) % 2 ^ 32) (not_far from x below near) in
    not_both (page_precedes Offsets 1636 (member_page_of from) (member_page_of x)) h (and_false (ring_before (page_number Offsets 1636 (low_half from / 1636)) (page_number Offsets 1636 (low_half x / 1636))) _ ring))
    past

first_far : (next x : ℕ) → next ≤ x → x + 2 ^ 15 < next + 2 ^ 31 → (low_half x / 1636 ≡ low_half next / 1636 → ⊥)
    → 2 ^ 31 ≤ (page_number Offsets 1636 (low_half next / 1636) + (2 ^ 32 - page_number Offsets 1636 (low_half x / 1636))) % 2 ^ 32
first_far next x from near differs = omega (arith, differs)

last_far : (next x : ℕ) → next ≤ x → x + 2 ^ 15 < next + 2 ^ 31 → (low_half x / 1636 ≡ low_half next / 1636 → ⊥)
    → 2 ^ 31 ≤ (page_number Offsets 1636 (low_half next / 1636) + (2 ^ 32 - (page_number Offsets 1636 (low_half x / 1636) + 1635) % 2 ^ 32)) % 2 ^ 32
last_far next x from near differs = omega (arith, differs)

page_after : (next x : ℕ) → next ≤ x → x + 2 ^ 15 < next + 2 ^ 31 → (member_page_of x ≡ member_page_of next → ⊥) → page_precedes Offsets 1636 (member_page_of next) (member_page_of x) ≡ true
page_after next x from near differs =
    and_true (ring_before (page_number Offsets 1636 (low_half next / 1636)) (page_number Offsets 1636 (low_half x / 1636))) (ring_before (page_number Offsets 1636 (low_half next / 1636)) ((page_number Offsets 1636 (low_half x / 1636) + 1635) % 2 ^ 32))
    (le-leb (2 ^ 31) ((page_number Offsets 1636 (low_half next / 1636) + (2 ^ 32 - page_number Offsets 1636 (low_half x / 1636))) % 2 ^ 32) (first_far next x from near differs))
    (le-leb (2 ^ 31) ((page_number Offsets 1636 (low_half next / 1636) + (2 ^ 32 - (page_number Offsets 1636 (low_half x / 1636) + 1635) % 2 ^ 32)) % 2 ^ 32) (last_far next x from near differs))

-- the id of a slot from one on is past
pub is_past_id : (next x i : ℕ) → next ≤ x → x + 2 ^ 15 < next + 2 ^ 31 → IsPastOffset next (member_page_of x) (member_place_of x + i)
is_past_id next x i from near = ⊎_elim
    (λ (same : member_page_of x ≡ member_page_of next). inl (same, behind_id (low_half next % 1636) (low_half x % 1636) i (higher_place next x from near same)))
    (λ (differs : member_page_of x ≡ member_page_of next → ⊥). inr (page_after next x from near differs))
    (same_or_not (member_page_of x) (member_page_of next))

-- and on a later page all of the slot is
pub is_past_page : (next x at : ℕ) → next ≤ x → x + 2 ^ 15 < next + 2 ^ 31 → member_page_in_full next < member_page_in_full x → IsPastOffset next (member_page_of x) at
is_past_page next x at from near later = inr (page_after next x from near (λ same. other next x from near later same))
  where
    other : (next x : ℕ) → next ≤ x → x + 2 ^ 15 < next + 2 ^ 31 → member_page_in_full next < member_page_in_full x → low_half x / 1636 ≡ low_half next / 1636 → ⊥
    other next x from near later same = omega arith

-- slots of two offsets on one page
pub slot_halves : (x y i k : ℕ) → i < 5 → k < 5 → member_page_of x ≡ member_page_of y → slot_place_of x i ≡ slot_place_of y k → (low_half x ≡ low_half y) × (i ≡ k)
slot_halves x y i k si sk page place = ⊎_elim
    (λ (a : (i < 4) × (slot_place_of x i ≡ member_place_of x + i)). let a0 = a.0 in ⊎_elim
    (λ (b : (k < 4) × (slot_place_of y k ≡ member_place_of y + k)). let b0 = b.0 in
    let e = both_ids (low_half x % 1636) (low_half y % 1636) i k a0 b0 (sym a.1 ∙ place ∙ b.1) in (halves (low_half x) (low_half y) page e.0, e.1))
    (λ (b : (k ≡ 4) × (slot_place_of y k ≡ mode_place_of y)). absurd (id_or_mode (low_half x % 1636) (low_half y % 1636) i a0 (sym a.1 ∙ place ∙ b.1)))
    (slot_at y k sk))
    (λ (a : (i ≡ 4) × (slot_place_of x i ≡ mode_place_of x)). ⊎_elim
    (λ (b : (k < 4) × (slot_place_of y k ≡ member_place_of y + k)). absurd (id_or_mode (low_half y % 1636) (low_half x % 1636) k b.0 (sym b.1 ∙ sym place ∙ a.1)))
    (λ (b : (k ≡ 4) × (slot_place_of y k ≡ mode_place_of y)). (halves (low_half x) (low_half y) page (both_modes (low_half x % 1636) (low_half y % 1636) (sym a.1 ∙ place ∙ b.1)), a.0 ∙ sym b.0))
    (slot_at y k sk))
    (slot_at x i si)
  where
    both_ids : (a b i k : ℕ) → i < 4 → k < 4 → id_at a + i ≡ id_at b + k → (a ≡ b) × (i ≡ k)
    both_ids a b i k si sk e = (omega arith, omega arith)

    both_modes : (a b : ℕ) → mode_at a ≡ mode_at b → a ≡ b
    both_modes a b e = omega arith

    id_or_mode : (a b i : ℕ) → i < 4 → id_at a + i ≡ mode_at b → ⊥
    id_or_mode a b i si e = omega arith

    halves : (a b : ℕ) → a / 1636 ≡ b / 1636 → a % 1636 ≡ b % 1636 → a ≡ b
    halves a b p q = omega arith

-- all bytes of a slot stand before the tail of its page
pub slot_inside : (x i : ℕ) → i < 5 → slot_place_of x i < 8180
slot_inside x i small = ⊎_elim
    (λ (s : (i < 4) × (slot_place_of x i ≡ member_place_of x + i)). let z = inside (low_half x % 1636) i (below (low_half x)) s.0 in let e = s.1 in omega (arith, z, e))
    (λ (s : (i ≡ 4) × (slot_place_of x i ≡ mode_place_of x)). let z = mode_inside (low_half x % 1636) (below (low_half x)) in let e = s.1 in omega (arith, z, e))
    (slot_at x i small)
  where
    below : (a : ℕ) → a % 1636 < 1636
    below a = omega arith

    inside : (a i : ℕ) → a < 1636 → i < 4 → id_at a + i < 8180
    inside a i lt si = omega arith

    mode_inside : (a : ℕ) → a < 1636 → mode_at a < 8180
    mode_inside a lt = omega arith
