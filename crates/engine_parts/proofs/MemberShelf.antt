-- The members on their pages.
use Rattle.std.proofs.Common.{arith, refl, sym, ℕ, nat_lt, ◌≡◌, ◌+◌, ◌%◌, ◌^◌, ◌<◌, ◌≤◌, ◌∙◌}
use Rattle.disk_core.specs.Pages.{zero_page}
use Rattle.slru_bank.proofs.ZeroBytes.{zero_byte}
use Rattle.store_pages.specs.Layouts.{member_page_of, member_place_of, mode_place_of, number_in}
use Rattle.tx_events.specs.Pages.{member_page_in_full}
use Rattle.tx_events.specs.PageOrder.{Offsets, page_precedes}
use Rattle.tx_core.specs.declared.entry.Start.{Start}
use Rattle.tx_core.specs.CleanMultis.{CleanMembers}
use Rattle.tx_core.specs.Locks.{members_lock}
use Rattle.tx_core.proofs.PageRing.{first_rises, member_on, member_order}
use Rattle.engine_parts.specs.Shelf.{IsShelf}
use Rattle.engine_parts.specs.ShelfLaws.{MembersKeep}
use Rattle.engine_parts.specs.Shelves.{member_shelf}
use Rattle.engine_parts.proofs.Shelving.{keep_store}

order : (first p q : ℕ) → member_page_in_full first ≤ p → p ≤ member_page_in_full (first + 2 ^ 29) → member_page_in_full first ≤ q → q ≤ member_page_in_full (first + 2 ^ 29) → page_precedes Offsets 1636 (p % 2625286) (q % 2625286) ≡ nat_lt p q
order first p q p_from p_to q_from q_to =
    let low = (member_on first (member_page_in_full first) refl).1 in
    let high = (member_on (first + 2 ^ 29) (member_page_in_full (first + 2 ^ 29)) refl).0 in
    let a = first_rises (member_page_in_full first) p p_from in
    let b = first_rises p (member_page_in_full (first + 2 ^ 29)) p_to in
    let c = first_rises (member_page_in_full first) q q_from in
    let d = first_rises q (member_page_in_full (first + 2 ^ 29)) q_to in
    member_order p q (omega arith) (omega arith)

here : (x : ℕ) → member_page_of x ≡ member_page_in_full x % 2625286
here x = omega arith

-- of two pages in use with one place one is the other
apart : (first oldest p x : ℕ) → first ≤ oldest + 2 ^ 30 → member_page_in_full first ≤ p → p ≤ member_page_in_full (first + 2 ^ 29) → oldest ≤ x → x < first + 2 ^ 30 → member_page_of x ≡ p % 2625286 → member_page_in_full x ≡ p
apart first oldest p x near p_from p_to from to same =
    let low = (member_on first (member_page_in_full first) refl).1 in
    let high = (member_on (first + 2 ^ 29) (member_page_in_full (first + 2 ^ 29)) refl).0 in
    let a = first_rises (member_page_in_full first) p p_from in
    let b = first_rises p (member_page_in_full (first + 2 ^ 29)) p_to in
    let mine = member_on x (member_page_in_full x) refl in
    let stored : member_page_in_full x % 2625286 ≡ p % 2625286 = sym (here x) ∙ same in
    omega (arith, low, high, a, b, mine.0, mine.1, stored)

zero_number : (n : ℕ) → number_in zero_page n ≡ 0
zero_number n = rw (zero_byte n, zero_byte (n + 1), zero_byte (n + 2), zero_byte (n + 3)) refl

pub members_good : (start : Start) → start.base.offset ≤ start.base.oldest_offset + 2 ^ 30 → IsShelf (member_shelf start)
members_good start window = record {
  order = λ p q a b. order start.base.offset p q a.from a.to b.from b.to;
  here = here;
  apart = λ p x near room same. apart start.base.offset start.base.oldest_offset p x window near.from near.to room.from room.to same;
  zeros = λ x. λ j. (zero_byte (mode_place_of x) j, zero_number (member_place_of x) j);
}

pub members_keep : MembersKeep
members_keep start bank window = keep_store (member_shelf start) (CleanMembers start) start (members_lock bank) bank (members_good start window)
