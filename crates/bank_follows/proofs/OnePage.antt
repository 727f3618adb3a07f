-- A page that a life makes is the only one of its stored number.
use Rattle.std.proofs.Common.{arith, ℕ, ◌%◌, ◌+◌, ◌-◌, ◌/◌, ◌<◌, ◌^◌, ◌≡◌, ◌≤◌}
use Rattle.tx_events.specs.Ids.{low_half}
use Rattle.tx_events.specs.Pages.{member_page_in_full}
use Rattle.bank_follows.specs.Laws.{OnePage}

-- of the ids near the next one those on the stored page of one up to 2^29 past it lie on that one's page
xact_apart : (next id x : ℕ) → next ≤ id → id ≤ next + 2 ^ 29 → next + 2 ^ 30 - 2 ^ 32 ≤ x → x < next + 2 ^ 30 - 2 ^ 32 + 2 ^ 32 → x % 2 ^ 32 / 32768 ≡ id / 32768 % 131072 → x / 32768 ≡ id / 32768
xact_apart next id x a b c d e = omega arith

parent_apart : (next id x : ℕ) → next ≤ id → id ≤ next + 2 ^ 29 → next + 2 ^ 30 - 2 ^ 32 ≤ x → x < next + 2 ^ 30 - 2 ^ 32 + 2 ^ 32 → x % 2 ^ 32 / 2048 ≡ id / 2048 % 2097152 → x / 2048 ≡ id / 2048
parent_apart next id x a b c d e = omega arith

-- the same of multixacts and of offsets
offset_apart : (next multi x : ℕ) → next ≤ multi → multi ≤ next + 2 ^ 29 → next + 2 ^ 30 ≤ x + 2 ^ 32 → x < next + 2 ^ 30 → x % 2 ^ 32 / 2048 ≡ multi / 2048 % 2097152 → x / 2048 ≡ multi / 2048
offset_apart next multi x a b c d e = omega arith

stored_slot : (offset : ℕ) → member_page_in_full offset % 2625286 ≡ low_half offset / 1636
stored_slot offset = omega arith

member_apart : (next offset x : ℕ) → next ≤ offset → offset ≤ next + 2 ^ 29 → next + 2 ^ 30 ≤ x + 2 ^ 32 → x < next + 2 ^ 30 → low_half x / 1636 ≡ member_page_in_full offset % 2625286 → member_page_in_full x ≡ member_page_in_full offset
member_apart next offset x a b c d e =
    let stored : member_page_in_full offset % 2625286 ≡ low_half offset / 1636 = stored_slot offset in
    let low : low_half x / 1636 ≡ low_half offset / 1636 = omega arith in
    let lap : x / 2 ^ 32 ≡ offset / 2 ^ 32 = same_lap next offset x a b c d low in omega arith
  where
    same_lap : (next offset x : ℕ) → next ≤ offset → offset ≤ next + 2 ^ 29 → next + 2 ^ 30 ≤ x + 2 ^ 32 → x < next + 2 ^ 30 → low_half x / 1636 ≡ low_half offset / 1636 → x / 2 ^ 32 ≡ offset / 2 ^ 32
    same_lap next offset x a b c d e = omega arith

-- a number lies on the stored page of its page
xact_stored : (x page : ℕ) → x / 32768 ≡ page → x % 2 ^ 32 / 32768 ≡ page % 131072
xact_stored x page e = omega arith

word_stored : (x page : ℕ) → x / 2048 ≡ page → x % 2 ^ 32 / 2048 ≡ page % 2097152
word_stored x page e = omega arith

member_stored : (x page : ℕ) → member_page_in_full x ≡ page → low_half x / 1636 ≡ page % 2625286
member_stored x page e = let stored : member_page_in_full x % 2625286 ≡ low_half x / 1636 = stored_slot x in omega arith

pub one_page : OnePage
one_page start bank = record {
  xact = λ shown id from to x at. (λ e. xact_apart start.base.next id x from to at.near.from at.near.to e, λ e. xact_stored x (id / 32768) e);
  parents = λ id from to x at. (λ e. parent_apart start.base.next id x from to at.near.from at.near.to e, λ e. word_stored x (id / 2048) e);
  offsets = λ shown multi from to x at. (λ e. offset_apart start.base.multi multi x from to at.near.from at.near.to e, λ e. word_stored x (multi / 2048) e);
  members = λ shown offset from to x at. (λ e. member_apart start.base.offset offset x from to at.near.from at.near.to e, λ e. member_stored x (member_page_in_full offset) e);
}
