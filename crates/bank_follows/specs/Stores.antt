-- The pieces of the four stores: two bits of a byte in pg_xact, the four bytes of a number in pg_subtrans and the
-- offsets, the four bytes of an id and a mode byte in the members.
use Rattle.std.specs.Prelude.{◌≡◌, ℕ, ◌+◌, ◌/◌, ◌%◌, Option, Some, None}
use Rattle.tx_events.specs.Ids.{id_before}
use Rattle.tx_events.specs.PageOrder.{Ids}
use Rattle.store_pages.specs.Layouts.{bits_at, member_page_of, word_page_of, word_place_of, xact_page_of, xact_place_of}
use Rattle.tx_core.specs.declared.entry.Start.{Start}
use Rattle.tx_core.specs.declared.entry.State.{State}
use Rattle.tx_core.specs.CleanStart.{IsNear}
use Rattle.tx_core.specs.Entries.{Link, Mark}
use Rattle.tx_core.specs.Locks.{members_lock, members_lock_of, offsets_lock, offsets_lock_of, subtrans_lock, subtrans_lock_of, subtrans_page, xact_lock, xact_lock_of}
use Rattle.tx_core.specs.MultiEntries.{SetOffset, SetSlot}
use Rattle.tx_core.specs.Pages.{subtrans_store}
use Rattle.recoverable.specs.Images.{PageRing, Reading}
use Rattle.recoverable.specs.Bytes.{StoredBytes, byte_of, slot_place_of, wanted_byte}
use Rattle.recoverable.specs.MemberImages.{IsNearOffset, member_reading}
use Rattle.recoverable.specs.OffsetImages.{IsNearMulti, offset_reading}
use Rattle.recoverable.specs.XactImages.{wanted_code, xact_reading}
use Rattle.bank_follows.specs.Cells.{Cells}

-- the numbers of a bank, one of each stored number

pub record IsXactAt (start : Start) (bank x : ℕ) : Type 0 where
  pub near : IsNear start x
  pub on : xact_lock_of start x ≡ xact_lock bank

pub record IsParentAt (start : Start) (bank x : ℕ) : Type 0 where
  pub near : IsNear start x
  pub on : subtrans_lock_of start x ≡ subtrans_lock bank

pub record IsOffsetAt (start : Start) (bank x : ℕ) : Type 0 where
  pub near : IsNearMulti start x
  pub on : offsets_lock_of start x ≡ offsets_lock bank

pub record IsMemberAt (start : Start) (bank x : ℕ) : Type 0 where
  pub near : IsNearOffset start x
  pub on : members_lock_of start x ≡ members_lock bank

abbrev pub xact_cells : Start → (ℕ → Option State) → Cells Mark State
xact_cells start shown = record {
  reading = xact_reading start shown;
  page = xact_page_of;
  pieces = 1;
  at = λ x i. xact_place_of x / 4;
  value = λ x byte. bits_at byte (xact_place_of x % 4);
  wanted = λ i o. wanted_code o;
}

-- pg_subtrans is emptied when a life begins, and kept from the page of the id before the next one
abbrev pub parent_ring : Start → PageRing
parent_ring start = record { shape = Ids; per_page = 2048; pages = 2097152; kept = subtrans_page (id_before start.base.next) }

abbrev pub parent_reading : Start → Reading Link ℕ
parent_reading start = record { store = subtrans_store; first = start.base.next; shown = λ id. None; ring = parent_ring start }

abbrev pub parent_or_none : Option ℕ → ℕ
parent_or_none None = 0
parent_or_none (Some parent) = parent

abbrev pub parent_cells : Start → Cells Link ℕ
parent_cells start = record {
  reading = parent_reading start;
  page = word_page_of;
  pieces = 4;
  at = λ x i. word_place_of x + i;
  value = λ x byte. byte;
  wanted = λ i o. Some (byte_of (parent_or_none o) i);
}

abbrev pub offset_cells : Start → (ℕ → Option StoredBytes) → Cells SetOffset StoredBytes
offset_cells start shown = record {
  reading = offset_reading start shown;
  page = word_page_of;
  pieces = 4;
  at = λ x i. word_place_of x + i;
  value = λ x byte. byte;
  wanted = wanted_byte;
}

abbrev pub member_cells : Start → (ℕ → Option StoredBytes) → Cells SetSlot StoredBytes
member_cells start shown = record {
  reading = member_reading start shown;
  page = member_page_of;
  pieces = 5;
  at = slot_place_of;
  value = λ x byte. byte;
  wanted = wanted_byte;
}
