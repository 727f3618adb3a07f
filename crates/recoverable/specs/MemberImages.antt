-- What a crash leaves of a bank of members: of each member the four bytes of its id and its mode byte, each by itself.
use Rattle.std.specs.Prelude.{◌≡◌, ℕ, ◌+◌, ◌^◌, ◌<◌, ◌≤◌, Contains, List, length, slice_get, Option, Some}
use Rattle.tx_events.specs.Ids.{low_half}
use Rattle.store_pages.specs.Layouts.{member_page_of}
use Rattle.tx_events.specs.PageOrder.{Offsets}
use Rattle.disk_core.specs.Pages.{Pages}
use Rattle.tx_core.specs.declared.entry.Entry.{Entry}
use Rattle.tx_core.specs.declared.entry.Start.{Start}
use Rattle.tx_core.specs.Locks.{member_page_in_full, members_lock, members_lock_of}
use Rattle.tx_core.specs.MultiEntries.{SetSlot}
use Rattle.tx_events.specs.declared.multi.Member.{Member}
use Rattle.tx_events.specs.declared.record.Rec.TheVariants as records
use Rattle.recoverable.specs.Bytes.{StoredBytes, byte_held, slot_byte, slot_bytes, wanted_byte}
use Rattle.recoverable.specs.Images.{PageRing, Reading, Since}
pub use Rattle.tx_core.specs.CleanMultis.{CleanMembers, IsNearOffset}
use Rattle.recoverable.specs.Stored.{stored_members}

abbrev pub member_ring : Start → PageRing
member_ring start = record { shape = Offsets; per_page = 1636; pages = 2625286; kept = member_page_in_full start.base.oldest_offset }

abbrev pub member_reading : Start → (ℕ → Option StoredBytes) → Reading SetSlot StoredBytes
member_reading start shown = record { store = stored_members; first = start.base.offset; shown = shown; ring = member_ring start }

-- each byte of an offset's slot is as it was behind some entry, since the last sync, or is 0, where the page was cut
abbrev pub SlotSince : Start → (ℕ → Option StoredBytes) → List Entry → Pages → ℕ → Type 0
SlotSince start shown es c offset = (i : ℕ) → i < 5 → Since (member_reading start shown) (wanted_byte i) es offset (member_page_of offset) (slot_byte c offset i)

-- A crash left a bank of members so.
abbrev pub MembersFollow : Start → ℕ → (ℕ → Option StoredBytes) → List Entry → Pages → Type 0
MembersFollow start bank shown es c = (offset : ℕ) → IsNearOffset start offset → members_lock_of start offset ≡ members_lock bank → SlotSince start shown es c offset
