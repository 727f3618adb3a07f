-- What a crash leaves of a bank of offsets, byte by byte, since a number of four bytes may be torn.
use Rattle.std.specs.Prelude.{◌≡◌, ℕ, ◌+◌, ◌^◌, ◌<◌, ◌≤◌, Contains, List, Option, None}
use Rattle.tx_events.specs.Ids.{IsFullMulti}
use Rattle.store_pages.specs.Layouts.{multi_before, word_page_of}
use Rattle.tx_events.specs.PageOrder.{Multis}
use Rattle.disk_core.specs.Pages.{Pages}
use Rattle.tx_core.specs.declared.entry.Entry.{Entry}
use Rattle.tx_core.specs.declared.entry.Start.{Start}
use Rattle.tx_core.specs.CleanStart.{IsClearFrom}
use Rattle.tx_core.specs.Locks.{offset_page, offsets_lock, offsets_lock_of}
use Rattle.tx_core.specs.MultiEntries.{SetOffset}
use Rattle.tx_events.specs.declared.multi.Member.{Member}
use Rattle.tx_events.specs.declared.record.Rec.TheVariants as records
use Rattle.recoverable.specs.Bytes.{StoredBytes, byte_held, byte_of, offset_byte, wanted_byte}
use Rattle.recoverable.specs.Images.{PageRing, Reading, Since}
use Rattle.recoverable.specs.Stored.{stored_offsets}
pub use Rattle.tx_core.specs.CleanMultis.{CleanOffsets, IsNearMulti}

abbrev pub offset_ring : Start → PageRing
offset_ring start = record { shape = Multis; per_page = 2048; pages = 2097152; kept = offset_page (multi_before start.base.oldest_multi) }

abbrev pub offset_reading : Start → (ℕ → Option StoredBytes) → Reading SetOffset StoredBytes
offset_reading start shown = record { store = stored_offsets; first = start.base.multi; shown = shown; ring = offset_ring start }

-- This byte of the place of a multixact has what it had behind some entry, and since the last sync, or is 0, where the
-- page was cut.
abbrev pub ByteSince : Start → (ℕ → Option StoredBytes) → List Entry → Pages → ℕ → ℕ → Type 0
ByteSince start shown es c multi i = Since (offset_reading start shown) (wanted_byte i) es multi (word_page_of multi) (offset_byte c multi i)

-- A crash left a bank of offsets so.
abbrev pub OffsetsFollow : Start → ℕ → (ℕ → Option StoredBytes) → List Entry → Pages → Type 0
OffsetsFollow start bank shown es c = (multi i : ℕ) → IsNearMulti start multi → offsets_lock_of start multi ≡ offsets_lock bank → i < 4 → ByteSince start shown es c multi i
