-- What the pages of offsets and members hold behind a list of entries, byte by byte and as it is stored: so nothing is
-- asked of what a life finds there.
use Rattle.std.specs.Prelude.{◌≡◌, ℕ, ◌+◌, ◌^◌, ◌<◌, ◌==◌, cond, take, List, Option, Some, None}
use Rattle.std.specs.List.{filter_map, flat_map, last_or}
use Rattle.notes.specs.Lists.{at}
use Rattle.tx_events.specs.Pages.{member_page_in_full, offset_page}
use Rattle.tx_core.specs.declared.entry.Entry.{Entry}
use Rattle.tx_core.specs.declared.entry.Start.{Start}
use Rattle.tx_core.specs.CleanStart.{IsClearFrom}
use Rattle.tx_core.specs.EngineInvariant.{EngineInvariant}
use Rattle.tx_core.specs.MultiEntries.{SetOffset, SetSlot, offsets_in, slots_in}
use Rattle.tx_core.specs.Pages.{Store, pages_after}
use Rattle.recoverable.specs.Bytes.{StoredBytes}
pub use Rattle.tx_core.specs.StoredBytes.{IsClearBehind, offset_bytes_for, slot_bytes_for, stored_members, stored_offsets}

-- Behind each beginning of the list the pages of offsets hold the bytes of the offset that was set last, however late a
-- page was made.
abbrev pub OffsetBytesShow : Type 0
OffsetBytesShow = (start : Start) (lists : List (List Entry)) (shown : ℕ → Option StoredBytes) (lock n multi : ℕ)
    → EngineInvariant start lists → IsClearFrom start.base.multi shown → multi < start.base.multi + 2 ^ 30
    → (pages_after stored_offsets start.base.multi shown (take n (at lists lock))).shows multi
    ≡ last_or (shown multi) (filter_map (offset_bytes_for multi) (flat_map offsets_in (take n (at lists lock))))

-- and those of members the bytes of the member
abbrev pub MemberBytesShow : Type 0
MemberBytesShow = (start : Start) (lists : List (List Entry)) (shown : ℕ → Option StoredBytes) (lock n offset : ℕ)
    → EngineInvariant start lists → IsClearBehind start.base.offset shown → offset < start.base.offset + 2 ^ 30
    → (pages_after stored_members start.base.offset shown (take n (at lists lock))).shows offset
    ≡ last_or (shown offset) (filter_map (slot_bytes_for offset) (flat_map slots_in (take n (at lists lock))))
