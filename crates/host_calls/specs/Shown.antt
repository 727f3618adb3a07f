-- What the bytes of the log and of pages show, by the lists of their locks.
use Rattle.std.specs.Prelude.{◌≡◌, ℕ, ◌^◌, ◌≤◌, false, List, ◌++◌, Option, drop, take}
use Rattle.std.specs.List.{flat_map, slice_index}
use Rattle.disk_core.specs.declared.log_disk.LogDisk as logs
use Rattle.disk_core.specs.declared.page_disk.PageDisk as disks
use Rattle.disk_core.specs.Faults.{HasRisen}
use Rattle.disk_core.specs.Volume.{IsRead, Volume}
use Rattle.notes.specs.Lists.{at}
use Rattle.life_law.specs.Dumps.{is_member_cut, is_offset_cut, is_subtrans_cut, is_xact_cut}
use Rattle.bank_stores.specs.Offsets.{offset_of}
use Rattle.bank_stores.specs.Slots.{slot_of}
use Rattle.store_pages.specs.Layouts.{member_page_of, member_place_of, mode_place_of, number_in, state_in, word_page_of, word_place_of, xact_page_of, xact_place_of}
use Rattle.slru_bank.specs.Bank.{IsPage}
use Rattle.wal_core.specs.Kept.{HasFlushed}
use Rattle.tx_events.specs.Multis.{oldest_multi, oldest_offset}
use Rattle.tx_events.specs.declared.record.Rec.{Rec}
use Rattle.tx_core.specs.declared.entry.Entry.{Entry}
use Rattle.tx_core.specs.declared.entry.Start.{Start}
use Rattle.tx_core.specs.declared.entry.State.{State}
use Rattle.tx_core.specs.CleanStart.{CleanStart}
use Rattle.tx_core.specs.Entries.{AreFewIds, flushed_to, links_in, marks, recs_in}
use Rattle.tx_core.specs.Locks.{members_lock, offsets_lock, subtrans_lock, subtrans_lock_of, xact_lock, xact_lock_of}
use Rattle.tx_core.specs.MultiEntries.{AreFewMultis, multi_history}
use Rattle.tx_core.specs.Pages.{parent_read}
use Rattle.tx_core.specs.Verdict.{state_read}
use Rattle.engine_parts.specs.declared.part.Part.{Part}
use Rattle.engine_parts.specs.Parts.{PartStands}
use Rattle.engine_parts.specs.Stand.{IsCutoff, IsInUse, first_subtrans_page, first_xact_page, number_of_parent, number_of_state}
use Rattle.engine_parts.specs.Shelf.{IsCutoffOf}
use Rattle.engine_parts.specs.Shelves.{member_shelf, offset_shelf}
use Rattle.engine_host.specs.Opening.{faults_behind}
use Rattle.multi_banks.specs.Members.{IsSlotRead}
use Rattle.multi_banks.specs.Offsets.{IsOffsetRead}

-- ---- the log

-- The volume opens to the life's records, at least to the flushed number.
pub record OpensToList (start : Start) (es : List Entry) (volume : Volume) : Type 0 where
  pub number : ℕ
  pub past : List Rec
  pub first : ℕ
  pub opens : HasFlushed number (past ++ recs_in es) first (flushed_to start es) volume

-- So many bytes were read at a place of such a volume.
pub record ShowsLog (start : Start) (es : List Entry) (at : ℕ) (old : List ℕ) (count : ℕ) (new : List ℕ) : Type 0 where
  pub volume : Volume
  pub holds : OpensToList start es volume
  pub read : IsRead volume.bytes at old count new

-- The bytes are those of such a volume from a place on, so many or as many as there are.
pub record AreLogBytes (start : Start) (es : List Entry) (from size : ℕ) (bytes : List ℕ) : Type 0 where
  pub volume : Volume
  pub holds : OpensToList start es volume
  pub piece : bytes ≡ take size (drop from volume.bytes)

-- ---- pages

-- the bytes stand on this page from a place on
pub record IsPieceOf (page : List ℕ) (at count : ℕ) (bytes : List ℕ) : Type 0 where
  pub whole : IsPage page
  pub piece : bytes ≡ take count (drop at page)

-- The bytes stand on the stored page of pg_xact. There each id in use has the state that the list set last, or else the
-- one that the pages showed at a clean start.
pub record ShowsXact (start : Start) (lists : List (List Entry)) (page from count : ℕ) (bytes : List ℕ) : Type 0 where
  pub on : List ℕ
  pub piece : IsPieceOf on from count bytes
  pub states : AreFewIds lists → (shown : ℕ → Option State) × CleanStart start shown
      × ((x : ℕ) → IsInUse start x → xact_page_of x ≡ page
      → state_in on (xact_place_of x) ≡ number_of_state (state_read shown (marks (at lists (xact_lock_of start x))) x))

-- The bytes stand on the stored page of pg_subtrans. There each id in use has the parent that was set last, or none.
pub record ShowsSubtrans (start : Start) (lists : List (List Entry)) (page from count : ℕ) (bytes : List ℕ) : Type 0 where
  pub on : List ℕ
  pub piece : IsPieceOf on from count bytes
  pub parents : AreFewIds lists → (x : ℕ) → IsInUse start x → word_page_of x ≡ page
      → number_in on (word_place_of x)
      ≡ number_of_parent (parent_read (flat_map links_in (at lists (subtrans_lock_of start x))) x)

-- The bytes stand on the stored page of offsets. There each multixact from the announced oldest one on has the offset that
-- stands.
pub record ShowsOffsets (start : Start) (lists : List (List Entry)) (page from count : ℕ) (bytes : List ℕ) : Type 0 where
  pub on : List ℕ
  pub piece : IsPieceOf on from count bytes
  pub offsets : (multi : ℕ) → word_page_of multi ≡ page
      → oldest_multi start.base.oldest_multi (multi_history lists) ≤ multi
      → IsOffsetRead start lists multi (offset_of (number_in on (word_place_of multi)))

-- The bytes stand on the stored page of members. There each offset from the announced oldest one on has the member that
-- stands.
pub record ShowsMembers (start : Start) (lists : List (List Entry)) (page from count : ℕ) (bytes : List ℕ) : Type 0 where
  pub on : List ℕ
  pub piece : IsPieceOf on from count bytes
  pub members : AreFewMultis lists → (offset : ℕ) → member_page_of offset ≡ page
      → oldest_offset start.base.oldest_offset (multi_history lists) ≤ offset
      → IsSlotRead start lists offset (slot_of (slice_index on (mode_place_of offset)) (number_in on (member_place_of offset)))

-- the bank's cutoff, one that its list has, cuts no page that was read
abbrev pub IsXactUncut : Start → List (List Entry) → ℕ → ℕ → Type 0
IsXactUncut start lists bank page =
    (cutoff : ℕ) × IsCutoff (first_xact_page start) (2 ^ 17) (at lists (xact_lock bank)) cutoff
    × (is_xact_cut cutoff page ≡ false)

abbrev pub IsSubtransUncut : Start → List (List Entry) → ℕ → ℕ → Type 0
IsSubtransUncut start lists bank page =
    (cutoff : ℕ) × IsCutoff (first_subtrans_page start) (2 ^ 21) (at lists (subtrans_lock bank)) cutoff
    × (is_subtrans_cut cutoff page ≡ false)

abbrev pub IsOffsetsUncut : Start → List (List Entry) → ℕ → ℕ → Type 0
IsOffsetsUncut start lists bank page =
    (cutoff : ℕ) × IsCutoffOf (offset_shelf start) (at lists (offsets_lock bank)) cutoff
    × (is_offset_cut cutoff page ≡ false)

abbrev pub IsMembersUncut : Start → List (List Entry) → ℕ → ℕ → Type 0
IsMembersUncut start lists bank page =
    (cutoff : ℕ) × IsCutoffOf (member_shelf start) (at lists (members_lock bank)) cutoff
    × (is_member_cut cutoff page ≡ false)

-- ---- faults

-- The volume behind the lock failed: its count rose between two moments, at both of which the part there stands for the
-- lock's list.
pub record HasFailed {L P : Type 0} (l : logs.Ghosts L) (p : disks.Ghosts P) (start : Start) (lists : List (List Entry))
    (lock : ℕ) : Type 0 where
  pub before : Part L P l p
  pub now : Part L P l p
  pub stood : PartStands start lock before (at lists lock)
  pub stands : PartStands start lock now (at lists lock)
  pub risen : HasRisen (faults_behind before) (faults_behind now)
