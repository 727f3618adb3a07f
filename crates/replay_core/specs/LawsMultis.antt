-- What the recovery of a bank of offsets, and of members, gives: its images fit at each moment, and the pages show the base
-- when it is done.
use Rattle.std.specs.Prelude.{◌≡◌, ℕ, ◌+◌, ◌%◌, ◌<◌, ◌≤◌, ◌++◌, List, Some, max}
use Rattle.std.specs.List.{filter}
use Rattle.disk_core.specs.Pages.{Pages, page_bytes}
use Rattle.store_pages.specs.Layouts.{member_page_of, word_page_of}
use Rattle.tx_events.specs.Pages.{member_page_in_full}
use Rattle.tx_events.specs.declared.record.Rec.{Rec}
use Rattle.tx_events.specs.LifeBase.{AreBelowNext, IsLifeBase, LifeBase, is_multi}
use Rattle.recoverable.specs.Bytes.{ImageHasZeroTails, slot_byte}
use Rattle.recoverable.specs.Fit.{KeptLog, base_at, log_end}
use Rattle.recoverable.specs.FitMultis.{MembersFit, OffsetsFit, ShowsMembers, ShowsNoGap, ShowsNoOffset, ShowsOffsets, member_at, offset_at}
use Rattle.recoverable.specs.Volumes.{IsNextOf}
use Rattle.replay_multis.specs.declared.share.Share.{Share}
use Rattle.replay_multis.specs.Named.{IsMemberByte, IsOffsetByte}
use Rattle.replay_multis.specs.Restore.{IsPastMulti, IsPastOffset, MayBecome, RestoresAll}
use Rattle.replay_multis.specs.Steps.{MayLeave}
use Rattle.replay_core.specs.Laws.{end_base, up_to, with_checkpoint}

-- A log of which all records are on disk, and those from a checkpoint at number n on: what it names of multixacts, and how
-- what it gave before lies to the checkpoint.
pub record IsWholeOfMultis (log : KeptLog) (n : ℕ) (recs : List Rec) : Type 0 where
  pub flushed : log.flushed ≡ log_end log
  pub base : IsLifeBase (end_base log)
  pub rest : (end_base log).recorded ≡ (base_at log n).recorded ++ filter is_multi recs
  pub before : AreBelowNext (base_at log n)
  pub begun : (base_at log n).counters.multi ≤ (base_at log (n + 1)).counters.multi
  pub begun_offset : (base_at log n).counters.offset ≤ (base_at log (n + 1)).counters.offset
  pub upto : (base_at log (n + 1)).counters.multi ≤ (end_base log).counters.multi
  pub upto_offset : (base_at log (n + 1)).counters.offset ≤ (end_base log).counters.offset

-- From where on pages are cleared first: from the later of the checkpoint's next number and the oldest one behind all of the
-- log. What comes there was recorded behind the checkpoint.
abbrev pub first_multi : KeptLog → ℕ → ℕ
first_multi log n = max (base_at log (n + 1)).counters.multi (end_base log).counters.oldest_multi

abbrev pub first_offset : KeptLog → ℕ → ℕ
first_offset log n = max (base_at log (n + 1)).counters.offset (end_base log).counters.oldest_offset

-- what the bytes may come to be on the way, and what is there at the end
abbrev pub MayRestoreOffsets : Share → KeptLog → ℕ → List Rec → (ℕ → List ℕ) → Pages → Pages → Type 0
MayRestoreOffsets share log n recs = MayLeave (MayBecome (IsOffsetByte share (end_base log).counters.oldest_multi recs) (IsPastMulti (first_multi log n)) (IsPastMulti (end_base log).counters.multi))

abbrev pub RestoresOffsets : Share → KeptLog → ℕ → List Rec → (ℕ → List ℕ) → (ℕ → List ℕ) → Type 0
RestoresOffsets share log n recs = RestoresAll (IsOffsetByte share (end_base log).counters.oldest_multi recs) (IsPastMulti (first_multi log n)) (IsPastMulti (end_base log).counters.multi)

abbrev pub MayRestoreMembers : Share → KeptLog → ℕ → List Rec → (ℕ → List ℕ) → Pages → Pages → Type 0
MayRestoreMembers share log n recs = MayLeave (MayBecome (IsMemberByte share (end_base log).counters.oldest_multi (end_base log).counters.oldest_offset recs) (IsPastOffset (first_offset log n)) (IsPastOffset (end_base log).counters.offset))

abbrev pub RestoresMembers : Share → KeptLog → ℕ → List Rec → (ℕ → List ℕ) → (ℕ → List ℕ) → Type 0
RestoresMembers share log n recs = RestoresAll (IsMemberByte share (end_base log).counters.oldest_multi (end_base log).counters.oldest_offset recs) (IsPastOffset (first_offset log n)) (IsPastOffset (end_base log).counters.offset)

-- The pages of a bank of offsets, and of members, show a base: exactly its recorded multixacts from the oldest one on, and
-- nothing of the numbers that come next.
pub record ShowOffsets (share : Share) (base : LifeBase) (c : Pages) : Type 0 where
  pub recorded : ShowsOffsets share.banks share.bank base.recorded base.counters.oldest_multi c
  pub other : ShowsNoOffset share.banks share.bank base.recorded base.counters.oldest_multi base.counters.multi c
  pub clean : (x : ℕ) → word_page_of x % share.banks ≡ share.bank → IsNextOf base.counters.multi x → offset_at c x ≡ 0

pub record ShowMembers (share : Share) (base : LifeBase) (c : Pages) : Type 0 where
  pub recorded : ShowsMembers share.banks share.bank base.recorded base.counters.oldest_multi c
  pub no_gap : ShowsNoGap share.banks share.bank base.recorded base.counters.oldest_multi c
  pub tails : ImageHasZeroTails c
  pub clean : (x : ℕ) → member_page_of x % share.banks ≡ share.bank → IsNextOf base.counters.offset x → member_at c x ≡ 0
  pub no_mode : (x : ℕ) → member_page_of x % share.banks ≡ share.bank → IsNextOf base.counters.offset x → member_page_in_full base.counters.offset < member_page_in_full x → slot_byte c x 4 ≡ 0

-- an image that has a map's bytes
abbrev pub HasMap : (ℕ → List ℕ) → Pages → Type 0
HasMap m c = (q : ℕ) → page_bytes (c q) ≡ m q

-- at each moment of the recovery an image fits
abbrev pub FitsWithinOffsets : Type 0
FitsWithinOffsets = (share : Share) (log : KeptLog) (n : ℕ) (recs : List Rec) (m : ℕ → List ℕ) (c d : Pages) → IsWholeOfMultis log n recs
    → OffsetsFit share.banks share.bank log n (λ q. Some (m q)) → OffsetsFit share.banks share.bank log n c
    → MayRestoreOffsets share log n recs m c d → OffsetsFit share.banks share.bank log n d

abbrev pub FitsWithinMembers : Type 0
FitsWithinMembers = (share : Share) (log : KeptLog) (n : ℕ) (recs : List Rec) (m : ℕ → List ℕ) (c d : Pages) → IsWholeOfMultis log n recs
    → MembersFit share.banks share.bank log n (λ q. Some (m q)) → MembersFit share.banks share.bank log n c
    → MayRestoreMembers share log n recs m c d → MembersFit share.banks share.bank log n d

-- and when it is done the pages show the base
abbrev pub ShowsOffsetBase : Type 0
ShowsOffsetBase = (share : Share) (log : KeptLog) (n : ℕ) (recs : List Rec) (m new : ℕ → List ℕ) (c : Pages) → IsWholeOfMultis log n recs
    → OffsetsFit share.banks share.bank log n (λ q. Some (m q)) → RestoresOffsets share log n recs m new → HasMap new c → ShowOffsets share (end_base log) c

abbrev pub ShowsMemberBase : Type 0
ShowsMemberBase = (share : Share) (log : KeptLog) (n : ℕ) (recs : List Rec) (m new : ℕ → List ℕ) (c : Pages) → IsWholeOfMultis log n recs
    → MembersFit share.banks share.bank log n (λ q. Some (m q)) → RestoresMembers share log n recs m new → HasMap new c → ShowMembers share (end_base log) c

-- what fits a log fits it when it is known which of its last records were on disk
abbrev pub CutFitsOffsets : Type 0
CutFitsOffsets = (banks bank : ℕ) (log : KeptLog) (k n : ℕ) (c : Pages) → log.first ≤ log.flushed → log.flushed ≤ k → k ≤ log_end log → n < k
    → OffsetsFit banks bank log n c → OffsetsFit banks bank (up_to log k) n c

abbrev pub CutFitsMembers : Type 0
CutFitsMembers = (banks bank : ℕ) (log : KeptLog) (k n : ℕ) (c : Pages) → log.first ≤ log.flushed → log.flushed ≤ k → k ≤ log_end log → n < k
    → MembersFit banks bank log n c → MembersFit banks bank (up_to log k) n c

-- what shows the base fits the log with the checkpoint, whether the log begins with it or before
abbrev pub CheckpointFitsOffsets : Type 0
CheckpointFitsOffsets = (share : Share) (log : KeptLog) (flushed n : ℕ) (c : Pages) → log_end log ≤ flushed → n ≤ log_end log
    → ShowOffsets share (end_base log) c → OffsetsFit share.banks share.bank (with_checkpoint log flushed) n c

abbrev pub CheckpointFitsMembers : Type 0
CheckpointFitsMembers = (share : Share) (log : KeptLog) (flushed n : ℕ) (c : Pages) → log_end log ≤ flushed → n ≤ log_end log
    → ShowMembers share (end_base log) c → MembersFit share.banks share.bank (with_checkpoint log flushed) n c
