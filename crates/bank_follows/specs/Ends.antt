-- The volumes of a cluster in which a life ran: they fit, where the log's value holds what it is to, and a crash leaves of
-- the banks what their lists allow.
use Rattle.std.specs.Prelude.{◌≡◌, ℕ, List, Some, length, slice_get}
use Rattle.disk_core.specs.Pages.{Pages}
use Rattle.disk_core.specs.declared.log_disk.LogDisk as logs
use Rattle.disk_core.specs.declared.page_disk.PageDisk as disks
use Rattle.notes.specs.Lists.{at}
use Rattle.tx_events.specs.declared.record.Rec.{Rec}
use Rattle.tx_core.specs.declared.entry.Entry.{Entry}
use Rattle.tx_core.specs.declared.entry.Start.{Start}
use Rattle.tx_core.specs.EngineInvariant.{EngineInvariant}
use Rattle.tx_core.specs.Locks.{log_lock, members_lock, offsets_lock, xact_lock}
use Rattle.recoverable.specs.Fit.{KeptLog}
use Rattle.recoverable.specs.Whole.{BeganRight, IsShort, MembersLeft, OffsetsLeft, StatesLeft}
use Rattle.bank_follows.specs.Holding.{LogHolds}
use Rattle.recoverable.specs.Clusters.{Fit}

module _ {P : Type 0} (p : disks.Ghosts P) where
  -- there is a volume for each of so many banks, and each image of it follows its bank's list
  pub record AllFollow (banks : ℕ) (Follows : ℕ → Pages → Type 0) (volumes : List P) : Type 0 where
    pub count : length volumes ≡ banks
    pub each : (bank : ℕ) (disk : P) → slice_get volumes bank ≡ Some disk
        → (c : Pages) → p.images disk c → Follows bank c

module _ {L P : Type 0} (l : logs.Ghosts L) (p : disks.Ghosts P) where
  -- What the log's value holds, and how each image of the volumes of the banks follows its list.
  pub record ClusterHolds (start : Start) (lists : List (List Entry)) (kept : KeptLog) (recs : List Rec) (next first : ℕ) (log : L) (xact offsets members : List P) : Type 0 where
    pub log_holds : LogHolds start (at lists log_lock) kept recs next first (l.images log)
    pub states : AllFollow p start.banks (λ bank c. StatesLeft start bank (at lists (xact_lock bank)) c) xact
    pub offsets_are : AllFollow p start.banks (λ bank c. OffsetsLeft start bank (at lists (offsets_lock bank)) c) offsets
    pub members_are : AllFollow p start.banks (λ bank c. MembersLeft start bank (at lists (members_lock bank)) c) members

  abbrev pub ClusterFits : Type 0
  ClusterFits = (start : Start) (lists : List (List Entry)) (kept : KeptLog) (recs : List Rec) (next first : ℕ) (log : L) (xact offsets members : List P)
      → EngineInvariant start lists → BeganRight start → IsShort lists
      → ClusterHolds start lists kept recs next first log xact offsets members
      → Fit l p kept log xact offsets members
