-- How often a life's replies say that a volume failed, and how often it did.
use Rattle.std.specs.Prelude.{◌≡◌, ℕ, ◌<◌, IfSome, List, None, Option, Some, length, max, slice_get}
use Rattle.std.specs.List.{AllByRecursion, count_by, flat_map}
use Rattle.disk_core.specs.declared.log_disk.LogDisk as logs
use Rattle.disk_core.specs.declared.page_disk.PageDisk as disks
use Rattle.disk_core.specs.declared.media.Volumes.{Volumes}
use Rattle.tx_events.specs.declared.refusal.Lock.{Lock}
use Rattle.tx_model.specs.declared.report.Step.{Step}
use Rattle.tx_model.specs.declared.report.Step.TheVariants as steps
use Rattle.tx_model.specs.Rounds.{lines_in}
use Rattle.notes.specs.Lists.{Grows, at}
use Rattle.tx_core.specs.declared.entry.Entry.{Entry}
use Rattle.tx_core.specs.declared.entry.Start.{Start}
use Rattle.tx_core.specs.EngineInvariant.{EngineInvariant}
use Rattle.tx_core.specs.FaultsRise.{faults_at, faults_told}
use Rattle.tx_core.specs.Locks.{log_lock, members_lock, offsets_lock, subtrans_lock, xact_lock}
use Rattle.host_calls.specs.Made.{IsBuilt}
use Rattle.session_promise.specs.Causes.{HasRisenBy, failed_volume, faults_in, is_behind}
use Rattle.session_promise.specs.Told.{lines_by}

-- the volume that failed by the reply of a checkpoint, told by its lock
abbrev pub failed_by : Step → Option Lock
failed_by (steps.Checkpoint reply) = failed_volume reply
failed_by step = None

-- how many checkpoints were told that the volume behind this lock failed
abbrev pub checkpoint_faults : List Step → ℕ → ℕ
checkpoint_faults told lock = count_by (λ step. is_behind lock (failed_by step)) told

-- how many of the session's commands were told so, or how many checkpoints, if these were more
abbrev pub told_faults : List Step → ℕ → ℕ → ℕ
told_faults told session lock =
    max (faults_in lock (lines_by session (flat_map lines_in told))) (checkpoint_faults told lock)

-- no checkpoint was told of a fault but of the log's volume, or of one of so many of each store
abbrev pub AreOfBuilt : ℕ → List Step → Type 0
AreOfBuilt banks told = AllByRecursion (λ step. IfSome (failed_by step) (IsBuilt banks)) told

-- In lists that go on to such as the engine leaves, each volume's count, as its lock's list tells it, rose by no less than
-- the checkpoints were told that it failed.
abbrev pub AreCheckpointsCounted : Start → List (List Entry) → List Step → Type 0
AreCheckpointsCounted start lists told =
    (last : List (List Entry)) → Grows lists last → EngineInvariant start last
    → (lock : ℕ) → HasRisenBy (checkpoint_faults told lock) (faults_at start lock) (faults_told start lock (at lists lock))

-- the count of the volume at this place rose by so many at least
pub record HasRisenAt {P : Type 0} (faults : P → ℕ) (times place : ℕ) (old new : List P) : Type 0 where
  pub before : P
  pub now : P
  pub was : slice_get old place ≡ Some before
  pub is : slice_get new place ≡ Some now
  pub risen : HasRisenBy times (faults before) (faults now)

module _ {L P : Type 0} (l : logs.Ghosts L) (p : disks.Ghosts P) where
  -- Since the mounting each volume's count rose by no less than any one session's commands were told that this volume
  -- failed, and by no less than the checkpoints were.
  pub record HaveCauses (told : List Step) (old new : Volumes L P) : Type 0 where
    pub log : (session : ℕ) → HasRisenBy (told_faults told session log_lock) (l.faults old.log) (l.faults new.log)
    pub xact : (session bank : ℕ) → bank < length old.xact.items
        → HasRisenAt p.faults (told_faults told session (xact_lock bank)) bank old.xact.items new.xact.items
    pub subtrans : (session bank : ℕ) → bank < length old.subtrans.items
        → HasRisenAt p.faults (told_faults told session (subtrans_lock bank)) bank old.subtrans.items new.subtrans.items
    pub offsets : (session bank : ℕ) → bank < length old.offsets.items
        → HasRisenAt p.faults (told_faults told session (offsets_lock bank)) bank old.offsets.items new.offsets.items
    pub members : (session bank : ℕ) → bank < length old.members.items
        → HasRisenAt p.faults (told_faults told session (members_lock bank)) bank old.members.items new.members.items
    pub built : AreOfBuilt (length old.xact.items) told
