-- What a log volume in memory holds, and its moments.
use Rattle.std.specs.Prelude.{◌≡◌, ◌++◌, ℕ, length, take}
use Rattle.disk_core.specs.Images.{Elapses}
use Rattle.disk_core.specs.Past.{LeftAt}
use Rattle.disk_core.specs.Volume.{Volume}
use Rattle.disk_core.specs.MemLog.{IsOutcome, outcome_of}
use Rattle.disk_core.specs.Media.{LogCrashed}
use Rattle.disk_core.specs.declared.media.Crash.{Crash}
use Rattle.disk_core.specs.declared.mem_log.MemLog.{MemLog}
use Rattle.disk_core.specs.declared.mem_log.LogMoment.{LogMoment}

abbrev pub written : MemLog → Volume
written m = record { start = m.start; bytes = m.bytes.items }

abbrev pub synced : MemLog → Volume
synced m = record { start = m.synced_start; bytes = take m.low m.bytes.items ++ m.tail.items }

-- what a crash may leave now
abbrev pub log_images : MemLog → Volume → Type 0
log_images m = IsOutcome (synced m) (written m)

-- what a crash at a moment may have left
abbrev pub log_left : LogMoment → Volume → Type 0
log_left m = IsOutcome (record { start = m.synced_start; bytes = m.synced }) (record { start = m.start; bytes = m.bytes })

-- the same by the number of the moment
abbrev pub log_left_at : MemLog → ℕ → Volume → Type 0
log_left_at m t = LeftAt log_left m.past.value (log_images m) t

abbrev pub LogElapses : MemLog → MemLog → Type 0
LogElapses old new = Elapses (length old.past.value) (length new.past.value) (log_left_at old) (log_left_at new) (log_images new)

-- this moment, for the account
abbrev pub log_moment : MemLog → LogMoment
log_moment m = record { start = m.start; bytes = m.bytes.items; synced_start = m.synced_start; synced = take m.low m.bytes.items ++ m.tail.items }

abbrev pub log_crashed : MemLog → MemLog → Type 0
log_crashed = LogCrashed (λ m. written m) (λ m. log_images m) (λ m. m.faults)

-- after a crash of this kind a log has what the kind leaves of it, all of it synced
pub record LogFell (how : Crash) (old new : MemLog) : Type 0 where
  pub left : written new ≡ outcome_of how (synced old) (written old)
  pub settled : synced new ≡ written new
