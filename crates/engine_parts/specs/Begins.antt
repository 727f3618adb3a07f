-- With which record what a crash leaves of the log's volume begins.
use Rattle.std.specs.Prelude.{◌≡◌, ℕ, ◌+◌, ◌<◌, IsTrue, List}
use Rattle.disk_core.specs.Media.{LogCrashed}
use Rattle.disk_core.specs.Volume.{Volume}
use Rattle.disk_core.specs.declared.log_disk.LogDisk as logs
use Rattle.tx_core.specs.declared.entry.Entry.{Entry}
use Rattle.tx_core.specs.declared.entry.Start.{Start}
use Rattle.tx_core.specs.Entries.{flushed_to}
use Rattle.wal_core.specs.Kept.{BeginWith, first_on}
use Rattle.wal_core.specs.LogViews.{log_disk}
use Rattle.wal_core.specs.declared.wal_log.WalLog.{WalLog}
use Rattle.engine_parts.specs.Parts.{IsLogOf}
use Rattle.engine_parts.specs.Stand.{begin_asked, begin_other}

-- Each begins with the last checkpoint before which the log was to be forgotten, also where that failed, or that of the
-- life's begin, or with the one asked for before that; and where a record behind that checkpoint is flushed, with no
-- other. Where the life asked for none, that other one is `before`.
pub record BeginsAsAsked (start : Start) (es : List Entry) (images : Volume → Type 0) : Type 0 where
  pub before : ℕ
  pub begins : BeginWith (begin_asked start es) (begin_other before start es) images
  pub settled : begin_asked start es + 1 < flushed_to start es → (c : Volume) → images c → first_on c ≡ begin_asked start es

module _ {D : Type 0} (g : logs.Ghosts D) where
  -- so does what a crash leaves of a log that stands for its list
  abbrev pub LogBegins : Type 0
  LogBegins = (start : Start) (log : WalLog D g) (es : List Entry) → IsLogOf start log es → IsTrue g.tells
      → BeginsAsAsked start es (g.images (log_disk log))

  -- and what the volume reads as behind the crash
  abbrev pub CrashBegins : Type 0
  CrashBegins = (start : Start) (es : List Entry) (old new : D) → LogCrashed g.reads g.images g.faults old new
      → BeginsAsAsked start es (g.images old) → BeginsAsAsked start es (λ c. c ≡ g.reads new)
