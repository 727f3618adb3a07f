-- The log and the pages as a life begins with them.
use Rattle.std.specs.Prelude.{◌≡◌, ℕ, ◌+◌, ◌^◌, ◌<◌, IsTrue, List, [], ◌∷◌, None, Some, slice_get}
use Rattle.disk_core.specs.Pages.{Pages, page_bytes, zero_page}
use Rattle.disk_core.specs.declared.log_disk.LogDisk as logs
use Rattle.disk_core.specs.declared.page_disk.PageDisk as disks
use Rattle.tx_events.specs.Base.{IsBase}
use Rattle.tx_events.specs.declared.record.Counters.{Counters}
use Rattle.tx_events.specs.declared.record.Rec.{Rec}
use Rattle.tx_events.specs.declared.record.Rec.TheVariants as records
use Rattle.wal_core.specs.declared.wal_log.WalLog.{WalLog}
use Rattle.wal_core.specs.LogViews.{KeepsAll, log_counters, log_down, log_first, log_flushed, log_next, log_recs}
use Rattle.replay_core.specs.Restore.{HasBytesOnDisk}

-- A log that was started and settled: since its start it has a checkpoint of these counters alone, which is on disk, and
-- before which it was forgotten.
pub record IsSettled {D : Type 0} {g : logs.Ghosts D} (from : ℕ) (counters : Counters) (log : WalLog D g) : Type 0 where
  pub base : IsBase counters
  pub recs : log_recs log ≡ records.Checkpoint from counters ∷ []
  pub next : log_next log ≡ from + 1
  pub flushed : log_flushed log ≡ from + 1
  pub first : log_first log ≡ from
  pub counters_are : log_counters log ≡ Some counters
  pub up : log_down log ≡ None
  pub keeps : IsTrue g.tells → (first : ℕ) × (all : List Rec) × KeepsAll first all g.images log

module _ {P : Type 0} (p : disks.Ghosts P) where
  -- each of these volumes is the same in each image
  abbrev pub AreOnDisk : List P → Type 0
  AreOnDisk volumes = (bank : ℕ) (disk : P) → slice_get volumes bank ≡ Some disk → HasBytesOnDisk p disk

  -- This volume has zeros alone in each image, which are all the same.
  pub record IsEmpty (disk : P) : Type 0 where
    pub zeros : (c : Pages) → p.images disk c → (q : ℕ) → q < 2 ^ 32 → page_bytes (c q) ≡ zero_page
    pub on_disk : HasBytesOnDisk p disk

  abbrev pub AreEmpty : List P → Type 0
  AreEmpty volumes = (bank : ℕ) (disk : P) → slice_get volumes bank ≡ Some disk → IsEmpty disk
