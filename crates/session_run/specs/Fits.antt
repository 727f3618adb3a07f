-- What a later life goes on from.
use Rattle.std.specs.Prelude.{◌≡◌, ◌+◌, List, ◌∷◌, ◌++◌, IsTrue, length}
use Rattle.disk_core.specs.declared.log_disk.LogDisk as logs
use Rattle.disk_core.specs.declared.page_disk.PageDisk as disks
use Rattle.disk_core.specs.declared.media.Volumes.{Volumes}
use Rattle.tx_events.specs.declared.record.Rec.{Rec}
use Rattle.tx_events.specs.declared.record.Rec.TheVariants as records
use Rattle.tx_model.specs.declared.report.Life.{Life}
use Rattle.tx_events.specs.LifeBase.{base_after}
use Rattle.report_law.specs.Lives.{base_of}
use Rattle.recoverable.specs.Fit.{KeptLog}
use Rattle.engine_life.specs.Lives.{FitsLog}

-- The log that volumes fit at a life's end has the records last that stand behind the life's checkpoint, and what stands
-- before them gives its base. All that the life's report tells as flushed is.
pub record EndsWithLife (life : Life) (kept : KeptLog) : Type 0 where
  pub past : List Rec
  pub own : List Rec
  pub recs : kept.recs ≡ past ++ own
  pub number : kept.first + length past ≡ life.from + 1
  pub base : base_after kept.base past ≡ base_of life
  pub checkpoint : life.recs ≡ records.Checkpoint life.from life.base ∷ own
  pub flushed : life.flushed ≡ kept.flushed

module _ {L P : Type 0} (l : logs.Ghosts L) (p : disks.Ghosts P) where
  -- The volumes fit such a log: whatever a crash leaves of them, recovery answers the base at a number of it, from the
  -- flushed one to its end.
  pub record FitsLife (life : Life) (volumes : Volumes L P) (kept : KeptLog) : Type 0 where
    pub ends : EndsWithLife life kept
    pub fit : FitsLog l p kept volumes

  -- there is such a log
  abbrev pub FitLife : Life → Volumes L P → Type 0
  FitLife life volumes = (kept : KeptLog) × FitsLife life volumes kept

  -- where both tell what they hold
  abbrev pub FitWhereTold : Life → Volumes L P → KeptLog → Type 0
  FitWhereTold life volumes kept = IsTrue p.tells → IsTrue l.tells → FitsLife life volumes kept
