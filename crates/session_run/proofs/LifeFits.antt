-- The volumes that a life left fit a log that ends with the life.
use Rattle.std.proofs.Common.{List, ap, sym, ℕ, ◌++◌, ◌∙◌, ◌≡◌}
use Rattle.disk_core.specs.declared.log_disk.LogDisk as logs
use Rattle.disk_core.specs.declared.page_disk.PageDisk as disks
use Rattle.disk_core.specs.declared.media.Volumes.{Volumes}
use Rattle.notes.specs.Lists.{at}
use Rattle.tx_events.specs.declared.record.Rec.{Rec}
use Rattle.tx_core.specs.declared.entry.Entry.{Entry}
use Rattle.tx_core.specs.declared.entry.Start.{Start}
use Rattle.tx_core.specs.Entries.{recs_in}
use Rattle.tx_core.specs.Locks.{log_lock}
use Rattle.recoverable.specs.Laws.{life_base}
use Rattle.engine_parts.specs.Parts.{IsLogOf}
use Rattle.engine_host.specs.declared.cluster.Cluster.{Cluster}
use Rattle.engine_host.specs.Opening.{Beginning, life_from}
use Rattle.engine_life.specs.declared.closed.ClosedLife.{ClosedLife}
use Rattle.engine_life.specs.Lives.{EndFit}
use Rattle.session_run.specs.OneLife.{life_of}
use Rattle.session_run.specs.Fits.{FitLife}

-- A log that follows the life's list ends with the life: what stands before the list's records gave the life's begin.
pub life_fits : {L P : Type 0} (l : logs.Ghosts L) (p : disks.Ghosts P) (start : Start) (lists : List (List Entry)) (c : Cluster) (b : Beginning) (faults : List ℕ) (closed : ClosedLife L P l) (volumes : Volumes L P)
    → start ≡ life_from c b faults → IsLogOf start closed.log (at lists log_lock) → EndFit l p start lists volumes → FitLife l p (life_of c b closed) volumes
life_fits l p start lists c b faults closed volumes begun stands end =
    let es : List Entry = at lists log_lock in
    let follows = end.follows in (
      end.kept,
      record {
        ends = record {
          past = follows.before;
          own = recs_in es;
          recs = follows.recs;
          number = sym follows.from ∙ ap (λ (s : Start). s.from) begun;
          base = follows.base ∙ ap life_base begun;
          checkpoint = stands.recs_are ∙ ap (λ (t : List Rec). t ++ recs_in es) (ap (λ (s : Start). s.logged) begun);
          flushed = stands.flushed_is ∙ sym end.flushed;
        };
        fit = end.fit;
      },
    )
