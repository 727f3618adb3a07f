-- What stands behind the pages' part of a recovery and the checkpoint.
use Rattle.std.specs.Prelude.{◌≡◌, ◌+◌, ◌≤◌, ◌⊎◌, IsTrue, List, Result, OnOk, OnErr, IfErr}
use Rattle.disk_core.specs.declared.log_disk.LogDisk as logs
use Rattle.disk_core.specs.declared.page_disk.PageDisk as disks
use Rattle.tx_events.specs.declared.record.Counters.{Counters}
use Rattle.tx_events.specs.declared.record.Rec.{Rec}
use Rattle.wal_core.specs.declared.wal_log.WalLog.{WalLog}
use Rattle.wal_core.specs.LogViews.{log_disk, log_end, log_next}
use Rattle.replay_core.specs.Begun.{IsSettled}
use Rattle.replay_core.specs.Moments.{SettlesThroughout}
use Rattle.replay_core.specs.Opened.{LeavesLog, SettlesLog}
use Rattle.replay_core.specs.PageVolumes.{ArePagesLeft, ArePagesRestored, IsPagesRefusal, NoCountsFell, SameCounts}
use Rattle.replay_core.specs.Refused.{IsSettleRefusal}
use Rattle.replay_core.specs.declared.refusal.RecoverRefusal.{RecoverRefusal}
use Rattle.replay_core.specs.declared.volumes.PageVolumes.{PageVolumes}

module _ {L P : Type 0} {l : logs.Ghosts L} (p : disks.Ghosts P) where
  -- why it wasn't done: a volume of a store, or the log
  abbrev pub IsReplayRefusal : Counters → WalLog L l → WalLog L l → PageVolumes P → PageVolumes P → RecoverRefusal → Type 0
  IsReplayRefusal base log log' old new refusal = IsPagesRefusal p old new refusal ⊎ IsSettleRefusal (log_next log) base log log' refusal

  -- The pages are restored, and then the log is settled. Before all pages are restored the log is as it was.
  pub record Replays (recs : List Rec) (base : Counters) (log log' : WalLog L l) (old new : PageVolumes P) (result : Result (Unit {0}) RecoverRefusal) : Type 0 where
    pub count : SameCounts old new
    pub settled : OnOk result (IsSettled (log_next log) base log')
    pub end : OnOk result (log_end log' ≡ log_end log + 62)
    pub kept : IsTrue l.tells → OnOk result (SettlesLog l base log log')
    pub restored : IsTrue p.tells → OnOk result (ArePagesRestored p recs base old new)
    pub left : IsTrue l.tells → IsTrue p.tells → OnErr result (ArePagesLeft p recs base old new × ((log' ≡ log) ⊎ (ArePagesRestored p recs base old new × LeavesLog l base log log')))
    pub moments : IsTrue l.tells → IsTrue p.tells → ArePagesLeft p recs base old new × ((log' ≡ log) ⊎ (ArePagesRestored p recs base old new × SettlesThroughout l base log log'))
    pub refused : IfErr result (IsReplayRefusal base log log' old new)
    pub log_counted : l.faults (log_disk log) ≤ l.faults (log_disk log')
    pub counted : NoCountsFell p old new
