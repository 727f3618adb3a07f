-- A life that goes on from a log.
use Rattle.std.specs.Prelude.{◌≡◌, ℕ, ◌≤◌, Bool, List, Ok, Some, [], cond}
use Rattle.disk_core.specs.Volume.{Volume}
use Rattle.disk_core.specs.declared.log_disk.LogDisk as logs
use Rattle.disk_core.specs.declared.media.Volumes.{Volumes}
use Rattle.disk_core.specs.declared.page_disk.PageDisk as disks
use Rattle.tx_events.specs.declared.record.Counters.{Counters}
use Rattle.tx_events.specs.declared.record.Rec.{Rec}
use Rattle.wal_core.specs.LogViews.{KeepsAll}
use Rattle.wal_core.specs.Opening.{History, next_number, opened}
use Rattle.wal_core.specs.declared.wal_log.WalLog.{WalLog}
use Rattle.engine_parts.specs.Stand.{GivesStart}
use Rattle.recoverable.specs.Fit.{KeptLog, base_at, log_end}
use Rattle.replay_core.specs.Volumes.{LeavesFit}
use Rattle.replay_core.specs.declared.cluster.Recovered.{Recovered}
use Rattle.engine_host.specs.declared.cluster.BankVolumes.{BankVolumes}
use Rattle.engine_host.specs.declared.cluster.Cluster.{Cluster}
use Rattle.engine_host.specs.Opening.{Beginning, life_from}

-- What a life begins with whose checkpoint has this number, behind the records below it. Where the volumes tell
-- nothing, nothing is known of it.
abbrev pub behind : Bool → KeptLog → ℕ → Beginning
behind tells kept number = record {
  number = number;
  gate = 0;
  committed = cond tells (base_at kept number).committed [];
  recorded = cond tells (base_at kept number).recorded [];
  told = tells;
}

abbrev pub cluster_over : Counters → ℕ → ℕ → Cluster
cluster_over base banks sessions = record { base = base; banks = banks; sessions = sessions }

-- the volumes of the banks
abbrev pub banks_in : {L P : Type 0} → {l : logs.Ghosts L} → Recovered L P l → BankVolumes P
banks_in r = record { xact = r.xact; subtrans = r.subtrans; offsets = r.offsets; members = r.members }

-- and those with the log's
abbrev pub volumes_over : {L P : Type 0} → L → BankVolumes P → Volumes L P
volumes_over log banks = record { log = log; xact = banks.xact; subtrans = banks.subtrans; offsets = banks.offsets; members = banks.members }

-- the log keeps records that give what the life begins with
abbrev pub KeepsStart : {D : Type 0} → {g : logs.Ghosts D} → Cluster → Beginning → WalLog D g → Type 0
KeepsStart {g = g} c b log = (number : ℕ) × (past : List Rec) × KeepsAll number past g.images log × GivesStart (life_from c b []) number past

-- what a life begins from: the base at this number, from the flushed one to the log's end, has these counters
pub record IsBaseAt (kept : KeptLog) (number : ℕ) (counters : Counters) : Type 0 where
  pub flushed : kept.flushed ≤ number
  pub upto : number ≤ log_end kept
  pub counters_are : (base_at kept number).counters ≡ counters

-- the log opens to the records below this number, and these are the counters behind them
pub record OpensUpTo (number : ℕ) (counters : Counters) (v : Volume) : Type 0 where
  pub history : History
  pub gate : ℕ
  pub opens : opened v ≡ Ok (record { history = Some history; gate = gate })
  pub next : next_number history ≡ number
  pub counters_are : history.counters ≡ counters

-- What volumes became fits what a later recovery may go on from, that of those before.
abbrev pub LeavesLog : {L P : Type 0} → logs.Ghosts L → disks.Ghosts P → Volumes L P → Volumes L P → KeptLog → Type 0
LeavesLog l p old new kept = LeavesFit l p old.xact.items new.log new.xact.items new.offsets.items new.members.items kept
