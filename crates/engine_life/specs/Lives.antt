-- How a life begins, and what it leaves.
use Rattle.std.specs.Prelude.{◌≡◌, ℕ, ◌-◌, ◌<◌, ◌≤◌, IsTrue, List, [], Some, length, slice_get}
use Rattle.disk_core.specs.declared.log_disk.LogDisk as logs
use Rattle.disk_core.specs.declared.page_disk.PageDisk as disks
use Rattle.disk_core.specs.declared.media.Volumes.{Volumes}
use Rattle.disk_core.specs.Media.{HasBanks}
use Rattle.disk_core.specs.Pages.{Pages}
use Rattle.hall.specs.Calls.{start_of}
use Rattle.notes.specs.Lists.{at}
use Rattle.tx_events.specs.declared.event.Event.{Event}
use Rattle.tx_events.specs.declared.multi.MultiEvent.{MultiEvent}
use Rattle.tx_events.specs.declared.record.Counters.{Counters}
use Rattle.tx_events.specs.declared.record.Rec.{Rec}
use Rattle.tx_model.specs.declared.report.Life.{Life}
use Rattle.tx_core.specs.declared.entry.Entry.{Entry}
use Rattle.tx_core.specs.declared.entry.Start.{Start}
use Rattle.tx_core.specs.Entries.{flushed_to}
use Rattle.tx_core.specs.FaultsRise.{faults_told}
use Rattle.tx_core.specs.Locks.{log_lock, members_lock, offsets_lock, subtrans_lock, xact_lock}
use Rattle.recoverable.specs.Whole.{BeganRight, MembersLeft, OffsetsLeft, StatesLeft}
use Rattle.bank_follows.specs.Ends.{AllFollow}
use Rattle.wal_core.specs.declared.wal_log.WalLog.{WalLog}
use Rattle.wal_core.specs.LogViews.{log_disk, log_end, log_flushed, log_next, log_recs}
use Rattle.recoverable.specs.Clusters.{Fit}
use Rattle.recoverable.specs.Fit.{KeptLog}
use Rattle.recoverable.specs.Laws.{LogFollows}
use Rattle.engine_parts.specs.declared.session.Session.{Session}
use Rattle.engine_host.specs.declared.cluster.Cluster.{Cluster}
use Rattle.engine_host.specs.Counted.{AreCounted}
use Rattle.engine_host.specs.Hosts.{HasSeenNothing, HoldsAllBut, IsHost, IsNewSession, IsParked}
use Rattle.engine_host.specs.Opening.{life_of}
use Rattle.engine_host.specs.Stores.{banks_of}
use Rattle.engine_life.specs.declared.closed.ClosedLife.{ClosedLife}
use Rattle.engine_life.specs.declared.life.OpenLife.{OpenLife}

module _ {L P : Type 0} {l : logs.Ghosts L} {p : disks.Ghosts P} where
  -- Nothing was done yet in a life that starts so, and each of its sessions may be let in.
  pub record IsBegun (c : Cluster) (start : Start) (life : OpenLife L P l p) : Type 0 where
    pub host : IsHost life.hall life.host
    pub cluster : life.host.cluster ≡ c
    pub start_is : start_of life.hall ≡ start
    pub unseen : HasSeenNothing life.host
    pub names : HoldsAllBut life.host []
    pub parked : (n : ℕ) (s : Session) → n < c.sessions → IsNewSession s → IsParked life.hall life.host n s

  -- It begins over a new log, with a base from which a life may start, at counts of faults that aren't below those of
  -- these volumes. The log's batches end at its gate: where the volume tells, behind one of 62 bytes, with the first
  -- checkpoint.
  pub record IsNewLife (c : Cluster) (volumes : Volumes L P) (life : OpenLife L P l p) : Type 0 where
    pub banks : HasBanks c.banks volumes
    pub gate : ℕ
    pub gate_is : IsTrue l.tells → gate ≡ 62
    pub faults : List ℕ
    pub counted : AreCounted l p volumes.log (banks_of volumes) faults
    pub begun : IsBegun c (life_of c gate faults) life
    pub right : BeganRight (life_of c gate faults)

-- the volumes of a life that is over, each in its place
abbrev pub volumes_left : {L P : Type 0} → {l : logs.Ghosts L} → ClosedLife L P l → Volumes L P
volumes_left life = record {
  log = log_disk life.log;
  xact = life.xact;
  subtrans = life.subtrans;
  offsets = life.offsets;
  members = life.members;
}

-- so many volumes of each of the four stores
pub record HaveVolumes {L P : Type 0} (banks : ℕ) (volumes : Volumes L P) : Type 0 where
  pub xact : length volumes.xact.items ≡ banks
  pub subtrans : length volumes.subtrans.items ≡ banks
  pub offsets : length volumes.offsets.items ≡ banks
  pub members : length volumes.members.items ≡ banks

-- the number of the first record that it appended
abbrev pub number_of : {L P : Type 0} → {l : logs.Ghosts L} → ClosedLife L P l → ℕ
number_of life = log_next life.log - length (log_recs life.log)

module _ {L P : Type 0} (l : logs.Ghosts L) (p : disks.Ghosts P) where
  -- Each volume has counted at least the faults that its lock's list tells.
  pub record HaveCountedTold (start : Start) (lists : List (List Entry)) (volumes : Volumes L P) : Type 0 where
    pub log : faults_told start log_lock (at lists log_lock) ≤ l.faults volumes.log
    pub xact : (bank : ℕ) → bank < start.banks → (v : P) × (slice_get volumes.xact.items bank ≡ Some v)
        × (faults_told start (xact_lock bank) (at lists (xact_lock bank)) ≤ p.faults v)
    pub subtrans : (bank : ℕ) → bank < start.banks → (v : P) × (slice_get volumes.subtrans.items bank ≡ Some v)
        × (faults_told start (subtrans_lock bank) (at lists (subtrans_lock bank)) ≤ p.faults v)
    pub offsets : (bank : ℕ) → bank < start.banks → (v : P) × (slice_get volumes.offsets.items bank ≡ Some v)
        × (faults_told start (offsets_lock bank) (at lists (offsets_lock bank)) ≤ p.faults v)
    pub members : (bank : ℕ) → bank < start.banks → (v : P) × (slice_get volumes.members.items bank ≡ Some v)
        × (faults_told start (members_lock bank) (at lists (members_lock bank)) ≤ p.faults v)

module _ {P : Type 0} (p : disks.Ghosts P) where
  -- what a crash would leave of a volume of pg_xact follows its bank's list
  abbrev pub FollowsList : Start → List (List Entry) → ℕ → P → Type 0
  FollowsList start lists bank v = (c : Pages) → p.images v c → StatesLeft start bank (at lists (xact_lock bank)) c

  -- so that of each bank
  abbrev pub HaveFollowed : Start → List (List Entry) → List P → Type 0
  HaveFollowed start lists states = (bank : ℕ) → bank < start.banks
      → (v : P) × (slice_get states bank ≡ Some v) × FollowsList start lists bank v

module _ {L P : Type 0} (p : disks.Ghosts P) where
  -- And so of the volumes of offsets and of members, of which there is one for each bank.
  pub record HaveFollowedMultis (start : Start) (lists : List (List Entry)) (volumes : Volumes L P) : Type 0 where
    pub offsets_are : AllFollow p start.banks (λ bank c. OffsetsLeft start bank (at lists (offsets_lock bank)) c) volumes.offsets.items
    pub members_are : AllFollow p start.banks (λ bank c. MembersLeft start bank (at lists (members_lock bank)) c) volumes.members.items

module _ {L P : Type 0} (l : logs.Ghosts L) (p : disks.Ghosts P) where
  -- whatever a crash leaves of these volumes fits this log
  abbrev pub FitsLog : KeptLog → Volumes L P → Type 0
  FitsLog kept volumes = Fit l p kept volumes.log volumes.xact.items volumes.offsets.items volumes.members.items

  -- The volumes that a life left fit a log, of which the records before the life gave its begin, and the others are its
  -- own, and just those are on disk that the life's list flushed: so a recovery may begin from whatever a crash leaves
  -- of them.
  pub record EndFit (start : Start) (lists : List (List Entry)) (volumes : Volumes L P) : Type 0 where
    pub kept : KeptLog
    pub follows : LogFollows start lists kept
    pub flushed : kept.flushed ≡ flushed_to start (at lists log_lock)
    pub fit : FitsLog kept volumes

-- the life that began from this base with the checkpoint of this number, had this history and these multixacts and left
-- this log
abbrev pub life_told : {D : Type 0} → {g : logs.Ghosts D} → ℕ → Counters → List ℕ → List Rec → List Event → List MultiEvent → WalLog D g → Life
life_told from base committed recorded events multis log = record {
  from = from;
  base = base;
  committed = committed;
  recorded = recorded;
  events = events;
  multis = multis;
  recs = log_recs log;
  flushed = log_flushed log;
  end = log_end log;
}
