-- Why a recovery was refused, from why one of its parts was.
use Rattle.std.proofs.Common.{Global, List, Vec, length, subst, sym, ℕ, ⊎_elim, ◌≡◌}
use Rattle.disk_core.specs.Faults.{HasRisen}
use Rattle.disk_core.specs.declared.log_disk.LogDisk as logs
use Rattle.disk_core.specs.declared.page_disk.PageDisk as disks
use Rattle.tx_events.specs.declared.record.Rec.TheVariants as records
use Rattle.tx_events.specs.declared.refusal.Lock.{Lock}
use Rattle.tx_events.specs.declared.refusal.Lock.TheVariants as locks
use Rattle.wal_core.specs.Log.{IsFull}
use Rattle.wal_core.specs.LogViews.{log_disk, log_end, log_first, log_next}
use Rattle.wal_core.specs.declared.wal_log.WalLog.{WalLog}
use Rattle.wal_records.specs.Spelling.{rec_bytes}
use Rattle.replay_core.proofs.Redoing.{risen_since}
use Rattle.replay_core.specs.Banks.{AreBecome, Becoming, IsStoreRefusal}
use Rattle.replay_core.specs.Begun.{AreOnDisk}
use Rattle.replay_core.specs.declared.volumes.PageVolumes.{PageVolumes}
use Rattle.replay_core.specs.Opened.{IsFound}
use Rattle.recoverable.specs.Clusters.{HasFailedAt}
use Rattle.replay_core.specs.Refused.{IsRefusal, IsSettleRefusal}
use Rattle.replay_core.specs.Replay.{IsReplayRefusal}
use Rattle.disk_core.specs.declared.media.Volumes.{Volumes}
use Rattle.replay_core.specs.declared.found.Found.{Found}
use Rattle.replay_core.specs.declared.refusal.RecoverRefusal.{RecoverRefusal}
use Rattle.replay_core.specs.declared.refusal.RecoverRefusal.TheVariants as refusals
use Rattle.replay_core.proofs.Rows.{had}

-- restored volumes have on disk what they read
pub on_disk : {P : Type 0} (p : disks.Ghosts P) (becomes : ℕ → Becoming) (old new : List P) → length new ≡ length old → AreBecome p becomes old new → AreOnDisk p new
on_disk p becomes old new count restored bank disk at = let was = had old new count bank disk at in (restored bank was.0 disk was.1 at).1

-- the volumes of all stores
abbrev pub pages_of : {L P : Type 0} → Volumes L P → PageVolumes P
pages_of v = record { xact = v.xact; subtrans = v.subtrans; offsets = v.offsets; members = v.members }

module _ {L P : Type 0} (l : logs.Ghosts L) (p : disks.Ghosts P) (old new : Volumes L P) (found : Found L l) (is : IsFound {g = l} old.log found) (log' : WalLog L l) (same : new.log ≡ log_disk log') where
  settle_refused : (e : RecoverRefusal) → IsSettleRefusal (log_next found.log) found.base found.log log' e → IsRefusal l p old new e
  settle_refused (refusals.Damaged at) h = absurd h
  settle_refused refusals.LogFault h = subst (λ z. HasRisen (l.faults old.log) (l.faults z)) (sym same) (risen_since (l.faults old.log) (l.faults (log_disk found.log)) (l.faults (log_disk log')) is.count h)
  settle_refused (refusals.DiskFault lock) h = absurd h
  settle_refused refusals.Full h = λ told. record {
    history = record { first = log_first found.log; recs = found.recs; counters = found.base };
    gate = log_end found.log;
    opens = is.opens told;
    full = subst (λ n. IsFull (log_end found.log) 0 (length (rec_bytes (records.Checkpoint n found.base)))) is.next h;
  }
  settle_refused refusals.Memory h = tt

  -- a volume of a store failed, or memory was wanting
  module _ (e : RecoverRefusal) where
    of_store : (lock : ℕ → Lock) (before now : List P) → ((bank : ℕ) → HasFailedAt p.faults bank before now → IsRefusal l p old new (refusals.DiskFault (lock bank)))
        → IsStoreRefusal p lock before now e → IsRefusal l p old new e
    of_store lock before now is h = ⊎_elim
        (λ (m : e ≡ refusals.Memory). subst (IsRefusal l p old new) (sym m) tt)
        (λ (f : (bank : ℕ) × (e ≡ refusals.DiskFault (lock bank)) × HasFailedAt p.faults bank before now). subst (IsRefusal l p old new) (sym f.1) (is f.0 f.2))
        h

  pub refusal_is : (pages : PageVolumes P) → new.xact ≡ pages.xact → new.subtrans ≡ pages.subtrans → new.offsets ≡ pages.offsets → new.members ≡ pages.members
      → (e : RecoverRefusal) → IsReplayRefusal p found.base found.log log' (pages_of old) pages e → IsRefusal l p old new e
  refusal_is pages x s o m e h =
      ⊎_elim
      (λ a. ⊎_elim
      (of_store e (λ bank. locks.Xact bank) old.xact.items pages.xact.items (λ bank f. subst (λ (t : Vec P Global). HasFailedAt p.faults bank old.xact.items t.items) (sym x) f))
      (λ b. ⊎_elim
      (of_store e (λ bank. locks.Offsets bank) old.offsets.items pages.offsets.items (λ bank f. subst (λ (t : Vec P Global). HasFailedAt p.faults bank old.offsets.items t.items) (sym o) f))
      (λ c. ⊎_elim
      (of_store e (λ bank. locks.Members bank) old.members.items pages.members.items (λ bank f. subst (λ (t : Vec P Global). HasFailedAt p.faults bank old.members.items t.items) (sym m) f))
      (of_store e (λ bank. locks.Subtrans bank) old.subtrans.items pages.subtrans.items (λ bank f. subst (λ (t : Vec P Global). HasFailedAt p.faults bank old.subtrans.items t.items) (sym s) f))
      c)
      b)
      a)
      (settle_refused e)
      h
