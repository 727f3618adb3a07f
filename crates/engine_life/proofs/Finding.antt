-- The log that was found on a volume: what a life begins with over it, and why none does.
use Rattle.std.proofs.Common.{Bool, Err, IsSome, IsTrue, List, None, Ok, Option, Result, Some, ap, arith, cond, false, inl, inr, length, refl, subst, sym, true, ℕ, ◌+◌, ◌∙◌, ◌≡◌, ◌≤◌}
use Rattle.disk_core.specs.Volume.{Volume}
use Rattle.disk_core.specs.declared.log_disk.LogDisk as logs
use Rattle.disk_core.specs.declared.page_disk.PageDisk as disks
use Rattle.disk_core.specs.declared.media.Volumes.{Volumes}
use Rattle.tx_events.specs.declared.record.Counters.{Counters}
use Rattle.tx_events.specs.declared.refusal.Lock.TheVariants as locks
use Rattle.tx_core.proofs.FaultCounts.{risen_past}
use Rattle.wal_core.specs.Log.{EndsWithin, history_in}
use Rattle.wal_core.specs.LogViews.{log_disk, log_end, log_first, log_next}
use Rattle.wal_core.specs.Opening.{History, Opened, is_new, judged, opened, opened_as, walked}
use Rattle.wal_core.specs.declared.wal_log.WalLog.{WalLog}
use Rattle.recoverable.specs.Fit.{KeptLog}
use Rattle.replay_core.specs.Opened.{IsFound, IsFoundNew, OpensStill}
use Rattle.replay_core.specs.Refused as recovery
use Rattle.replay_core.specs.Refused.{IsNewLog, IsOpenRefusal}
use Rattle.replay_core.specs.declared.found.Found.{Found}
use Rattle.replay_core.specs.declared.refusal.RecoverRefusal.{RecoverRefusal}
use Rattle.replay_core.specs.declared.refusal.RecoverRefusal.TheVariants as recoveries
use Rattle.replay_core.proofs.Locating.{ends_within, still_fits}
use Rattle.replay_core.proofs.Refusing.{pages_of}
use Rattle.engine_host.specs.declared.cluster.BankVolumes.{BankVolumes}
use Rattle.engine_host.specs.declared.cluster.Cluster.{Cluster}
use Rattle.engine_host.specs.Counted.{AreCounted}
use Rattle.engine_host.specs.Opening as engines
use Rattle.engine_host.specs.Refused as engine_refusals
use Rattle.engine_host.specs.Stores.{banks_of}
use Rattle.engine_host.specs.declared.refusal.OpenRefusal.{OpenRefusal}
use Rattle.engine_host.specs.declared.refusal.OpenRefusal.TheVariants as refusals
use Rattle.engine_life.specs.FirstLives.{MayBeginOver}
use Rattle.engine_life.specs.Lives.{FitsLog}
use Rattle.engine_life.specs.NextLives.{MayGoOn}
use Rattle.engine_life.specs.Refusals.{IsNoLife, refusal_by, unrecovered_by}
use Rattle.engine_life.specs.Reopening.{LeavesLog, OpensUpTo, volumes_over}
use Rattle.engine_life.proofs.Reopened.{as_read, left_as_read}

-- it is a new one to the engine
pub new_log : {D : Type 0} {g : logs.Ghosts D} (disk : D) (log : WalLog D g) → IsFoundNew disk log → engines.IsEmptyLog log
new_log disk log found = record {
  recs = found.recs;
  next = found.next;
  first = found.first;
  flushed = found.flushed;
  down = found.up;
  counters = found.counters;
  keeps = found.keeps;
}

pub new_opens : {D : Type 0} (g : logs.Ghosts D) (disk : D) (log : WalLog D g) → IsFoundNew disk log → IsTrue g.tells → IsNewLog (g.reads disk)
new_opens g disk log found told = record { gate = log_end log; opens = found.opens told }

-- and one with records opens to all of them, and to its end
pub opens_up_to : {D : Type 0} (g : logs.Ghosts D) (disk : D) (found : Found D g) (base : Counters) → IsFound disk found → base ≡ found.base → IsTrue g.tells
    → (opens : OpensUpTo (log_next found.log) base (g.reads disk)) × (opens.gate ≡ log_end found.log)
opens_up_to g disk found base is same told = (
  record {
    history = record { first = log_first found.log; recs = found.recs; counters = found.base };
    gate = log_end found.log;
    opens = is.opens told;
    next = sym is.next;
    counters_are = sym same;
  },
  refl,
)

not_both : (v : Volume) (h : History) (gate gate' : ℕ) → opened v ≡ Ok (record { history = None; gate = gate }) → opened v ≡ Ok (record { history = Some h; gate = gate' }) → ⊥
not_both v h gate gate' a b = let z : None ≡ Some h = sym (ap history_in a) ∙ ap history_in b in absurd cc

-- a log without a record ends where its volume begins
gate_in : Result Opened ℕ → ℕ
gate_in (Ok o) = o.gate
gate_in (Err at) = at

opened_none : (v : Volume) (gate : ℕ) → opened v ≡ Ok (record { history = None; gate = gate }) → gate ≡ 0
unfolding opened gate_in
opened_none v gate e = by_start (is_new v) e
  where
    walked_none : (whole : Bool) (h : History) (reach : ℕ) → cond {A = Result Opened ℕ} whole (Ok (record { history = Some h; gate = reach })) (Err reach) ≡ Ok (record { history = None; gate = gate }) → ⊥
    walked_none true h reach e = let two : Some h ≡ None = ap history_in e in absurd cc
    walked_none false h reach e = absurd cc

    judged_none : (r : Result (Option History) ℕ) → opened_as v.start (walked v) r ≡ Ok (record { history = None; gate = gate }) → ⊥
    judged_none (Err at) e = absurd cc
    judged_none (Ok None) e = absurd cc
    judged_none (Ok (Some h)) e = walked_none (walked v).whole h (v.start + (walked v).reach) e

    by_start : (new : Bool) → cond {A = Result Opened ℕ} new (Ok (record { history = None; gate = 0 })) (opened_as v.start (walked v) (judged (walked v).bodies v.start None)) ≡ Ok (record { history = None; gate = gate }) → gate ≡ 0
    by_start true e = sym (ap gate_in e)
    by_start false e = absurd (judged_none (judged (walked v).bodies v.start None) e)

pub first_gate : {D : Type 0} (g : logs.Ghosts D) (disk : D) (log : WalLog D g) (gate : ℕ) → IsFoundNew disk log → IsTrue g.tells → gate ≡ log_end log + 62 → gate ≡ 62
first_gate g disk log gate found told end =
    let place : log_end log ≡ 0 = opened_none (g.reads disk) (log_end log) (found.opens told) in omega (arith, end, place)

-- volumes that were put together
pub together : {L P : Type 0} (new : Volumes L P) (log : L) (banks : BankVolumes P) → new.log ≡ log → banks_of new ≡ banks → new ≡ volumes_over log banks
together new log banks a b = λ i. volumes_over (a i) (b i)

module _ {L P : Type 0} (l : logs.Ghosts L) (p : disks.Ghosts P) where
  pub counted_since : (disk disk' : L) (volumes : BankVolumes P) (faults : List ℕ) → l.faults disk ≤ l.faults disk' → AreCounted l p disk' volumes faults → AreCounted l p disk volumes faults
  counted_since disk disk' volumes faults up k = record { log = (let more = k.log in omega (arith, up, more)); banks = k.banks }

  -- volumes that a life may begin over fit the log, where records were found
  may_go_on : (kept : KeptLog) (volumes : Volumes L P) (found : Found L l) → IsFound volumes.log found → MayBeginOver l p kept volumes → MayGoOn l p kept volumes
  may_go_on kept volumes found is may told =
      let reads = may.tells told in
      (reads, may.fits told (subst IsSome (sym (ap history_in (is.opens reads))) refl))

  pub found_there : (kept : KeptLog) (volumes : Volumes L P) (found : Found L l) → IsFound volumes.log found → MayBeginOver l p kept volumes
      → (log : L) × IsFound log found × MayGoOn l p kept (volumes_over log (banks_of volumes))
  found_there kept volumes found is may = (volumes.log, is, may_go_on kept volumes found is may)

  -- ---- why no life begins

  module _ (c : Cluster) where
    pub not_begun : (disk : L) (log : WalLog L l) (old : BankVolumes P) (new : Volumes L P) (r : OpenRefusal) → IsFoundNew disk log
        → engine_refusals.IsRefusal p c log old new r → IsNoLife l p c (volumes_over disk old) new (refusal_by r)
    not_begun disk log old new refusals.LogFault found is = inl (risen_past (l.faults disk) (l.faults (log_disk log)) (l.faults new.log) found.count is)
    not_begun disk log old new (refusals.DiskFault (locks.Xact bank)) found is = inr (inl (bank, is))
    not_begun disk log old new (refusals.DiskFault (locks.Subtrans bank)) found is = inr (inr (inl (bank, is)))
    not_begun disk log old new (refusals.DiskFault (locks.Offsets bank)) found is = inr (inr (inr (inl (bank, is))))
    not_begun disk log old new (refusals.DiskFault (locks.Members bank)) found is = inr (inr (inr (inr (bank, is))))
    not_begun disk log old new (refusals.DiskFault locks.Log) found is = absurd is
    not_begun disk log old new (refusals.DiskFault locks.Proc) found is = absurd is
    not_begun disk log old new (refusals.DiskFault locks.Multi) found is = absurd is
    not_begun disk log old new refusals.Full found is = inl (log_end log, found.opens, is)
    not_begun disk log old new refusals.Memory found is = tt

    module _ (old new : Volumes L P) where
      pub not_found : (r : RecoverRefusal) → IsOpenRefusal l old.log new.log r → IsNoLife l p c old new (unrecovered_by r)
      not_found (recoveries.Damaged at) is = is
      not_found recoveries.LogFault is = inl is
      not_found (recoveries.DiskFault lock) is = absurd is
      not_found recoveries.Full is = absurd is
      not_found recoveries.Memory is = tt

      pub not_recovered : (r : RecoverRefusal) → recovery.IsRefusal l p old new r → IsNoLife l p c old new (unrecovered_by r)
      not_recovered (recoveries.Damaged at) is = absurd is
      not_recovered recoveries.LogFault is = inl is
      not_recovered (recoveries.DiskFault (locks.Xact bank)) is = inr (inl (bank, is))
      not_recovered (recoveries.DiskFault (locks.Subtrans bank)) is = inr (inr (inl (bank, is)))
      not_recovered (recoveries.DiskFault (locks.Offsets bank)) is = inr (inr (inr (inl (bank, is))))
      not_recovered (recoveries.DiskFault (locks.Members bank)) is = inr (inr (inr (inr (bank, is))))
      not_recovered (recoveries.DiskFault locks.Log) is = absurd is
      not_recovered (recoveries.DiskFault locks.Proc) is = absurd is
      not_recovered (recoveries.DiskFault locks.Multi) is = absurd is
      not_recovered recoveries.Full is = inr is
      not_recovered recoveries.Memory is = tt

  module _ (kept : KeptLog) (v : Volumes L P) (fit : FitsLog l p kept v) (reads : l.images v.log (l.reads v.log)) (each : (d : P) → p.images d (p.pages d)) where
    -- where the log wasn't opened they fit still
    pub unopened_fits : (new : L) → length v.offsets.items ≡ length v.xact.items → length v.members.items ≡ length v.xact.items
        → (EndsWithin (l.reads v.log) → OpensStill l v.log new) → LeavesLog l p v (volumes_over new (banks_of v)) kept
    unopened_fits new offsets members still =
        still_fits l p v.log (pages_of v) offsets members kept fit reads each new (still (ends_within l p v.log (pages_of v) offsets members kept fit reads each))

    -- and a log without records fits none
    pub none_fits : (log : WalLog L l) → IsFoundNew v.log log → IsTrue l.tells → ⊥
    none_fits log found told =
        let image = (fit.each (as_read l p v.log v.xact.items v.offsets.items v.members.items) (left_as_read l p v.log v.xact.items v.offsets.items v.members.items reads each)).opens in
        not_both (l.reads v.log) image.history (log_end log) image.gate (found.opens told) image.opens
