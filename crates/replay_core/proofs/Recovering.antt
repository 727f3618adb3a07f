-- The whole of a recovery, from what its parts answer.
use Rattle.std.proofs.Common.{Err, IfErr, IsTrue, List, Ok, OnErr, OnOk, Result, arith, inl, inr, length, refl, subst, sym, ℕ, ⊎_elim, ◌+◌, ◌++◌, ◌<◌, ◌∙◌, ◌∷◌, [], ◌≡◌, ◌≤◌}
use Rattle.disk_core.specs.declared.log_disk.LogDisk as logs
use Rattle.disk_core.specs.declared.page_disk.PageDisk as disks
use Rattle.tx_events.specs.declared.record.Counters.{Counters}
use Rattle.tx_events.specs.declared.record.Rec.{Rec}
use Rattle.tx_events.specs.declared.record.Rec.TheVariants as records
use Rattle.wal_core.specs.LogViews.{KeepsAll, log_disk, log_end, log_first, log_flushed, log_next}
use Rattle.wal_core.specs.declared.wal_log.WalLog.{WalLog}
use Rattle.recoverable.specs.Fit.{KeptLog}
use Rattle.replay_core.specs.Begun.{IsSettled}
use Rattle.replay_core.specs.Moments.{SettlesThroughout}
use Rattle.replay_core.specs.Opened.{EachHas, IsFound, LeavesLog, SettlesLog}
use Rattle.replay_core.specs.PageVolumes.{ArePagesRestored, RestoresPages}
use Rattle.replay_core.specs.Refused.{IsSettleRefusal}
use Rattle.replay_core.specs.Replay.{IsReplayRefusal, Replays}
use Rattle.recoverable.specs.Clusters.{Fit}
use Rattle.replay_core.specs.Volumes.{LeavesFit, RecoversLog}
use Rattle.replay_core.specs.declared.found.Found.{Found}
use Rattle.replay_core.specs.declared.refusal.RecoverRefusal.{RecoverRefusal}
use Rattle.replay_core.specs.declared.volumes.PageVolumes.{PageVolumes}
use Rattle.replay_core.proofs.Joining.{is_recovered, not_recovered_cut, not_recovered_pending, not_recovered_settled}
use Rattle.replay_core.proofs.Locating.{is_found, located}
use Rattle.replay_core.proofs.Settling.{each_kept}

module _ {L P : Type 0} {l : logs.Ghosts L} (p : disks.Ghosts P) (recs : List Rec) (base : Counters) (log : WalLog L l) (old new : PageVolumes P) where
  pub restoring_failed : (e : RecoverRefusal) → RestoresPages p recs base old new (Err e) → Replays p recs base log log old new (Err e)
  restoring_failed e r = record {
    count = r.count;
    settled = tt;
    end = tt;
    kept = λ told. tt;
    restored = λ told. tt;
    left = λ told told'. (r.moments told', inl refl);
    moments = λ told told'. (r.moments told', inl refl);
    refused = inl r.refused;
    log_counted = omega arith;
    counted = r.counted;
  }

  on : {X : Type 0} (result : Result (Unit {0}) RecoverRefusal) → X → OnOk result X
  on (Ok u) x = x
  on (Err e) x = tt

  err : {X Y : Type 0} (result : Result (Unit {0}) RecoverRefusal) → (X → Y) → OnErr result X → OnErr result Y
  err (Ok u) f x = tt
  err (Err e) f x = f x

  because : (log' : WalLog L l) (result : Result (Unit {0}) RecoverRefusal) → IfErr result (λ refusal. IsSettleRefusal (log_next log) base log log' refusal) → IfErr result (IsReplayRefusal p base log log' old new)
  because log' (Ok u) x = tt
  because log' (Err e) x = inr x

  pub all_replayed : (log' : WalLog L l) (result : Result (Unit {0}) RecoverRefusal) → RestoresPages p recs base old new (Ok (tt {0}))
      → OnOk result (IsSettled (log_next log) base log') → OnOk result (log_end log' ≡ log_end log + 62) → (IsTrue l.tells → OnOk result (SettlesLog l base log log')) → (IsTrue l.tells → OnErr result (LeavesLog l base log log'))
      → (IsTrue l.tells → SettlesThroughout l base log log') → IfErr result (λ refusal. IsSettleRefusal (log_next log) base log log' refusal) → l.faults (log_disk log) ≤ l.faults (log_disk log')
      → Replays p recs base log log' old new result
  all_replayed log' result r settled end kept left moments refused count = record {
    count = r.count;
    settled = settled;
    end = end;
    kept = kept;
    restored = λ told. on result (r.restored told);
    left = λ told told'. err result (λ x. (r.moments told', inr (r.restored told', x))) (left told);
    moments = λ told told'. (r.moments told', inr (r.restored told', moments told));
    refused = because log' result refused;
    log_counted = count;
    counted = r.counted;
  }

module _ {L P : Type 0} (l : logs.Ghosts L) (p : disks.Ghosts P) (v : L) (old new : PageVolumes P) (found : Found L l) (is : IsFound {g = l} v found) (log' : WalLog L l)
    (told : IsTrue l.tells) (told' : IsTrue p.tells) (reads : l.images v (l.reads v)) (each : (d : P) → p.images d (p.pages d)) (some : 1 ≤ length old.xact.items)
    (offsets_count : length old.offsets.items ≡ length old.xact.items) (members_count : length old.members.items ≡ length old.xact.items)
    (log : KeptLog) (fit : Fit l p log v old.xact.items old.offsets.items old.members.items) where
  pub replay_recovers : Replays p found.recs found.base found.log log' old new (Ok (tt {0}))
      → RecoversLog l p v old.xact.items log' new.xact.items new.offsets.items new.members.items (log_next found.log) found.base log
  replay_recovers r =
      let first : ℕ = log_first found.log in
      let gate : ℕ = log_end found.log in
      let settled : IsSettled (log_next found.log) found.base log' = r.settled in
      let kept : KeepsAll (log_first found.log) (found.recs ++ records.Checkpoint (log_next found.log) found.base ∷ []) l.images log' = r.kept told first found.recs (is.keeps told) in
      let has : EachHas (log_first found.log) (found.recs ++ records.Checkpoint (log_first found.log + length found.recs) found.base ∷ []) (log_first found.log + length found.recs) (log_first found.log + length found.recs + 1) (l.images (log_disk log'))
      = subst (λ n. EachHas (log_first found.log) (found.recs ++ records.Checkpoint n found.base ∷ []) n (n + 1) (l.images (log_disk log'))) is.next
      (each_kept first (found.recs ++ records.Checkpoint (log_next found.log) found.base ∷ []) log' (log_next found.log) (log_next found.log + 1) settled.first settled.flushed kept) in
      let here : KeepsAll (log_first found.log) (found.recs ++ records.Checkpoint (log_first found.log + length found.recs) found.base ∷ []) l.images log'
      = subst (λ n. KeepsAll (log_first found.log) (found.recs ++ records.Checkpoint n found.base ∷ []) l.images log') is.next kept in
      let past : log_first found.log < log_flushed log' = let a = settled.flushed in let b = is.next in omega (arith, a, b) in
      subst (λ n. RecoversLog l p v old.xact.items log' new.xact.items new.offsets.items new.members.items n found.base log) (sym is.next)
      (is_recovered l p old new log first found.recs found.base (is_found l p v old offsets_count members_count log fit reads each first gate found.recs found.base (is.opens told))
      (located l p v old offsets_count members_count log fit reads each first gate found.recs found.base (is.opens told)) each r.count offsets_count members_count v log' (r.restored told') some has past here)

  pub replay_leaves : (e : RecoverRefusal) → Replays p found.recs found.base found.log log' old new (Err e)
      → LeavesFit l p old.xact.items (log_disk log') new.xact.items new.offsets.items new.members.items log
  replay_leaves e r =
      let first : ℕ = log_first found.log in
      let gate : ℕ = log_end found.log in
      let f = is_found l p v old offsets_count members_count log fit reads each first gate found.recs found.base (is.opens told) in
      let at = located l p v old offsets_count members_count log fit reads each first gate found.recs found.base (is.opens told) in
      let left = r.left told told' in
      let before : EachHas (log_first found.log) found.recs (log_first found.log) (log_first found.log + length found.recs) (l.images (log_disk found.log))
      = each_kept first found.recs found.log first (first + length found.recs) refl (is.is_open.flushed ∙ is.next) (is.keeps told) in
      ⊎_elim
      (λ (same : log' ≡ found.log). not_recovered_cut l p old new log first found.recs found.base f at each r.count offsets_count members_count (log_disk log') left.0 (subst (λ (z : WalLog L l). EachHas (log_first found.log) found.recs (log_first found.log) (log_first found.log + length found.recs) (l.images (log_disk z))) (sym same) before))
      (λ (h : ArePagesRestored p found.recs found.base old new × LeavesLog l found.base found.log log').
      ⊎_elim
      (λ a. not_recovered_cut l p old new log first found.recs found.base f at each r.count offsets_count members_count (log_disk log') left.0 (subst (λ n. EachHas first found.recs first n (l.images (log_disk log'))) is.next a))
      (λ b. ⊎_elim
      (λ x. not_recovered_pending l p old new log first found.recs found.base f at each r.count offsets_count members_count (log_disk log') h.0 (subst (λ n. EachHas first (found.recs ++ records.Checkpoint n found.base ∷ []) first n (l.images (log_disk log'))) is.next x))
      (λ x. not_recovered_settled l p old new log first found.recs found.base f at each r.count offsets_count members_count (log_disk log') h.0 (subst (λ n. EachHas first (found.recs ++ records.Checkpoint n found.base ∷ []) n (n + 1) (l.images (log_disk log'))) is.next x))
      b)
      (h.1 first found.recs (is.keeps told)))
      left.1
