-- At every moment of a recovery what a crash leaves fits.
use Rattle.std.proofs.Common.{IsTrue, List, Result, [], ap, arith, inl, inr, length, subst, sym, ℕ, ⊎_elim, ◌+◌, ◌++◌, ◌∙◌, ◌∷◌, ◌≡◌, ◌≤◌}
use Rattle.disk_core.specs.Volume.{Volume}
use Rattle.disk_core.specs.declared.log_disk.LogDisk as logs
use Rattle.disk_core.specs.declared.page_disk.PageDisk as disks
use Rattle.tx_events.specs.declared.record.Counters.{Counters}
use Rattle.tx_events.specs.declared.record.Rec.{Rec}
use Rattle.tx_events.specs.declared.record.Rec.TheVariants as records
use Rattle.wal_core.specs.Kept.{HasFlushed, first_in, first_on}
use Rattle.wal_core.specs.Log.{history_in}
use Rattle.wal_core.specs.LogViews.{log_disk, log_end, log_first}
use Rattle.wal_core.specs.declared.wal_log.WalLog.{WalLog}
use Rattle.recoverable.specs.Clusters.{Fit}
use Rattle.recoverable.specs.Fit.{KeptLog}
use Rattle.recoverable.specs.Volumes.{Left, LogFits}
use Rattle.replay_core.specs.Laws.{up_to, with_checkpoint}
use Rattle.replay_core.specs.Moments.{FitThroughout, MayHaveSettled, SettlesThroughout, StillFits, WasLeft, WasLogLeft, WereAllLeft}
use Rattle.replay_core.specs.Opened.{IsFound}
use Rattle.replay_core.specs.PageVolumes.{ArePagesRestored, SameCounts}
use Rattle.replay_core.specs.Refused.{volumes_of}
use Rattle.replay_core.specs.Replay.{Replays}
use Rattle.replay_core.specs.declared.found.Found.{Found}
use Rattle.replay_core.specs.declared.refusal.RecoverRefusal.{RecoverRefusal}
use Rattle.replay_core.specs.declared.volumes.PageVolumes.{PageVolumes}
use Rattle.replay_core.proofs.Joining.{PagesFit, checkpoint_begins, checkpoint_pages, cut_begins, cut_pages, image_fits, steps_at, steps_now}
use Rattle.replay_core.proofs.LaterLogs.{BeginsIn, FoundIn, checkpoint_keeps, cut_end_is, cut_keeps, cut_list_fits, pending_fits, settled_fits}
use Rattle.replay_core.proofs.LaterMultis.{behind_fits_members, behind_fits_offsets}
use Rattle.replay_core.proofs.Locating.{Located, is_found, located}
use Rattle.replay_core.proofs.Phases.{behind_fits}
use Rattle.replay_core.proofs.Settling.{settles_unmoved, unmoved}

-- the record with which the log begins is that of the image
begins_with : (log : KeptLog) (n : ℕ) (v : Volume) → LogFits log n v → first_on v ≡ n
begins_with log n v fits = ap (λ r. first_in (history_in r)) fits.opens ∙ fits.first

-- so it begins no later than the image
begins_no_later : (log : KeptLog) (first kept : ℕ) (v : Volume) → BeginsIn log first kept v → first_on v ≡ first → BeginsIn log first first v
begins_no_later log first kept v b begins = let e = begins_with log b.number v b.fits in record { number = b.number; from = b.from; upto = omega (arith, e, begins); may_begin = b.may_begin; fits = b.fits }

module _ (log : KeptLog) (banks first : ℕ) (recs : List Rec) (base : Counters) (f : FoundIn log first recs base) (left : Left) where
  -- pages that fit as far as the log was found fit it with the checkpoint, too
  behind : (flushed : ℕ) → first + length recs ≤ flushed → PagesFit banks first first (up_to log (first + length recs)) left → PagesFit banks first first (with_checkpoint (up_to log (first + length recs)) flushed) left
  behind flushed le pages =
      let e = cut_end_is log first recs base f in
      let some = f.some in
      record {
        states = λ n bank from to inside. behind_fits banks bank (up_to log (first + length recs)) flushed n (left.xact bank) (sym e) (omega (arith, e, le)) (omega (arith, e, to)) (pages.states n bank from to inside);
        offsets = λ n bank from to inside. behind_fits_offsets banks bank (up_to log (first + length recs)) flushed n (left.offsets bank) (sym e) (omega (arith, e, le)) (omega (arith, e, to, some)) (pages.offsets n bank from to inside);
        members = λ n bank from to inside. behind_fits_members banks bank (up_to log (first + length recs)) flushed n (left.members bank) (sym e) (omega (arith, e, le)) (omega (arith, e, to, some)) (pages.members n bank from to inside);
      }

  -- the checkpoint isn't there
  cut_still : BeginsIn (up_to log (first + length recs)) first first left.log → PagesFit banks first first (up_to log (first + length recs)) left → StillFits banks log left
  cut_still begins pages = record {
    later = up_to log (first + length recs);
    recovers = record { upto = first + length recs; keeps = inl (cut_keeps log first recs base f) };
    list = cut_list_fits log first recs base f;
    fits = image_fits banks first first (up_to log (first + length recs)) left begins pages;
  }

  -- it may be
  pending_still : BeginsIn (with_checkpoint (up_to log (first + length recs)) (first + length recs)) first first left.log
      → PagesFit banks first first (with_checkpoint (up_to log (first + length recs)) (first + length recs)) left → StillFits banks log left
  pending_still begins pages = record {
    later = with_checkpoint (up_to log (first + length recs)) (first + length recs);
    recovers = record { upto = first + length recs; keeps = inr (checkpoint_keeps log first recs base f (first + length recs) (omega arith)) };
    list = pending_fits log first recs base f;
    fits = image_fits banks first first (with_checkpoint (up_to log (first + length recs)) (first + length recs)) left begins pages;
  }

  -- it is on disk
  settled_still : (kept : ℕ) → BeginsIn (with_checkpoint (up_to log (first + length recs)) (first + length recs + 1)) first kept left.log
      → PagesFit banks first kept (with_checkpoint (up_to log (first + length recs)) (first + length recs + 1)) left → StillFits banks log left
  settled_still kept begins pages = record {
    later = with_checkpoint (up_to log (first + length recs)) (first + length recs + 1);
    recovers = record { upto = first + length recs; keeps = inr (checkpoint_keeps log first recs base f (first + length recs + 1) (omega arith)) };
    list = settled_fits log first recs base f;
    fits = image_fits banks first kept (with_checkpoint (up_to log (first + length recs)) (first + length recs + 1)) left begins pages;
  }

module _ {L P : Type 0} (l : logs.Ghosts L) (p : disks.Ghosts P) (v : L) (old new : PageVolumes P) (found : Found L l) (is : IsFound {g = l} v found) (log' : WalLog L l)
    (told : IsTrue l.tells) (told' : IsTrue p.tells) (reads : l.images v (l.reads v)) (each : (d : P) → p.images d (p.pages d)) (only_now : (d : L) (c : Volume) → l.left_at d (l.moment d) c → l.images d c) (some : 1 ≤ length old.xact.items)
    (offsets_count : length old.offsets.items ≡ length old.xact.items) (members_count : length old.members.items ≡ length old.xact.items)
    (log : KeptLog) (fit : Fit l p log v old.xact.items old.offsets.items old.members.items) where
  abbrev banks : ℕ
  banks = length old.xact.items

  abbrev first : ℕ
  first = log_first found.log

  -- the number past what was found
  abbrev past : ℕ
  past = log_first found.log + length found.recs

  found_there : FoundIn log first found.recs found.base
  found_there = is_found l p v old offsets_count members_count log fit reads each first (log_end found.log) found.recs found.base (is.opens told)

  stands : Located l p log first old
  stands = located l p v old offsets_count members_count log fit reads each first (log_end found.log) found.recs found.base (is.opens told)

  pending_begins : SameCounts old new → (c : Volume) → HasFlushed first (found.recs ++ records.Checkpoint past found.base ∷ []) first past c → BeginsIn (with_checkpoint (up_to log past) past) first first c
  pending_begins count c has =
      let some_found = found_there.some in
      checkpoint_begins l p old new log first found.recs found.base found_there stands each count offsets_count members_count first past c (omega arith) (omega arith) (pending_fits log first found.recs found.base found_there) has

  settled_begins : SameCounts old new → (c : Volume) → HasFlushed first (found.recs ++ records.Checkpoint past found.base ∷ []) past (past + 1) c → BeginsIn (with_checkpoint (up_to log past) (past + 1)) first past c
  settled_begins count c has =
      checkpoint_begins l p old new log first found.recs found.base found_there stands each count offsets_count members_count past (past + 1) c (omega arith) (omega arith) (settled_fits log first found.recs found.base found_there) has

  module _ (result : Result (Unit {0}) RecoverRefusal) (r : Replays p found.recs found.base found.log log' old new result) where
    -- what the log's volume had at a moment
    unmoved_at : log' ≡ found.log → (c : Volume) → WasLeft l.moment l.left_at (log_disk found.log) (log_disk log') c → HasFlushed first found.recs first past c
    unmoved_at same c was =
        let leaves = unmoved found.log log' (ap (λ (z : WalLog L l). log_disk z) same) is.is_open.flushed (only_now (log_disk found.log)) first found.recs (is.keeps told) in
        subst (λ n. HasFlushed first found.recs first n c) is.next (leaves.each was.at c was.from was.upto was.left)

    settles : SettlesThroughout l found.base found.log log'
    settles =
        ⊎_elim
        (λ (same : log' ≡ found.log). settles_unmoved found.base found.log log' (ap (λ (z : WalLog L l). log_disk z) same) is.is_open.flushed (only_now (log_disk found.log)))
        (λ (h : ArePagesRestored p found.recs found.base old new × SettlesThroughout l found.base found.log log'). h.1)
        (r.moments told told').1

    settling_at : (c : Volume) → WasLeft l.moment l.left_at (log_disk found.log) (log_disk log') c → MayHaveSettled first found.recs first past found.base c
    settling_at c was =
        let leaves = settles first found.recs (is.keeps told) in
        subst (λ n. MayHaveSettled first found.recs first n found.base c) is.next (leaves.each was.at c was.from was.upto was.left)

    -- while the log begins as it did
    as_before : (left : Left) → WereAllLeft l p (volumes_of (log_disk found.log) old.xact old.subtrans old.offsets old.members) (volumes_of (log_disk log') new.xact new.subtrans new.offsets new.members) left
        → first_on left.log ≡ first → StillFits banks log left
    as_before left were begins =
        let f = found_there in
        let pages = cut_pages l p old new log first found.recs found.base f stands each r.count offsets_count members_count left
        (steps_at l p old new log first found.recs found.base f stands each r.count offsets_count members_count (r.moments told told').0 left were.states were.offsets were.members) in
        ⊎_elim
        (λ a. cut_still log banks first found.recs found.base f left (cut_begins l p old new log first found.recs found.base f stands each r.count offsets_count members_count first left.log (omega arith) a) pages)
        (λ h. ⊎_elim
        (λ b. pending_still log banks first found.recs found.base f left (pending_begins r.count left.log b) (behind log banks first found.recs found.base f left past (omega arith) pages))
        (λ c. settled_still log banks first found.recs found.base f left first
        (begins_no_later (with_checkpoint (up_to log past) (past + 1)) first past left.log (settled_begins r.count left.log c) begins)
        (behind log banks first found.recs found.base f left (past + 1) (omega arith) pages))
        h)
        (settling_at left.log were.log)

    -- and with the pages as they are left
    as_left : (left : Left) → WasLogLeft l p (volumes_of (log_disk found.log) old.xact old.subtrans old.offsets old.members) (volumes_of (log_disk log') new.xact new.subtrans new.offsets new.members) left → StillFits banks log left
    as_left left was =
        let f = found_there in
        let cut_fits : HasFlushed first found.recs first past left.log → StillFits banks log left = λ a.
        cut_still log banks first found.recs found.base f left (cut_begins l p old new log first found.recs found.base f stands each r.count offsets_count members_count first left.log (omega arith) a)
        (cut_pages l p old new log first found.recs found.base f stands each r.count offsets_count members_count left
        (steps_now l p old new log first found.recs found.base f stands each r.count offsets_count members_count (r.moments told told').0 left was.states was.offsets was.members)) in
        ⊎_elim
        (λ (same : log' ≡ found.log). cut_fits (unmoved_at same left.log was.log))
        (λ (done : ArePagesRestored p found.recs found.base old new × SettlesThroughout l found.base found.log log'). ⊎_elim
        cut_fits
        (λ h. ⊎_elim
        (λ b. pending_still log banks first found.recs found.base f left (pending_begins r.count left.log b)
        (checkpoint_pages l p old new log first found.recs found.base f stands each r.count offsets_count members_count past first (omega arith) (omega arith) done.0 left was.states was.offsets was.members))
        (λ c. settled_still log banks first found.recs found.base f left past (settled_begins r.count left.log c)
        (checkpoint_pages l p old new log first found.recs found.base f stands each r.count offsets_count members_count (past + 1) past (omega arith) (omega arith) done.0 left was.states was.offsets was.members))
        h)
        (settling_at left.log was.log))
        (r.moments told told').1

    pub throughout : FitThroughout l p (volumes_of (log_disk found.log) old.xact old.subtrans old.offsets old.members) (volumes_of (log_disk log') new.xact new.subtrans new.offsets new.members) first log
    throughout = record {
      log_later = (settles first found.recs (is.keeps told)).later;
      states_later = λ bank before now b n. ((r.moments told told').0.xact bank before now b n).each.later;
      offsets_later = λ bank before now b n. ((r.moments told told').0.offsets bank before now b n).each.later;
      members_later = λ bank before now b n. ((r.moments told told').0.members bank before now b n).each.later;
      as_before = as_before;
      as_left = as_left;
    }
