-- From what became of each volume to that all of them fit.
use Rattle.std.proofs.Common.{List, Some, [], ap, append_assoc, arith, inl, inr, length, refl, subst, suc, sym, zero, ℕ, ◌%◌, ◌++◌, ◌+◌, ◌-◌, ◌<◌, ◌∙◌, ◌∷◌, ◌^◌, ◌≡◌, ◌≤◌}
use Rattle.std.specs.List.{slice_get}
use Rattle.disk_core.specs.Pages.{Pages, page_bytes}
use Rattle.disk_core.specs.Volume.{Volume}
use Rattle.disk_core.specs.declared.log_disk.LogDisk as logs
use Rattle.disk_core.specs.declared.page_disk.PageDisk as disks
use Rattle.slru_bank.specs.Crash.{IsStepOf}
use Rattle.store_pages.specs.Layouts.{member_page_of, state_in, word_page_of, xact_page_of, xact_place_of}
use Rattle.tx_events.specs.declared.record.Counters.{Counters}
use Rattle.tx_events.specs.declared.record.Rec.{Rec}
use Rattle.tx_events.specs.declared.record.Rec.TheVariants as records
use Rattle.wal_core.specs.Kept.{HasFlushed}
use Rattle.wal_core.specs.LogViews.{KeepsAll, log_disk, log_first, log_flushed, log_next, log_recs}
use Rattle.wal_core.specs.declared.wal_log.WalLog.{WalLog}
use Rattle.recoverable.specs.Fit.{IsCommitCode, KeptLog, MayBegin, XactFits, base_at, log_end, recs_below}
use Rattle.recoverable.specs.FitMultis.{MembersFit, OffsetsFit}
use Rattle.tx_events.specs.LifeBase.{LifeBase, committed_in}
use Rattle.recoverable.specs.Volumes.{ImageFits, IsNextOf, Left, ListFits, Restored, VolumesFit}
use Rattle.tx_events.specs.Pages.{member_page_in_full}
use Rattle.replay_core.specs.Spans.{member_span, offset_span}
use Rattle.recoverable.specs.XactImages.{code_at}
use Rattle.recoverable.proofs.Checkpoints.{get_past}
use Rattle.std.proofs.lemmas.List.{length-take-le}
use Rattle.std.proofs.Math.Nat.{mod-lt}
use Rattle.replay_multis.specs.declared.share.Share.{Share}
use Rattle.replay_core.specs.Redo.{IsNamed, code_in}
use Rattle.replay_core.specs.Restore.{MayRestore, RestoresAll, bytes_on}
use Rattle.replay_core.specs.Laws.{MapFits, ShowBase, end_base, up_to, with_checkpoint}
use Rattle.replay_core.proofs.Fitting.{fits_within, shows_base}
use Rattle.replay_core.proofs.Phases.{checkpoint_fits, checkpoint_same, cut_fits}
use Rattle.replay_core.specs.Banks.{AreMembersRestored, AreOffsetsRestored, AreRestored, members_become, members_leave, offsets_become, offsets_leave, states_leave}
use Rattle.replay_core.specs.PageVolumes.{ArePagesLeft, ArePagesRestored, SameCounts}
use Rattle.replay_core.specs.declared.volumes.PageVolumes.{PageVolumes}
use Rattle.replay_core.specs.LawsMultis.{ShowMembers, ShowOffsets}
use Rattle.replay_core.proofs.FittingMembers.{fits_within_members, shows_member_base}
use Rattle.replay_core.proofs.FittingOffsets.{fits_within_offsets, shows_offset_base}
use Rattle.replay_core.proofs.LaterMultis.{checkpoint_fits_members, checkpoint_fits_offsets, cut_fits_members, cut_fits_offsets}
use Rattle.replay_multis.specs.declared.offsets.OffsetSpan.{OffsetSpan}
use Rattle.replay_multis.specs.declared.redo_members.MemberSpan.{MemberSpan}
use Rattle.replay_core.specs.Moments.{WereLeft}
use Rattle.replay_core.specs.Opened.{EachHas}
use Rattle.recoverable.specs.Clusters.{AreLeft, IsLeft}
use Rattle.replay_core.specs.Volumes.{LeavesFit, RecoversLog}
use Rattle.replay_core.proofs.Prefixed.{keeps_before}
use Rattle.replay_core.proofs.LaterLogs.{BeginsIn, FoundIn, begins_in, checkpoint_keeps, counters_are, cut_base_is, cut_end_is, cut_keeps, cut_list_fits, cut_split, front, front_place, low, member_span_is, offset_span_is, pending_fits, settled_fits, whole_from, whole_multis}
use Rattle.replay_core.proofs.Rows.{had}
use Rattle.replay_core.proofs.Locating.{Located}

-- an image and a map that has its bytes fit the same
map_fits : (share : Share) (log : KeptLog) (n : ℕ) (c : Pages) → XactFits share.banks share.bank log n c → MapFits share log n (λ q. page_bytes (c q))
map_fits share log n c f = record {
  committed = λ x among from on. f.committed x among from on;
  no_other = record { place = λ x on code. f.no_other.place x on code; here = λ x on from to code. f.no_other.here x on from to code };
}

show_same : (share : Share) (base : LifeBase) (code code' : ℕ → ℕ) → ((x : ℕ) → code' x ≡ code x) → ShowBase share base code → ShowBase share base code'
show_same share base code code' same s = record {
  committed = λ x on among from. same x ∙ s.committed x on among from;
  only = λ x on from to is. s.only x on from to (subst IsCommitCode (same x) is);
  place = λ x on is. s.place x on (subst IsCommitCode (same x) is);
  clean = λ x from to. same x ∙ s.clean x from to;
}

-- each bank of a combination of images fits a log, wherever it begins between two numbers
pub record PagesFit (banks first kept : ℕ) (later : KeptLog) (left : Left) : Type 0 where
  pub states : (n bank : ℕ) → first ≤ n → n ≤ kept → bank < banks → XactFits banks bank later n (left.xact bank)
  pub offsets : (n bank : ℕ) → first ≤ n → n ≤ kept → bank < banks → OffsetsFit banks bank later n (left.offsets bank)
  pub members : (n bank : ℕ) → first ≤ n → n ≤ kept → bank < banks → MembersFit banks bank later n (left.members bank)

pub image_fits : (banks first kept : ℕ) (later : KeptLog) (left : Left) → BeginsIn later first kept left.log → PagesFit banks first kept later left → ImageFits banks later left
image_fits banks first kept later left b pages = record {
  begins = b.number;
  may_begin = b.may_begin;
  opens = b.fits;
  xact = λ bank inside. pages.states b.number bank b.from b.upto inside;
  offsets = λ bank inside. pages.offsets b.number bank b.from b.upto inside;
  members = λ bank inside. pages.members b.number bank b.from b.upto inside;
}

get_some : {P : Type 0} (xs : List P) (n : ℕ) → n < length xs → (x : P) × (slice_get xs n ≡ Some x)
get_some [] n l = absurd (omega arith)
get_some (x ∷ xs) zero l = (x, refl)
get_some (x ∷ xs) (suc n) l = get_some xs n (omega arith)

module _ {L P : Type 0} (l : logs.Ghosts L) (p : disks.Ghosts P) where
  -- ---- behind the start of the log

  module _ (old vols : PageVolumes P) (log : KeptLog) (first : ℕ) (recs : List Rec) (base : Counters) (f : FoundIn log first recs base) (at : Located l p log first old) (each : (d : P) → p.images d (p.pages d)) (count : SameCounts old vols)
      (offsets_count : length old.offsets.items ≡ length old.xact.items) (members_count : length old.members.items ≡ length old.xact.items) where
    cut_states : (bank : ℕ) (disk : P) (c : Pages) → slice_get old.xact.items bank ≡ Some disk → p.images disk c → XactFits (length old.xact.items) bank (up_to log (first + length recs)) first c
    cut_states bank disk c was image = cut_fits (length old.xact.items) bank log (first + length recs) first c f.list.from f.flushed f.upto (omega arith) (at.states bank disk c was image)

    cut_offsets : (bank : ℕ) (disk : P) (c : Pages) → slice_get old.offsets.items bank ≡ Some disk → p.images disk c → OffsetsFit (length old.xact.items) bank (up_to log (first + length recs)) first c
    cut_offsets bank disk c was image = let some = f.some in cut_fits_offsets (length old.xact.items) bank log (first + length recs) first c f.list.from f.flushed f.upto (omega arith) (at.offsets bank disk c was image)

    cut_members : (bank : ℕ) (disk : P) (c : Pages) → slice_get old.members.items bank ≡ Some disk → p.images disk c → MembersFit (length old.xact.items) bank (up_to log (first + length recs)) first c
    cut_members bank disk c was image = let some = f.some in cut_fits_members (length old.xact.items) bank log (first + length recs) first c f.list.from f.flushed f.upto (omega arith) (at.members bank disk c was image)

    cut_map : (bank : ℕ) (disk : P) → slice_get old.xact.items bank ≡ Some disk → MapFits (record { banks = length old.xact.items; bank = bank }) (up_to log (first + length recs)) first (bytes_on p disk)
    cut_map bank disk was = map_fits (record { banks = length old.xact.items; bank = bank }) (up_to log (first + length recs)) first (p.pages disk) (cut_states bank disk (p.pages disk) was (each disk))

    offsets_map : (bank : ℕ) (disk : P) → slice_get old.offsets.items bank ≡ Some disk → OffsetsFit (length old.xact.items) bank (up_to log (first + length recs)) first (λ q. Some (bytes_on p disk q))
    offsets_map bank disk was = let o = cut_offsets bank disk (p.pages disk) was (each disk) in record { recorded = o.recorded; no_other = o.no_other }

    members_map : (bank : ℕ) (disk : P) → slice_get old.members.items bank ≡ Some disk → MembersFit (length old.xact.items) bank (up_to log (first + length recs)) first (λ q. Some (bytes_on p disk q))
    members_map bank disk was = let m = cut_members bank disk (p.pages disk) was (each disk) in record { recorded = m.recorded; no_gap = m.no_gap; tails = m.tails }

    -- while the pages are restored, what becomes of an image fits the log as far as it was found
    states_from : (bank : ℕ) (was : P) (c : Pages) → slice_get old.xact.items bank ≡ Some was → IsStepOf (states_leave (length old.xact.items) recs base bank (bytes_on p was)) (p.images was) c → XactFits (length old.xact.items) bank (up_to log (first + length recs)) first c
    states_from bank was c there step =
        let share : Share = record { banks = length old.xact.items; bank = bank } in
        fits_within share (up_to log (first + length recs)) first recs (bytes_on p was) step.0 c (whole_from log first recs base f) (cut_map bank was there) (cut_states bank was step.0 there step.1)
        (subst (λ (b : Counters). MayRestore (IsNamed share b.oldest (committed_in recs)) b.next (bytes_on p was) step.0 c) (sym (counters_are log first recs base f)) step.2)

    offsets_from : (bank : ℕ) (was : P) (c : Pages) → slice_get old.offsets.items bank ≡ Some was → IsStepOf (offsets_leave (length old.offsets.items) recs (offset_span recs base) bank (bytes_on p was)) (p.images was) c → OffsetsFit (length old.xact.items) bank (up_to log (first + length recs)) first c
    offsets_from bank was c there step =
        fits_within_offsets (record { banks = length old.xact.items; bank = bank }) (up_to log (first + length recs)) first recs (bytes_on p was) step.0 c (whole_multis log first recs base f) (offsets_map bank was there) (cut_offsets bank was step.0 there step.1)
        (subst (λ (s : OffsetSpan). offsets_leave (length old.xact.items) recs s bank (bytes_on p was) step.0 c) (offset_span_is log first recs base f)
        (subst (λ n. offsets_leave n recs (offset_span recs base) bank (bytes_on p was) step.0 c) offsets_count step.2))

    members_from : (bank : ℕ) (was : P) (c : Pages) → slice_get old.members.items bank ≡ Some was → IsStepOf (members_leave (length old.members.items) recs (member_span recs base) bank (bytes_on p was)) (p.images was) c → MembersFit (length old.xact.items) bank (up_to log (first + length recs)) first c
    members_from bank was c there step =
        fits_within_members (record { banks = length old.xact.items; bank = bank }) (up_to log (first + length recs)) first recs (bytes_on p was) step.0 c (whole_multis log first recs base f) (members_map bank was there) (cut_members bank was step.0 there step.1)
        (subst (λ (s : MemberSpan). members_leave (length old.xact.items) recs s bank (bytes_on p was) step.0 c) (member_span_is log first recs base f)
        (subst (λ n. members_leave n recs (member_span recs base) bank (bytes_on p was) step.0 c) members_count step.2))

    -- when they are each image shows the base
    states_shown : AreRestored p recs base old.xact.items vols.xact.items → (bank : ℕ) (now : P) (c : Pages) → slice_get vols.xact.items bank ≡ Some now → p.images now c → ShowBase (record { banks = length old.xact.items; bank = bank }) (end_base (up_to log (first + length recs))) (code_at c)
    states_shown restored bank now c is image =
        let was = had old.xact.items vols.xact.items count.xact bank now is in
        let share : Share = record { banks = length old.xact.items; bank = bank } in
        let r = restored bank was.0 now was.1 is in
        show_same share (end_base (up_to log (first + length recs))) (code_in (bytes_on p now)) (code_at c) (λ x. ap (λ (t : List ℕ). state_in t (xact_place_of x)) (r.1 c image (xact_page_of x)))
        (shows_base share (up_to log (first + length recs)) first recs (bytes_on p was.0) (bytes_on p now) (whole_from log first recs base f) (cut_map bank was.0 was.1)
        (subst (λ (b : Counters). RestoresAll (IsNamed share b.oldest (committed_in recs)) b.next (bytes_on p was.0) (bytes_on p now)) (sym (counters_are log first recs base f)) r.0))

    offsets_shown : AreOffsetsRestored p recs base old.offsets.items vols.offsets.items → (bank : ℕ) (now : P) (c : Pages) → slice_get vols.offsets.items bank ≡ Some now → p.images now c → ShowOffsets (record { banks = length old.xact.items; bank = bank }) (end_base (up_to log (first + length recs))) c
    offsets_shown restored bank now c is image =
        let was = had old.offsets.items vols.offsets.items count.offsets bank now is in
        let r = restored bank was.0 now was.1 is in
        shows_offset_base (record { banks = length old.xact.items; bank = bank }) (up_to log (first + length recs)) first recs (bytes_on p was.0) (bytes_on p now) c (whole_multis log first recs base f) (offsets_map bank was.0 was.1)
        (subst (λ (s : OffsetSpan). offsets_become (length old.xact.items) recs s bank (bytes_on p was.0) (bytes_on p now)) (offset_span_is log first recs base f)
        (subst (λ n. offsets_become n recs (offset_span recs base) bank (bytes_on p was.0) (bytes_on p now)) offsets_count r.0)) (λ q. r.1 c image q)

    members_shown : AreMembersRestored p recs base old.members.items vols.members.items → (bank : ℕ) (now : P) (c : Pages) → slice_get vols.members.items bank ≡ Some now → p.images now c → ShowMembers (record { banks = length old.xact.items; bank = bank }) (end_base (up_to log (first + length recs))) c
    members_shown restored bank now c is image =
        let was = had old.members.items vols.members.items count.members bank now is in
        let r = restored bank was.0 now was.1 is in
        shows_member_base (record { banks = length old.xact.items; bank = bank }) (up_to log (first + length recs)) first recs (bytes_on p was.0) (bytes_on p now) c (whole_multis log first recs base f) (members_map bank was.0 was.1)
        (subst (λ (s : MemberSpan). members_become (length old.xact.items) recs s bank (bytes_on p was.0) (bytes_on p now)) (member_span_is log first recs base f)
        (subst (λ n. members_become n recs (member_span recs base) bank (bytes_on p was.0) (bytes_on p now)) members_count r.0)) (λ q. r.1 c image q)

    -- ---- the volumes fit a later log, where its images begin in it, and the pages fit wherever they may begin

    xact_inside : (bank : ℕ) → bank < length old.xact.items → (d : P) × (slice_get vols.xact.items bank ≡ Some d)
    xact_inside bank inside = let c = count.xact in get_some vols.xact.items bank (omega (arith, inside, c))

    offsets_inside : (bank : ℕ) → bank < length old.xact.items → (d : P) × (slice_get vols.offsets.items bank ≡ Some d)
    offsets_inside bank inside = let c = count.offsets in get_some vols.offsets.items bank (omega (arith, inside, c, offsets_count))

    members_inside : (bank : ℕ) → bank < length old.xact.items → (d : P) × (slice_get vols.members.items bank ≡ Some d)
    members_inside bank inside = let c = count.members in get_some vols.members.items bank (omega (arith, inside, c, members_count))

    volumes_fit : (later : KeptLog) (kept : ℕ) (new : L) → ListFits later → ((v : Volume) → l.images new v → BeginsIn later first kept v)
        → ((left : Left) → IsLeft l p new vols.xact.items vols.offsets.items vols.members.items left → PagesFit (length old.xact.items) first kept later left)
        → VolumesFit (length old.xact.items) later (IsLeft l p new vols.xact.items vols.offsets.items vols.members.items)
    volumes_fit later kept new list begins pages = record { list = list; each = λ left is. image_fits (length old.xact.items) first kept later left (begins left.log is.log_image) (pages left is) }

    pub cut_begins : (kept : ℕ) (v : Volume) → kept ≤ first → HasFlushed first recs kept (first + length recs) v → BeginsIn (up_to log (first + length recs)) first kept v
    cut_begins kept v few has =
        let some = f.some in
        begins_in (up_to log (first + length recs)) (front log first recs base f) recs first kept v (cut_list_fits log first recs base f) (cut_split log first recs base f) (front_place log first recs base f) (omega arith) (omega arith) has

    pub checkpoint_begins : (kept flushed : ℕ) (v : Volume) → kept < flushed → first < flushed → ListFits (with_checkpoint (up_to log (first + length recs)) flushed)
        → HasFlushed first (recs ++ records.Checkpoint (first + length recs) base ∷ []) kept flushed v → BeginsIn (with_checkpoint (up_to log (first + length recs)) flushed) first kept v
    checkpoint_begins kept flushed v under begun list has =
        let same : recs ++ records.Checkpoint (first + length recs) base ∷ [] ≡ recs ++ records.Checkpoint (log_end (up_to log (first + length recs))) (end_base (up_to log (first + length recs))).counters ∷ []
        = λ i. recs ++ records.Checkpoint (sym (cut_end_is log first recs base f) i) (sym (counters_are log first recs base f) i) ∷ [] in
        let split : (with_checkpoint (up_to log (first + length recs)) flushed).recs ≡ front log first recs base f ++ (recs ++ records.Checkpoint (log_end (up_to log (first + length recs))) (end_base (up_to log (first + length recs))).counters ∷ [])
        = ap (λ (t : List Rec). t ++ records.Checkpoint (log_end (up_to log (first + length recs))) (end_base (up_to log (first + length recs))).counters ∷ []) (cut_split log first recs base f)
        ∙ append_assoc (front log first recs base f) recs (records.Checkpoint (log_end (up_to log (first + length recs))) (end_base (up_to log (first + length recs))).counters ∷ []) in
        begins_in (with_checkpoint (up_to log (first + length recs)) flushed) (front log first recs base f) (recs ++ records.Checkpoint (log_end (up_to log (first + length recs))) (end_base (up_to log (first + length recs))).counters ∷ []) first kept v
        list split (front_place log first recs base f) begun under (subst (λ (t : List Rec). HasFlushed first t kept flushed v) same has)

    -- of each bank an image became this on the way
    pub record AreSteps (left : Left) : Type 0 where
      states : (bank : ℕ) → bank < length old.xact.items → (was : P) × (slice_get old.xact.items bank ≡ Some was) × IsStepOf (states_leave (length old.xact.items) recs base bank (bytes_on p was)) (p.images was) (left.xact bank)
      offsets : (bank : ℕ) → bank < length old.xact.items → (was : P) × (slice_get old.offsets.items bank ≡ Some was) × IsStepOf (offsets_leave (length old.offsets.items) recs (offset_span recs base) bank (bytes_on p was)) (p.images was) (left.offsets bank)
      members : (bank : ℕ) → bank < length old.xact.items → (was : P) × (slice_get old.members.items bank ≡ Some was) × IsStepOf (members_leave (length old.members.items) recs (member_span recs base) bank (bytes_on p was)) (p.images was) (left.members bank)

    -- behind the call, and at its moments
    pub steps_now : ArePagesLeft p recs base old vols → (left : Left) → AreLeft l p vols.xact.items left.xact → AreLeft l p vols.offsets.items left.offsets → AreLeft l p vols.members.items left.members → AreSteps left
    steps_now restoring left states offsets members = record {
      states = λ bank inside. let d = xact_inside bank inside in let was = had old.xact.items vols.xact.items count.xact bank d.0 d.1 in (was.0, was.1, (restoring.xact bank was.0 d.0 was.1 d.1).now (left.xact bank) (states bank d.0 d.1));
      offsets = λ bank inside. let d = offsets_inside bank inside in let was = had old.offsets.items vols.offsets.items count.offsets bank d.0 d.1 in (was.0, was.1, (restoring.offsets bank was.0 d.0 was.1 d.1).now (left.offsets bank) (offsets bank d.0 d.1));
      members = λ bank inside. let d = members_inside bank inside in let was = had old.members.items vols.members.items count.members bank d.0 d.1 in (was.0, was.1, (restoring.members bank was.0 d.0 was.1 d.1).now (left.members bank) (members bank d.0 d.1));
    }

    pub steps_at : ArePagesLeft p recs base old vols → (left : Left) → WereLeft l p old.xact.items vols.xact.items left.xact → WereLeft l p old.offsets.items vols.offsets.items left.offsets → WereLeft l p old.members.items vols.members.items left.members → AreSteps left
    steps_at restoring left states offsets members = record {
      states = λ bank inside.
          let d = xact_inside bank inside in let was = had old.xact.items vols.xact.items count.xact bank d.0 d.1 in let w = states bank was.0 d.0 was.1 d.1 in
          (was.0, was.1, (restoring.xact bank was.0 d.0 was.1 d.1).each.each w.at (left.xact bank) w.from w.upto w.left);
      offsets = λ bank inside.
          let d = offsets_inside bank inside in let was = had old.offsets.items vols.offsets.items count.offsets bank d.0 d.1 in let w = offsets bank was.0 d.0 was.1 d.1 in
          (was.0, was.1, (restoring.offsets bank was.0 d.0 was.1 d.1).each.each w.at (left.offsets bank) w.from w.upto w.left);
      members = λ bank inside.
          let d = members_inside bank inside in let was = had old.members.items vols.members.items count.members bank d.0 d.1 in let w = members bank was.0 d.0 was.1 d.1 in
          (was.0, was.1, (restoring.members bank was.0 d.0 was.1 d.1).each.each w.at (left.members bank) w.from w.upto w.left);
    }

    -- the log is as it was found
    pub cut_pages : (left : Left) → AreSteps left → PagesFit (length old.xact.items) first first (up_to log (first + length recs)) left
    cut_pages left steps = record {
      states = λ n bank from to inside. let s = steps.states bank inside in subst (λ z. XactFits (length old.xact.items) bank (up_to log (first + length recs)) z (left.xact bank)) (one n from to) (states_from bank s.0 (left.xact bank) s.1 s.2);
      offsets = λ n bank from to inside. let s = steps.offsets bank inside in subst (λ z. OffsetsFit (length old.xact.items) bank (up_to log (first + length recs)) z (left.offsets bank)) (one n from to) (offsets_from bank s.0 (left.offsets bank) s.1 s.2);
      members = λ n bank from to inside. let s = steps.members bank inside in subst (λ z. MembersFit (length old.xact.items) bank (up_to log (first + length recs)) z (left.members bank)) (one n from to) (members_from bank s.0 (left.members bank) s.1 s.2);
    }
      where
        one : (n : ℕ) → first ≤ n → n ≤ first → first ≡ n
        one n from to = omega arith

    pub cut_volumes : (new : L) → ArePagesLeft p recs base old vols → EachHas first recs first (first + length recs) (l.images new) → VolumesFit (length old.xact.items) (up_to log (first + length recs)) (IsLeft l p new vols.xact.items vols.offsets.items vols.members.items)
    cut_volumes new restoring has = volumes_fit (up_to log (first + length recs)) first new (cut_list_fits log first recs base f) (λ v image. cut_begins first v (omega arith) (has v image))
        (λ left is. cut_pages left (steps_now restoring left is.states is.offsets_are is.members_are))

    pub checkpoint_pages : (flushed kept : ℕ) → first + length recs ≤ flushed → kept ≤ first + length recs → ArePagesRestored p recs base old vols → (left : Left) → AreLeft l p vols.xact.items left.xact → AreLeft l p vols.offsets.items left.offsets → AreLeft l p vols.members.items left.members
        → PagesFit (length old.xact.items) first kept (with_checkpoint (up_to log (first + length recs)) flushed) left
    checkpoint_pages flushed kept at_least few restored left states offsets members =
        let e = cut_end_is log first recs base f in
        record {
          states = λ n bank from to inside. let d = xact_inside bank inside in
              checkpoint_fits (record { banks = length old.xact.items; bank = bank }) (up_to log (first + length recs)) flushed n (left.xact bank) (omega (arith, e, at_least)) (omega (arith, e, to, few)) (states_shown restored.xact bank d.0 (left.xact bank) d.1 (states bank d.0 d.1));
          offsets = λ n bank from to inside. let d = offsets_inside bank inside in
              checkpoint_fits_offsets (record { banks = length old.xact.items; bank = bank }) (up_to log (first + length recs)) flushed n (left.offsets bank) (omega (arith, e, at_least)) (omega (arith, e, to, few)) (offsets_shown restored.offsets bank d.0 (left.offsets bank) d.1 (offsets bank d.0 d.1));
          members = λ n bank from to inside. let d = members_inside bank inside in
              checkpoint_fits_members (record { banks = length old.xact.items; bank = bank }) (up_to log (first + length recs)) flushed n (left.members bank) (omega (arith, e, at_least)) (omega (arith, e, to, few)) (members_shown restored.members bank d.0 (left.members bank) d.1 (members bank d.0 d.1));
        }

    -- the checkpoint may stand behind it
    pub pending_volumes : (new : L) → ArePagesRestored p recs base old vols → EachHas first (recs ++ records.Checkpoint (first + length recs) base ∷ []) first (first + length recs) (l.images new)
        → VolumesFit (length old.xact.items) (with_checkpoint (up_to log (first + length recs)) (first + length recs)) (IsLeft l p new vols.xact.items vols.offsets.items vols.members.items)
    pending_volumes new restored has =
        let some = f.some in
        volumes_fit (with_checkpoint (up_to log (first + length recs)) (first + length recs)) first new (pending_fits log first recs base f)
        (λ v image. checkpoint_begins first (first + length recs) v (omega arith) (omega arith) (pending_fits log first recs base f) (has v image))
        (λ left is. checkpoint_pages (first + length recs) first (omega arith) (omega arith) restored left is.states is.offsets_are is.members_are)

    -- it is on disk
    pub settled_volumes : (new : L) → ArePagesRestored p recs base old vols → EachHas first (recs ++ records.Checkpoint (first + length recs) base ∷ []) (first + length recs) (first + length recs + 1) (l.images new)
        → VolumesFit (length old.xact.items) (with_checkpoint (up_to log (first + length recs)) (first + length recs + 1)) (IsLeft l p new vols.xact.items vols.offsets.items vols.members.items)
    settled_volumes new restored has = volumes_fit (with_checkpoint (up_to log (first + length recs)) (first + length recs + 1)) (first + length recs) new (settled_fits log first recs base f)
        (λ v image. checkpoint_begins (first + length recs) (first + length recs + 1) v (omega arith) (omega arith) (settled_fits log first recs base f) (has v image))
        (λ left is. checkpoint_pages (first + length recs + 1) (first + length recs) (omega arith) (omega arith) restored left is.states is.offsets_are is.members_are)

    -- ---- the answers

    pub not_recovered_cut : (new : L) → ArePagesLeft p recs base old vols → EachHas first recs first (first + length recs) (l.images new) → LeavesFit l p old.xact.items new vols.xact.items vols.offsets.items vols.members.items log
    not_recovered_cut new restoring has = record {
      later = up_to log (first + length recs);
      recovers = record { upto = first + length recs; keeps = inl (cut_keeps log first recs base f) };
      fits = cut_volumes new restoring has;
    }

    pub not_recovered_pending : (new : L) → ArePagesRestored p recs base old vols → EachHas first (recs ++ records.Checkpoint (first + length recs) base ∷ []) first (first + length recs) (l.images new) → LeavesFit l p old.xact.items new vols.xact.items vols.offsets.items vols.members.items log
    not_recovered_pending new restored has = record {
      later = with_checkpoint (up_to log (first + length recs)) (first + length recs);
      recovers = record { upto = first + length recs; keeps = inr (checkpoint_keeps log first recs base f (first + length recs) (omega arith)) };
      fits = pending_volumes new restored has;
    }

    pub not_recovered_settled : (new : L) → ArePagesRestored p recs base old vols → EachHas first (recs ++ records.Checkpoint (first + length recs) base ∷ []) (first + length recs) (first + length recs + 1) (l.images new) → LeavesFit l p old.xact.items new vols.xact.items vols.offsets.items vols.members.items log
    not_recovered_settled new restored has = record {
      later = with_checkpoint (up_to log (first + length recs)) (first + length recs + 1);
      recovers = record { upto = first + length recs; keeps = inr (checkpoint_keeps log first recs base f (first + length recs + 1) (omega arith)) };
      fits = settled_volumes new restored has;
    }

    -- the log may begin at its checkpoint
    begins_settled : MayBegin (with_checkpoint (up_to log (first + length recs)) (first + length recs + 1)) (first + length recs)
    begins_settled =
        let e = cut_end_is log first recs base f in
        let a = low log first recs base f in
        let b = f.upto in
        let long : length (recs_below log (first + length recs)) ≡ first + length recs - log.first = length-take-le (first + length recs - log.first) log.recs (omega arith) in
        let place : first + length recs - log.first ≡ length (recs_below log (first + length recs)) + 0 = omega arith in
        record {
          from = a;
          flushed = omega arith;
          counters = (end_base (up_to log (first + length recs))).counters;
          checkpoint = ap (slice_get (with_checkpoint (up_to log (first + length recs)) (first + length recs + 1)).recs) place
              ∙ get_past (recs_below log (first + length recs)) (records.Checkpoint (log_end (up_to log (first + length recs))) (end_base (up_to log (first + length recs))).counters ∷ []) 0
              ∙ (λ i. Some (records.Checkpoint (e i) (end_base (up_to log (first + length recs))).counters));
          whole = ap (λ (z : LifeBase). z.counters) (checkpoint_same (up_to log (first + length recs)) (first + length recs + 1) (first + length recs + 1) (omega arith));
        }

    restored_left : (new : L) → ArePagesRestored p recs base old vols → 1 ≤ length old.xact.items → (left : Left) → IsLeft l p new vols.xact.items vols.offsets.items vols.members.items left
        → Restored (length old.xact.items) (with_checkpoint (up_to log (first + length recs)) (first + length recs + 1)) (first + length recs) (base_at log (first + length recs)).counters left
    restored_left new restored some left is =
        let pages = checkpoint_pages (first + length recs + 1) (first + length recs) (omega arith) (omega arith) restored left is.states is.offsets_are is.members_are in
        let same : (end_base (up_to log (first + length recs))).counters ≡ (base_at log (first + length recs)).counters = ap (λ (z : LifeBase). z.counters) (cut_base_is log first recs base f) in
        record {
          may_begin = begins_settled;
          xact = λ bank inside. pages.states (first + length recs) bank (omega arith) (omega arith) inside;
          offsets = λ bank inside. pages.offsets (first + length recs) bank (omega arith) (omega arith) inside;
          members = λ bank inside. pages.members (first + length recs) bank (omega arith) (omega arith) inside;
          no_state = λ x next.
              let d = xact_inside (xact_page_of x % length old.xact.items) (mod_inside (xact_page_of x)) in
              (states_shown restored.xact (xact_page_of x % length old.xact.items) d.0 (left.xact (xact_page_of x % length old.xact.items)) d.1 (is.states (xact_page_of x % length old.xact.items) d.0 d.1)).clean x (subst (λ (z : Counters). z.next ≤ x) (sym same) next.0) (subst (λ (z : Counters). x < z.next + 2 ^ 30) (sym same) next.1);
          no_offset = λ x next.
              let d = offsets_inside (word_page_of x % length old.xact.items) (mod_inside (word_page_of x)) in
              (offsets_shown restored.offsets (word_page_of x % length old.xact.items) d.0 (left.offsets (word_page_of x % length old.xact.items)) d.1 (is.offsets_are (word_page_of x % length old.xact.items) d.0 d.1)).clean x refl (subst (λ (z : Counters). IsNextOf z.multi x) (sym same) next);
          no_member = λ x next.
              let d = members_inside (member_page_of x % length old.xact.items) (mod_inside (member_page_of x)) in
              (members_shown restored.members (member_page_of x % length old.xact.items) d.0 (left.members (member_page_of x % length old.xact.items)) d.1 (is.members_are (member_page_of x % length old.xact.items) d.0 d.1)).clean x refl (subst (λ (z : Counters). IsNextOf z.offset x) (sym same) next);
          no_mode = λ x next behind.
              let d = members_inside (member_page_of x % length old.xact.items) (mod_inside (member_page_of x)) in
              (members_shown restored.members (member_page_of x % length old.xact.items) d.0 (left.members (member_page_of x % length old.xact.items)) d.1 (is.members_are (member_page_of x % length old.xact.items) d.0 d.1)).no_mode x refl
              (subst (λ (z : Counters). IsNextOf z.offset x) (sym same) next) (subst (λ (z : Counters). member_page_in_full z.offset < member_page_in_full x) (sym same) behind);
        }
      where
        mod_inside : (q : ℕ) → q % length old.xact.items < length old.xact.items
        mod_inside q = mod-lt q {m = length old.xact.items} some

    -- the list that a later recovery goes by: what was before, what was found, and the checkpoint
    listed : front log first recs base f ++ (recs ++ records.Checkpoint (first + length recs) base ∷ []) ≡ (with_checkpoint (up_to log (first + length recs)) (first + length recs + 1)).recs
    listed =
        let check : Rec = records.Checkpoint (log_end (up_to log (first + length recs))) (end_base (up_to log (first + length recs))).counters in
        ap (λ (t : List Rec). front log first recs base f ++ t) (λ i. recs ++ records.Checkpoint (sym (cut_end_is log first recs base f) i) (sym (counters_are log first recs base f) i) ∷ [])
        ∙ (sym (append_assoc (front log first recs base f) recs (check ∷ [])) ∙ ap (λ (t : List Rec). t ++ check ∷ []) (sym (cut_split log first recs base f)))

    pub is_recovered : (was : L) (log' : WalLog L l) → ArePagesRestored p recs base old vols → 1 ≤ length old.xact.items → EachHas first (recs ++ records.Checkpoint (first + length recs) base ∷ []) (first + length recs) (first + length recs + 1) (l.images (log_disk log'))
        → first < log_flushed log' → KeepsAll first (recs ++ records.Checkpoint (first + length recs) base ∷ []) l.images log' → RecoversLog l p was old.xact.items log' vols.xact.items vols.offsets.items vols.members.items (first + length recs) base log
    is_recovered was log' restored some has past keeps = (
      record {
        base = base_at log (first + length recs);
        counters_are = sym f.counters;
        recovered = record {
          same = refl;
          later = with_checkpoint (up_to log (first + length recs)) (first + length recs + 1);
          keeps = checkpoint_keeps log first recs base f (first + length recs + 1) (omega arith);
          flushed = omega arith;
          fits = settled_volumes (log_disk log') restored has;
          restored = restored_left (log_disk log') restored some;
        };
      },
      subst (λ (t : List Rec). KeepsAll log.first t l.images log') listed
          (keeps_before (front log first recs base f) (recs ++ records.Checkpoint (first + length recs) base ∷ []) log.first first (front_place log first recs base f) (log_first log') (log_flushed log') past (log_recs log') (log_next log') (l.images (log_disk log')) keeps),
    )
