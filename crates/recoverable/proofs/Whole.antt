-- The volumes fit.
use Rattle.std.proofs.Common.{List, None, Ok, Err, Option, Result, Some, arith, refl, ℕ, ⊎_elim, ◌<◌, ◌∙◌, ◌≡◌, ◌≤◌}
use Rattle.disk_core.specs.Pages.{Pages}
use Rattle.disk_core.specs.Volume.{Volume}
use Rattle.wal_core.specs.Kept.{HasFlushed, IsStretch, OpensToRecords}
use Rattle.wal_core.specs.Opening.{History, Opened, next_number, opened}
use Rattle.tx_events.proofs.ListSteps.{le_or_over}
use Rattle.notes.specs.Lists.{at}
use Rattle.tx_core.specs.declared.entry.Entry.{Entry}
use Rattle.tx_core.specs.declared.entry.Start.{Start}
use Rattle.tx_core.specs.EngineInvariant.{EngineInvariant}
use Rattle.tx_core.specs.Locks.{log_lock}
use Rattle.recoverable.specs.Fit.{KeptLog, MayBegin}
use Rattle.recoverable.specs.Laws.{LogFollows}
use Rattle.recoverable.specs.Whole.{ImageFitsLaw, LogImage, VolumesFitLaw}
use Rattle.recoverable.proofs.Checkpoints.{may_begin, whole_in}
use Rattle.recoverable.proofs.Earlier.{members_earlier, offsets_earlier, xact_earlier}
use Rattle.recoverable.proofs.FitsXact.{fits_xact}
use Rattle.recoverable.proofs.LifeBases.{list_fits}
use Rattle.recoverable.proofs.MembersFit.{members_fit}
use Rattle.recoverable.proofs.OffsetsNone.{offsets_fit}
use Rattle.recoverable.proofs.Opened.{first_is, first_stands, history_comes, log_opens}

-- an image of the log opens to records from the first one on
record Opens (log : KeptLog) (kept : ℕ) (v : Volume) : Type 0 where
  history : History
  gate : ℕ
  opens : opened v ≡ Ok (record { history = Some history; gate = gate })
  stretch : IsStretch log.first log.recs history.first history.recs
  upto : history.first ≤ kept
  flushed : log.flushed ≤ next_number history

opens_to : (log : KeptLog) (kept : ℕ) (v : Volume) → log.first < log.flushed → HasFlushed log.first log.recs kept log.flushed v → Opens log kept v
opens_to log kept v begun has = with_history (opened v) refl has.opens
  where
    past : (o : Opened) (h : Option History) → o.history ≡ h → opened v ≡ Ok o → OpensToRecords log.first log.recs kept log.flushed (Ok (record { history = h; gate = o.gate })) → Opens log kept v
    past o None q e r = let low = r.0 in absurd (omega arith)
    past o (Some h) q e r = record {
      history = h;
      gate = o.gate;
      opens = e ∙ (λ i. Ok (record { history = q i; gate = o.gate }));
      stretch = r.0;
      upto = r.1.0;
      flushed = r.1.1;
    }

    with_history : (r : Result Opened ℕ) → opened v ≡ r → OpensToRecords log.first log.recs kept log.flushed r → Opens log kept v
    with_history (Err at) e r = absurd r
    with_history (Ok o) e r = past o o.history refl e r

module _ (start : Start) (lists : List (List Entry)) (log : KeptLog) (v : Volume) (k : EngineInvariant start lists) (f : LogFollows start lists log) (image : LogImage start (at lists log_lock) log v) where
  -- what was to be forgotten is on disk
  flushed_past : start.from ≤ image.kept → image.kept < log.flushed
  flushed_past le = ⊎_elim (λ (lt : image.kept < start.from). absurd (omega arith)) (λ h. (may_begin start lists log image.kept k f h).flushed) image.forgotten

  -- an image begins where the log may
  begins : (o : Opens log image.kept v) → MayBegin log o.history.first
  begins o =
      let n : ℕ = o.history.first in
      let upto = o.upto in let begun = f.begun in
      let first = first_is o.history.recs n (history_comes v o.history o.gate o.opens).0 in
      let stands = first_stands log o.history o.stretch first.0 first.1 first.2 in
      let low : log.first ≤ n = let p = o.stretch.place in omega arith in
      record {
        from = low;
        flushed = ⊎_elim (λ (le : start.from ≤ n). let past = flushed_past (omega arith) in omega arith) (λ (lt : n < start.from). omega arith) (le_or_over start.from n);
        counters = first.0;
        checkpoint = stands;
        whole = whole_in start lists log n k f low first.0 stands;
      }

pub image_fits : ImageFitsLaw
image_fits start lists log left k right short f follows =
    let image = follows.log_image in
    let some = f.some in let flushed = f.begun in
    let o = opens_to log image.kept left.log (omega arith) image.opens in
    let may = begins start lists log left.log k f image o in
    let base = right.base.counters in
    record {
      begins = o.history.first;
      may_begin = may;
      opens = log_opens log o.history o.stretch o.gate left.log o.opens image.opens.ends o.flushed may;
      xact = λ bank inside.
          let is = follows.states bank inside in
          xact_earlier start.banks bank log o.history.first image.kept (left.xact bank) o.upto
          (fits_xact start lists is.shown log bank image.kept (left.xact bank) k is.clean f image.forgotten short.ids inside is.follows);
      offsets = λ bank inside.
          let is = follows.offsets_are bank inside in
          offsets_earlier start.banks bank log o.history.first image.kept (left.offsets bank) o.upto
          (offsets_fit start lists is.shown log bank image.kept (left.offsets bank) k base is.clean f image.forgotten short.multis inside is.follows);
      members = λ bank inside.
          let is = follows.members_are bank inside in
          members_earlier start.banks bank log o.history.first image.kept (left.members bank) o.upto
          (members_fit start lists is.shown log bank image.kept (left.members bank) k base right.told is.clean f image.forgotten short.multis inside is.follows is.tails);
    }

pub volumes_fit : {L P : Type 0} (log_images : L → Volume → Type 0) (images : P → Pages → Type 0) → VolumesFitLaw log_images images
volumes_fit log_images images start lists log disks k right short f each = record {
  list = list_fits start lists log k right.told right.full right.base f;
  each = λ left of. image_fits start lists log left k right short f (each left of);
}
