-- The log's volume holds the records of a life.
use Rattle.std.proofs.Common.{IsTrue, List, None, Option, Result, Ok, Err, Some, [], ap, arith, drop, inl, inr, length, length-append, refl, suc, sym, ℕ, ⊎_elim, ◌++◌, ◌+◌, ◌-◌, ◌<◌, ◌∙◌, ◌∷◌, ◌≡◌, ◌≤◌}
use Rattle.std.proofs.Math.Seq.{drop-append_seam}
use Rattle.std.proofs.lemmas.List.{drop-append-le, length-drop}
use Rattle.std.specs.List.{slice_get}
use Rattle.disk_core.specs.declared.log_disk.LogDisk as logs
use Rattle.disk_core.specs.Volume.{Volume}
use Rattle.tx_events.specs.declared.record.Counters.{Counters}
use Rattle.tx_events.specs.declared.record.Rec.{Rec}
use Rattle.tx_events.specs.declared.record.Rec.TheVariants as records
use Rattle.tx_events.proofs.ListSteps.{le_or_over}
use Rattle.tx_model.specs.declared.report.Life.{Life}
use Rattle.tx_core.specs.declared.entry.Entry.{Entry}
use Rattle.tx_core.specs.declared.entry.Start.{Start}
use Rattle.tx_core.specs.Entries.{recs_in}
use Rattle.wal_core.specs.declared.checkpoint.LastCheckpoint.{LastCheckpoint}
use Rattle.wal_core.specs.Kept.{HasFlushed, HasRecords, IsStretch, OpensToRecords}
use Rattle.wal_core.specs.Log.{history_in}
use Rattle.wal_core.specs.Opening.{History, Opened, opened}
use Rattle.recoverable.proofs.Checkpoints.{get_past}
use Rattle.recoverable.proofs.Opened.{first_is, history_comes}
use Rattle.engine_parts.specs.LogTail.{LogTail}
use Rattle.engine_parts.specs.Stand.{LogStands}
use Rattle.session_run.specs.Records.{HoldsRecords, LogHolds}

drop_past : (xs ys : List Rec) (k : ℕ) → drop (length xs + k) (xs ++ ys) ≡ drop k ys
drop_past [] ys k = let same : 0 + k ≡ k = omega arith in ap (λ n. drop n ys) same
drop_past (x ∷ xs) ys k = let next : suc (length xs) + k ≡ suc (length xs + k) = omega arith in ap (λ n. drop n (x ∷ (xs ++ ys))) next ∙ drop_past xs ys k

-- a list that ends with the life's records
module _ (life : Life) (number : ℕ) (all earlier : List Rec) (whole : all ≡ earlier ++ life.recs) (place : number + length earlier ≡ life.from) (begun : life.from < life.flushed) where
  module _ (c : Volume) (h : History) (gate : ℕ) (opens : opened c ≡ Ok (record { history = Some h; gate = gate })) (s : IsStretch number all h.first h.recs) (flushed : life.flushed ≤ h.first + length h.recs) where
    -- from one that isn't past the life's first one on
    with_older : h.first ≤ life.from → HoldsRecords life c
    with_older low =
        let at = s.place in
        let short : length s.before ≤ length earlier = omega (arith, at, low, place) in
        let rest = length-drop (length s.before) earlier in
        record {
          history = h;
          older = drop (length s.before) earlier;
          forgotten = 0;
          unwritten = s.after;
          opens = ap history_in opens;
          first = omega (arith, at, place, short, rest);
          split =
              sym (drop-append-le (length s.before) earlier life.recs short)
              ∙ (ap (λ (t : List Rec). drop (length s.before) t) (sym whole ∙ s.split) ∙ drop-append_seam s.before (h.recs ++ s.after));
          whole = inl refl;
          flushed = flushed;
        }

    -- or from a later one on, a checkpoint, as is the first record of each volume that opens
    with_forgotten : life.from < h.first → HoldsRecords life c
    with_forgotten past =
        let at = s.place in
        let forgotten = h.first - life.from in
        let size : length s.before ≡ length earlier + forgotten = omega (arith, at, place, past) in
        let first = first_is h.recs h.first (history_comes c h gate opens).0 in
        let number_is : h.first ≡ life.from + forgotten = omega (arith, past) in
        let seam : length s.before ≡ length s.before + 0 = omega arith in
        let stands : slice_get life.recs forgotten ≡ Some (records.Checkpoint h.first first.0)
        = sym (get_past earlier life.recs forgotten)
        ∙ ap (λ (t : List Rec). slice_get t (length earlier + forgotten)) (sym whole ∙ s.split)
        ∙ ap (λ n. slice_get (s.before ++ (h.recs ++ s.after)) n) (sym size ∙ seam)
        ∙ get_past s.before (h.recs ++ s.after) 0
        ∙ ap (λ (t : List Rec). slice_get (t ++ s.after) 0) first.2 in
        record {
          history = h;
          older = [];
          forgotten = forgotten;
          unwritten = s.after;
          opens = ap history_in opens;
          first = omega (arith, past);
          split =
              sym (drop_past earlier life.recs forgotten)
              ∙ ap (λ (t : List Rec). drop (length earlier + forgotten) t) (sym whole ∙ s.split)
              ∙ ap (λ n. drop n (s.before ++ (h.recs ++ s.after))) (sym size)
              ∙ drop-append_seam s.before (h.recs ++ s.after);
          whole = inr (refl, first.0, stands ∙ ap (λ n. Some (records.Checkpoint n first.0)) number_is);
          flushed = flushed;
        }

  -- a volume that opens to records of it opens to those of the life
  opens_to_life : (kept : ℕ) (c : Volume) → HasFlushed number all kept life.flushed c → HoldsRecords life c
  opens_to_life kept c has = by_result (opened c) refl has.opens
    where
      by_history : (h : Option History) (gate : ℕ) → opened c ≡ Ok (record { history = h; gate = gate }) → HasRecords number all kept life.flushed h → HoldsRecords life c
      by_history None gate e k = absurd (let a = k.0 in omega (arith, a, begun, place))
      by_history (Some h) gate e k = ⊎_elim (with_older c h gate e k.0 k.1.1) (with_forgotten c h gate e k.0 k.1.1) (le_or_over h.first life.from)

      by_result : (r : Result Opened ℕ) → opened c ≡ r → OpensToRecords number all kept life.flushed r → HoldsRecords life c
      by_result (Ok o) e k = by_history o.history o.gate e k
      by_result (Err at) e k = absurd k

-- the log of a life stands for its list: so its volume, which is one of its images
pub log_holds : {L : Type 0} (l : logs.Ghosts L) (log : L) (life : Life) (start : Start) (first : Rec) (es : List Entry) (faults next kept : ℕ)
    (counters : Option Counters) (down : Option ℕ) (checkpoint : Option LastCheckpoint) (tail : LogTail) → start.from ≡ life.from + 1 → start.logged ≡ first ∷ []
    → LogStands start l.tells faults (l.images log) life.recs next kept life.flushed counters down checkpoint tail es
    → life.from < life.flushed → IsTrue l.tells → l.images log (l.reads log) → LogHolds l life log
log_holds l log life start first es faults next kept counters down checkpoint tail from logged stands begun tells now =
    let k = stands.kept tells in
    let own = k.2 in
    let size : length life.recs ≡ length (first ∷ recs_in es) = ap (λ (t : List Rec). length t) (stands.recs_are ∙ ap (λ (t : List Rec). t ++ recs_in es) logged) in
    let sum : length (k.1 ++ recs_in es) ≡ length own.earlier + length life.recs = ap (λ (t : List Rec). length t) own.whole ∙ length-append own.earlier life.recs in
    let place : k.0 + length own.earlier ≡ life.from = (let count = own.count in let to = stands.next_is in omega (arith, count, to, from, size, sum)) in
    let each : (c : Volume) → l.images log c → HoldsRecords life c = λ c image.
    opens_to_life life k.0 (k.1 ++ recs_in es) own.earlier own.whole place begun kept c (own.each c image) in
    record { reads = each (l.reads log) now; crashed = each }
