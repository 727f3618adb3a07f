-- The log of a life before its first entry.
use Rattle.std.proofs.Common.{IfOk, IsSome, List, Ok, Result, Some, [], ap, append-nil, append_assoc, arith, drop, inl, length, subst, sym, take, ℕ, ◌++◌, ◌+◌, ◌-◌, ◌<◌, ◌∙◌, ◌≡◌}
use Rattle.std.proofs.Math.Seq.{take-length}
use Rattle.std.proofs.lemmas.List.{length-take-le, take-append-drop}
use Rattle.disk_core.specs.Volume.{Volume}
use Rattle.tx_core.specs.declared.entry.Kind.TheVariants as kinds
use Rattle.tx_core.specs.declared.entry.Start.{Start}
use Rattle.tx_events.proofs.Membership.{contains_has}
use Rattle.tx_events.specs.declared.record.Rec.{Rec}
use Rattle.wal_core.specs.Kept.{IsStretch, OpensToRecords}
use Rattle.wal_core.specs.Opening.{History, Opened, next_number, opened}
use Rattle.recoverable.specs.Fit.{KeptLog, MayBegin, log_end, recs_below}
use Rattle.recoverable.specs.Laws.{LogOf, life_base}
use Rattle.tx_events.specs.LifeBase.{base_after}
use Rattle.recoverable.specs.Volumes.{EndsSettled, ImageFits, Left, ListFits, LogFits}
use Rattle.recoverable.specs.Whole.{LogBegins, LogImage}

-- a volume that fits opens to a stretch of the log's records
stretch : (log : KeptLog) (n : ℕ) (v : Volume) (fits : LogFits log n v) → IsStretch log.first log.recs fits.history.first fits.history.recs
stretch log n v fits =
    let h : History = fits.history in
    let first = fits.first in let from = fits.from in let upto = fits.upto in
    let j : ℕ = n - log.first in
    let below : List Rec = recs_below log (next_number h) in
    let rest : List Rec = drop (next_number h - log.first) log.recs in
    let long : length below ≡ next_number h - log.first = length-take-le (next_number h - log.first) log.recs (omega arith) in
    let own : below ≡ take j below ++ h.recs = sym (take-append-drop j below) ∙ ap (λ (t : List Rec). take j below ++ t) (sym fits.recs) in
    let before : length (take j below) ≡ j = length-take-le j below (omega arith) in
    record {
      before = take j below;
      after = rest;
      split = sym (take-append-drop (next_number h - log.first) log.recs) ∙ ap (λ (t : List Rec). t ++ rest) own ∙ append_assoc (take j below) h.recs rest;
      place = omega arith;
    }

abbrev opened_as_history : History → ℕ → Result Opened ℕ
opened_as_history h gate = Ok (record { history = Some h; gate = gate })

log_of : (start : Start) (log : KeptLog) (from : ℕ) → start.from ≡ from + 1 → MayBegin log from → ListFits log → EndsSettled log from (life_base start) → LogOf start [] log
log_of start log from next may list settled =
    let first = may.from in let end = settled.end in let past = settled.flushed in
    let count : log_end log - log.first ≡ length log.recs = omega arith in
    let all : recs_below log (log_end log) ≡ log.recs = ap (λ j. take j log.recs) count ∙ take-length log.recs in
    record {
      before = log.recs;
      recs = sym (append-nil log.recs);
      from = omega arith;
      base = sym (ap (base_after log.base) all) ∙ settled.kept (log_end log) list.upto (omega arith);
      some = omega arith;
      whole = λ n first lt. list.whole n first;
      below = list.below;
      begun = omega arith;
      upto = list.upto;
      flushed = λ to stands. absurd (contains_has [] (record { by = stands.0; kind = kinds.Flush to }) stands.1);
    }

log_image : (start : Start) (log : KeptLog) (from : ℕ) (left : Left) → start.from ≡ from + 1 → MayBegin log from → ListFits log → EndsSettled log from (life_base start) → ImageFits start.banks log left → LogImage start [] log left.log
log_image start log from left next may list settled fits =
    let o : LogFits log fits.begins left.log = fits.opens in
    let end = settled.end in let upto = list.upto in let low = fits.may_begin.flushed in let first = o.first in let begun = may.from in
    let opens : opened left.log ≡ opened_as_history o.history o.gate = o.opens in
    record {
      kept = from;
      opens = record {
        opens = subst (λ (r : Result Opened ℕ). OpensToRecords log.first log.recs from log.flushed r) (sym opens) (stretch log fits.begins left.log o, (omega arith, o.flushed));
        ends = subst (λ (r : Result Opened ℕ). IfOk r (λ o. IsSome o.history → o.gate < length left.log.bytes)) (sym opens) (λ some. o.within);
      };
      forgotten = inl (omega arith);
    }

pub log_begins : LogBegins
log_begins start log from left next may list settled fits = (log_of start log from next may list settled, log_image start log from left next may list settled fits)
