-- A life's log at its end.
use Rattle.std.proofs.Common.{List, ap, append-nil, arith, length, length-append, sym, ℕ, ◌+◌, ◌++◌, ◌-◌, ◌∙◌, ◌≡◌}
use Rattle.std.proofs.lemmas.List.{length-map, take-append-le}
use Rattle.notes.specs.Lists.{at}
use Rattle.tx_events.specs.After.{after_records}
use Rattle.tx_events.specs.declared.event.By.{By}
use Rattle.tx_events.specs.declared.record.Rec.{Rec}
use Rattle.tx_core.specs.declared.entry.Entry.{Entry}
use Rattle.tx_core.specs.Entries.{recs_in, records_of}
use Rattle.tx_core.specs.Locks.{log_lock}
use Rattle.tx_core.proofs.LogLaws.{flushes_rise}
use Rattle.recoverable.specs.LogSteps.{LogEnds}
use Rattle.recoverable.proofs.LogSteps.{get_front}

pub log_ends : LogEnds
log_ends start lists log kept begun =
    let es : List Entry = at lists log_lock in
    let last = flushes_rise start lists kept in
    let from = begun.from in
    let own : log.recs ≡ begun.before = begun.recs ∙ append-nil begun.before in
    let long : length log.recs ≡ length begun.before = ap (λ (t : List Rec). length t) own in
    let size : length (recs_in es) ≡ length (records_of lists) = length-map (records_of lists) (λ (r : By × Rec). r.1) in
    let all : length (log.recs ++ recs_in es) ≡ length log.recs + length (recs_in es) = length-append log.recs (recs_in es) in
    record {
      before = begun.before;
      recs = ap (λ (t : List Rec). t ++ recs_in es) own;
      from = begun.from;
      base = begun.base;
      some = begun.some;
      whole = λ n first low counters stands.
          let here = sym (get_front log.recs (recs_in es) (n - log.first) (omega (arith, long, from, first, low))) ∙ stands in
          ap (λ (t : List Rec). after_records log.base.counters t) (take-append-le (n + 1 - log.first) log.recs (recs_in es) (omega (arith, long, from, first, low))) ∙ begun.whole n first low counters here;
      below = begun.below;
      begun = last.from;
      upto = (let within = last.within in omega (arith, within, size, all, long, from));
      flushed = last.greatest;
    }
