-- One entry more of the log's list: what becomes of its log. And what it is at a life's end.
use Rattle.std.specs.Prelude.{◌≡◌, ℕ, ◌≤◌, List, [], ◌∷◌, ◌++◌, None}
use Rattle.tx_events.specs.declared.event.By.{By}
use Rattle.tx_events.specs.declared.record.Rec.{Rec}
use Rattle.tx_core.specs.declared.entry.Entry.{Entry}
use Rattle.tx_core.specs.declared.entry.Kind.TheVariants as kinds
use Rattle.tx_core.specs.declared.entry.LogCall.TheVariants as calls
use Rattle.tx_core.specs.declared.entry.Start.{Start}
use Rattle.notes.specs.Lists.{at}
use Rattle.tx_core.specs.EngineInvariant.{EngineInvariant}
use Rattle.tx_core.specs.Entries.{appended, flushed_to, recs_in}
use Rattle.tx_core.specs.Locks.{log_lock}
use Rattle.recoverable.specs.Fit.{KeptLog, log_end}
use Rattle.recoverable.specs.Laws.{IsBeginningOf, LogFollows, LogOf}

-- with a record more, and on disk up to a number
abbrev pub with_record : KeptLog → Rec → KeptLog
with_record log rec = record log { recs = log.recs ++ rec ∷ [] }

abbrev pub on_disk_to : KeptLog → ℕ → KeptLog
on_disk_to log to = record log { flushed = to }

pub record KeepsLog (start : Start) (es : List Entry) (log : KeptLog) : Type 0 where
  pub appends : (by : By) (rec : Rec)
      → LogOf start (es ++ record { by = by; kind = kinds.Append rec } ∷ []) (with_record log rec)
  pub flushes : (by : By) (to : ℕ) → log.flushed ≤ to → to ≤ log_end log
      → LogOf start (es ++ record { by = by; kind = kinds.Flush to } ∷ []) (on_disk_to log to)
  -- a forget, a fault, a look
  pub stays : (e : Entry) → appended e ≡ None → ((to : ℕ) → e.kind ≡ kinds.Flush to → ⊥) → LogOf start (es ++ e ∷ []) log
  -- the first record that is kept: a forget, one that failed too, may have moved it
  pub kept_stays : (e : Entry) (n : ℕ) → IsBeginningOf start es n → IsBeginningOf start (es ++ e ∷ []) n
  pub forgets : (by : By) (n : ℕ) → IsBeginningOf start (es ++ record { by = by; kind = kinds.Forget n } ∷ []) n
  pub forget_fails : (by : By) (n count : ℕ)
      → IsBeginningOf start (es ++ record { by = by; kind = kinds.LogFault (calls.Forget n) count } ∷ []) n

abbrev pub LogGoesOn : Type 0
LogGoesOn = (start : Start) (es : List Entry) (log : KeptLog) → LogOf start es log → KeepsLog start es log

-- behind a life: with the records that its list appended, and on disk up to its last flush
abbrev pub log_behind : Start → List (List Entry) → KeptLog → KeptLog
log_behind start lists log = record log {
  recs = log.recs ++ recs_in (at lists log_lock);
  flushed = flushed_to start (at lists log_lock);
}

-- what a life's log is at its end, from what it was before the first entry
abbrev pub LogEnds : Type 0
LogEnds = (start : Start) (lists : List (List Entry)) (log : KeptLog) → EngineInvariant start lists → LogOf start [] log
    → LogFollows start lists (log_behind start lists log)
