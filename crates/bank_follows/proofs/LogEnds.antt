-- The log of a life that is over, as recovery asks of it.
use Rattle.std.proofs.Common.{Bool, Contains, IsTrue, List, Option, Some, [], ap, append-nil, arith, inl, inr, refl, subst, sym, take, ℕ, ◌++◌, ◌+◌, ◌-◌, ◌∙◌, ◌≡◌, ◌⊎◌, ⊎_elim}
use Rattle.std.specs.List.{slice_get}
use Rattle.disk_core.specs.Volume.{Volume}
use Rattle.notes.specs.Lists.{at}
use Rattle.tx_events.proofs.Membership.{contains_has}
use Rattle.tx_events.specs.declared.event.By.{By}
use Rattle.tx_events.specs.declared.record.Counters.{Counters}
use Rattle.tx_events.specs.declared.record.Rec.{Rec}
use Rattle.tx_events.specs.declared.record.Rec.TheVariants as records
use Rattle.tx_events.specs.LifeBase.{base_after}
use Rattle.tx_core.specs.declared.entry.Entry.{Entry}
use Rattle.tx_core.specs.declared.entry.Kind.TheVariants as kinds
use Rattle.tx_core.specs.declared.entry.LogCall.TheVariants as calls
use Rattle.tx_core.specs.declared.entry.Start.{Start}
use Rattle.tx_core.specs.EngineInvariant.{EngineInvariant}
use Rattle.tx_core.specs.Entries.{flushed_to, recs_in}
use Rattle.tx_core.specs.Locks.{log_lock}
use Rattle.wal_core.specs.declared.checkpoint.LastCheckpoint.{LastCheckpoint}
use Rattle.wal_core.specs.Kept.{KeepsRecords}
use Rattle.recoverable.specs.Fit.{KeptLog}
use Rattle.recoverable.specs.Laws.{IsBeginningOf, LogOf}
use Rattle.recoverable.specs.LogSteps.{log_behind}
use Rattle.recoverable.proofs.LogEnds.{log_ends}
use Rattle.bank_follows.specs.Holding.{LogHolds}
use Rattle.engine_parts.specs.LogTail.{LogTail}
use Rattle.engine_parts.specs.Stand.{GivesStart, IsFirstKept, LogStands}

module _ (start : Start) (number : ℕ) (past : List Rec) (g : GivesStart start number past) where
  -- the log before the life's first entry
  abbrev before : KeptLog
  before = record { base = g.base; first = number; recs = past; flushed = start.from }

  begins : LogOf start [] before
  begins =
      let from = g.place in
      let some = g.some in
      record {
        before = past;
        recs = sym (append-nil past);
        from = g.place;
        base = g.gives;
        some = omega (arith, from, some);
        whole = λ n first below counters found.
            let place : number + (n - number) ≡ n = omega (arith, first) in
            let next : n - number + 1 ≡ n + 1 - number = omega (arith, first) in
            let here : slice_get past (n - number) ≡ Some (records.Checkpoint (number + (n - number)) counters) = found ∙ ap (λ m. Some (records.Checkpoint m counters)) (sym place) in
            subst (λ m. (base_after g.base (take m past)).counters ≡ counters) next (g.whole (n - number) counters here);
        below = g.below;
        begun = omega arith;
        upto = omega (arith, from);
        flushed = λ to stands. absurd (contains_has [] (record { by = stands.0; kind = kinds.Flush to }) stands.1);
      }

-- what the log says of its first record
pub may_begin : (start : Start) (es : List Entry) (n : ℕ) → IsFirstKept start es n → IsBeginningOf start es n
may_begin start es n kept = ⊎_elim inl (λ (later : ((by : By) × Contains es (record { by = by; kind = kinds.Forget n })) ⊎ ((count : ℕ) × (by : By) × Contains es (record { by = by; kind = kinds.LogFault (calls.Forget n) count }))).
    inr (⊎_elim inl (λ (failed : (count : ℕ) × (by : By) × Contains es (record { by = by; kind = kinds.LogFault (calls.Forget n) count })). inr (failed.0, (failed.1, failed.2))) later)) kept.one

-- what the log's value holds when the life ends
pub log_held : (start : Start) (lists : List (List Entry)) (tells : Bool) (faults : ℕ) (images : Volume → Type 0) (recs : List Rec) (next first flushed : ℕ) (counters : Option Counters) (down : Option ℕ) (checkpoint : Option LastCheckpoint) (tail : LogTail) → EngineInvariant start lists
    → LogStands start tells faults images recs next first flushed counters down checkpoint tail (at lists log_lock) → IsTrue tells → IsTrue start.told
    → (kept : KeptLog) × LogHolds start (at lists log_lock) kept recs next first images × (kept.flushed ≡ flushed_to start (at lists log_lock))
log_held start lists tells faults images recs next first flushed counters down checkpoint tail k s tells_it told =
    let held = s.kept tells_it in
    let g = held.3 told in (
      log_behind start lists (before start held.0 held.1 g),
      record {
        is_of = log_ends start lists (before start held.0 held.1 g) k (begins start held.0 held.1 g);
        keeps = subst (λ z. KeepsRecords held.0 (held.1 ++ recs_in (at lists log_lock)) recs next first z images) s.flushed_is held.2;
        beginning = may_begin start (at lists log_lock) first s.first_is;
      },
      refl,
    )
