-- What the steps of writing a checkpoint add to the log's list.
use Rattle.std.proofs.Common.{◌≡◌, ℕ, ◌+◌, ◌<◌, List, [], ◌∷◌, ◌++◌, Err, Ok, Result, append_assoc, length, map, inl, inr, refl, sym, ap, subst, ◌∙◌, arith}
use Rattle.std.proofs.lemmas.Bool.{false≢true}
use Rattle.std.proofs.lemmas.List.{length_push, map_push}
use Rattle.std.proofs.lemmas.List.Elements.{filter_map-append}
use Rattle.disk_core.specs.Faults.{HasRisen}
use Rattle.notes.specs.Lists.{add, at}
use Rattle.tx_events.specs.declared.event.By.{By}
use Rattle.tx_events.specs.declared.record.Counters.{Counters}
use Rattle.tx_events.specs.declared.record.Rec.{Rec}
use Rattle.tx_events.specs.declared.record.Rec.TheVariants as records
use Rattle.life_law.specs.LifeLog.{counters_behind}
use Rattle.tx_core.specs.declared.entry.Entry.{Entry}
use Rattle.tx_core.specs.declared.entry.Kind.TheVariants as kinds
use Rattle.tx_core.specs.declared.entry.Start.{Start}
use Rattle.tx_core.specs.EngineInvariant.{EngineInvariant}
use Rattle.tx_core.specs.Entries.{appended, flushed_to, history, records_in, recs_in}
use Rattle.tx_core.specs.FaultsRise.{count_in, faults_at, faults_told}
use Rattle.tx_core.specs.Locks.{log_lock}
use Rattle.tx_core.specs.MultiEntries.{multi_history}
use Rattle.tx_core.specs.StaysDown.{IsUp}
use Rattle.tx_core.proofs.LastNumbers.{number_same}
use Rattle.tx_core.proofs.LogBehind.{checkpoints_tell}
use Rattle.wal_core.specs.declared.refusal.LogRefusal.{LogRefusal}
use Rattle.wal_core.specs.declared.refusal.LogRefusal.TheVariants as refusals
use Rattle.engine_parts.specs.Faults.{flush_fault_by}
use Rattle.engine_parts.specs.LogTail.{LacksRoom, tail_of}
use Rattle.engine_parts.specs.Stand.{EndsInCheckpoint}
use Rattle.engine_parts.proofs.Logging.{up_more}
use Rattle.host_sections.specs.HostEntries.{AddsCheckpoint, AddsFlush, AddsForget, checkpoint_by, flush_by, forget_by, forget_fault_by, next_number}
use Rattle.session_promise.proofs.Settling.{down_is}
use Rattle.host_calls.specs.Added.{AddsAt, WritesCheckpoint, checkpoint_now}
use Rattle.host_calls.proofs.Adding.{adds_one, adds_then}

-- one record more
recs_more : (es : List Entry) (by : By) (rec : Rec) → recs_in (es ++ record { by = by; kind = kinds.Append rec } ∷ []) ≡ recs_in es ++ rec ∷ []
recs_more es by rec =
    ap (map (λ (r : By × Rec). r.1)) (filter_map-append appended es (record { by = by; kind = kinds.Append rec } ∷ [])) ∙ map_push (λ (r : By × Rec). r.1) (records_in es) (by, rec)

module _ (start : Start) (by : By) (seen : List (List Entry)) (inside : log_lock < length seen) where
  abbrev es : List Entry
  es = at seen log_lock

  abbrev n : ℕ
  n = next_number start seen

  abbrev mark : Entry
  mark = checkpoint_now start by seen

  abbrev flush : Entry
  flush = flush_by by (n + 1)

  -- it was appended
  pub marked : (counters : Counters) (number : ℕ) (new : List (List Entry)) → counters ≡ counters_behind start.base (history seen) (multi_history seen) → AddsCheckpoint start by counters seen new (Ok number) → AddsAt log_lock (mark ∷ []) seen new
  marked counters number new is a = adds_one log_lock mark seen new inside (a.1 ∙ (λ j. add seen log_lock (checkpoint_by by (a.0 j) (is j))))

  module _ (mid : List (List Entry)) (a : AddsAt log_lock (mark ∷ []) seen mid) where
    inside_mid : log_lock < length mid
    inside_mid = let long = a.long in omega (arith, long, inside)

    next_mid : next_number start mid ≡ n + 1
    next_mid =
        let long : length (recs_in (at mid log_lock)) ≡ length (recs_in es) + 1 = ap (λ (l : List Entry). length (recs_in l)) a.here ∙ (ap length (recs_more es by _) ∙ length_push (recs_in es) _) in omega (arith, long)

    told_mid : faults_told start log_lock (at mid log_lock) ≡ faults_told start log_lock es
    told_mid = ap (faults_told start log_lock) a.here ∙ number_same count_in (faults_at start log_lock) es mark refl

    pub up_mid : IsUp es → IsUp (at mid log_lock)
    up_mid up = subst IsUp (sym a.here) (up_more es mark refl up)

    -- it is on disk
    pub put_down : {T : Type 0} (new : List (List Entry)) (done : T) → AddsFlush start by mid new (Ok done) → AddsAt log_lock (mark ∷ flush ∷ []) seen new
    put_down new done is = adds_then log_lock (mark ∷ []) (flush ∷ []) seen mid new a (adds_one log_lock flush mid new inside_mid (is ∙ ap (λ m. add mid log_lock (flush_by by m)) next_mid))

    -- its flush failed
    pub flush_refused : (T : Type 0) (new : List (List Entry)) (refusal : LogRefusal) → IsUp es → AddsFlush {T = T} start by mid new (Err refusal) → WritesCheckpoint {T = T} start by seen new (Err refusal)
    flush_refused T new refusals.LogFault up r = record {
      count = r.count;
      risen = subst (λ m. HasRisen m r.count) told_mid r.risen;
      adds = inl (adds_then log_lock (mark ∷ []) (flush_fault_by by r.count ∷ []) seen mid new a (adds_one log_lock (flush_fault_by by r.count) mid new inside_mid r.adds));
    }
    flush_refused T new (refusals.LogDown down) up r = absurd (false≢true (sym (up_mid up) ∙ down_is start (at mid log_lock) down r.is_down))
    flush_refused T new refusals.Full up r = absurd r
    flush_refused T new refusals.Memory up r = absurd r
    flush_refused T new (refusals.Damaged place) up r = absurd r

  module _ (late : List (List Entry)) (b : AddsAt log_lock (mark ∷ flush ∷ []) seen late) where
    inside_late : log_lock < length late
    inside_late = let long = b.long in omega (arith, long, inside)

    pushed : es ++ mark ∷ flush ∷ [] ≡ (es ++ mark ∷ []) ++ flush ∷ []
    pushed = sym (append_assoc es (mark ∷ []) (flush ∷ []))

    told_late : faults_told start log_lock (at late log_lock) ≡ faults_told start log_lock es
    told_late =
        ap (faults_told start log_lock) (b.here ∙ pushed)
        ∙ (number_same count_in (faults_at start log_lock) (es ++ mark ∷ []) flush refl ∙ number_same count_in (faults_at start log_lock) es mark refl)

    up_late : IsUp es → IsUp (at late log_lock)
    up_late up = subst IsUp (sym (b.here ∙ pushed)) (up_more (es ++ mark ∷ []) flush refl (up_more es mark refl up))

    pub ends : EngineInvariant start late → flushed_to start es ≡ n → EndsInCheckpoint start (at late log_lock) n
    ends kept flushed = record {
      before = es;
      appender = by;
      flusher = by;
      counters = counters_behind start.base (history seen) (multi_history seen);
      split = b.here;
      place = refl;
      flushed = flushed;
      whole = checkpoints_tell start late es (flush ∷ []) by n (counters_behind start.base (history seen) (multi_history seen)) kept b.here;
    }

    -- the forget is done, or it failed
    pub forgot : {T : Type 0} (number : ℕ) (new : List (List Entry)) (result : Result T LogRefusal) → number ≡ n → IsUp es → AddsForget start by number late new result → WritesCheckpoint start by seen new result
    forgot number new (Ok done) same up is =
        adds_then log_lock (mark ∷ flush ∷ []) (forget_by by n ∷ []) seen late new b (adds_one log_lock (forget_by by n) late new inside_late (is ∙ ap (λ m. add late log_lock (forget_by by m)) same))
    forgot number new (Err refusals.LogFault) same up r = record {
      count = r.count;
      risen = subst (λ m. HasRisen m r.count) told_late r.risen;
      adds = inr (adds_then log_lock (mark ∷ flush ∷ []) (forget_fault_by by n r.count ∷ []) seen late new b
          (adds_one log_lock (forget_fault_by by n r.count) late new inside_late (r.adds ∙ ap (λ m. add late log_lock (forget_fault_by by m r.count)) same)));
    }
    forgot number new (Err (refusals.LogDown down)) same up r = absurd (false≢true (sym (up_late up) ∙ down_is start (at late log_lock) down r.is_down))
    forgot number new (Err refusals.Full) same up r = absurd r
    forgot number new (Err refusals.Memory) same up r = absurd r
    forgot number new (Err (refusals.Damaged place)) same up r = absurd r

  -- nothing was appended
  pub append_refused : (T : Type 0) (counters : Counters) (new : List (List Entry)) (refusal : LogRefusal) → counters ≡ counters_behind start.base (history seen) (multi_history seen) → IsUp es → AddsCheckpoint start by counters seen new (Err refusal) → WritesCheckpoint {T = T} start by seen new (Err refusal)
  append_refused T counters new refusals.LogFault is up r = absurd r
  append_refused T counters new (refusals.LogDown down) is up r = absurd (false≢true (sym up ∙ down_is start es down r.is_down))
  append_refused T counters new refusals.Full is up r = (r.0, subst (λ (z : Counters). LacksRoom (tail_of start es) (records.Checkpoint n z)) is r.2)
  append_refused T counters new refusals.Memory is up r = r.0
  append_refused T counters new (refusals.Damaged place) is up r = absurd r
