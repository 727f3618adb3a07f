-- The log behind a critical section of the host stands for its list.
use Rattle.std.proofs.Common.{◌≡◌, ◌≢◌, ◌⊎◌, ℕ, ◌+◌, ◌-◌, ◌<◌, ◌≤◌, ◌^◌, IsNone, true, List, [], ◌∷◌, ◌++◌, IsTrue, Option, Some, None, arith, inl, inr, length, refl, sym, ap, subst, ◌∙◌}
use Rattle.std.proofs.lemmas.Bool.{false≢true}
use Rattle.std.proofs.lemmas.List.Elements.{Contains-push}
use Rattle.std.proofs.lemmas.Option.{same_Some}
use Rattle.disk_core.specs.declared.log_disk.LogDisk as logs
use Rattle.disk_core.specs.Images.{NoMore}
use Rattle.tx_events.proofs.ListSteps.{eqb-refl}
use Rattle.tx_events.specs.After.{after_record}
use Rattle.tx_events.specs.Base.{IsBase}
use Rattle.tx_events.specs.declared.event.By.{By}
use Rattle.tx_events.specs.declared.record.Counters.{Counters}
use Rattle.tx_events.specs.declared.record.Rec.{Rec}
use Rattle.tx_events.specs.declared.record.Rec.TheVariants as records
use Rattle.tx_core.specs.declared.entry.Entry.{Entry}
use Rattle.tx_core.specs.declared.entry.Kind.TheVariants as kinds
use Rattle.tx_core.specs.declared.entry.LogCall.{LogCall}
use Rattle.tx_core.specs.declared.entry.LogCall.TheVariants as calls
use Rattle.tx_core.specs.declared.entry.Start.{Start}
use Rattle.tx_core.specs.Entries.{flushed_in, recs_in}
use Rattle.tx_core.specs.FaultsRise.{count_in, faults_at, faults_told}
use Rattle.tx_core.specs.Locks.{log_lock}
use Rattle.tx_core.specs.RecordsFollow.{counters_after}
use Rattle.tx_core.specs.StaysDown.{puts_down}
use Rattle.tx_core.proofs.LastNumbers.{number_push, number_same}
use Rattle.wal_core.specs.Checkpoint.{IsLastCheckpoint}
use Rattle.wal_core.specs.Kept.{BeginWith, HasFlushed, KeepsRecords, first_on, other_behind}
use Rattle.wal_core.specs.Log.{MayAppend, bytes_of, counters_or_none}
use Rattle.wal_core.specs.Opening.{number_fits}
use Rattle.wal_records.specs.Spelling.{AreCounters}
use Rattle.wal_core.specs.LogViews.{log_checkpoint, log_counters, log_disk, log_down, log_end, log_first, log_flushed, log_next, log_pending, log_recs}
use Rattle.wal_core.specs.declared.wal_log.WalLog.{WalLog}
use Rattle.engine_parts.specs.LogTail.{log_tail}
use Rattle.engine_parts.specs.Parts.{IsLogOf}
use Rattle.engine_parts.specs.Stand.{IsFirstKept, MayForgetThere, begin_asked_in, begin_other, forgotten_in}
use Rattle.engine_parts.proofs.Logging.{failed_here, first_same, flush_alone, goes_on, goes_with, not_up, other_asked, others_same, unflushed, up_more}
use Rattle.engine_parts.proofs.Tails.{flushed_tail, same_tail}
use Rattle.host_sections.specs.HostEntries.{flush_by, forget_by}

module _ {D : Type 0} {g : logs.Ghosts D} where
  -- all but the count of its volume stays, and a crash leaves nothing else
  pub record IsSameLog (old new : WalLog D g) : Type 0 where
    pub recs : log_recs new ≡ log_recs old
    pub next : log_next new ≡ log_next old
    pub first : log_first new ≡ log_first old
    pub flushed : log_flushed new ≡ log_flushed old
    pub counters : log_counters new ≡ log_counters old
    pub down : log_down new ≡ log_down old
    pub checkpoint : log_checkpoint new ≡ log_checkpoint old
    pub end : log_end new ≡ log_end old
    pub count : g.faults (log_disk old) ≤ g.faults (log_disk new)
    pub images : IsTrue g.tells → NoMore (g.images (log_disk old)) (g.images (log_disk new))

  -- it stands for the same list
  pub log_same : (start : Start) (old new : WalLog D g) (es : List Entry) → IsSameLog old new → IsLogOf start old es → IsLogOf start new es
  log_same start old new es same s = record {
    recs_are = same.recs ∙ s.recs_are;
    next_is = same.next ∙ s.next_is;
    flushed_is = same.flushed ∙ s.flushed_is;
    counters_are = same.counters ∙ s.counters_are;
    failed = λ n is. let f = s.failed n (sym same.down ∙ is) in (f.0, subst (λ z. n ≤ z) (sym same.flushed) f.1);
    up = λ none. s.up (sym same.down ∙ none);
    count = (let c = s.count in let m = same.count in omega arith);
    kept = λ told.
        let k = s.kept told in
        let keeps = k.2 in (
          k.0,
          k.1,
          record {
            earlier = keeps.earlier;
            whole = keeps.whole ∙ ap (λ z. keeps.earlier ++ z) (sym same.recs);
            count = keeps.count ∙ sym same.next;
            each = λ c image. subst (λ (z : ℕ × ℕ). HasFlushed k.0 (k.1 ++ recs_in es) z.0 z.1 c) (λ i. (sym same.first i, sym same.flushed i)) (keeps.each c (same.images told c image));
            other = keeps.other;
            begins = λ c image. subst (λ (n : ℕ). (first_on c ≡ n) ⊎ (first_on c ≡ keeps.other)) (sym same.first) (keeps.begins c (same.images told c image));
            settled = λ past c image. keeps.settled (let low = same.first in let to = same.flushed in omega (arith, past, low, to)) c (same.images told c image) ∙ sym same.first;
          },
          k.3,
        );
    first_is = subst (λ z. IsFirstKept start es z) (sym same.first) s.first_is;
    others = λ told. let o = s.others told in (o.0, λ c image. subst (λ (n : ℕ). (first_on c ≡ n) ⊎ (first_on c ≡ begin_other o.0 start es)) (sym same.first) (o.1 c (same.images told c image)));
    alone = subst (λ z. MayForgetThere start es z) (sym same.checkpoint) s.alone;
    tail_is = same_tail old new same.recs same.next same.flushed same.end ∙ s.tail_is;
    room = s.room;
  }

  -- so where its volume is as it was
  pub log_untouched : (start : Start) (old new : WalLog D g) (es : List Entry) → log_disk new ≡ log_disk old → log_recs new ≡ log_recs old → log_next new ≡ log_next old → log_first new ≡ log_first old → log_flushed new ≡ log_flushed old → log_counters new ≡ log_counters old → log_down new ≡ log_down old → log_checkpoint new ≡ log_checkpoint old → log_end new ≡ log_end old → IsLogOf start old es → IsLogOf start new es
  log_untouched start old new es disk recs next first flushed counters down checkpoint end = log_same start old new es (record {
    recs = recs;
    next = next;
    first = first;
    flushed = flushed;
    counters = counters;
    down = down;
    checkpoint = checkpoint;
    end = end;
    count = (let same : g.faults (log_disk new) ≡ g.faults (log_disk old) = ap g.faults disk in omega (arith, same));
    images = λ told. subst (λ (d : D). NoMore (g.images (log_disk old)) (g.images d)) (sym disk) (λ c image. image);
  })

module _ {D : Type 0} {g : logs.Ghosts D} (start : Start) (old new : WalLog D g) (es : List Entry) (by : By) (s : IsLogOf start old es) where
  -- what the log keeps of its records, as before
  abbrev Keeps : Type 0
  Keeps = IsTrue g.tells → (number : ℕ) (all : List Rec) → KeepsRecords number all (log_recs old) (log_next old) (log_first old) (log_flushed old) (g.images (log_disk old)) → KeepsRecords number all (log_recs new) (log_next new) (log_first new) (log_flushed new) (g.images (log_disk new))

  -- with which record its images begin, as before
  abbrev BeginsSame : Type 0
  BeginsSame = IsTrue g.tells → (other : ℕ) → BeginWith (log_first old) other (g.images (log_disk old)) → BeginWith (log_first new) other (g.images (log_disk new))

  -- and where it was to be forgotten
  abbrev BeginsLater : Type 0
  BeginsLater = IsTrue g.tells → log_down old ≡ None → (number : ℕ) (all : List Rec) → KeepsRecords number all (log_recs old) (log_next old) (log_first old) (log_flushed old) (g.images (log_disk old)) → (other : ℕ) → BeginWith (log_first old) other (g.images (log_disk old))
      → BeginWith (log_first new) (other_behind (log_first new) (log_first old) other) (g.images (log_disk new))

  -- so the list says with which
  others_asked : (e : Entry) (number : ℕ) → begin_asked_in e.kind ≡ Some number → log_first new ≡ number → log_down old ≡ None → BeginsLater → IsTrue g.tells → (before : ℕ) × BeginWith (log_first new) (begin_other before start (es ++ e ∷ [])) (g.images (log_disk new))
  others_asked e number is first up begins told =
      let k = s.kept told in let o = s.others told in
      let same : other_behind (log_first new) (log_first old) (begin_other o.0 start es) ≡ begin_other o.0 start (es ++ e ∷ []) =
      (λ i. other_behind (first i) (s.first_is.exact i) (begin_other o.0 start es)) ∙ sym (other_asked o.0 start es e number is) in
      (o.0, subst (λ (n : ℕ). BeginWith (log_first new) n (g.images (log_disk new))) same (begins told up k.0 (k.1 ++ recs_in es) k.2 (begin_other o.0 start es) o.1))

  -- all was flushed
  pub flushed_stands : (next : ℕ) → next ≡ log_next old → log_recs new ≡ log_recs old → log_next new ≡ log_next old → log_counters new ≡ log_counters old → log_flushed new ≡ log_next old → (log_pending old ≢ [] → log_end new ≡ log_end old + 5 + length (bytes_of (log_pending old))) → (log_pending old ≡ [] → log_end new ≡ log_end old) → log_down new ≡ log_down old → log_down old ≡ None → g.faults (log_disk old) ≤ g.faults (log_disk new) → log_first new ≡ log_first old
      → (log_pending old ≢ [] → IsLastCheckpoint (log_end old) (log_pending old) (log_counters old) (log_checkpoint new)) → Keeps → BeginsSame → IsLogOf start new (es ++ flush_by by next ∷ [])
  flushed_stands next is recs next_same counters flushed further same_end down up faults first alone keeps begins =
      let e : Entry = flush_by by next in
      goes_on start g.tells (g.faults (log_disk old)) (g.faults (log_disk new)) (g.images (log_disk old)) (g.images (log_disk new)) (log_recs old) (log_recs new) (log_next old) (log_next new) (log_first old) (log_first new) (log_flushed old) (log_flushed new) (log_counters old) (log_counters new) (log_down old) (log_down new) (log_checkpoint old) (log_checkpoint new) (log_tail old) (log_tail new) es by s (kinds.Flush next) refl (flushed_tail old new next next_same flushed further same_end)
      recs next_same counters (flushed ∙ (sym is ∙ sym (number_push flushed_in start.from es e next refl)))
      (let same : faults_told start log_lock (es ++ e ∷ []) ≡ faults_told start log_lock es = number_same count_in (faults_at start log_lock) es e refl in let before = s.count in omega (arith, same, before, faults))
      (λ m put. absurd (let z : None ≡ Some m = sym up ∙ (sym down ∙ put) in cc))
      (λ none. up_more es e refl (s.up up))
      (first_same start es e (log_first old) (log_first new) first refl s.first_is) (flush_alone start old new es by s next alone) keeps refl begins

  -- it was forgotten before a checkpoint
  pub forgotten_stands : (number : ℕ) → log_recs new ≡ log_recs old → log_next new ≡ log_next old → log_counters new ≡ log_counters old → log_flushed new ≡ log_flushed old → log_end new ≡ log_end old → log_down new ≡ log_down old → log_down old ≡ None → g.faults (log_disk old) ≤ g.faults (log_disk new) → log_first new ≡ number → Keeps → BeginsLater → IsLogOf start new (es ++ forget_by by number ∷ [])
  forgotten_stands number recs next_same counters flushed end down up faults first keeps begins =
      let e : Entry = forget_by by number in
      goes_with start g.tells (g.faults (log_disk old)) (g.faults (log_disk new)) (g.images (log_disk old)) (g.images (log_disk new)) (log_recs old) (log_recs new) (log_next old) (log_next new) (log_first old) (log_first new) (log_flushed old) (log_flushed new) (log_counters old) (log_counters new) (log_down old) (log_down new) (log_checkpoint old) (log_checkpoint new) (log_tail old) (log_tail new) es by s (kinds.Forget number) refl (same_tail old new recs next_same flushed end)
      recs next_same counters (flushed ∙ (s.flushed_is ∙ sym (number_same flushed_in start.from es e refl)))
      (let same : faults_told start log_lock (es ++ e ∷ []) ≡ faults_told start log_lock es = number_same count_in (faults_at start log_lock) es e refl in let before = s.count in omega (arith, same, before, faults))
      (λ m put. absurd (let z : None ≡ Some m = sym up ∙ (sym down ∙ put) in cc))
      (λ none. up_more es e refl (s.up up))
      (subst (λ n. IsFirstKept start (es ++ e ∷ []) n) (sym first) (record { exact = sym (number_push begin_asked_in (start.from - 1) es e number refl); one = inr (inl (by, Contains-push es e)); behind = λ still. (let here = number_push forgotten_in 0 es e number refl in omega (arith, here)) })) (unflushed start es e (log_checkpoint new) refl) keeps (others_asked e number refl first up begins)

  -- its volume failed, and it is down
  fails : (asked : LogCall) → puts_down asked ≡ true → log_recs new ≡ log_recs old → log_next new ≡ log_next old → log_counters new ≡ log_counters old → log_flushed new ≡ log_flushed old → log_end new ≡ log_end old → log_down new ≡ Some (log_flushed old) → IsFirstKept start (es ++ record { by = by; kind = kinds.LogFault asked (g.faults (log_disk new)) } ∷ []) (log_first new) → Keeps
      → (IsTrue g.tells → (before : ℕ) × BeginWith (log_first new) (begin_other before start (es ++ record { by = by; kind = kinds.LogFault asked (g.faults (log_disk new)) } ∷ [])) (g.images (log_disk new)))
      → IsLogOf start new (es ++ record { by = by; kind = kinds.LogFault asked (g.faults (log_disk new)) } ∷ [])
  fails asked puts recs next_same counters flushed end down first keeps begins =
      let count : ℕ = g.faults (log_disk new) in
      let e : Entry = record { by = by; kind = kinds.LogFault asked count } in
      goes_with start g.tells (g.faults (log_disk old)) (g.faults (log_disk new)) (g.images (log_disk old)) (g.images (log_disk new)) (log_recs old) (log_recs new) (log_next old) (log_next new) (log_first old) (log_first new) (log_flushed old) (log_flushed new) (log_counters old) (log_counters new) (log_down old) (log_down new) (log_checkpoint old) (log_checkpoint new) (log_tail old) (log_tail new) es by s (kinds.LogFault asked count) refl (same_tail old new recs next_same flushed end)
      recs next_same counters (flushed ∙ (s.flushed_is ∙ sym (number_same flushed_in start.from es e refl)))
      (let here : faults_told start log_lock (es ++ e ∷ []) ≡ count = number_push count_in (faults_at start log_lock) es e count refl in omega (arith, here))
      (λ m is.
      let here : m ≡ log_flushed old = same_Some m (log_flushed old) (sym is ∙ down) in
      (failed_here start es by asked count m puts (here ∙ s.flushed_is), (let still = flushed in omega (arith, here, still))))
      (λ none. absurd (let some : None ≡ Some (log_flushed old) = sym none ∙ down in cc))
      first (unflushed start es e (log_checkpoint new) refl) keeps begins

  pub flush_fails : log_recs new ≡ log_recs old → log_next new ≡ log_next old → log_counters new ≡ log_counters old → log_flushed new ≡ log_flushed old → log_end new ≡ log_end old → log_down new ≡ Some (log_flushed old) → log_first new ≡ log_first old → Keeps → BeginsSame
      → IsLogOf start new (es ++ record { by = by; kind = kinds.LogFault calls.Flush (g.faults (log_disk new)) } ∷ [])
  flush_fails recs next_same counters flushed end down first keeps begins =
      let e : Entry = record { by = by; kind = kinds.LogFault calls.Flush (g.faults (log_disk new)) } in
      fails calls.Flush refl recs next_same counters flushed end down (first_same start es e (log_first old) (log_first new) first refl s.first_is) keeps
      (others_same start es e g.tells (g.images (log_disk old)) (g.images (log_disk new)) (log_first old) (log_first new) refl s.others begins)

  pub forget_fails : (number : ℕ) → log_recs new ≡ log_recs old → log_next new ≡ log_next old → log_counters new ≡ log_counters old → log_flushed new ≡ log_flushed old → log_end new ≡ log_end old → log_down new ≡ Some (log_flushed old) → log_down old ≡ None → log_first new ≡ number → Keeps → BeginsLater
      → IsLogOf start new (es ++ record { by = by; kind = kinds.LogFault (calls.Forget number) (g.faults (log_disk new)) } ∷ [])
  forget_fails number recs next_same counters flushed end down up first keeps begins =
      let e : Entry = record { by = by; kind = kinds.LogFault (calls.Forget number) (g.faults (log_disk new)) } in
      fails (calls.Forget number) refl recs next_same counters flushed end down (subst (λ n. IsFirstKept start (es ++ e ∷ []) n) (sym first) (record { exact = sym (number_push begin_asked_in (start.from - 1) es e number refl); one = inr (inr (g.faults (log_disk new), by, Contains-push es e)); behind = λ still. absurd (not_up es e refl still) })) keeps
      (others_asked e number refl first up begins)

  -- a checkpoint of its own next number may be appended
  pub may_append : (number : ℕ) (counters : Counters) → number ≡ log_next old → number < 2 ^ 64 → AreCounters counters → IsBase (after_record (counters_after start es) (records.Checkpoint number counters)) → MayAppend (log_counters old) (log_next old) (records.Checkpoint number counters)
  may_append number counters next few lawful base = record {
    lawful = (few, lawful);
    first = λ none. absurd (false≢true (sym (subst IsNone s.counters_are none)));
    fits = subst (λ n. IsTrue (number_fits n (records.Checkpoint number counters))) next (eqb-refl number);
    base = subst (λ (o : Option Counters). IsBase (after_record (counters_or_none o) (records.Checkpoint number counters))) (sym s.counters_are) base;
  }
