-- A multixact that isn't recorded has no offset in an image, below the next one of the checkpoint where the log begins.
use Rattle.std.proofs.Common.{Contains, List, Option, Some, ap, arith, drop, length, refl, subst, sym, take, ℕ, ⊎_elim, ◌++◌, ◌+◌, ◌-◌, ◌<◌, ◌∙◌, ◌≡◌, ◌≤◌}
use Rattle.std.proofs.lemmas.List.{take-append-drop, take-append-le}
use Rattle.std.proofs.lemmas.List.Sums.{fold-append}
use Rattle.std.specs.List.{filter, slice_get}
use Rattle.tx_events.specs.Limits.{multi_stop_limit}
use Rattle.disk_core.specs.Pages.{Pages}
use Rattle.tx_events.specs.declared.event.By.{By}
use Rattle.tx_events.specs.declared.multi.Member.{Member}
use Rattle.tx_events.specs.declared.record.Counters.{Counters}
use Rattle.tx_events.specs.declared.record.Rec.{Rec}
use Rattle.tx_events.specs.declared.record.Rec.TheVariants as records
use Rattle.tx_events.proofs.ListSteps.{le_or_over}
use Rattle.tx_events.proofs.Membership.{contains_has, filter_has, has_contains, has_left, has_right}
use Rattle.tx_events.proofs.PlaceLemmas.{slice_get-grows}
use Rattle.tx_events.specs.After.{after_record, after_records}
use Rattle.tx_events.specs.Base.{IsBase}
use Rattle.tx_core.specs.declared.entry.Entry.{Entry}
use Rattle.tx_core.specs.declared.entry.Start.{Start}
use Rattle.tx_core.proofs.Growing.{begins_filter_map}
use Rattle.tx_core.specs.EngineInvariant.{EngineInvariant}
use Rattle.tx_core.specs.Entries.{appended, records_in, records_of}
use Rattle.notes.specs.Lists.{Begins, at}
use Rattle.tx_core.specs.Locks.{log_lock, offsets_lock}
use Rattle.recoverable.specs.Fit.{KeptLog, base_at}
use Rattle.recoverable.specs.FitMultis.{ShowsNoOffset}
use Rattle.recoverable.specs.OffsetImages.{CleanOffsets, OffsetsFollow}
use Rattle.recoverable.specs.Bytes.{StoredBytes}
use Rattle.recoverable.specs.Laws.{IsBeginning, LogFollows, OffsetsFitLaw}
use Rattle.tx_events.specs.LifeBase.{LifeBase, is_multi}
use Rattle.recoverable.proofs.Checkpoints.{checkpoint_flushed, counters_at}
use Rattle.recoverable.proofs.FitsXact.{may_forget}
use Rattle.recoverable.proofs.LogBases.{base_from, grows, life_recs, multi_up}
use Rattle.recoverable.proofs.Offsets.{no_stray_offset}
use Rattle.recoverable.proofs.OffsetsFit.{offsets_shown, oldest_multi_from, wide}
use Rattle.recoverable.proofs.Stretches.{get_map, has_taken}

-- before the life the next multixact isn't past that of its base
multi_before_life : (start : Start) (lists : List (List Entry)) (log : KeptLog) (k : ℕ) → LogFollows start lists log → k ≤ start.from → (base_at log k).counters.multi ≤ start.base.multi
multi_before_life start lists log k f le =
    let from = f.from in
    let m : ℕ = k - log.first in
    let within : k - log.first ≤ length f.before = omega arith in
    let front : take (k - log.first) log.recs ≡ take (k - log.first) f.before = ap (λ (t : List Rec). take (k - log.first) t) f.recs ∙ take-append-le (k - log.first) f.before (life_recs lists) within in
    let whole : (after_records log.base.counters f.before).multi ≡ start.base.multi = ap (λ (b : LifeBase). b.counters.multi) f.base in
    let split : after_records (after_records log.base.counters (take (k - log.first) f.before)) (drop (k - log.first) f.before) ≡ after_records log.base.counters f.before
    = sym (fold-append after_record log.base.counters (take (k - log.first) f.before) (drop (k - log.first) f.before)) ∙ ap (after_records log.base.counters) (take-append-drop (k - log.first) f.before) in
    let up = grows (λ c. c.multi) multi_up (after_records log.base.counters (take (k - log.first) f.before)) (drop (k - log.first) f.before) in
    subst (λ (t : List Rec). (after_records log.base.counters t).multi ≤ start.base.multi) (sym front)
    (subst (λ n. (after_records log.base.counters (take (k - log.first) f.before)).multi ≤ n) (ap (λ (c : Counters). c.multi) split ∙ whole) up)

-- what was recorded in the life's base, or among its records below the flushed number, is recorded in the base there
recorded_start : (start : Start) (lists : List (List Entry)) (log : KeptLog) (rec : Rec) → LogFollows start lists log → Contains start.recorded rec → Contains (base_at log log.flushed).recorded rec
recorded_start start lists log rec f c =
    let m : ℕ = log.flushed - start.from in
    subst (λ (b : LifeBase). Contains b.recorded rec) (sym (base_from start lists log log.flushed f f.begun))
    (has_contains (start.recorded ++ filter is_multi (take (log.flushed - start.from) (life_recs lists))) rec
    (has_left start.recorded (filter is_multi (take (log.flushed - start.from) (life_recs lists))) rec (contains_has start.recorded rec c)))

recorded_flushed : (start : Start) (lists : List (List Entry)) (log : KeptLog) (place : ℕ) (by : By) (multi offset : ℕ) (members : List Member) → LogFollows start lists log → slice_get (records_of lists) place ≡ Some (by, records.Multi multi offset members)
    → start.from + place < log.flushed → Contains (base_at log log.flushed).recorded (records.Multi multi offset members)
recorded_flushed start lists log place by multi offset members f stands below =
    let rec : Rec = records.Multi multi offset members in
    let among = has_taken place (log.flushed - start.from) (life_recs lists) (records.Multi multi offset members) (omega arith) (get_map (λ (r : By × Rec). r.1) (records_of lists) place (by, records.Multi multi offset members) stands) in
    subst (λ (b : LifeBase). Contains b.recorded (records.Multi multi offset members)) (sym (base_from start lists log log.flushed f f.begun))
    (has_contains (start.recorded ++ filter is_multi (take (log.flushed - start.from) (life_recs lists))) (records.Multi multi offset members)
    (has_right start.recorded (filter is_multi (take (log.flushed - start.from) (life_recs lists))) (records.Multi multi offset members)
    (filter_has is_multi (take (log.flushed - start.from) (life_recs lists)) (records.Multi multi offset members) among refl)))

no_other : (start : Start) (lists : List (List Entry)) (shown : ℕ → Option StoredBytes) (log : KeptLog) (bank n : ℕ) (c : Pages) → EngineInvariant start lists → IsBase start.base → CleanOffsets start shown → LogFollows start lists log → IsBeginning start lists n
    → OffsetsFollow start bank shown (at lists (offsets_lock bank)) c → ShowsNoOffset start.banks bank (base_at log log.flushed).recorded (base_at log log.flushed).counters.oldest_multi (base_at log (n + 1)).counters.multi c
no_other start lists shown log bank n c k is clean f beginning follows multi full from below never on =
    let up = oldest_multi_from start lists log f in
    let stop : start.base.multi ≤ multi_stop_limit start.base.oldest_multi = is.multi in
    ⊎_elim
    (λ (new : start.base.multi ≤ multi).
    absurd (⊎_elim
    (λ (lt : n < start.from). let old = multi_before_life start lists log (n + 1) f (omega arith) in omega arith)
    (λ h.
    let may = may_forget start lists n k h in
    let to : (base_at log (n + 1)).counters.multi ≡ may.2.counters.multi = ap (λ (c : Counters). c.multi) (counters_at start lists log n may.0 k f may.1 may.2) in
    let r = may.2.recorded multi full new (omega arith) in
    let b : Begins (records_in may.0) (records_of lists) = begins_filter_map appended may.0 (at lists log_lock) may.1 in
    let stands : slice_get (records_of lists) r.2.place ≡ Some (r.2.by, records.Multi multi r.0 r.1)
    = subst (λ (t : List (By × Rec)). slice_get t r.2.place ≡ Some (r.2.by, records.Multi multi r.0 r.1)) b.1 (slice_get-grows (records_in may.0) b.0 (r.2.by, records.Multi multi r.0 r.1) r.2.place r.2.stands) in
    let past = checkpoint_flushed start lists log n may.0 f may.1 may.2 in let low = r.2.below in
    never r.0 r.1 (recorded_flushed start lists log r.2.place r.2.by multi r.0 r.1 f stands (omega arith)))
    beginning))
    (λ (old : multi < start.base.multi).
    no_stray_offset start lists shown bank multi c k
    (clean.other multi full (omega arith) old (λ offset members h. never offset members (recorded_start start lists log (records.Multi multi offset members) f h)))
    old
    (λ i lt. follows multi i (record { from = wide start multi stop (omega arith); to = omega arith }) (ap offsets_lock on) lt))
    (le_or_over start.base.multi multi)

pub offsets_fit : OffsetsFitLaw
offsets_fit start lists shown log bank n c k is clean f beginning few inside follows = record {
  recorded = offsets_shown start lists shown log bank n c k is clean f beginning few inside follows;
  no_other = no_other start lists shown log bank n c k is clean f beginning follows;
}
