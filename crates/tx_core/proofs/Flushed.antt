-- A commit that counts has its record on disk, and what a record names is shown once the commit counts.
use Rattle.std.proofs.lemmas.Option.{same_Some}
use Rattle.std.proofs.Common.{Contains, List, ap, arith, subst, sym, take, ℕ, ⊎_elim, ◌<◌, ◌∙◌, ◌∷◌, ◌≡◌, ◌≤◌, refl, Some, []}
use Rattle.std.specs.List.{slice_get}
use Rattle.tx_events.specs.declared.event.By.{By}
use Rattle.tx_events.specs.declared.event.Event.TheVariants as events
use Rattle.tx_events.specs.declared.record.Rec.{Rec}
use Rattle.tx_events.specs.declared.record.Rec.TheVariants as records
use Rattle.tx_events.proofs.ListSteps.{le_or_over}
use Rattle.tx_events.proofs.Membership.{Has, contains_has, has_contains, has_filter_map, has_flat_map, has_place, place_has}
use Rattle.tx_core.specs.declared.entry.Entry.{Entry}
use Rattle.tx_core.specs.declared.entry.Kind.TheVariants as kinds
use Rattle.tx_core.specs.declared.entry.Start.{Start}
use Rattle.tx_core.specs.declared.entry.State.TheVariants as states
use Rattle.tx_events.specs.Running.{open_ids}
use Rattle.tx_events.specs.XactEnds.{end_event}
use Rattle.tx_events.specs.declared.xact_end.XactEnd.TheVariants as ends
use Rattle.tx_core.specs.declared.entry.Kind.{Kind}
use Rattle.tx_core.specs.Consequences.{CommitsAreFlushed, IsLastFlush, RecordsShown}
use Rattle.tx_core.specs.EngineInvariant.{EngineInvariant}
use Rattle.tx_core.specs.Entries.{IsMarked, Mark, appended, event_of, flushed_to, history, marks, marks_in}
use Rattle.tx_core.specs.Locks.{log_lock, proc_lock, xact_lock_of}
use Rattle.tx_core.specs.LogBeforeStatus.{IsDurable, NeedsRecords}
use Rattle.tx_core.specs.RecordsOnce.{OnceOf, RecordsOnce}
use Rattle.tx_core.specs.StatusBeforeCommit.{NeedsStates, StatesOf}
use Rattle.tx_core.proofs.Asking.{logged_of, states_of, upheld_has}
use Rattle.tx_core.proofs.LogLaws.{flushes_rise}
use Rattle.tx_core.proofs.Reading.{record_entry}
use Rattle.tx_core.proofs.Taking.{get_in_take}
use Rattle.notes.specs.Lists.{at}

abbrev pub commit_by : By → ℕ → List ℕ → Entry
commit_by by top subs = record { by = by; kind = kinds.Append (records.Commit top subs) }

module _ (lists : List (List Entry)) (once : RecordsOnce lists) (id : ℕ) (a b : By) (s t : ℕ) (xs ys : List ℕ) (in_a : Contains (s ∷ xs) id) (in_b : Contains (t ∷ ys) id) where
  -- no commit record of an id has another one of it before
  none_before : (p q : ℕ) → slice_get (at lists log_lock) p ≡ Some (commit_by a s xs) → slice_get (at lists log_lock) q ≡ Some (commit_by b t ys) → p < q → ⊥
  none_before p q at_p at_q before =
      let es : List Entry = at lists log_lock in
      let rule : OnceOf (take q es) (records.Commit t ys) = once.each.each log_lock q (commit_by b t ys) at_q in
      (rule id in_b).0 (record {
        by = a;
        top = s;
        subs = xs;
        stands = has_contains (take q es) (commit_by a s xs) (place_has (take q es) p (commit_by a s xs) (get_in_take q p es (commit_by a s xs) before at_p));
        among = in_a;
      })

-- two commit records of an id are one
pub one_commit : (lists : List (List Entry)) (id : ℕ) (a b : By) (s t : ℕ) (xs ys : List ℕ) → RecordsOnce lists → Has (at lists log_lock) (commit_by a s xs) → Has (at lists log_lock) (commit_by b t ys) → Contains (s ∷ xs) id → Contains (t ∷ ys) id → commit_by a s xs ≡ commit_by b t ys
one_commit lists id a b s t xs ys once has_a has_b in_a in_b =
    let es : List Entry = at lists log_lock in
    let p = has_place es (commit_by a s xs) has_a in
    let q = has_place es (commit_by b t ys) has_b in
    ⊎_elim
    (λ (upto : p.0 ≤ q.0). ⊎_elim
    (λ (back : q.0 ≤ p.0). let same : p.0 ≡ q.0 = omega arith in same_Some (commit_by a s xs) (commit_by b t ys) (sym p.1 ∙ (ap (λ n. slice_get es n) same ∙ q.1)))
    (λ (below : p.0 < q.0). absurd (none_before lists once id a b s t xs ys in_a in_b p.0 q.0 p.1 q.1 below))
    (le_or_over q.0 p.0))
    (λ (above : q.0 < p.0). absurd (none_before lists once id b a t s ys xs in_b in_a q.0 p.0 q.1 p.1 above))
    (le_or_over p.0 q.0)

-- a committed id is durable for whom it was set
marked_durable : (start : Start) (lists : List (List Entry)) (id : ℕ) → EngineInvariant start lists → (m : IsMarked start lists id states.Committed) → IsDurable start lists m.0.session id
marked_durable start lists id k m =
    let es : List Entry = at lists (xact_lock_of start id) in
    let mark : Mark = record { caller = m.0; id = id; state = states.Committed } in
    let found = has_flat_map marks_in es mark (contains_has (marks es) mark m.1) in
    logged_of start lists (xact_lock_of start id) [] found.0 mark (upheld_has (NeedsRecords start) lists (xact_lock_of start id) found.0 k.status.logged found.1).1 found.2

pub commits_are_flushed : CommitsAreFlushed
commits_are_flushed start lists by top k counts =
    let event = has_filter_map event_of (at lists proc_lock) (events.Commit by top) (contains_has (history lists) (events.Commit by top) counts) in
    let stated : StatesOf start lists (kinds.Event (events.Commit by top)) = states_of start lists proc_lock [] event.0 by top (upheld_has (NeedsStates start) lists proc_lock event.0 k.commits.each event.1).1 event.2 in
    let own = stated.1 in
    let first : Contains (top ∷ stated.0) top = (0, omega arith, refl) in
    let mark = stated.2 top first in
    let durable : IsDurable start lists mark.0.session top = marked_durable start lists top k mark in
    let flushed = durable.2 in
    let logged : Rec = records.Commit durable.0 durable.1 in
    let same : commit_by flushed.2 durable.0 durable.1 ≡ commit_by own.0 top stated.0
    = one_commit lists top flushed.2 own.0 durable.0 top durable.1 stated.0 k.once (record_entry lists logged flushed.0 flushed.2 flushed.4) (contains_has (at lists log_lock) (commit_by own.0 top stated.0) own.2) durable.3 first in
    let last : IsLastFlush start lists (flushed_to start (at lists log_lock)) = flushes_rise start lists k in
    let upto : flushed.1 ≤ flushed_to start (at lists log_lock) = last.greatest flushed.1 flushed.6 in
    let below = flushed.5 in
    (flushed.0, own.0, stated.0, own.1, flushed.4 ∙ ap (λ (e : Entry). appended e) same, omega arith)

-- the subtransactions that a commit record names
abbrev subs_of : Kind → List ℕ
subs_of (kinds.Append (records.Commit top subs)) = subs
subs_of kind = []

pub records_shown : RecordsShown
records_shown start lists session top subs id k none logged named =
    ⊎_elim
    (λ (opened : open_ids session (history lists) ≡ top ∷ subs). absurd (none top subs logged opened))
    (λ (closed : (p : ℕ) × (by : By) × (by.session ≡ session) × (slice_get (history lists) p ≡ Some (end_event ends.Commit by top)) × (open_ids session (take p (history lists)) ≡ top ∷ subs)).
    let by : By = closed.1 in
    let event = has_filter_map event_of (at lists proc_lock) (events.Commit by top) (place_has (history lists) closed.0 (events.Commit by top) closed.3) in
    let stated : StatesOf start lists (kinds.Event (events.Commit by top)) = states_of start lists proc_lock [] event.0 by top (upheld_has (NeedsStates start) lists proc_lock event.0 k.commits.each event.1).1 event.2 in
    let own = stated.1 in
    let in_one : Contains (top ∷ subs) top = (0, omega arith, refl) in
    let in_other : Contains (top ∷ stated.0) top = (0, omega arith, refl) in
    let same : commit_by logged.0 top subs ≡ commit_by own.0 top stated.0
    = one_commit lists top logged.0 own.0 top top subs stated.0 k.once (contains_has (at lists log_lock) (commit_by logged.0 top subs) logged.2) (contains_has (at lists log_lock) (commit_by own.0 top stated.0) own.2) in_one in_other in
    stated.2 id (subst (λ (l : List ℕ). Contains (top ∷ l) id) (ap (λ (e : Entry). subs_of e.kind) same) named))
    (k.records.exact session top subs logged).ids
