-- An open id of a session without a commit record was set committed nowhere.
use Rattle.std.proofs.Common.{◌≡◌, ◌⊎◌, ℕ, ◌≤◌, ◌<◌, ◌%◌, ◌^◌, ◌/◌, List, [], ◌∷◌, refl, sym, ap, subst, ◌∙◌, inl, inr, ⊎_elim, arith, Contains, slice_index}
use Rattle.std.specs.List.{slice_range}
use Rattle.notes.specs.Lists.{Knows, at}
use Rattle.tx_events.specs.Ids.{low_half}
use Rattle.tx_events.specs.declared.record.Rec.TheVariants as records
use Rattle.tx_events.specs.Events.{given_to}
use Rattle.tx_events.specs.Running.{is_open, open_ids}
use Rattle.tx_events.proofs.GivenIds.{one_session}
use Rattle.tx_events.proofs.Membership.{Has, contains_has, has_contains, has_filter, has_flat_map}
use Rattle.tx_core.specs.declared.entry.Entry.{Entry}
use Rattle.tx_core.specs.declared.entry.Start.{Start}
use Rattle.tx_core.specs.declared.entry.State.{State}
use Rattle.tx_core.specs.declared.entry.State.TheVariants as states
use Rattle.tx_core.specs.AbortRule.{NeedsGiven}
use Rattle.tx_core.specs.CommitRecordsExact.{HasNoRecord}
use Rattle.tx_core.specs.EngineInvariant.{EngineInvariant}
use Rattle.tx_core.specs.Entries.{IsAppended, Mark, history, marks, marks_in, session_of}
use Rattle.tx_core.specs.Laws.{IsOnly}
use Rattle.tx_core.specs.Locks.{xact_lock, xact_lock_of, xact_page}
use Rattle.tx_core.specs.LogBeforeStatus.{IsDurable, NeedsRecords, RecordOf}
use Rattle.tx_core.proofs.Asking.{asks_marks, given_of, logged_of, upheld_has}
use Rattle.tx_core.proofs.Growing.{contains_begins}
use Rattle.tx_core.proofs.Lasting.{given_to_begins, history_grows}
use Rattle.tx_core.proofs.Reading.{flushed_appended}
use Rattle.tx_core.proofs.Stepping.{own_appended}
use Rattle.bank_sections.specs.Sets.{MaySet}
use Rattle.engine_parts.proofs.Unrecorded.{open_unrecorded}
use Rattle.xact_ends.specs.Aborts.{IsOnePage}

-- a committed state of an id has a record of the session to which the id was given
committed_recorded : (start : Start) (lists : List (List Entry)) (n lock : ℕ) (mark : Mark) → EngineInvariant start lists → Contains (marks (at lists lock)) mark → mark.state ≡ states.Committed → Has (given_to n (history lists)) mark.id → IsDurable start lists n mark.id
committed_recorded start lists n lock mark k c is mine =
    let found = has_flat_map marks_in (at lists lock) mark (contains_has (marks (at lists lock)) mark c) in
    let his : Has (given_to mark.caller.session (history lists)) mark.id = contains_has _ _ (given_of lists lock [] found.0 mark (upheld_has NeedsGiven lists lock found.0 k.aborts.given found.1).1 (asks_marks found.0 mark found.2)) in
    let same : mark.caller.session ≡ n = one_session start.base (history lists) k.events.legal mark.caller.session n mark.id his mine in
    subst (λ z. IsDurable start lists z mark.id) same
    (subst (RecordOf start lists mark.caller.session mark.id) is (logged_of start lists lock [] found.0 mark (upheld_has (NeedsRecords start) lists lock found.0 k.status.logged found.1).1 found.2))

bank_of : (banks first id : ℕ) → xact_page id ≡ xact_page first → xact_page (low_half id) % banks ≡ xact_page (low_half first) % banks
bank_of banks first id share = ap (λ z. z % banks) (let a : xact_page (low_half id) ≡ xact_page id % 2 ^ 17 = omega arith in let b : xact_page (low_half first) ≡ xact_page first % 2 ^ 17 = omega arith in a ∙ (ap (λ z. z % 2 ^ 17) share ∙ sym b))

-- so open ids of one page may be set aborted
pub may_abort : (start : Start) (seen : List (List Entry)) (n first past : ℕ) (opened : List ℕ) → EngineInvariant start seen → HasNoRecord seen n → open_ids n (history seen) ≡ opened → ((id : ℕ) → Contains (slice_range opened first past) id → Contains opened id) → IsOnePage opened first past
    → MaySet start seen n (xact_page (low_half (slice_index opened first)) % start.banks) (slice_range opened first past) states.Aborted
may_abort start seen n first past opened k none all among page = record {
  page = xact_page (slice_index opened first);
  share = page;
  here = λ id c. ap xact_lock (bank_of start.banks (slice_index opened first) id (page id c));
  logged = λ id c. tt;
  tree = λ id c. tt;
  unrecorded = λ id c own t subs a in_record. open_unrecorded start seen n id t subs k none (open_one id c) a in_record;
  only = only;
}
  where
    open_one : (id : ℕ) → Contains (slice_range opened first past) id → Contains (open_ids n (history seen)) id
    open_one id c = subst (λ (l : List ℕ). Contains l id) (sym all) (among id c)

    only : (lists : List (List Entry)) → EngineInvariant start lists → Knows session_of n seen lists → IsOnly start lists (xact_page (low_half (slice_index opened first)) % start.banks) (slice_range opened first past) states.Aborted
    only lists j knows id old c m q = of old.state refl
      where
        given_on : (x : ℕ) → Has (given_to n (history seen)) x → Has (given_to n (history lists)) x
        given_on x h = contains_has _ x (contains_begins (given_to n (history seen)) (given_to n (history lists)) x (given_to_begins n (history seen) (history lists) (history_grows seen lists knows.grows)) (has_contains _ x h))

        of : (other : State) → old.state ≡ other → (old.state ≡ states.Aborted) ⊎ (old.state ≡ states.SubCommitted)
        of states.Aborted o = inl o
        of states.SubCommitted o = inr o
        of states.Committed o =
            let given_now : Has (given_to n (history seen)) id = (has_filter (is_open (history seen)) (given_to n (history seen)) id (contains_has (open_ids n (history seen)) id (open_one id c))).0 in
            let d = committed_recorded start lists n (xact_lock (xact_page (low_half (slice_index opened first)) % start.banks)) old j m o (subst (Has (given_to n (history lists))) (sym q) (given_on id given_now)) in
            absurd (open_unrecorded start seen n id d.0 d.1 k none (open_one id c) (own_appended n seen lists (records.Commit d.0 d.1) knows (flushed_appended start lists n (records.Commit d.0 d.1) d.2)) (subst (Contains (d.0 ∷ d.1)) q d.3))
