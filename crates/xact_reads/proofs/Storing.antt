-- What the states tell of an id that is asked for by the stores alone.
use Rattle.std.proofs.Common.{Bool, Contains, true, false, ◌≡◌, ◌==◌, ⊎_elim, ◌⊎◌, inl, inr, ℕ, ◌+◌, ◌<◌, ◌≤◌, List, [], ◌++◌, None, Some, Option, length, take, refl, sym, ap, subst, ◌∙◌, arith}
use Rattle.std.proofs.lemmas.Bool.{eqb-true, false≢true, false_from_ne_true}
use Rattle.std.proofs.Math.Seq.{take-append_seam}
use Rattle.std.specs.List.{filter_map, list_any}
use Rattle.notes.specs.Lists.{Grows, at}
use Rattle.tx_events.specs.declared.event.By.{By}
use Rattle.tx_events.specs.declared.event.Event.{Event}
use Rattle.tx_events.specs.declared.record.Rec.{Rec}
use Rattle.tx_events.specs.declared.record.Rec.TheVariants as records
use Rattle.tx_events.specs.Events.{given}
use Rattle.tx_events.specs.History.{IsLegal, next_given}
use Rattle.tx_events.specs.IdLists.{has}
use Rattle.tx_events.specs.Running.{is_open, running}
use Rattle.tx_events.specs.Visible.{is_visible}
use Rattle.tx_events.proofs.GivenIds.{given_below}
use Rattle.tx_events.proofs.IdOrder.{nth_from}
use Rattle.tx_events.proofs.ListSteps.{le_or_over, not_both}
use Rattle.tx_events.proofs.Membership.{Has, contains_has, has_any, has_contains, has_filter, has_filter_map, has_flat_map, has_right, map_has, place_has}
use Rattle.tx_events.proofs.SnapshotBounds.{given_from}
use Rattle.tx_events.proofs.Visibility.{among_has, has_among, lives, never_given, open_hidden, visible_new}
use Rattle.proc_table.proofs.Bounds.{full_from}
use Rattle.life_law.specs.DidCommit.{IsRecorded}
use Rattle.life_law.proofs.DidGrowth.{recorded_wider}
use Rattle.tx_core.specs.declared.entry.Entry.{Entry}
use Rattle.tx_core.specs.declared.entry.Start.{Start}
use Rattle.tx_core.specs.declared.entry.State.{State}
use Rattle.tx_core.specs.declared.entry.State.TheVariants as states
use Rattle.tx_core.specs.CleanStart.{CleanStart}
use Rattle.tx_core.specs.EngineInvariant.{EngineInvariant}
use Rattle.tx_core.specs.Entries.{AreFewIds, history, marks, marks_in, records_of, recs_in}
use Rattle.tx_core.specs.Locks.{log_lock, xact_lock_of}
use Rattle.tx_core.specs.LogBeforeStatus.{IsDurable, NeedsRecords, RecordOf}
use Rattle.tx_core.specs.Verdict.{is_committed, state_for, state_read}
use Rattle.tx_core.proofs.Asking.{logged_of, upheld_has}
use Rattle.tx_core.proofs.Lasting.{history_grows}
use Rattle.tx_core.proofs.Reading.{last_has, state_from}
use Rattle.engine_parts.specs.Stand.{IsInUse}
use Rattle.engine_parts.proofs.Answering.{logged_before}
use Rattle.xact_reads.specs.declared.dids.Step.{Step}
use Rattle.xact_reads.specs.declared.dids.Step.TheVariants as steps
use Rattle.xact_reads.specs.Stores.{DidAsTold, IsBelow}
use Rattle.xact_reads.proofs.Standing.{ended_decides}

-- a state of an id that has committed, or may yet
abbrev pub IsOfCommit : State → Type 0
IsOfCommit states.Committed = Unit {0}
IsOfCommit states.SubCommitted = Unit {0}
IsOfCommit states.Aborted = ⊥

-- a durable id is named by a commit record
durable_recorded : (start : Start) (lists : List (List Entry)) (session x : ℕ) → IsDurable start lists session x → IsRecorded (start.logged ++ recs_in (at lists log_lock)) x
durable_recorded start lists session x d =
    let rec : Rec = records.Commit d.0 d.1 in
    let by : By = d.2.2 in
    let listed : Has (recs_in (at lists log_lock)) rec = map_has (λ (r : By × Rec). r.1) (records_of lists) (by, rec) (place_has (records_of lists) d.2.0 (by, rec) d.2.4) in
    record { top = d.0; subs = d.1; stands = has_contains (start.logged ++ recs_in (at lists log_lock)) rec (has_right start.logged (recs_in (at lists log_lock)) rec listed); among = d.3 }

of_record : (start : Start) (lists : List (List Entry)) (session x : ℕ) (s : State) → IsOfCommit s → RecordOf start lists session x s → IsDurable start lists session x
of_record start lists session x states.Committed is d = d
of_record start lists session x states.SubCommitted is d = d
of_record start lists session x states.Aborted is d = absurd is

shown_either : (o : Option State) (s : State) → IsOfCommit s → o ≡ Some s → (o ≡ Some states.Committed) ⊎ (o ≡ Some states.SubCommitted)
shown_either o states.Committed is e = inl e
shown_either o states.SubCommitted is e = inr e
shown_either o states.Aborted is e = absurd is

-- an id that reads so was committed when the life began, or a commit record names it
pub read_recorded : (start : Start) (lists : List (List Entry)) (shown : ℕ → Option State) (x : ℕ) (s : State) → EngineInvariant start lists → CleanStart start shown → IsInUse start x → IsOfCommit s
    → state_read shown (marks (at lists (xact_lock_of start x))) x ≡ Some s → Contains start.committed x ⊎ IsRecorded (start.logged ++ recs_in (at lists log_lock)) x
read_recorded start lists shown x s k clean used is e =
    let lock : ℕ = xact_lock_of start x in
    ⊎_elim
    (λ (q : shown x ≡ Some s).
    ⊎_elim
    (λ (new : start.base.next ≤ x). let none = clean.clean x new (let to = used.2 in omega arith) in absurd (none_some s (sym none ∙ q)))
    (λ (old : x < start.base.next). inl (clean.only x used.1 old (shown_either (shown x) s is q)))
    (le_or_over start.base.next x))
    (λ j.
    let r = has_filter_map (state_for x) (marks (at lists lock)) s j in
    let t = state_from x r.0 s r.2 in
    let found = has_flat_map marks_in (at lists lock) r.0 r.1 in
    let d = logged_of start lists lock [] found.0 r.0 (upheld_has (NeedsRecords start) lists lock found.0 k.status.logged found.1).1 found.2 in
    inr (durable_recorded start lists r.0.caller.session x (of_record start lists r.0.caller.session x s is (subst (λ z. RecordOf start lists r.0.caller.session z s) t.0 (subst (λ z. RecordOf start lists r.0.caller.session r.0.id z) t.1 d)))))
    (last_has (shown x) (filter_map (state_for x) (marks (at lists lock))) s e)
  where
    none_some : (s : State) → None ≡ Some s → ⊥
    none_some s q = cc

-- ---- an id that doesn't read committed didn't count as committed before

module _ (start : Start) (g : List Event) (x : ℕ) (normal : 3 ≤ x) (legal : IsLegal start.base g) (before : (y : ℕ) → Contains start.committed y → y < start.base.next) (seen : is_visible start.committed g x ≡ true) where
  -- what counts as committed was so at the start, or its transaction has committed
  lives_or_old : (x < start.base.next) ⊎ (lives g x ≡ true)
  lives_or_old = step (list_any (λ y. y == x) start.committed) refl
    where
      step : (b : Bool) → list_any (λ y. y == x) start.committed ≡ b → (x < start.base.next) ⊎ (lives g x ≡ true)
      step true e = inl (before x (has_contains start.committed x (among_has x start.committed e)))
      step false e = inr (sym (visible_new start.committed g x normal (λ c. false≢true (sym e ∙ has_among x start.committed (contains_has start.committed x c)))) ∙ seen)

  -- so it was given
  pub visible_given : x < next_given start.base.next g
  visible_given = ⊎_elim
      (λ (past : next_given start.base.next g ≤ x).
      let from = nth_from start.base.next (length (given g)) in
      ⊎_elim
      (λ (old : x < start.base.next). absurd (omega arith))
      (λ (live : lives g x ≡ true). absurd (not_both (lives g x) live (never_given start.base g x legal (λ k. let below = given_below start.base g legal x k in omega arith))))
      lives_or_old)
      (λ (below : x < next_given start.base.next g). below)
      (le_or_over (next_given start.base.next g) x)

  -- and doesn't run
  visible_shut : has (running g) x ≡ false
  visible_shut = false_from_ne_true (has (running g) x) (λ e.
      let found = has_any (λ y. x == y) (running g) e in
      let same : x ≡ found.0 = eqb-true x found.0 found.2 in
      let runs = has_filter (is_open g) (given g) x (subst (λ z. Has (running g) z) (sym same) found.1) in
      ⊎_elim
      (λ (old : x < start.base.next). let from = given_from start.base g legal x runs.0 in omega arith)
      (λ (live : lives g x ≡ true). not_both (lives g x) live (open_hidden g x runs.1))
      lives_or_old)

-- where the state that is read later says no
pub uncommitted_before : (start : Start) (lists more : List (List Entry)) (shown : ℕ → Option State) (x : ℕ) → EngineInvariant start lists → EngineInvariant start more → Grows lists more → CleanStart start shown → IsInUse start x → AreFewIds more
    → is_committed (state_read shown (marks (at more (xact_lock_of start x))) x) ≡ false → is_visible start.committed (history lists) x ≡ false
uncommitted_before start lists more shown x j k grows clean used few off =
    let h = history lists in
    let b = history_grows lists more grows in
    let front : take (length h) (history more) ≡ h = ap (λ (t : List Event). take (length h) t) (sym b.1) ∙ take-append_seam h b.0 in
    let normal : 3 ≤ x = full_from x used.0 in
    false_from_ne_true (is_visible start.committed h x) (λ seen.
    let new = visible_given start h x normal j.events.legal clean.before seen in
    let shut = visible_shut start h x normal j.events.legal clean.before seen in
    let exact = ended_decides start more shown (length h) x k clean used.0 used.1 few (subst (λ (t : List Event). x < next_given start.base.next t) (sym front) new) (ap (λ (t : List Event). has (running t) x) front ∙ shut) in
    false≢true (sym off ∙ (exact ∙ (ap (λ (t : List Event). is_visible start.committed t x) front ∙ seen))))

-- ---- what a call may answer by the state of the id

committed_is : (o : Option State) → is_committed o ≡ true → o ≡ Some states.Committed
committed_is (Some states.Committed) e = refl
committed_is (Some states.Aborted) e = absurd (false≢true e)
committed_is (Some states.SubCommitted) e = absurd (false≢true e)
committed_is None e = absurd (false≢true e)

-- that it reads so
abbrev pub ReadsAs : Start → List (List Entry) → ℕ → Option State → Type 0
ReadsAs start lists x state = (shown : ℕ → Option State) × CleanStart start shown × (state ≡ state_read shown (marks (at lists (xact_lock_of start x))) x)

module _ (start : Start) (before lists more : List (List Entry)) (x : ℕ) (state : Option State) (j : EngineInvariant start before) (k : EngineInvariant start lists) (first : Grows before lists) (second : Grows lists more) (used : IsInUse start x) (few : AreFewIds lists) (reads : ReadsAs start lists x state) where
  -- a commit record names it, in the lists that went on
  recorded_on : (s : State) → IsOfCommit s → state ≡ Some s → Contains start.committed x ⊎ IsRecorded (start.logged ++ recs_in (at more log_lock)) x
  recorded_on s is e =
      ⊎_elim inl (λ r. inr (recorded_wider (start.logged ++ recs_in (at lists log_lock)) (start.logged ++ recs_in (at more log_lock)) x (logged_before start lists more second) r))
      (read_recorded start lists reads.0 x s k reads.1 used is (sym reads.2 ∙ e))

  hidden_before : is_committed state ≡ false → is_visible start.committed (history before) x ≡ false
  hidden_before off = uncommitted_before start before lists reads.0 x j k first reads.1 used few (ap is_committed (sym reads.2) ∙ off)

  -- either answer of one that is sub-committed
  pub did_either : (answer : Bool) → state ≡ Some states.SubCommitted → DidAsTold start before more x answer
  did_either answer e = record { for_yes = λ _. recorded_on states.SubCommitted tt e; for_no = λ _. hidden_before (ap is_committed e) }

  -- of any other one what its state says
  pub did_decided : (answer : Bool) → answer ≡ is_committed state → DidAsTold start before more x answer
  did_decided answer says = record {
    for_yes = λ q. recorded_on states.Committed tt (committed_is state (sym says ∙ q));
    for_no = λ q. hidden_before (sym says ∙ q);
  }

-- an ancestor of a parent that is below its child
pub below_less : (x y : ℕ) (step : Step) → y < x → IsBelow (y + 1) step → IsBelow x step
below_less x y (steps.Ends committed) less b = tt
below_less x y (steps.Further parent) less b = omega arith
