-- What the log has of a transaction that is open at the end is what its session's lines tell.
use Rattle.std.proofs.Common.{Bool, Contains, IsTrue, List, None, Some, [], ap, arith, false, inl, refl, subst, suc, sym, true, ℕ, ⊎_elim, ◌++◌, ◌<◌, ◌==◌, ◌≡◌, ◌≤◌, ◌∙◌, ◌∷◌}
use Rattle.std.proofs.lemmas.Bool.{false≢true}
use Rattle.std.specs.List.{filter}
use Rattle.tx_events.specs.declared.event.Event.{Event}
use Rattle.tx_events.specs.declared.record.Rec.{Rec}
use Rattle.tx_events.specs.declared.record.Rec.TheVariants as records
use Rattle.tx_events.specs.declared.refusal.Refusal.{Refusal}
use Rattle.tx_events.specs.declared.refusal.Refusal.TheVariants as refusals
use Rattle.tx_events.specs.Events.{by_of, given, given_to, is_of}
use Rattle.tx_events.specs.Running.{is_open, open_ids}
use Rattle.tx_events.proofs.GivenIds.{one_session}
use Rattle.tx_events.proofs.ListSteps.{below_not, le_or_over}
use Rattle.tx_events.proofs.Membership.{Has, all_at, contains_has, filter_none_on, has_contains, has_filter}
use Rattle.tx_model.specs.declared.report.Line.{Line}
use Rattle.tx_model.specs.Lines.{is_line_of, stance}
use Rattle.tx_model.specs.Stance.{nothing_yet, stance_from, top_level}
use Rattle.life_law.specs.Pending.{IsOpenAsTold, is_recorded, pending, pending_from}
use Rattle.tx_core.specs.declared.entry.Entry.{Entry}
use Rattle.tx_core.specs.declared.entry.Start.{Start}
use Rattle.tx_core.specs.CommitRecordsExact.{HasNoRecord}
use Rattle.tx_core.specs.Entries.{IsAppended, history}
use Rattle.tx_core.proofs.Once.{records_given}
use Rattle.engine_parts.specs.declared.session.Session.{Session}
use Rattle.engine_parts.specs.declared.session.Stage.{Stage}
use Rattle.engine_parts.specs.declared.session.Stage.TheVariants as stages
use Rattle.engine_parts.specs.Sessions.{stance_of}
use Rattle.engine_parts.specs.Stages.{AreUnaborted, may_be_aborted, may_be_recorded, pending_in}
use Rattle.session_promise.specs.Closing.{BeginsAt, IsOver, MayCallIn}
use Rattle.session_promise.specs.Promise.{Promise, recs_of}
use Rattle.session_promise.specs.Told.{ToldRound, all_lines, lines_of, told_by}
use Rattle.session_promise.proofs.FewIds.{event_known}
use Rattle.session_promise.proofs.Known.{known_of}
use Rattle.session_promise.proofs.LawfulSteps.{filter_twice, from_logged, recorded_same}
use Rattle.session_promise.proofs.RecordPlaces.{has_rec}
use Rattle.session_promise.proofs.Telling.{lines_told}

-- ---- stages

commit_waits : (stage : Stage) → may_be_recorded stage ≡ true → pending_in stage ≡ Some refusals.CommitPending
commit_waits (stages.Logged number) q = refl
commit_waits (stages.Settling steps) q = refl
commit_waits stage q = absurd (false≢true q)

abort_waits : (stage : Stage) → may_be_aborted stage ≡ true → pending_in stage ≡ Some refusals.AbortPending
abort_waits stages.Aborting q = refl
abort_waits stage q = absurd (false≢true q)

no_refusal : (r : Refusal) → None ≡ Some r → ⊥
no_refusal r e = cc

is_recorded_there : (stage : Stage) → pending_in stage ≡ Some refusals.CommitPending → may_be_recorded stage ≡ true
is_recorded_there stages.Clear e = absurd (no_refusal refusals.CommitPending e)
is_recorded_there (stages.Logged number) e = refl
is_recorded_there (stages.Settling steps) e = refl
is_recorded_there stages.Aborting e = absurd cc
is_recorded_there stages.Undoing e = absurd cc

nil_cons : (x : ℕ) (xs : List ℕ) → [] ≡ x ∷ xs → ⊥
nil_cons x xs e = cc

-- ---- sessions

module _ (tells : Bool) (start : Start) (lists : List (List Entry)) (rounds : List ToldRound) (number : ℕ) (begins : BeginsAt number start) (over : IsOver tells start lists rounds) where
  abbrev h : List Event
  h = history lists

  abbrev recs : List Rec
  recs = start.logged ++ recs_of lists

  abbrev lines : List Line
  lines = all_lines rounds

  -- a record that isn't the first one was appended
  appended : (rec : Rec) → (records.Checkpoint number start.base ≡ rec → ⊥) → Contains recs rec → Has (recs_of lists) rec
  appended rec other c = ⊎_elim (λ e. absurd (other e)) (λ k. k) (subst (λ (rs : List Rec). Has (rs ++ recs_of lists) rec) begins.logged (contains_has recs rec c))

  own_lines : (n : ℕ) → lines_of (told_by n rounds) ≡ filter (is_line_of n) lines
  own_lines n = lines_told n rounds

  -- a session of the life
  module _ (n : ℕ) (low : n < start.sessions) where
    abbrev s : Session
    s = (over.each n low).0

    promise : Promise tells start lists n (told_by n rounds) s
    promise = (over.each n low).1

    calls : MayCallIn start lists n s
    calls = (over.each n low).2

    pending_here : pending recs h lines n ≡ pending_in s.stage
    pending_here =
        ap (λ (rs : List Rec). pending (rs ++ recs_of lists) h lines n) begins.logged
        ∙ (from_logged number start.base (recs_of lists) h (filter (is_line_of n) lines) nothing_yet None
        ∙ (ap (pending_from (recs_of lists) h nothing_yet None) (sym (filter_twice (is_line_of n) lines))
        ∙ (ap (λ ls. pending (recs_of lists) h ls n) (sym (own_lines n)) ∙ promise.pending_is)))

    stance_here : stance h lines n ≡ stance_of s
    stance_here =
        ap (stance_from nothing_yet h) (sym (filter_twice (is_line_of n) lines))
        ∙ (ap (λ ls. stance h ls n) (sym (own_lines n)) ∙ promise.stance_is)

    given_here : (top : ℕ) (subs : List ℕ) → open_ids n h ≡ top ∷ subs → Has (given_to n h) top
    given_here top subs opened = (has_filter (is_open h) (given_to n h) top (subst (λ (ids : List ℕ). Has ids top) (sym opened) (inl refl))).0

    own_commit : (top : ℕ) (subs : List ℕ) → open_ids n h ≡ top ∷ subs → Contains recs (records.Commit top subs) → IsAppended lists n (records.Commit top subs)
    own_commit top subs opened c =
        let r = has_rec lists (records.Commit top subs) (appended (records.Commit top subs) (λ e. cc) c) in
        let theirs : Has (given_to r.0.session h) top = contains_has (given_to r.0.session h) top ((records_given start lists r.0.session over.kept).commit top subs top r.1 (has_contains (top ∷ subs) top (inl refl))) in
        subst (λ z. IsAppended lists z (records.Commit top subs)) (one_session start.base h over.kept.events.legal r.0.session n top theirs (given_here top subs opened)) r.1

    own_abort : (top : ℕ) (subs : List ℕ) → open_ids n h ≡ top ∷ subs → Contains recs (records.Abort top subs) → IsAppended lists n (records.Abort top subs)
    own_abort top subs opened c =
        let r = has_rec lists (records.Abort top subs) (appended (records.Abort top subs) (λ e. cc) c) in
        let theirs : Has (given_to r.0.session h) top = contains_has (given_to r.0.session h) top ((records_given start lists r.0.session over.kept).abort top subs top r.1 (has_contains (top ∷ subs) top (inl refl))) in
        subst (λ z. IsAppended lists z (records.Abort top subs)) (one_session start.base h over.kept.events.legal r.0.session n top theirs (given_here top subs opened)) r.1

    commit_told : (top : ℕ) (subs : List ℕ) → Contains recs (records.Commit top subs) → open_ids n h ≡ top ∷ subs → pending recs h lines n ≡ Some refusals.CommitPending
    commit_told top subs c opened = step (may_be_recorded s.stage) refl
      where
        step : (b : Bool) → may_be_recorded s.stage ≡ b → pending recs h lines n ≡ Some refusals.CommitPending
        step true q = pending_here ∙ commit_waits s.stage q
        step false q =
            let clear : HasNoRecord lists n = subst (λ (l : List (List Entry)). HasNoRecord l n) calls.seen (calls.may.ready.at.clear q) in
            absurd (clear top subs (own_commit top subs opened c) opened)

    abort_told : (top : ℕ) (subs : List ℕ) → Contains recs (records.Abort top subs) → open_ids n h ≡ top ∷ subs → pending recs h lines n ≡ Some refusals.AbortPending
    abort_told top subs c opened = step (may_be_aborted s.stage) refl
      where
        step : (b : Bool) → may_be_aborted s.stage ≡ b → pending recs h lines n ≡ Some refusals.AbortPending
        step true q = pending_here ∙ abort_waits s.stage q
        step false q =
            let here : open_ids n h ≡ s.levels.open_ids.items = subst (λ (l : List (List Entry)). open_ids n (history l) ≡ s.levels.open_ids.items) calls.seen calls.may.ready.at.stands.opened in
            let none : AreUnaborted lists n s.levels.open_ids.items = subst (λ (l : List (List Entry)). AreUnaborted l n s.levels.open_ids.items) calls.seen (calls.may.ready.at.unaborted q) in
            let among : Contains (top ∷ subs) top = has_contains (top ∷ subs) top (inl refl) in
            absurd (none top (subst (λ (ids : List ℕ). Contains ids top) (sym opened ∙ here) among) top subs (own_abort top subs opened c) among)

    recorded_told : pending recs h lines n ≡ Some refusals.CommitPending → IsTrue (is_recorded recs (top_level (stance h lines n).levels))
    recorded_told e =
        let known : is_recorded (recs_of lists) (top_level (stance_of s).levels) ≡ may_be_recorded s.stage = subst (λ (l : List (List Entry)). is_recorded (recs_of l) (top_level (stance_of s).levels) ≡ may_be_recorded s.stage) calls.seen (known_of start calls.pass n s calls.may) in
        ap (λ (rs : List Rec). is_recorded (rs ++ recs_of lists) (top_level (stance h lines n).levels)) begins.logged
        ∙ (recorded_same number start.base (recs_of lists) (top_level (stance h lines n).levels)
        ∙ (ap (λ st. is_recorded (recs_of lists) (top_level st.levels)) stance_here
        ∙ (known ∙ is_recorded_there s.stage (sym pending_here ∙ e))))

    of_life : IsOpenAsTold recs h lines n
    of_life = record { commit = commit_told; abort = abort_told; recorded = recorded_told }

  -- a number that is no session's
  module _ (n : ℕ) (high : start.sessions < suc n) where
    other : (m : ℕ) → m < start.sessions → (m == n) ≡ false
    other m l = below_not m n (omega arith)

    none_open : open_ids n h ≡ []
    none_open = ap (λ (es : List Event). filter (is_open h) (given es)) (filter_none_on (is_of n) h (λ e k. other (by_of e).session (event_known start lists over.kept e k)))

    no_line : filter (is_line_of n) lines ≡ []
    no_line = filter_none_on (is_line_of n) lines (λ l k. other l.by.session (all_at (λ (x : Line). x.by.session < start.sessions) lines l over.lines k))

    none_pending : pending recs h lines n ≡ None
    none_pending = ap (pending_from recs h nothing_yet None) no_line

    of_none : IsOpenAsTold recs h lines n
    of_none = record {
      commit = λ top subs c e. absurd (nil_cons top subs (sym none_open ∙ e));
      abort = λ top subs c e. absurd (nil_cons top subs (sym none_open ∙ e));
      recorded = λ e. absurd (no_refusal refusals.CommitPending (sym none_pending ∙ e));
    }

  pub opened_told : (n : ℕ) → IsOpenAsTold recs h lines n
  opened_told n = ⊎_elim (λ (low : suc n ≤ start.sessions). of_life n low) (λ (high : start.sessions < suc n). of_none n high) (le_or_over (suc n) start.sessions)
