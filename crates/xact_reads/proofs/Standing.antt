-- How an id stood at a question is told by the ProcArray and, where it doesn't run, by its state, which is read later.
use Rattle.std.proofs.Common.{Bool, true, false, not, cond, ◌≡◌, ℕ, ◌<◌, ◌≤◌, ◌&&◌, List, [], ◌∷◌, ◌++◌, None, Some, Option, IsTrue, nat_lt, length, take, refl, sym, ap, subst, ◌∙◌, ⊎_elim, append-nil, append_assoc, length-append, arith, lt-ltb, le-leb}
use Rattle.std.proofs.lemmas.Bool.{false_from_ne_true, lt-leb, cases_Bool}
use Rattle.std.proofs.Math.Bool.{and-true}
use Rattle.std.proofs.Math.Seq.{take-append_seam}
use Rattle.std.specs.List.{filter, slice_get}
use Rattle.notes.specs.Lists.{at}
use Rattle.tx_events.specs.Ids.{IsFullId}
use Rattle.tx_events.specs.declared.event.By.{By}
use Rattle.tx_events.specs.declared.event.Event.{Event}
use Rattle.tx_events.specs.declared.event.Event.TheVariants as events
use Rattle.tx_events.specs.declared.record.Counters.{Counters}
use Rattle.tx_events.specs.declared.refusal.Lock.TheVariants as locks
use Rattle.tx_events.specs.declared.refusal.Refusal.{Refusal}
use Rattle.tx_events.specs.declared.refusal.Refusal.TheVariants as refusals
use Rattle.tx_events.specs.Base.{IsBase}
use Rattle.tx_events.specs.Events.{given, is_of}
use Rattle.tx_events.specs.History.{IsLegal, next_given}
use Rattle.tx_events.specs.Horizon.{oldest_id}
use Rattle.tx_events.specs.IdLists.{has}
use Rattle.tx_events.specs.Running.{is_open, running, running_tops}
use Rattle.tx_events.specs.Snapshots.{is_overflowed, snapshot_data, snapshot_xmax, snapshot_xmin}
use Rattle.tx_events.specs.Visible.{is_visible}
use Rattle.tx_events.proofs.Extremes.{fold_min_start}
use Rattle.tx_events.proofs.GivenIds.{given_all, legal_take}
use Rattle.tx_events.proofs.HorizonSteps.{oldest_push}
use Rattle.tx_events.proofs.IdListSteps.{has_true}
use Rattle.tx_events.proofs.ListSteps.{le_or_over, not_both}
use Rattle.tx_events.proofs.Membership.{Has, filter_has}
use Rattle.tx_events.proofs.PlaceLemmas.{last_at, slice_get-grows, take-grows}
use Rattle.tx_events.proofs.SnapshotBounds.{past_open}
use Rattle.tx_events.proofs.Visibility.{xmin_from}
use Rattle.proc_table.proofs.Bounds.{full_from}
use Rattle.proc_table.specs.declared.answers.Asked.{Asked}
use Rattle.tx_model.specs.declared.command.Command.TheVariants as commands
use Rattle.tx_model.specs.declared.reply.Reply.{Reply}
use Rattle.tx_model.specs.declared.reply.Reply.TheVariants as replies
use Rattle.tx_model.specs.declared.reply.Status.{Status}
use Rattle.tx_model.specs.declared.reply.Status.TheVariants as statuses
use Rattle.tx_model.specs.CommandEvents.{ask_event, was_asked}
use Rattle.tx_model.specs.Replies.{MayFindOldest, alone, is_in_progress, status_after}
use Rattle.tx_core.specs.declared.entry.Entry.{Entry}
use Rattle.tx_core.specs.declared.entry.Start.{Start}
use Rattle.tx_core.specs.declared.entry.State.{State}
use Rattle.tx_core.specs.CleanStart.{CleanStart}
use Rattle.tx_core.specs.EngineInvariant.{EngineInvariant}
use Rattle.tx_core.specs.Entries.{AreFewIds, history, marks}
use Rattle.tx_core.specs.Locks.{xact_lock_of}
use Rattle.tx_core.specs.Verdict.{is_committed, says_ended, state_read}
use Rattle.tx_core.proofs.Deciding.{decides_by}
use Rattle.tx_core.proofs.Lasting.{history_grows}
use Rattle.tx_core.proofs.Rising.{given_more}
use Rattle.tx_core.proofs.Saying.{says_exact}
use Rattle.life_law.specs.Refused.{by_standing}
use Rattle.engine_parts.specs.declared.session.Session.{Session}
use Rattle.engine_parts.specs.Answers.{MayAnswer}
use Rattle.engine_parts.specs.Holds.{Knowledge}
use Rattle.engine_parts.specs.Sessions.{IsAt, by_at, stance_of}
use Rattle.engine_parts.specs.Stand.{IsInUse}
use Rattle.engine_parts.specs.Steps.{WentOn}
use Rattle.engine_parts.proofs.Unmoved.{went_longer}
use Rattle.proc_sections.specs.Askings.{IsAnswered, question}
use Rattle.xact_reads.specs.Readings.{IsCommittedIn, IsStateUnread}
use Rattle.xact_reads.proofs.Going.{others_went}
use Rattle.xact_reads.proofs.Replying.{finds_oldest, oldest_from}
use Rattle.bank_sections.proofs.Nearing.{nth_near}

-- ---- the state of an id that was given at a place and doesn't run there

module _ (base : Counters) (g : List Event) (x : ℕ) (b : IsBase base) (legal : IsLegal base g) (full : IsFullId x) (new : x < next_given base.next g) (shut : has (running g) x ≡ false) where
  -- one that was given is closed
  closed_here : Has (given g) x → is_open g x ≡ false
  closed_here was = false_from_ne_true (is_open g x) (λ o. not_both (has (running g) x) (has_true (running g) x (filter_has (is_open g) (given g) x was o)) shut)

  least : (base.next ≤ snapshot_xmin base.next g) × (snapshot_xmin base.next g ≤ snapshot_xmax base.next g)
  least = (xmin_from base g legal b.full, fold_min_start (snapshot_xmax base.next g) (running_tops g))

  was_given : base.next ≤ x → Has (given g) x
  was_given from = given_all base g legal x full from new

  below_xmax : x < snapshot_xmax base.next g
  below_xmax =
      let l = least in
      let low = l.0 in
      let up = l.1 in
      ⊎_elim
      (λ (from : base.next ≤ x). ⊎_elim
      (λ (past : snapshot_xmax base.next g ≤ x). let was = was_given from in absurd (not_both (is_open g x) (past_open base g x was past) (closed_here was)))
      (λ (below : x < snapshot_xmax base.next g). below)
      (le_or_over (snapshot_xmax base.next g) x))
      (λ (old : x < base.next). omega arith)
      (le_or_over base.next x)

  -- so a snapshot taken there says that it ended, whatever its topmost parent
  said_ended : says_ended (snapshot_data base.next g) 0 x ≡ true
  said_ended =
      let d = snapshot_data base.next g in
      let low = least.0 in
      let first = full_from base.next b.full in
      ⊎_elim
      (λ (from : base.next ≤ x).
      ⊎_elim
      (λ (over : is_overflowed base.next g ≡ true). overflowed _ _ (nat_lt x d.xmin) d.overflowed (nat_lt 0 d.xmin) over (lt-ltb 0 (snapshot_xmin base.next g) (omega arith)))
      (λ (whole : is_overflowed base.next g ≡ false). let was = was_given from in says_exact base g x legal whole was below_xmax 0 ∙ ap not (closed_here was))
      (cases_Bool (is_overflowed base.next g)))
      (λ (old : x < base.next). before _ (nat_lt x d.xmin) (lt-ltb x (snapshot_xmin base.next g) (omega arith)))
      (le_or_over base.next x)
    where
      overflowed : (r q low over zero : Bool) → over ≡ true → zero ≡ true → cond low true (cond over (cond zero true r) q) ≡ true
      overflowed r q true over zero o z = refl
      overflowed r q false true true o z = refl
      overflowed r q false true false o z = absurd cc
      overflowed r q false false zero o z = absurd cc

      before : (q low : Bool) → low ≡ true → cond low true q ≡ true
      before q true e = refl
      before q false e = absurd cc

-- its state says whether it has committed there
pub ended_decides : (start : Start) (lists : List (List Entry)) (shown : ℕ → Option State) (p x : ℕ) → EngineInvariant start lists → CleanStart start shown → IsFullId x → start.base.oldest ≤ x → AreFewIds lists
    → x < next_given start.base.next (take p (history lists)) → has (running (take p (history lists))) x ≡ false
    → is_committed (state_read shown (marks (at lists (xact_lock_of start x))) x) ≡ is_visible start.committed (take p (history lists)) x
ended_decides start lists shown p x k is full old few new shut =
    let g = take p (history lists) in
    let base = start.base in
    let first = base.next in
    let legal = legal_take base (history lists) p k.events.legal in
    let read = state_read shown (marks (at lists (xact_lock_of start x))) x in
    let below = below_xmax base g x is.base legal full new shut in
    let says = said_ended base g x is.base legal full new shut in
    sym
    (ap (λ b. cond b false (is_committed read && says_ended (snapshot_data first g) 0 x)) (lt-leb (snapshot_xmax first g) x below)
    ∙ ap (λ b. is_committed read && b) says
    ∙ and-true (is_committed read))
    ∙ decides_by start lists shown p x 0 k is full old few (λ r was under. says ∙ ap not (sym (closed_here base g x is.base legal full new shut was)))

-- an id that has ended doesn't run
pub ended_off : (committed : Bool) → is_in_progress (cond committed statuses.Committed statuses.Aborted) ≡ false
ended_off true = refl
ended_off false = refl

-- ---- the question

-- a special id has none
pub unasked : (by : By) (x : ℕ) (status : Status) → x < 3 → [] ≡ ask_event by x (replies.Known status)
unasked by x status small = sym (ap (λ b. cond b (events.Ask by x ∷ []) []) (lt-leb 3 x small))

-- and any other one has it
pub asked_event : (by : By) (x : ℕ) (reply : Reply) → 3 ≤ x → was_asked reply ≡ true → events.Ask by x ∷ [] ≡ ask_event by x reply
asked_event by x reply normal behind = sym (λ j. cond (behind j && le-leb 3 x normal j) (events.Ask by x ∷ []) [])

-- the history is longer behind an event
pub went_further : (n : ℕ) (e : Event) (lists more : List (List Entry)) → WentOn n (e ∷ []) lists more → length (history lists) < length (history more)
went_further n e lists more went = let b = history_grows lists more went.on.grows in step b.0 b.1
  where
    step : (rest : List Event) → history lists ++ rest ≡ history more → length (history lists) < length (history more)
    step [] split =
        let same : filter (is_of n) (history lists) ≡ filter (is_of n) (history more) = ap (filter (is_of n)) (sym (append-nil (history lists)) ∙ split) in
        let long = ap length (same ∙ went.on.own) in
        absurd (omega (arith, long, length-append (filter (is_of n) (history lists)) (e ∷ [])))
    step (f ∷ rest) split = let long = ap length split in omega (arith, long, length-append (history lists) (f ∷ rest))

-- ---- what is told

module _ (start : Start) (u w : Knowledge) (n : ℕ) (s : Session) (x : ℕ) (asked : Asked) (h : List Event) (a : IsAt start u n s) (b : IsAt start w n s) (went : WentOn n [] u.seen w.seen) (full : IsFullId x) (answered : IsAnswered start (question n s x) x asked u.seen) (longer : length h < length (history u.seen)) where
  abbrev by : By
  by = by_at n s.levels.commands

  abbrev front : List Event
  front = answered.front

  -- the history, behind the question
  abbrev rest : List Event
  rest = (others_went by u.seen w.seen went).rest

  whole : (front ++ question n s x ∷ []) ++ rest ≡ history w.seen
  whole = ap (λ (t : List Event). t ++ rest) (sym answered.split) ∙ (others_went by u.seen w.seen went).split

  asked_at : slice_get (history w.seen) (length front) ≡ Some (question n s x)
  asked_at = subst (λ (t : List Event). slice_get t (length front) ≡ Some (question n s x)) whole (slice_get-grows (front ++ question n s x ∷ []) rest (question n s x) (length front) (last_at front (question n s x)))

  before_it : take (length front) (history w.seen) ≡ front
  before_it =
      ap (λ (t : List Event). take (length front) t) (sym whole)
      ∙ take-grows (front ++ question n s x ∷ []) rest (question n s x) (length front) (last_at front (question n s x))
      ∙ take-append_seam front (question n s x ∷ [])

  normal : 3 ≤ x
  normal = full_from x full

  oldest_is : asked.oldest ≡ oldest_id start.base.oldest (history u.seen)
  oldest_is = answered.oldest ∙ (sym (oldest_push start.base.oldest front (question n s x)) ∙ ap (oldest_id start.base.oldest) (sym answered.split))

  abbrev May : Bool → List (List Entry) → Refusal → Type 0
  May tells lists r = MayAnswer tells start lists (alone h (history lists)) by (stance_of s) s.stage (commands.Status x) (replies.Refused r)

  -- that it is before the oldest id
  pub told_old : (tells : Bool) → x < asked.oldest → May tells u.seen (refusals.TooOld asked.oldest)
  told_old tells old = (normal, old, subst (MayFindOldest start.base (history u.seen) (alone h (history u.seen)) by) (sym oldest_is) (finds_oldest start.base by h (history u.seen) (omega arith) a.stands.turn))

  -- that it wasn't given
  pub told_future : (tells : Bool) → asked.next ≤ x → May tells w.seen (refusals.Future asked.next)
  told_future tells past = record {
    place = length front;
    asked = asked_at;
    next_is = answered.next ∙ ap (next_given start.base.next) (sym before_it);
    past = past;
  }

  -- how it stands
  pub told_status : (tells : Bool) (status : Status) → asked.oldest ≤ x → x < asked.next → is_in_progress status ≡ asked.running → (IsTrue tells × AreFewIds w.seen → status ≡ status_after start.committed front x)
      → MayAnswer tells start w.seen (alone h (history w.seen)) by (stance_of s) s.stage (commands.Status x) (replies.Known status)
  told_status tells status young new runs exact = (
    λ small. let big = normal in absurd (omega arith),
    λ _. record {
      place = length front;
      asked = asked_at;
      young = subst (λ (t : List Event). oldest_id start.base.oldest t ≤ x) (sym before_it) (subst (λ z. z ≤ x) answered.oldest young);
      given = subst (λ (t : List Event). x < next_given start.base.next t) (sym before_it) (subst (λ z. x < z) answered.next new);
      runs = runs ∙ (answered.running ∙ ap (λ (t : List Event). has (running t) x) (sym before_it));
      exact = λ t. exact t ∙ ap (λ (t : List Event). status_after start.committed t x) (sym before_it);
    },
  )

  -- while it runs
  pub runs_here : asked.running ≡ true → statuses.InProgress ≡ status_after start.committed front x
  runs_here e = sym (ap (λ c. cond c statuses.InProgress (cond (is_visible start.committed front x) statuses.Committed statuses.Aborted)) (sym answered.running ∙ e))

  -- and by its state where it doesn't
  pub stood : (committed : Bool) → IsCommittedIn start w.seen x committed → asked.running ≡ false → asked.oldest ≤ x → x < asked.next → AreFewIds w.seen → cond committed statuses.Committed statuses.Aborted ≡ status_after start.committed front x
  stood committed read shut young new few =
      let few_ids : length (given (history w.seen)) < 2900000 = few in
      let upto = nth_near start.base.next (length (given (history w.seen))) a.base.full few_ids in
      let more : next_given start.base.next front ≤ next_given start.base.next (history w.seen) = given_more start.base front (history w.seen) (question n s x ∷ rest, sym (append_assoc front (question n s x ∷ []) rest) ∙ whole) in
      let next = answered.next in
      let old : start.base.oldest ≤ x = (let from = oldest_from start u.seen a.kept in let is = oldest_is in omega arith) in
      let used : IsInUse start x = (full, old, omega arith) in
      let c = read used few in
      let there : x < next_given start.base.next (take (length front) (history w.seen)) = subst (λ (t : List Event). x < next_given start.base.next t) (sym before_it) (subst (λ z. x < z) answered.next new) in
      let off : has (running front) x ≡ false = sym answered.running ∙ shut in
      let off_there : has (running (take (length front) (history w.seen))) x ≡ false = ap (λ (t : List Event). has (running t) x) before_it ∙ off in
      let exact = ended_decides start w.seen c.0 (length front) x b.kept c.1 full old few there off_there in
      ap (λ d. cond d statuses.Committed statuses.Aborted) (c.2 ∙ (exact ∙ ap (λ (t : List Event). is_visible start.committed t x) before_it))
      ∙ sym (ap (λ d. cond d statuses.InProgress (cond (is_visible start.committed front x) statuses.Committed statuses.Aborted)) off)

  -- that nothing was read of it
  pub told_unread : (tells : Bool) (r : Refusal) → IsStateUnread start w.seen by x r → May tells w.seen r × (by_standing (replies.Refused r) ≡ None) × (was_asked (replies.Refused r) ≡ true)
  told_unread tells (refusals.DiskFault (locks.Xact bank)) m = ((le-leb 3 x normal, m), refl, refl)
  told_unread tells (refusals.TooOld oldest) m = (
    (normal, m.1, subst (MayFindOldest start.base (history w.seen) (alone h (history w.seen)) by) (sym m.0) (finds_oldest start.base by h (history w.seen) later b.stands.turn)),
    refl,
    refl,
  )
    where
      later : length h ≤ length (history w.seen)
      later = let l = went_longer n u.seen w.seen went in omega arith
  told_unread tells r m = absurd m
