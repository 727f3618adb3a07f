use Rattle.std.proofs.Common.{IfSome, Option, ◌-◌, ◌↔◌, ◌≡◌, ℕ, ◌<◌, ◌≤◌, List, [], ◌∷◌, ◌++◌, length, drop, refl, ap, sym, ◌∙◌, arith, ⊎_elim, subst, Bool, true, false, cond, IsTrue}
use Rattle.std.proofs.Math.Seq.{drop-append-le, take-append-le}
use Rattle.std.specs.List.{filter, AllByRecursion}
use Rattle.tx_events.specs.Nearest.{near_id}
use Rattle.tx_events.specs.declared.event.By.{By}
use Rattle.tx_events.specs.declared.event.Event.{Event}
use Rattle.tx_model.specs.declared.report.Line.{Line}
use Rattle.tx_events.specs.declared.record.Counters.{Counters}
use Rattle.tx_events.specs.Events.{by_of, events_of, given}
use Rattle.tx_model.specs.Stance.{Stance, stance_from, after, nothing_yet}
use Rattle.tx_model.specs.Replies.{IsBackward, IsFuture, IsGivenAt, IsHorizon, IsKnown, IsNearNext, IsNotTooOld, IsStatusOf, IsStopped, IsTooNew, IsWarned, MayFindOldest, MayReadAt, MayReply, RoundSpan, seen_id, status_after}
use Rattle.tx_events.specs.Snapshots.{snapshot_data, snapshot_xmax}
use Rattle.tx_events.specs.Visible.{is_visible}
use Rattle.tx_events.specs.Limits.{stop_limit, warn_limit}
use Rattle.tx_events.specs.History.{next_given}
use Rattle.tx_events.specs.Horizon.{oldest_id, oldest_xmin}
use Rattle.tx_events.specs.IdLists.{has}
use Rattle.tx_events.specs.Running.{running}
use Rattle.tx_model.specs.declared.command.Command.{Command}
use Rattle.tx_model.specs.declared.reply.Reply.{Reply}
use Rattle.tx_model.specs.declared.reply.Status.{Status}
use Rattle.tx_model.specs.Lines.{is_line_of, stance}
use Rattle.tx_events.proofs.OwnEvents.{AreOthers, AreLater, later_are_others, events_of_grows, not_other}
use Rattle.tx_events.proofs.ListSteps.{both_all}
use Rattle.tx_events.proofs.PlaceLemmas.{slice_get-grows, slice_get-append_cases, take-grows}
use Rattle.tx_model.specs.declared.command.Command.TheVariants as commands
use Rattle.tx_model.specs.declared.reply.Reply.TheVariants as replies
use Rattle.tx_events.specs.declared.refusal.Refusal.TheVariants as refusals

-- events that are of none of these lines change nothing of how a session stands after them
stance_from_grows : (h es : List Event) (lines : List Line) (s : Stance) → AllByRecursion (λ l. AreOthers l.by es) lines → stance_from s (h ++ es) lines ≡ stance_from s h lines
stance_from_grows h es [] s o = refl
stance_from_grows h es (l ∷ lines) s o =
    stance_from_grows h es lines (after s l.by.command l.command l.reply (given (events_of l.by (h ++ es)))) o.1
    ∙ ap (λ t. stance_from (after s l.by.command l.command l.reply (given t)) h lines) (events_of_grows l.by h es o.0)

others_filter : (p : Line → Bool) (es : List Event) (lines : List Line) → AllByRecursion (λ l. AreOthers l.by es) lines → AllByRecursion (λ l. AreOthers l.by es) (filter p lines)
others_filter p es [] o = tt
others_filter p es (l ∷ lines) o =
    elim (p l) as (λ b. AllByRecursion (λ l. AreOthers l.by es) (cond b (l ∷ filter p lines) (filter p lines))) [ true ↦ (o.0, others_filter p es lines o.1) | false ↦ others_filter p es lines o.1 ]

pub stance_grows : (h es : List Event) (lines : List Line) (session : ℕ) → AllByRecursion (λ l. AreOthers l.by es) lines → stance (h ++ es) lines session ≡ stance h lines session
stance_grows h es lines session o = stance_from_grows h es (filter (is_line_of session) lines) nothing_yet (others_filter _ es lines o)

-- a place of the longer history at which the command is given an id is one of the shorter
given_before : (h es : List Event) (by : By) (p id : ℕ) → AreOthers by es → IsGivenAt (h ++ es) by p id → IsGivenAt h by p id
given_before h es by p id o g =
    ⊎_elim
    (λ k. record { event = g.event; at = k; own = g.own; gives = g.gives })
    (λ k. absurd (not_other by es (p - length h) g.event o k g.own))
    (slice_get-append_cases h es g.event p g.at)

warned_grows : (base : Counters) (h es : List Event) (by : By) (warn : Bool) → AreOthers by es → IsTrue warn ↔ IsWarned base h by → IsTrue warn ↔ IsWarned base (h ++ es) by
warned_grows base h es by warn o w = (
  λ t. let k = w.0 t in
      record {
        place = k.place;
        id = k.id;
        given = record { event = k.given.event; at = slice_get-grows h es _ k.place k.given.at; own = k.given.own; gives = k.given.gives };
        late = subst (λ t. warn_limit (oldest_id base.oldest t) ≤ k.id) (sym (take-grows h es _ k.place k.given.at)) k.late;
      },
  λ k. let g = given_before h es by k.place k.id o k.given in
      w.1 (record {
        place = k.place;
        id = k.id;
        given = g;
        late = subst (λ t. warn_limit (oldest_id base.oldest t) ≤ k.id) (take-grows h es _ k.place g.at) k.late;
      }),
)

-- where a command may read in a round, it may read when the history has grown by events of other commands and the
-- round's place is wider
pub read_grows : (h es : List Event) (r r' : RoundSpan) (by : By) (p : ℕ) → r'.from ≤ r.from → r.to ≤ r'.to → r.to ≤ length h → AreLater by es → MayReadAt h r by p → MayReadAt (h ++ es) r' by p
read_grows h es r r' by p f t w o k =
    let within : p ≤ length h = omega (arith, k.not_past) in
    record {
      not_before = omega (arith, k.not_before);
      not_past = omega (arith, k.not_past);
      behind = subst (AllByRecursion (λ e. (by_of e).session ≡ by.session → by.command < (by_of e).command)) (sym (drop-append-le p h es within)) (both_all (λ e. (by_of e).session ≡ by.session → by.command < (by_of e).command) (drop p h) es k.behind o);
      before = subst (AllByRecursion (λ e. (by_of e).session ≡ by.session → (by_of e).command ≤ by.command)) (sym (take-append-le p h es within)) k.before;
    }

found_grows : (base : Counters) (h es : List Event) (r r' : RoundSpan) (by : By) (oldest : ℕ) → r'.from ≤ r.from → r.to ≤ r'.to → r.to ≤ length h → AreLater by es → MayFindOldest base h r by oldest → MayFindOldest base (h ++ es) r' by oldest
found_grows base h es r r' by oldest f t w o k = record {
  place = k.place;
  read = read_grows h es r r' by k.place f t w o k.read;
  lag = k.lag;
  short = k.short;
  oldest_is = k.oldest_is ∙ ap (oldest_id base.oldest) (sym (take-append-le (k.place - k.lag) h es (omega (arith, k.read.not_past))));
}

pub young_grows : (base : Counters) (h es : List Event) (r r' : RoundSpan) (by : By) (id : ℕ) → r'.from ≤ r.from → r.to ≤ r'.to → r.to ≤ length h → AreLater by es → IsNotTooOld base h r by id → IsNotTooOld base (h ++ es) r' by id
young_grows base h es r r' by id f t w o k = record { oldest = k.oldest; found = found_grows base h es r r' by k.oldest f t w o k.found; young = k.young }

stopped_grows : (base : Counters) (h es : List Event) (r r' : RoundSpan) (by : By) (next stop : ℕ) → r'.from ≤ r.from → r.to ≤ r'.to → r.to ≤ length h → AreLater by es → IsStopped base h r by next stop → IsStopped base (h ++ es) r' by next stop
stopped_grows base h es r r' by next stop f t w o k =
    let same = take-append-le k.place h es (omega (arith, k.read.not_past)) in
    record {
      place = k.place;
      read = read_grows h es r r' by k.place f t w o k.read;
      next_is = k.next_is ∙ ap (next_given base.next) (sym same);
      stop_is = k.stop_is ∙ ap (λ t. stop_limit (oldest_id base.oldest t)) (sym same);
      reached = k.reached;
    }

-- the status of an id at a question's place
status_grows : (told : Type 0) (base : Counters) (committed : List ℕ) (h es : List Event) (by : By) (x : ℕ) (status : Status) → IsStatusOf told base committed h by x status → IsStatusOf told base committed (h ++ es) by x status
status_grows told base committed h es by x status k =
    let same = take-grows h es _ k.place k.asked in
    record {
      place = k.place;
      asked = slice_get-grows h es _ k.place k.asked;
      young = subst (λ t. oldest_id base.oldest t ≤ x) (sym same) k.young;
      given = subst (λ t. x < next_given base.next t) (sym same) k.given;
      runs = k.runs ∙ ap (λ t. has (running t) x) (sym same);
      exact = λ t. k.exact t ∙ ap (λ t. status_after committed t x) (sym same);
    }

pub known_grows : (told : Type 0) (base : Counters) (committed : List ℕ) (h es : List Event) (by : By) (x : ℕ) (status : Status) → IsKnown told base committed h by x status → IsKnown told base committed (h ++ es) by x status
known_grows told base committed h es by x status k = (k.0, λ n. status_grows told base committed h es by x status (k.1 n))

-- where less is told of states
pub known_less : (told less : Type 0) (base : Counters) (committed : List ℕ) (h : List Event) (by : By) (x : ℕ) (status : Status) → (less → told) → IsKnown told base committed h by x status → IsKnown less base committed h by x status
known_less told less base committed h by x status f k = (
  k.0,
  λ n. let i = k.1 n in
      record { place = i.place; asked = i.asked; young = i.young; given = i.given; runs = i.runs; exact = λ t. i.exact (f t) },
)

future_grows : (base : Counters) (h es : List Event) (by : By) (x next : ℕ) → IsFuture base h by x next → IsFuture base (h ++ es) by x next
future_grows base h es by x next k = record {
  place = k.place;
  asked = slice_get-grows h es _ k.place k.asked;
  next_is = k.next_is ∙ ap (next_given base.next) (sym (take-grows h es _ k.place k.asked));
  past = k.past;
}

pub near_next_grows : (base : Counters) (h es : List Event) (r r' : RoundSpan) (by : By) (x : ℕ) (found : Option ℕ) → r'.from ≤ r.from → r.to ≤ r'.to → r.to ≤ length h → AreLater by es → IsNearNext base h r by x found → IsNearNext base (h ++ es) r' by x found
near_next_grows base h es r r' by x found f t w o k = record {
  place = k.place;
  read = read_grows h es r r' by k.place f t w o k.read;
  near = ap (λ t. near_id (next_given base.next t) x) (take-append-le k.place h es (omega (arith, k.read.not_past))) ∙ k.near;
}

horizon_grows : (base : Counters) (h es : List Event) (r r' : RoundSpan) (by : By) (xmin : ℕ) → r'.from ≤ r.from → r.to ≤ r'.to → r.to ≤ length h → AreLater by es → IsHorizon base h r by xmin → IsHorizon base (h ++ es) r' by xmin
horizon_grows base h es r r' by xmin f t w o k = record {
  place = k.place;
  read = read_grows h es r r' by k.place f t w o k.read;
  xmin_is = k.xmin_is ∙ ap (oldest_xmin base.next) (sym (take-append-le k.place h es (omega (arith, k.read.not_past))));
}

backward_grows : (base : Counters) (h es : List Event) (r r' : RoundSpan) (by : By) (oldest now : ℕ) → r'.from ≤ r.from → r.to ≤ r'.to → r.to ≤ length h → AreLater by es → IsBackward base h r by oldest now → IsBackward base (h ++ es) r' by oldest now
backward_grows base h es r r' by oldest now f t w o k = record {
  place = k.place;
  read = read_grows h es r r' by k.place f t w o k.read;
  now_is = k.now_is ∙ ap (oldest_id base.oldest) (sym (take-append-le k.place h es (omega (arith, k.read.not_past))));
  older = k.older;
}

too_new_grows : (base : Counters) (h es : List Event) (r r' : RoundSpan) (by : By) (oldest limit : ℕ) → r'.from ≤ r.from → r.to ≤ r'.to → r.to ≤ length h → AreLater by es → IsTooNew base h r by oldest limit → IsTooNew base (h ++ es) r' by oldest limit
too_new_grows base h es r r' by oldest limit f t w o k = record {
  place = k.place;
  read = read_grows h es r r' by k.place f t w o k.read;
  limit_is = k.limit_is ∙ ap (oldest_xmin base.next) (sym (take-append-le k.place h es (omega (arith, k.read.not_past))));
  past = k.past;
}

-- what may be answered may be answered when the history has grown by events of other commands and the round's place
-- is wider
pub may_reply_grows : (base : Counters) (committed : List ℕ) (h es : List Event) (r r' : RoundSpan) (by : By) (s : Stance) (command : Command) (reply : Reply) → r'.from ≤ r.from → r.to ≤ r'.to → r.to ≤ length h → AreLater by es → MayReply base committed h r by s command reply → MayReply base committed (h ++ es) r' by s command reply
may_reply_grows base committed h es r r' by s commands.Begin replies.Done f t w o m = m
may_reply_grows base committed h es r r' by s commands.Begin (replies.Refused refusals.AlreadyOpen) f t w o m = m
may_reply_grows base committed h es r r' by s commands.Write (replies.Wrote warn ids) f t w o m = (m.0, warned_grows base h es by warn (later_are_others by es o) m.1)
may_reply_grows base committed h es r r' by s commands.Write (replies.Refused refusals.NoTransaction) f t w o m = m
may_reply_grows base committed h es r r' by s commands.Write (replies.Refused (refusals.Stop next stop)) f t w o m = (m.0, stopped_grows base h es r r' by next stop f t w o m.1)
may_reply_grows base committed h es r r' by s commands.Save replies.Done f t w o m = m
may_reply_grows base committed h es r r' by s commands.Save (replies.Refused refusals.NoTransaction) f t w o m = m
may_reply_grows base committed h es r r' by s commands.Save (replies.Refused refusals.DepthLimit) f t w o m = m
may_reply_grows base committed h es r r' by s commands.Release replies.Done f t w o m = m
may_reply_grows base committed h es r r' by s commands.Release (replies.Refused refusals.NoSavepoint) f t w o m = m
may_reply_grows base committed h es r r' by s commands.Undo replies.Done f t w o m = m
may_reply_grows base committed h es r r' by s commands.Undo (replies.Refused refusals.NoSavepoint) f t w o m = m
may_reply_grows base committed h es r r' by s commands.Commit replies.Done f t w o m = m
may_reply_grows base committed h es r r' by s commands.Commit (replies.Refused refusals.NoTransaction) f t w o m = m
may_reply_grows base committed h es r r' by s commands.Abort replies.Done f t w o m = m
may_reply_grows base committed h es r r' by s commands.Abort (replies.Refused refusals.NoTransaction) f t w o m = m
may_reply_grows base committed h es r r' by s commands.Horizon (replies.Horizon xmin) f t w o m = horizon_grows base h es r r' by xmin f t w o m
may_reply_grows base committed h es r r' by s (commands.Snap name) (replies.Snapped lists) f t w o m =
    (m.0, m.1, m.2, slice_get-grows h es _ m.2 m.3, m.4 ∙ ap (snapshot_data base.next) (sym (take-grows h es _ m.2 m.3)))
may_reply_grows base committed h es r r' by s (commands.Snap name) (replies.Refused refusals.NameTaken) f t w o m = m
may_reply_grows base committed h es r r' by s (commands.Snap name) (replies.Refused refusals.SnapLimit) f t w o m = m
may_reply_grows base committed h es r r' by s (commands.DropSnap name) replies.Done f t w o m = m
may_reply_grows base committed h es r r' by s (commands.DropSnap name) (replies.Refused refusals.NoSnapshot) f t w o m = m
may_reply_grows base committed h es r r' by s (commands.See name x) (replies.Seen verdict) f t w o m = (
  m.0,
  m.1,
  record {
    place = m.2.place;
    taken = slice_get-grows h es _ m.2.place m.2.taken;
    id = m.2.id;
    near = ap (λ t. seen_id (snapshot_xmax base.next t) x.number) (take-grows h es _ m.2.place m.2.taken) ∙ m.2.near;
    young = λ n. young_grows base h es r r' by m.2.id f t w o (m.2.young n);
    exact = m.2.exact ∙ ap (λ t. is_visible committed t m.2.id) (sym (take-grows h es _ m.2.place m.2.taken));
  },
)
may_reply_grows base committed h es r r' by s (commands.See name x) (replies.Refused (refusals.TooOld oldest)) f t w o m = (
  m.0,
  m.1,
  record {
    place = m.2.place;
    taken = slice_get-grows h es _ m.2.place m.2.taken;
    normal = m.2.normal;
    older = subst (λ t. IfSome (near_id (snapshot_xmax base.next t) x.number) (λ id. id < oldest)) (sym (take-grows h es _ m.2.place m.2.taken)) m.2.older;
    found = found_grows base h es r r' by oldest f t w o m.2.found;
  },
)
may_reply_grows base committed h es r r' by s (commands.See name x) (replies.Refused refusals.NoSnapshot) f t w o m = m
may_reply_grows base committed h es r r' by s (commands.Status x) (replies.Known status) f t w o m = known_grows (Unit {0}) base committed h es by x status m
may_reply_grows base committed h es r r' by s (commands.Status x) (replies.Refused (refusals.TooOld oldest)) f t w o m = (m.0, m.1, found_grows base h es r r' by oldest f t w o m.2)
may_reply_grows base committed h es r r' by s (commands.Status x) (replies.Refused (refusals.Future next)) f t w o m = future_grows base h es by x next m
may_reply_grows base committed h es r r' by s (commands.Did x) (replies.Refused (refusals.TooOld oldest)) f t w o m = record {
  normal = m.normal;
  id = m.id;
  near = near_next_grows base h es r r' by x.number m.id f t w o m.near;
  older = m.older;
  found = found_grows base h es r r' by oldest f t w o m.found;
}
may_reply_grows base committed h es r r' by s (commands.Freeze oldest) replies.Done f t w o m = m
may_reply_grows base committed h es r r' by s (commands.Freeze oldest) (replies.Refused (refusals.Backward now)) f t w o m = backward_grows base h es r r' by oldest now f t w o m
may_reply_grows base committed h es r r' by s (commands.Freeze oldest) (replies.Refused (refusals.TooNew limit)) f t w o m = too_new_grows base h es r r' by oldest limit f t w o m
may_reply_grows base committed h es r r' by s command reply f t w o m = absurd m
