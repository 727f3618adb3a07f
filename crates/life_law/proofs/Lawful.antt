-- What follows of a lawful life.
use Rattle.std.proofs.Common.{◌≡◌, ◌≢◌, ℕ, List, [], ◌∷◌, ◌++◌, Contains, Option, None, Some, refl, sym, ap, subst, ◌∙◌, inl, ⊎_elim, cond, drop, take, slice_get}
use Rattle.std.specs.List.{filter, flat_map, fold}
use Rattle.tx_events.specs.declared.event.By.{By}
use Rattle.tx_events.specs.declared.event.Event.{Event}
use Rattle.tx_events.specs.declared.event.Event.TheVariants as events
use Rattle.tx_events.specs.declared.record.Rec.{Rec}
use Rattle.tx_events.specs.declared.record.Rec.TheVariants as records
use Rattle.tx_events.specs.declared.refusal.Refusal.{Refusal}
use Rattle.tx_events.specs.declared.refusal.Refusal.TheVariants as refusals
use Rattle.tx_events.specs.declared.xact_end.XactEnd.TheVariants as ends
use Rattle.tx_events.specs.Events.{by_of, events_of, given, same_by}
use Rattle.tx_events.specs.Running.{open_ids}
use Rattle.tx_events.specs.XactEnds.{end_event}
use Rattle.tx_events.proofs.Membership.{Has, contains_has, has_contains, has_filter, has_place, place_has}
use Rattle.tx_model.specs.declared.command.Command.{Command}
use Rattle.tx_model.specs.declared.command.Command.TheVariants as commands
use Rattle.tx_model.specs.declared.reply.Reply.{Reply}
use Rattle.tx_model.specs.declared.reply.Reply.TheVariants as replies
use Rattle.tx_model.specs.declared.report.LifeReport.{LifeReport}
use Rattle.tx_model.specs.declared.report.Line.{Line}
use Rattle.tx_model.specs.CommandEvents.{HasEvents, abort_event, commit_event}
use Rattle.tx_model.specs.Rounds.{lines_in}
use Rattle.tx_model.specs.Lines.{is_line_of, span_of, stance}
use Rattle.tx_model.specs.Stance.{Stance, after, nothing_yet}
use Rattle.life_law.specs.LawfulLife.{facts_of}
use Rattle.life_law.specs.Laws.{AbortedIdsAreUnrecorded, IsLawful, IsOkOf, OkAbortsAreUnrecorded, OkCommitsAreFlushed, StandsBehind, UncommittedRecordsAreInDoubt, UndoneIdsAreUnrecorded, is_commit, last_commit, lines_of}
use Rattle.life_law.specs.LifeLog.{IsTransaction}
use Rattle.life_law.specs.Lines.{IsLawfulLine}
use Rattle.life_law.specs.MultiPlaces.{multi_span}
use Rattle.life_law.specs.Pending.{pending_after, pending_from}
use Rattle.life_law.proofs.Closed.{aborted_unrecorded, undone_unrecorded}

-- ---- the events of a line

own_events : (r : LifeReport) (before : List Line) (l : Line) → IsLawful r → StandsBehind r.steps before l → HasEvents l.by (stance r.life.events before l.by.session) l.command l.reply (events_of l.by r.life.events)
own_events r before l w s =
    let line : IsLawfulLine (facts_of w.tells w.banks r.life r.steps) (span_of r.life.events (flat_map lines_in (take s.round r.steps)) (lines_in s.step)) (multi_span r.life.multis (flat_map lines_in (take s.round r.steps)) (lines_in s.step)) (flat_map lines_in (take s.round r.steps) ++ take s.place (lines_in s.step)) l = w.life.lawful.each s.round s.step s.told s.place l s.stands in
    subst (λ b. HasEvents l.by (stance r.life.events b l.by.session) l.command l.reply (events_of l.by r.life.events)) (sym s.before_is) line.events

one_event : (h : List Event) (by : By) (e : Event) → events_of by h ≡ e ∷ [] → (p : ℕ) × (slice_get h p ≡ Some e)
one_event h by e own = has_place h e (has_filter (λ x. same_by (by_of x) by) h e (subst (λ es. Has es e) (sym own) (inl refl))).0

-- the event of an end that was answered `ok`
commit_place : (r : LifeReport) (l : Line) (top : ℕ) → IsLawful r → IsOkOf r l commands.Commit top → (p : ℕ) × (slice_get r.life.events p ≡ Some (events.Commit l.by top))
commit_place r l top w o =
    let s : Stance = stance r.life.events o.before l.by.session in
    let own : HasEvents l.by s commands.Commit replies.Done (events_of l.by r.life.events) =
    subst (λ c. HasEvents l.by s c replies.Done (events_of l.by r.life.events)) o.command_is
    (subst (λ y. HasEvents l.by s l.command y (events_of l.by r.life.events)) o.ok (own_events r o.before l w o.stands)) in
    one_event r.life.events l.by (events.Commit l.by top) (own ∙ ap (commit_event l.by) o.of)

abort_place : (r : LifeReport) (l : Line) (top : ℕ) → IsLawful r → IsOkOf r l commands.Abort top → (p : ℕ) × (slice_get r.life.events p ≡ Some (events.Abort l.by top))
abort_place r l top w o =
    let s : Stance = stance r.life.events o.before l.by.session in
    let own : HasEvents l.by s commands.Abort replies.Done (events_of l.by r.life.events) =
    subst (λ c. HasEvents l.by s c replies.Done (events_of l.by r.life.events)) o.command_is
    (subst (λ y. HasEvents l.by s l.command y (events_of l.by r.life.events)) o.ok (own_events r o.before l w o.stands)) in
    one_event r.life.events l.by (events.Abort l.by top) (own ∙ ap (abort_event l.by) o.of)

pub commits_flushed : OkCommitsAreFlushed
commits_flushed r l top w o =
    let place = commit_place r l top w o in
    (drop 1 (open_ids l.by.session (take place.0 r.life.events)), w.life.log.committed place.0 top l.by place.1)

-- ---- the records of commits

-- a commit record isn't the one with which the life begins
recorded : (r : LifeReport) (top : ℕ) (subs : List ℕ) → IsLawful r → Contains r.life.recs (records.Commit top subs) → IsTransaction r.life.events ends.Commit top subs
recorded r top subs w c = ⊎_elim
    (λ (e : records.Checkpoint r.life.from r.life.base ≡ records.Commit top subs). absurd cc)
    (λ k. w.life.log.each (records.Commit top subs) (has_contains w.life.log.rest (records.Commit top subs) k))
    (subst (λ rs. Has rs (records.Commit top subs)) w.life.log.split (contains_has r.life.recs (records.Commit top subs) c))

pub aborted_ids : AbortedIdsAreUnrecorded
aborted_ids r place top t id subs by w at k c among =
    aborted_unrecorded r.life.base r.life.events place t id top by subs w.life.history at (contains_has (open_ids by.session (take place r.life.events)) id k) (recorded r top subs w c) (contains_has (top ∷ subs) id among)

pub aborts_unrecorded : OkAbortsAreUnrecorded
aborts_unrecorded r l top id subs w o c among =
    let place = abort_place r l id w o in
    aborted_ids r place.0 top id id subs l.by w place.1 (w.life.history.rules place.0 (events.Abort l.by id) place.1).0 c among

pub undone_ids : UndoneIdsAreUnrecorded
undone_ids r top id subs w undone c among =
    undone_unrecorded r.life.base r.life.events id top subs w.life.history undone (recorded r top subs w c) (contains_has (top ∷ subs) id among)

-- ---- commits in doubt

abbrev IsNotOk : Option Reply → Type 0
IsNotOk None = ⊥
IsNotOk (Some reply) = reply ≢ replies.Done

step_refused : (recs : List Rec) (s : Stance) (old : Option Refusal) (command : Command) (reply : Reply) (found : Option Reply) → (old ≡ Some refusals.CommitPending → IsNotOk found) → pending_after recs s old command reply ≡ Some refusals.CommitPending → IsNotOk (cond (is_commit command) (Some reply) found)
step_refused recs s old commands.Commit replies.Done found f e = absurd cc
step_refused recs s old commands.Commit reply found f e = λ k. cc
step_refused recs s old commands.Abort replies.Done found f e = absurd cc
step_refused recs s old commands.Abort (replies.Refused (refusals.DiskFault lock)) found f e = absurd cc
step_refused recs s old commands.Undo replies.Done found f e = absurd cc
step_refused recs s old commands.Undo (replies.Refused (refusals.DiskFault lock)) found f e = absurd cc
step_refused recs s old command reply found f e = f e

lines_refused : (recs : List Rec) (h : List Event) (s : Stance) (old : Option Refusal) (lines : List Line) (found : Option Reply) → (old ≡ Some refusals.CommitPending → IsNotOk found) → pending_from recs h s old lines ≡ Some refusals.CommitPending → IsNotOk (fold (λ found l. cond (is_commit l.command) (Some l.reply) found) found lines)
lines_refused recs h s old [] found f e = f e
lines_refused recs h s old (l ∷ lines) found f e =
    lines_refused recs h (after s l.by.command l.command l.reply (given (events_of l.by h))) (pending_after recs s old l.command l.reply) lines (cond (is_commit l.command) (Some l.reply) found) (step_refused recs s old l.command l.reply found f) e

last_refused : (found : Option Reply) → IsNotOk found → (reply : Reply) × (found ≡ Some reply) × (reply ≢ replies.Done)
last_refused None n = absurd n
last_refused (Some reply) n = (reply, refl, n)

pub records_in_doubt : UncommittedRecordsAreInDoubt
records_in_doubt r top subs w c none =
    let t = recorded r top subs w c in
    ⊎_elim
    (λ (e : open_ids t.session r.life.events ≡ top ∷ subs).
    let waits = (w.life.opened t.session).commit top subs c e in
    let own : List Line = filter (is_line_of t.session) (lines_of r) in
    let last = last_refused (last_commit own) (lines_refused r.life.recs r.life.events nothing_yet None own None (λ k. absurd cc) waits) in
    record { session = t.session; opened = e; pending_is = waits; reply = last.0; last = last.1; refused = last.2 })
    (λ (e : (p : ℕ) × (by : By) × (by.session ≡ t.session) × (slice_get r.life.events p ≡ Some (end_event ends.Commit by top)) × (open_ids t.session (take p r.life.events) ≡ top ∷ subs)).
    absurd (none e.1 (has_contains r.life.events (events.Commit e.1 top) (place_has r.life.events e.0 (events.Commit e.1 top) e.3))))
    t.ids
