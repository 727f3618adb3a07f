-- The replies to an announcement of the oldest id are lawful.
use Rattle.std.proofs.Common.{◌≡◌, ℕ, ◌≤◌, Bool, List, [], ◌∷◌, ◌++◌, None, inl, inr, length, take_all, refl, sym, ap, ⊎_elim, ◌∙◌, arith}
use Rattle.tx_events.specs.declared.event.Event.{Event}
use Rattle.tx_events.specs.declared.refusal.Refusal.{Refusal}
use Rattle.tx_events.specs.declared.refusal.Refusal.TheVariants as refusals
use Rattle.tx_events.specs.Horizon.{oldest_id, oldest_xmin}
use Rattle.tx_events.proofs.HorizonSteps.{oldest_push}
use Rattle.tx_model.specs.declared.command.Command.TheVariants as commands
use Rattle.tx_model.specs.declared.reply.Reply.TheVariants as replies
use Rattle.tx_model.specs.Replies.{alone}
use Rattle.life_law.specs.Refused.{by_standing}
use Rattle.notes.specs.Lists.{Grows}
use Rattle.tx_core.specs.declared.entry.Entry.{Entry}
use Rattle.tx_core.specs.declared.entry.Kind.TheVariants as kinds
use Rattle.tx_core.specs.declared.entry.Start.{Start}
use Rattle.tx_core.specs.EngineInvariant.{EngineInvariant}
use Rattle.tx_core.specs.Entries.{history}
use Rattle.tx_core.specs.PostsFollow.{IsShown, WasShown}
use Rattle.tx_core.proofs.Posting.{oldest_rises}
use Rattle.session_levels.proofs.ActsLemmas.{reads_last}
use Rattle.engine_parts.specs.declared.session.Session.{Session}
use Rattle.engine_parts.specs.Answers.{MayAnswer}
use Rattle.engine_parts.specs.Holds.{Knowledge, ProcSection}
use Rattle.engine_parts.specs.Sessions.{IsAt, by_at, stance_of}
use Rattle.engine_parts.specs.Steps.{WentOn}
use Rattle.engine_parts.proofs.Leaving.{history_event}
use Rattle.engine_parts.proofs.Unmoved.{went_longer}
use Rattle.proc_sections.specs.Announcements.{IsNotAnnounced, announcement}

-- why nothing was announced may be told, at the end of what the session has seen
pub refused_answer : (tells : Bool) (start : Start) (v w : Knowledge) (n : ℕ) (s : Session) (oldest : ℕ) (r : Refusal) → IsAt start w n s → WentOn n [] v.seen w.seen → IsNotAnnounced start.base (history w.seen) oldest r
    → MayAnswer tells start w.seen (alone (history v.seen) (history w.seen)) (by_at n s.levels.commands) (stance_of s) s.stage (commands.Freeze oldest) (replies.Refused r) × (by_standing (replies.Refused r) ≡ None)
refused_answer tells start v w n s oldest (refusals.Backward now) a went i =
    let h : List Event = history w.seen in
    let longer = went_longer n v.seen w.seen went in (
      record {
        place = length h;
        read = reads_last (by_at n s.levels.commands) (history v.seen) h longer a.stands.turn;
        now_is = i.0 ∙ ap (oldest_id start.base.oldest) (sym (take_all (length h) h (omega arith)));
        older = i.1;
      },
      refl,
    )
refused_answer tells start v w n s oldest (refusals.TooNew limit) a went i =
    let h : List Event = history w.seen in
    let longer = went_longer n v.seen w.seen went in (
      record {
        place = length h;
        read = reads_last (by_at n s.levels.commands) (history v.seen) h longer a.stands.turn;
        limit_is = i.0 ∙ ap (oldest_xmin start.base.next) (sym (take_all (length h) h (omega arith)));
        past = i.1;
      },
      refl,
    )
refused_answer tells start v w n s oldest refusals.Memory a went i = (refl, refl)
refused_answer tells start v w n s oldest r a went i = absurd i

-- behind the announcement the published oldest id is the announced one, or a later one
pub announced_shown : (start : Start) (v t w : Knowledge) (n : ℕ) (s : Session) (oldest : ℕ) → IsAt start v n s → ProcSection start (record { by = by_at n s.levels.commands; kind = kinds.Event (announcement n s oldest) }) v t → EngineInvariant start w.seen → Grows t.seen w.seen → IsShown start w.seen → WasShown start w.seen oldest
announced_shown start v t w n s oldest a section k grows shown =
    let event : Event = announcement n s oldest in
    let e : Entry = record { by = by_at n s.levels.commands; kind = kinds.Event event } in
    let wide = a.wide in
    let long = section.enters.long in
    let now : history t.seen ≡ history section.within.seen ++ event ∷ [] = history_event start section.within t e event refl (omega arith) section.leaves in
    let is : oldest_id start.base.oldest (history t.seen) ≡ oldest = ap (oldest_id start.base.oldest) now ∙ oldest_push start.base.oldest (history section.within.seen) event in
    let up = oldest_rises start t.seen w.seen k grows in
    ⊎_elim (λ (le : oldest_id start.base.oldest (history w.seen) ≤ start.base.oldest). inl (omega arith)) (λ p. let below = p.2 in inr (p.0, p.1, omega arith)) shown
