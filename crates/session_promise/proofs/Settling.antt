-- The records of a log that is down stay, so what is pending by them does.
use Rattle.std.proofs.Common.{◌≡◌, ℕ, Bool, true, false, List, ◌∷◌, ap, refl, sym, subst, ◌∙◌, arith, inl, inr, length, take, map}
use Rattle.std.specs.List.{AllByRecursion}
use Rattle.std.proofs.lemmas.List.{length-map, length-take-le}
use Rattle.std.proofs.lemmas.Option.{slice_get_within}
use Rattle.notes.specs.Lists.{Grows, at}
use Rattle.tx_events.specs.Places.{EachPlace}
use Rattle.tx_events.specs.declared.refusal.Refusal.TheVariants as refusals
use Rattle.tx_events.specs.declared.event.By.{By}
use Rattle.tx_events.specs.declared.record.Rec.{Rec}
use Rattle.tx_events.proofs.ListSteps.{not_both}
use Rattle.tx_events.proofs.Membership.{any_has, has_right, Has}
use Rattle.tx_model.specs.declared.command.Command.{Command}
use Rattle.tx_model.specs.declared.command.Command.TheVariants as commands
use Rattle.tx_model.specs.declared.reply.Reply.{Reply}
use Rattle.tx_model.specs.declared.reply.Reply.TheVariants as replies
use Rattle.tx_model.specs.Replies.{RoundSpan}
use Rattle.tx_model.specs.Stance.{Stance}
use Rattle.tx_core.specs.declared.entry.Entry.{Entry}
use Rattle.tx_core.specs.declared.entry.Kind.TheVariants as kinds
use Rattle.tx_core.specs.declared.entry.Start.{Start}
use Rattle.tx_core.specs.EngineInvariant.{EngineInvariant}
use Rattle.tx_core.specs.Locks.{log_lock}
use Rattle.tx_core.specs.StaysDown.{is_down, is_put_down}
use Rattle.tx_core.proofs.LogLaws.{down_stays}
use Rattle.engine_parts.specs.declared.session.Stage.{Stage}
use Rattle.engine_parts.specs.Answers.{MayAnswer}
use Rattle.engine_parts.specs.MultiAnswers.{MayAnswerMulti}
use Rattle.engine_parts.specs.Stand.{IsDownAt}
use Rattle.session_promise.specs.Told.{Span, Told, lines_of, place_of}
use Rattle.session_promise.specs.Promise.{IsToldWell, MayAnswerIn, recs_of}
use Rattle.session_promise.proofs.Widening.{IsWithin}
use Rattle.session_promise.proofs.Growing.{IsUpTo, all_lines_of, all_places}
use Rattle.session_promise.proofs.PendingGrowth.{AreSettled, IsNotDown, is_log_down}

pub down_is : (start : Start) (es : List Entry) (flushed : ℕ) → IsDownAt start es flushed → is_down es ≡ true
down_is start es flushed d =
    let e : Entry = record { by = d.by; kind = kinds.LogFault d.asked d.count } in
    any_has (λ (f : Entry). is_put_down f.kind) es e (subst (λ (t : List Entry). Has t e) (sym d.split) (has_right d.before (e ∷ d.rest) e (inl refl))) d.down

-- a reply that says so comes behind a fault
multi_down : (tells : Bool) (start : Start) (begun lists : List (List Entry)) (span multis : RoundSpan) (by : By) (s : Stance) (stage : Stage) (command : Command) (reply : Reply) → is_down (at lists log_lock) ≡ false → MayAnswerMulti tells start begun lists span multis by s stage command reply → is_log_down reply ≡ false
multi_down tells start begun lists span multis by s stage command (replies.Refused (refusals.LogDown down)) up a = not_both (is_down (at lists log_lock)) (down_is start (at lists log_lock) down a.1) up
multi_down tells start begun lists span multis by s stage command reply up a = refl

plain_down : (tells : Bool) (start : Start) (lists : List (List Entry)) (span : RoundSpan) (by : By) (s : Stance) (stage : Stage) (command : Command) (reply : Reply) → is_down (at lists log_lock) ≡ false → MayAnswer tells start lists span by s stage command reply → is_log_down reply ≡ false
plain_down tells start lists span by s stage command (replies.Refused (refusals.LogDown down)) up a = not_both (is_down (at lists log_lock)) (down_is start (at lists log_lock) down a.1) up
plain_down tells start lists span by s stage command reply up a = refl

down_by : (tells : Bool) (start : Start) (begun lists : List (List Entry)) (span : Span) (by : By) (s : Stance) (stage : Stage) (command : Command) (reply : Reply) → is_down (at lists log_lock) ≡ false → MayAnswerIn tells start begun lists span by s stage command reply → is_log_down reply ≡ false
down_by tells start begun lists span by s stage (commands.Multi pairs) reply up a = multi_down tells start begun lists span.events span.multis by s stage (commands.Multi pairs) reply up a
down_by tells start begun lists span by s stage (commands.SeeMulti name m) reply up a = multi_down tells start begun lists span.events span.multis by s stage (commands.SeeMulti name m) reply up a
down_by tells start begun lists span by s stage (commands.MultiFreeze multi) reply up a = multi_down tells start begun lists span.events span.multis by s stage (commands.MultiFreeze multi) reply up a
down_by tells start begun lists span by s stage commands.Trim reply up a = multi_down tells start begun lists span.events span.multis by s stage commands.Trim reply up a
down_by tells start begun lists span by s stage command reply up a = plain_down tells start lists span.events by s stage command reply up a

-- so the records stay, or no line says that the log is down
pub settled_of : (tells : Bool) (start : Start) (n : ℕ) (lists more : List (List Entry)) (told : List Told) → EngineInvariant start more → Grows lists more → EachPlace told (λ before t. IsToldWell tells start lists n (lines_of before) t) → AreSettled (recs_of lists) (recs_of more) (lines_of told)
settled_of tells start n lists more told k g each = step (is_down (at lists log_lock)) refl
  where
    step : (b : Bool) → is_down (at lists log_lock) ≡ b → AreSettled (recs_of lists) (recs_of more) (lines_of told)
    step true q = inl (ap (λ (rs : List (By × Rec)). map (λ r. r.1) rs) (down_stays start lists more k g q).0)
    step false q = inr (all_lines_of IsNotDown told (all_places (λ (t : Told). IsNotDown t.line) told (λ p t e.
        let w = each p t e in down_by tells start w.begun lists t.span t.line.by _ w.stage t.line.command t.line.reply q w.answer)))

-- the lines are of the session's commands up to their number
pub up_to : (tells : Bool) (start : Start) (n : ℕ) (lists : List (List Entry)) (told : List Told) → EachPlace told (λ before t. IsToldWell tells start lists n (lines_of before) t) → AllByRecursion (λ t. IsUpTo n (length told) t.line) told
up_to tells start n lists told each = all_places (λ (t : Told). IsUpTo n (length told) t.line) told (λ p t e.
    let w = each p t e in
    let low = slice_get_within told p t e in
    let count : length (lines_of (take p told)) ≡ p = length-map (take p told) (λ (x : Told). x.line) ∙ length-take-le p told (omega (arith, low)) in
    (w.own, (let number = w.number in omega (arith, number, count, low))))

pub within_all : (tells : Bool) (start : Start) (n : ℕ) (lists : List (List Entry)) (told : List Told) → EachPlace told (λ before t. IsToldWell tells start lists n (lines_of before) t) → AllByRecursion (IsWithin (place_of lists)) told
within_all tells start n lists told each = all_places (IsWithin (place_of lists)) told (λ p t e. ((each p t e).within.1, (each p t e).multi_within.1))
