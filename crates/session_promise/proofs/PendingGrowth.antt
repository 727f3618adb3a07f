-- What is pending by some lines, as the history and the records grow.
use Rattle.std.proofs.Common.{◌≡◌, ◌⊎◌, Bool, true, false, List, [], ◌∷◌, ◌++◌, None, Option, ap, refl, sym, ◌∙◌, ⊎_elim, ℕ}
use Rattle.std.specs.List.{AllByRecursion, filter}
use Rattle.std.proofs.lemmas.Bool.{false≢true}
use Rattle.tx_events.proofs.ListSteps.{all_filter}
use Rattle.tx_events.proofs.OwnEvents.{AreOthers, events_of_grows}
use Rattle.tx_events.specs.declared.event.Event.{Event}
use Rattle.tx_events.specs.declared.record.Rec.{Rec}
use Rattle.tx_events.specs.declared.refusal.Lock.TheVariants as locks
use Rattle.tx_events.specs.declared.refusal.Refusal.{Refusal}
use Rattle.tx_events.specs.declared.refusal.Refusal.TheVariants as refusals
use Rattle.tx_events.specs.Events.{events_of, given}
use Rattle.tx_model.specs.declared.command.Command.{Command}
use Rattle.tx_model.specs.declared.command.Command.TheVariants as commands
use Rattle.tx_model.specs.declared.reply.Reply.{Reply}
use Rattle.tx_model.specs.declared.reply.Reply.TheVariants as replies
use Rattle.tx_model.specs.declared.report.Line.{Line}
use Rattle.tx_model.specs.Lines.{is_line_of}
use Rattle.tx_model.specs.Stance.{Stance, after, nothing_yet}
use Rattle.life_law.specs.Pending.{pending, pending_after, pending_from}

-- whether the reply says that the log is down
abbrev pub is_log_down : Reply → Bool
is_log_down (replies.Refused (refusals.LogDown down)) = true
is_log_down _ = false

abbrev pub IsNotDown : Line → Type 0
IsNotDown l = is_log_down l.reply ≡ false

-- what is pending behind a command goes by the records only where the log is down
after_same : (recs more : List Rec) (s : Stance) (old : Option Refusal) (command : Command) (reply : Reply) → is_log_down reply ≡ false → pending_after more s old command reply ≡ pending_after recs s old command reply
after_same recs more s old commands.Commit replies.Done n = refl
after_same recs more s old commands.Commit (replies.Refused refusals.LogFault) n = refl
after_same recs more s old commands.Commit (replies.Refused (refusals.DiskFault (locks.Xact bank))) n = refl
after_same recs more s old commands.Commit (replies.Refused (refusals.LogDown at)) n = absurd (false≢true (sym n))
after_same recs more s old commands.Abort replies.Done n = refl
after_same recs more s old commands.Abort (replies.Refused (refusals.DiskFault lock)) n = refl
after_same recs more s old commands.Undo replies.Done n = refl
after_same recs more s old commands.Undo (replies.Refused (refusals.DiskFault lock)) n = refl
after_same recs more s old command reply n = refl

from_same : (recs more : List Rec) (h : List Event) (lines : List Line) (s : Stance) (old : Option Refusal) → AllByRecursion IsNotDown lines → pending_from more h s old lines ≡ pending_from recs h s old lines
from_same recs more h [] s old a = refl
from_same recs more h (l ∷ lines) s old a =
    from_same recs more h lines (after s l.by.command l.command l.reply (given (events_of l.by h))) (pending_after more s old l.command l.reply) a.1
    ∙ ap (λ o. pending_from recs h (after s l.by.command l.command l.reply (given (events_of l.by h))) o lines) (after_same recs more s old l.command l.reply a.0)

from_grows : (recs : List Rec) (h es : List Event) (lines : List Line) (s : Stance) (old : Option Refusal) → AllByRecursion (λ l. AreOthers l.by es) lines → pending_from recs (h ++ es) s old lines ≡ pending_from recs h s old lines
from_grows recs h es [] s old o = refl
from_grows recs h es (l ∷ lines) s old o =
    from_grows recs h es lines (after s l.by.command l.command l.reply (given (events_of l.by (h ++ es)))) (pending_after recs s old l.command l.reply) o.1
    ∙ ap (λ t. pending_from recs h (after s l.by.command l.command l.reply (given t)) (pending_after recs s old l.command l.reply) lines) (events_of_grows l.by h es o.0)

-- the records are the same, or no line says that the log is down
abbrev pub AreSettled : List Rec → List Rec → List Line → Type 0
AreSettled recs more lines = (more ≡ recs) ⊎ AllByRecursion IsNotDown lines

pub pending_grows : (recs more : List Rec) (h es : List Event) (lines : List Line) (n : ℕ) → AllByRecursion (λ l. AreOthers l.by es) lines → AreSettled recs more lines → pending more (h ++ es) lines n ≡ pending recs h lines n
pending_grows recs more h es lines n o settled =
    from_grows more h es (filter (is_line_of n) lines) nothing_yet None (all_filter (λ l. AreOthers l.by es) (is_line_of n) lines o)
    ∙ ⊎_elim
    (λ (same : more ≡ recs). ap (λ t. pending_from t h nothing_yet None (filter (is_line_of n) lines)) same)
    (λ none. from_same recs more h (filter (is_line_of n) lines) nothing_yet None (all_filter IsNotDown (is_line_of n) lines none))
    settled
