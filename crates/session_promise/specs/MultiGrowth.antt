-- A command's reply on multixacts while lists grow.
use Rattle.std.specs.Prelude.{◌≡◌, ◌<◌, ◌≤◌, Bool, List, drop, length}
use Rattle.std.specs.List.{AllByRecursion}
use Rattle.notes.specs.Lists.{Grows}
use Rattle.tx_events.specs.declared.event.By.{By}
use Rattle.tx_events.specs.Events.{by_of}
use Rattle.tx_events.specs.Multis.{multi_by}
use Rattle.tx_model.specs.declared.command.Command.{Command}
use Rattle.tx_model.specs.declared.reply.Reply.{Reply}
use Rattle.tx_model.specs.Replies.{RoundSpan}
use Rattle.tx_model.specs.Stance.{Stance}
use Rattle.tx_core.specs.declared.entry.Entry.{Entry}
use Rattle.tx_core.specs.declared.entry.Start.{Start}
use Rattle.tx_core.specs.Entries.{history}
use Rattle.tx_core.specs.MultiEntries.{multi_history}
use Rattle.engine_parts.specs.declared.session.Stage.{Stage}
use Rattle.engine_parts.specs.MultiAnswers.{MayAnswerMulti}

-- of another session, or of a later command
abbrev pub IsLaterThan : By → By → Type 0
IsLaterThan by other = other.session ≡ by.session → by.command < other.command

-- The second span, of a longer list, holds the first one, of this list, and all that stands behind this is of other sessions
-- or of later commands.
pub record Widens {X : Type 0} (by_of : X → By) (by : By) (h more : List X) (span wider : RoundSpan) : Type 0 where
  pub from : wider.from ≤ span.from
  pub to : span.to ≤ wider.to
  pub within : span.to ≤ length h
  pub later : AllByRecursion (λ e. IsLaterThan by (by_of e)) (drop span.to more)

abbrev pub MultiAnswersStay : Type 0
MultiAnswersStay =
    (tells : Bool) (start : Start) (begun lists more : List (List Entry)) (span wider multis wider_multis : RoundSpan) (by : By) (s : Stance)
    (stage : Stage) (command : Command) (reply : Reply)
    → Grows lists more → Widens by_of by (history lists) (history more) span wider
    → Widens multi_by by (multi_history lists) (multi_history more) multis wider_multis
    → MayAnswerMulti tells start begun lists span multis by s stage command reply
    → MayAnswerMulti tells start begun more wider wider_multis by s stage command reply
