-- The events that a command's reply tells.
use Rattle.std.specs.Prelude.{◌≡◌, ℕ, ◌-◌, ◌∷◌, Bool, true, false, List, [], Option, Some, None, length, take}
use Rattle.tx_events.specs.declared.event.By.{By}
use Rattle.tx_events.specs.declared.event.Event.{Event}
use Rattle.tx_events.specs.declared.event.Event.TheVariants as events
use Rattle.tx_events.specs.declared.refusal.Refusal.{Refusal}
use Rattle.tx_events.specs.declared.refusal.Refusal.TheVariants as refusals
use Rattle.tx_model.specs.declared.command.Command.{Command}
use Rattle.tx_model.specs.declared.command.Command.TheVariants as commands
use Rattle.tx_model.specs.declared.reply.Reply.{Reply}
use Rattle.tx_model.specs.declared.reply.Reply.TheVariants as replies
use Rattle.tx_model.specs.CommandEvents.{HasEvents, abort_event, ask_event, commit_event, innermost, undo_event}
use Rattle.tx_model.specs.Stance.{Stance, top_level}
use Rattle.report_law.specs.Kinds.{BeginAsTold}

-- the longest events that the reply tells and with which the command's own begin
pub record AreTold (by : By) (s : Stance) (command : Command) (reply : Reply) (own es : List Event) : Type 0 where
  pub has : HasEvents by s command reply es
  pub begin : BeginAsTold es own
  pub longest : (others : List Event) → HasEvents by s command reply others → BeginAsTold others own → others ≡ take (length others) es

-- the command's own events begin with none that the reply tells
abbrev pub IsToldNothing : By → Stance → Command → Reply → List Event → Type 0
IsToldNothing by s command reply own = (es : List Event) → HasEvents by s command reply es → BeginAsTold es own → ⊥

abbrev pub as_list : Option Event → List Event
as_list None = []
as_list (Some e) = e ∷ []

-- whether the command may give ids, by its reply
abbrev pub gives_ids : Command → Reply → Bool
gives_ids commands.Write (replies.Wrote warn ids) = true
gives_ids commands.Write (replies.Refused refusal) = true
gives_ids command reply = false

-- the events of a command that gives none
abbrev pub plain_events : By → Stance → Command → Reply → List Event
plain_events by s commands.Undo replies.Done = undo_event by (innermost s.levels)
plain_events by s commands.Commit replies.Done = commit_event by (top_level s.levels)
plain_events by s commands.Abort replies.Done = abort_event by (top_level s.levels)
plain_events by s (commands.Snap name) (replies.Snapped lists) = events.Snap name by ∷ []
plain_events by s (commands.DropSnap name) replies.Done = events.SnapDrop name by ∷ []
plain_events by s (commands.Status x) reply = ask_event by x reply
plain_events by s (commands.Freeze oldest) replies.Done = events.Oldest by oldest ∷ []
plain_events by s command reply = []

-- how many ids a refused write gave at most, of those that it was to give
abbrev pub most_given : Refusal → ℕ → ℕ
most_given refusals.NoTransaction wanted = 0
most_given refusals.CommitPending wanted = 0
most_given refusals.AbortPending wanted = 0
most_given refusals.UndoPending wanted = 0
most_given (refusals.DiskFault lock) wanted = wanted
most_given refusal wanted = wanted - 1

-- the id that an event gives below another one, or as a transaction's
abbrev pub id_given : Bool → Event → Option ℕ
id_given false (events.Id by id) = Some id
id_given true (events.Sub by parent id) = Some id
id_given below e = None

-- one more before these, where there is one
abbrev pub id_before : Option ℕ → List ℕ → List ℕ
id_before None ids = []
id_before (Some id) ids = id ∷ ids

-- the ids that the first events give, each below the one before it
abbrev pub all_given : Bool → List Event → List ℕ
all_given below [] = []
all_given below (e ∷ es) = id_before (id_given below e) (all_given true es)
