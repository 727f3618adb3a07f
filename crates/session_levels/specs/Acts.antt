-- What a command does.
use Rattle.std.specs.Prelude.{◌≡◌, ℕ, ◌≤◌, List, [], ◌++◌}
use Rattle.std.specs.List.{AllByRecursion, filter}
use Rattle.tx_events.specs.declared.xact_end.XactEnd.{XactEnd}
use Rattle.tx_events.specs.declared.xact_end.XactEnd.TheVariants as ends
use Rattle.tx_events.specs.declared.event.By.{By}
use Rattle.tx_events.specs.declared.event.Event.{Event}
use Rattle.tx_model.specs.declared.command.Command.{Command}
use Rattle.tx_model.specs.declared.command.Command.TheVariants as commands
use Rattle.tx_events.specs.declared.record.Counters.{Counters}
use Rattle.tx_model.specs.declared.reply.Reply.{Reply}
use Rattle.tx_events.specs.Events.{by_of, given, is_of}
use Rattle.tx_model.specs.Stance.{Stance, after}
use Rattle.tx_model.specs.CommandEvents.{HasEvents}
use Rattle.tx_model.specs.Replies.{MayReply, alone}
use Rattle.session_levels.specs.declared.session.Session.{Session}
use Rattle.session_levels.specs.Stands.{Stands, stance_of}

-- The command was answered so, its events were added, and the session stands as it leaves it.
pub record Acts (base : Counters) (by : By) (s s' : Stance) (command : Command) (reply : Reply) (h h' : List Event) : Type 0 where
  pub added : List Event
  pub grown : h' ≡ h ++ added
  pub own : AllByRecursion (λ e. by_of e ≡ by) added
  pub fitting : HasEvents by s command reply added
  pub allowed : MayReply base [] h' (alone h h') by s command reply
  pub left : after s by.command command reply (given added) ≡ s'

abbrev pub end_command : XactEnd → Command
end_command ends.Commit = commands.Commit
end_command ends.Abort = commands.Abort

-- the session's events are of commands up to this one
abbrev pub IsInTurn : By → List Event → Type 0
IsInTurn by h = AllByRecursion (λ e. (by_of e).command ≤ by.command) (filter (is_of by.session) h)

-- A command changed its session alone, whatever happened before.
pub record RunsAlone (s s' : Session) (command : Command) (reply : Reply) : Type 0 where
  pub acts : (base : Counters) (h : List Event) (by : By) → Acts base by (stance_of s) (stance_of s') command reply h h
  pub stands : (base : Counters) (h : List Event) (session number : ℕ) → Stands base h session number s → Stands base h session number s'
  pub count : s'.commands ≡ s.commands
