-- A command that gives no ids has its one list of events.
use Rattle.std.proofs.Common.{◌≡◌, ◌↔◌, List, [], ◌∷◌, false, length, take, refl, sym, ap, subst, ◌∙◌}
use Rattle.tx_events.specs.declared.event.By.{By}
use Rattle.tx_events.specs.declared.event.Event.{Event}
use Rattle.tx_model.specs.declared.command.Command.{Command}
use Rattle.tx_model.specs.declared.command.Command.TheVariants as commands
use Rattle.tx_model.specs.declared.reply.Reply.{Reply}
use Rattle.tx_model.specs.declared.reply.Reply.TheVariants as replies
use Rattle.tx_model.specs.CommandEvents.{HasEvents}
use Rattle.tx_model.specs.Stance.{Stance}
use Rattle.report_law.specs.Kinds.{BeginAsTold}
use Rattle.command_events.specs.Told.{AreTold, IsToldNothing, gives_ids, plain_events}

pub has_plain : (by : By) (s : Stance) (command : Command) (reply : Reply) (es : List Event) → gives_ids command reply ≡ false → HasEvents by s command reply es ↔ (es ≡ plain_events by s command reply)
has_plain by s commands.Write (replies.Wrote warn ids) es plain = absurd cc
has_plain by s commands.Write (replies.Refused refusal) es plain = absurd cc
has_plain by s commands.Undo replies.Done es plain = (λ e. e, λ e. e)
has_plain by s commands.Commit replies.Done es plain = (λ e. e, λ e. e)
has_plain by s commands.Abort replies.Done es plain = (λ e. e, λ e. e)
has_plain by s (commands.Snap name) (replies.Snapped lists) es plain = (λ e. e, λ e. e)
has_plain by s (commands.DropSnap name) replies.Done es plain = (λ e. e, λ e. e)
has_plain by s (commands.Status x) reply es plain = (λ e. e, λ e. e)
has_plain by s (commands.Freeze oldest) replies.Done es plain = (λ e. e, λ e. e)
has_plain by s command reply es plain = (λ e. e, λ e. e)

take_all : (es : List Event) → take (length es) es ≡ es
take_all [] = refl
take_all (e ∷ es) = ap (λ (t : List Event). e ∷ t) (take_all es)

pub told_only : (by : By) (s : Stance) (command : Command) (reply : Reply) (own es : List Event) → HasEvents by s command reply es → ((others : List Event) → HasEvents by s command reply others → others ≡ es) → BeginAsTold es own → AreTold by s command reply own es
told_only by s command reply own es has only b = record {
  has = has;
  begin = b;
  longest = λ others h k. only others h ∙ sym (take_all es) ∙ ap (λ (t : List Event). take (length t) es) (sym (only others h));
}

pub nothing_told : (by : By) (s : Stance) (command : Command) (reply : Reply) (own es : List Event) → ((others : List Event) → HasEvents by s command reply others → others ≡ es) → (BeginAsTold es own → ⊥) → IsToldNothing by s command reply own
nothing_told by s command reply own es only never others h b = never (subst (λ (t : List Event). BeginAsTold t own) (only others h) b)
