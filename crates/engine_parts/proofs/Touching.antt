-- A command that touches no multixact has none of their events, and is answered as such.
use Rattle.std.proofs.Common.{Bool, List, false, refl, sym, ◌≡◌}
use Rattle.std.proofs.lemmas.Bool.{false≢true}
use Rattle.tx_events.specs.declared.event.By.{By}
use Rattle.tx_model.specs.declared.command.Command.{Command}
use Rattle.tx_model.specs.declared.command.Command.TheVariants as commands
use Rattle.tx_model.specs.declared.reply.Reply.{Reply}
use Rattle.tx_model.specs.Replies.{alone}
use Rattle.tx_model.specs.Stance.{Stance}
use Rattle.tx_core.specs.declared.entry.Entry.{Entry}
use Rattle.tx_core.specs.declared.entry.Start.{Start}
use Rattle.tx_core.specs.Entries.{history}
use Rattle.engine_parts.specs.declared.session.Stage.{Stage}
use Rattle.engine_parts.specs.Answers.{HasNoMultis, MayAnswer, MayAnswerAny, touches_multis}

pub any_answer : (tells : Bool) (start : Start) (begun lists : List (List Entry)) (by : By) (s : Stance) (stage : Stage) (command : Command) (reply : Reply) → touches_multis command ≡ false
    → MayAnswer tells start lists (alone (history begun) (history lists)) by s stage command reply → MayAnswerAny tells start begun lists by s stage command reply
any_answer tells start begun lists by s stage (commands.Multi pairs) reply q a = absurd (false≢true (sym q))
any_answer tells start begun lists by s stage (commands.SeeMulti name m) reply q a = absurd (false≢true (sym q))
any_answer tells start begun lists by s stage (commands.MultiFreeze multi) reply q a = absurd (false≢true (sym q))
any_answer tells start begun lists by s stage commands.Trim reply q a = absurd (false≢true (sym q))
any_answer tells start begun lists by s stage command reply q a = a

pub no_multis : (start : Start) (lists more : List (List Entry)) (by : By) (command : Command) (reply : Reply) → touches_multis command ≡ false → HasNoMultis start lists more by command reply
no_multis start lists more by (commands.Multi pairs) reply q = absurd (false≢true (sym q))
no_multis start lists more by (commands.SeeMulti name m) reply q = absurd (false≢true (sym q))
no_multis start lists more by (commands.MultiFreeze multi) reply q = absurd (false≢true (sym q))
no_multis start lists more by command reply q = refl
