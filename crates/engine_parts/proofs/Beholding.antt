-- What the log holds down behind a call, and which calls leave the lists as they were.
use Rattle.std.proofs.Common.{◌≡◌, Bool, true, false, List, Option, None, Some, sym, ◌∙◌}
use Rattle.std.proofs.lemmas.Bool.{false≢true}
use Rattle.tx_events.specs.declared.event.By.{By}
use Rattle.tx_events.specs.declared.refusal.Refusal.{Refusal}
use Rattle.tx_events.specs.declared.refusal.Refusal.TheVariants as refusals
use Rattle.tx_model.specs.declared.command.Command.{Command}
use Rattle.tx_model.specs.declared.reply.Reply.{Reply}
use Rattle.tx_model.specs.declared.reply.Reply.TheVariants as replies
use Rattle.tx_model.specs.Replies.{RoundSpan}
use Rattle.tx_model.specs.Stance.{Stance}
use Rattle.life_law.specs.Refused.{is_by_standing}
use Rattle.tx_core.specs.declared.entry.Entry.{Entry}
use Rattle.tx_core.specs.declared.entry.Start.{Start}
use Rattle.engine_parts.specs.declared.session.Stage.{Stage}
use Rattle.engine_parts.specs.Answers.{MayAnswer}
use Rattle.engine_parts.specs.Calls.{IsHeldBehind}
use Rattle.engine_parts.specs.Standing.{flushes, needs_log}

-- a refusal by how the session stands tells nothing of the log
pub held_standing : (start : Start) (lists : List (List Entry)) (command : Command) (r : Refusal) (new : Stage) → is_by_standing r ≡ true → IsHeldBehind start lists command (replies.Refused r) new
held_standing start lists command refusals.LogFault new q = absurd (false≢true q)
held_standing start lists command (refusals.LogDown down) new q = absurd (false≢true q)
held_standing start lists command r new q = tt

-- nor does a command that needs no log
pub held_unneeded : (tells : Bool) (start : Start) (lists : List (List Entry)) (span : RoundSpan) (by : By) (s : Stance) (old new : Stage) (command : Command) (reply : Reply) → flushes command s old ≡ false → needs_log command s old ≡ false → MayAnswer tells start lists span by s old command reply → IsHeldBehind start lists command reply new
held_unneeded tells start lists span by s old new command (replies.Refused refusals.LogFault) f n a = absurd (false≢true (sym f ∙ a.0))
held_unneeded tells start lists span by s old new command (replies.Refused (refusals.LogDown down)) f n a = absurd (false≢true (sym n ∙ a.0))
held_unneeded tells start lists span by s old new command reply f n a = tt

-- a reply that is none of the refusals by how the session stands
pub not_standing : {X : Type 0} (o : Option Refusal) (r : Refusal) → o ≡ None → o ≡ Some r → X
not_standing o r none some = absurd (none_some r (sym none ∙ some))
  where
    none_some : (r : Refusal) → None ≡ Some r → ⊥
    none_some r q = cc
