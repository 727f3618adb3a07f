-- A command that makes no multixact leaves the one that its session is at as its lines tell.
use Rattle.std.proofs.Common.{◌≡◌, false, Bool, Option, refl, sym, subst}
use Rattle.tx_model.specs.declared.command.Command.{Command}
use Rattle.tx_model.specs.declared.command.Command.TheVariants as commands
use Rattle.tx_model.specs.declared.reply.Reply.{Reply}
use Rattle.life_law.specs.Commands.{makes_multi}
use Rattle.engine_parts.specs.declared.session.Making.{Making}
use Rattle.engine_parts.specs.Answers.{touches_multis}
use Rattle.engine_parts.specs.Makings.{IsToldMaking, KeepsMaking}

pub kept_making : (command : Command) (reply : Reply) (gave : Bool) (old new : Option Making) → makes_multi command ≡ false → new ≡ old → KeepsMaking command reply gave old new
kept_making (commands.Multi pairs) reply gave old new none same = absurd cc
kept_making command reply gave old new none same = λ u told. subst (IsToldMaking u) (sym same) told

untouched_none : (command : Command) → touches_multis command ≡ false → makes_multi command ≡ false
untouched_none (commands.Multi pairs) none = absurd cc
untouched_none command none = refl

pub plain_making : (command : Command) (reply : Reply) (gave : Bool) (old new : Option Making) → touches_multis command ≡ false → new ≡ old → KeepsMaking command reply gave old new
plain_making command reply gave old new none = kept_making command reply gave old new (untouched_none command none)
