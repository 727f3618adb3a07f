use Rattle.std.proofs.Common.{◌↔◌, subst, sym}
use Rattle.std.specs.Prelude.{IsTrue}
use Rattle.tx_model.specs.declared.command.Command.{Command}
use Rattle.reply_lines.specs.At.{IsLawfulHere}
use Rattle.reply_lines.proofs.by_commands.by_places.Goals as goal

pub returns-in-See : goal.returns-in-See
returns-in-See g c = subst (λ (k : Command). IsTrue c.by_see.result ↔ IsLawfulHere g.s k c.args.reply.now) (sym c.in-See.is) c.by_see.ensures

pub returns-in-SeeMulti : goal.returns-in-SeeMulti
returns-in-SeeMulti g c = subst (λ (k : Command). IsTrue c.by_see_multi.result ↔ IsLawfulHere g.s k c.args.reply.now) (sym c.in-SeeMulti.is) c.by_see_multi.ensures
