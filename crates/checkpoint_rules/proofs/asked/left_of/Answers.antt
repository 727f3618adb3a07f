use Rattle.std.proofs.Common.{sym}
use Rattle.checkpoint_rules.proofs.Midway.{nothing_left}
use Rattle.checkpoint_rules.proofs.asked.left_of.Goals as goal

pub returns : goal.returns
returns g c = sym (nothing_left g.at c.args.sessions.now c.requires.0 c.requires.1 c.args.session c.if-session-lt64.false)
