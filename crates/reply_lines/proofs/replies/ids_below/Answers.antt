use Rattle.reply_lines.proofs.Replying.{told, untold}
use Rattle.reply_lines.proofs.replies.ids_below.Goals as goal

pub open_below-requires : goal.open_below-requires
open_below-requires g c =
    (c.requires.0, (c.requires.1.0, (c.requires.1.1.0 (told c.args.round.judged c.if-not-round.false), c.requires.1.1.1)))

pub returns-then-not-round : goal.returns-then-not-round
returns-then-not-round g c = λ t. absurd (untold c.args.round.judged c.if-not-round.true t)
