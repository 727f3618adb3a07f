use Rattle.std.proofs.Common.{ap, sym, ◌∙◌}
use Rattle.tx_model.specs.Stance.{snap_of}
use Rattle.reply_lines.proofs.Replying.{no_view_is}
use Rattle.reply_lines.proofs.by_commands.by_see.Goals as goal

pub by_see_at-requires : goal.by_see_at-requires
by_see_at-requires g c =
    (c.requires.0, (c.requires.1.0, (sym (ap (snap_of c.args.name.now) c.requires.1.1.0) ∙ sym c.taken_as.ensures ∙ c.in-Some.is, c.requires.1.1.1)))

pub returns-in-None : goal.returns-in-None
returns-in-None g c = no_view_is g.s c.args.name.now c.args.x c.args.reply.now (sym (ap (snap_of c.args.name.now) c.requires.1.1.0) ∙ sym c.taken_as.ensures ∙ c.in-None.is) c.requires.1.1.1
