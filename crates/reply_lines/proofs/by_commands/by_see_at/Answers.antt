use Rattle.std.proofs.Common.{refl, ap, ◌∙◌}
use Rattle.tx_model.specs.declared.reply.Reply.TheVariants as replies
use Rattle.reply_lines.proofs.Snapping.{snap_asked}
use Rattle.reply_lines.proofs.Replying.{old_is, seen_is}
use Rattle.reply_lines.proofs.by_commands.by_see_at.Goals as goal

pub sees-requires : goal.sees-requires
sees-requires g c =
    (c.requires.0, (refl, (snap_asked g.s c.args.name.now c.args.number c.requires.1.1.0, c.requires.1.0.1.committed)))

pub is_older_than-requires : goal.is_older_than-requires
is_older_than-requires g c =
    (c.requires.0, (refl, snap_asked g.s c.args.name.now c.args.number c.requires.1.1.0))

pub returns-in-Seen : goal.returns-in-Seen
returns-in-Seen g c = seen_is g.s c.args.name.now c.args.x c.args.number c.in-Seen.visible c.args.reply.now c.sees.result c.in-Seen.is c.requires.1.1.0 c.sees.ensures

pub returns-in-TooOld : goal.returns-in-TooOld
returns-in-TooOld g c = old_is g.s c.args.name.now c.args.x c.args.number c.in-TooOld.oldest c.args.reply.now c.is_older_than.result (c.in-Refused.is ∙ ap (λ r. replies.Refused r) c.in-TooOld.is) c.requires.1.1.0 c.is_older_than.ensures
