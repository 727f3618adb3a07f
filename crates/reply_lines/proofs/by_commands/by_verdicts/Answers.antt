use Rattle.std.proofs.Common.{ap, refl, sym, ◌∙◌}
use Rattle.tx_model.specs.Stance.{snap_of}
use Rattle.reply_lines.proofs.Snapping.{snap_asked}
use Rattle.reply_lines.proofs.Replying.{no_snapshot_is, verdicts_are}
use Rattle.reply_lines.proofs.by_commands.by_verdicts.Goals as goal

pub has_verdicts-requires : goal.has_verdicts-requires
has_verdicts-requires g c =
    (c.requires.0, (c.requires.1.0, (refl, snap_asked g.s c.args.name.now c.in-Some.number (sym (ap (snap_of c.args.name.now) c.requires.1.1) ∙ sym c.taken_as.ensures ∙ c.in-Some.is))))

pub returns-in-Some : goal.returns-in-Some
returns-in-Some g c = verdicts_are g.s c.args.name.now c.args.m c.in-Some.number c.args.verdicts.now c.has_verdicts.result (sym (ap (snap_of c.args.name.now) c.requires.1.1) ∙ sym c.taken_as.ensures ∙ c.in-Some.is) c.has_verdicts.ensures

pub returns-in-None : goal.returns-in-None
returns-in-None g c = no_snapshot_is g.s c.args.name.now c.args.m c.args.verdicts.now (sym (ap (snap_of c.args.name.now) c.requires.1.1) ∙ sym c.taken_as.ensures ∙ c.in-None.is)
