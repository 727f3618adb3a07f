use Rattle.std.proofs.Common.{ap, sym, ◌∙◌, subst}
use Rattle.std.proofs.lemmas.Result.{on_ok_weaker}
use Rattle.tx_model.specs.declared.reply.Reply.{Reply}
use Rattle.tx_model.specs.declared.report.Step.{Step}
use Rattle.tx_model.specs.declared.report.Step.TheVariants as steps
use Rattle.record_rules.specs.AskedFor.{is_checkpoint}
use Rattle.checkpoint_rules.specs.Noting.{AreNoted, with_step}
use Rattle.checkpoint_rules.proofs.Reaching.{other_noted}
use Rattle.checkpoint_rules.proofs.checkpoints.pass_step.Goals as goal

pub returns-in-Round : goal.returns-in-Round
returns-in-Round g c =
    let s = c.args.step.now in
    other_noted g.at c.args.places.now s c.args.checkpoints.now (c.other_steps_are_none.ensures g.at.j g.at.before s c.args.checkpoints.now (ap is_checkpoint c.in-Round.is)) c.requires.1.0

pub returns-in-Checkpoint : goal.returns-in-Checkpoint
returns-in-Checkpoint g c =
    let is = c.in-Checkpoint.is ∙ ap (λ (r : Reply). steps.Checkpoint r) (sym c.reply.ensures) in
    on_ok_weaker c.note_reached.result
    (λ a. subst (λ (s : Step). AreNoted (with_step g.at s) c.args.places.now c.note_reached.new.checkpoints) (sym is) a)
    c.note_reached.ensures

pub returns-in-Dump : goal.returns-in-Dump
returns-in-Dump g c =
    let s = c.args.step.now in
    other_noted g.at c.args.places.now s c.args.checkpoints.now (c.other_steps_are_none.ensures g.at.j g.at.before s c.args.checkpoints.now (ap is_checkpoint c.in-Dump.is)) c.requires.1.0
