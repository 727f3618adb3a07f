use Rattle.std.proofs.Common.{sym, ◌∙◌}
use Rattle.std.proofs.lemmas.Bool.{false≢true}
use Rattle.tx_model.specs.declared.report.Step.TheVariants as steps
use Rattle.checkpoint_rules.proofs.Reaching.{reached_before}
use Rattle.checkpoint_rules.proofs.checkpoints.note_reached.Goals as goal

pub returns-then-not-is_reached : goal.returns-then-not-is_reached
returns-then-not-is_reached g c = λ r.
    let reached = reached_before g.at c.args.places.now (steps.Checkpoint c.args.reply.now) r in
    absurd (false≢true (sym c.if-not-is_reached.true ∙ (c.is_reached.ensures g.at c.requires.0 c.requires.1.1.0).1 reached))
