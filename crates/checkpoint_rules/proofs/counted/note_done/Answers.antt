use Rattle.std.proofs.Common.{[], ◌∷◌, ◌++◌, length, sym, subst}
use Rattle.std.proofs.lemmas.Result.{on_ok_weaker}
use Rattle.tx_model.specs.declared.reply.Reply.{Reply}
use Rattle.tx_model.specs.declared.report.Step.TheVariants as steps
use Rattle.report_law.specs.Checkpoints.{ok_checkpoints}
use Rattle.record_rules.specs.Counts.{AreCounted}
use Rattle.checkpoint_rules.proofs.Stepping.{done_few, done_one, done_other, not_done, one_fits}
use Rattle.checkpoint_rules.proofs.counted.note_done.Goals as goal

pub count_one-requires : goal.count_one-requires
count_one-requires g c =
    one_fits (λ k. ok_checkpoints g.at.j k [] g.at.before) c.args.done.now c.args.counters.now (length g.at.before) c.requires.0 (done_few g.at.j c.args.counters.now [] g.at.before) c.requires.1.1

pub returns-in-Done : goal.returns-in-Done
returns-in-Done g c =
    on_ok_weaker c.count_one.result
    (λ f.
    subst (λ (r : Reply). AreCounted (λ k. ok_checkpoints g.at.j k [] (g.at.before ++ steps.Checkpoint r ∷ [])) c.count_one.new.counts) (sym c.in-Done.is)
    (done_one g.at.j g.at.before c.args.counters.now c.count_one.new.counts c.requires.1.0 (f (λ k. ok_checkpoints g.at.j k [] g.at.before) c.requires.0)))
    c.count_one.ensures

pub returns-in_default : goal.returns-in_default
returns-in_default g c = done_other g.at.j g.at.before (steps.Checkpoint c.args.reply.now) c.args.done.now (not_done c.args.reply.now c.in_default.not-Done) c.requires.0
