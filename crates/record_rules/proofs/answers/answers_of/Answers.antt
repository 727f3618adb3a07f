use Rattle.std.proofs.Common.{rules, ◌+◌, take, sym, subst, ◌∙◌}
use Rattle.std.specs.List.{flat_map}
use Rattle.tx_model.specs.Rounds.{lines_in}
use Rattle.record_rules.specs.Answered.{AreAnswers}
use Rattle.record_rules.proofs.Answering.{step_more, written_back}
use Rattle.record_rules.proofs.answers.answers_of.Goals as goal

pub loop-step-preserved : goal.loop-step-preserved
loop-step-preserved c =
    let size = c.loop-step.invariant.size in
    let slice = c.as_mut_slice.ensures.value in
    let before = subst (AreAnswers (flat_map lines_in (take c.loop-step.step-index c.args.steps.now))) (sym slice) c.loop-step.invariant in
    let noted = c.note_step.ensures.noted (flat_map lines_in (take c.loop-step.step-index c.args.steps.now)) before in
    subst (AreAnswers (flat_map lines_in (take (c.loop-step.step-index + 1) c.args.steps.now))) (sym (written_back c.loop-step.answers.len c.note_step.new.answers c.loop-step.answers.items (c.note_step.ensures.size ∙ sym size) (search rules)))
    (step_more c.args.steps.now c.loop-step.step-index c.step-item.result c.note_step.new.answers c.loop-step-test.true c.step-item.is noted)
