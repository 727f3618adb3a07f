use Rattle.std.proofs.Common.{◌++◌, List, ap, sym, subst, ◌∙◌}
use Rattle.tx_model.specs.declared.report.Line.{Line}
use Rattle.tx_model.specs.Rounds.{lines_in}
use Rattle.record_rules.specs.Answered.{AreAnswers}
use Rattle.record_rules.proofs.answers.note_step.Goals as goal

pub returns-in-Round-clause-noted : goal.returns-in-Round-clause-noted
returns-in-Round-clause-noted c = λ before a.
    subst (λ (t : List Line). AreAnswers (before ++ t) c.note_lines.new.answers) (c.items.ensures ∙ sym (ap lines_in c.in-Round.is)) (c.note_lines.ensures.noted before a)
