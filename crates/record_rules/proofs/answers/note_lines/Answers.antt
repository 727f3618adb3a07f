use Rattle.std.proofs.Common.{◌++◌, ◌∷◌, [], List, take, ap, sym, subst, ◌∙◌, arith}
use Rattle.std.proofs.lemmas.List.{append_assoc, take_all, take_more}
use Rattle.tx_model.specs.declared.report.Line.{Line}
use Rattle.record_rules.specs.Answered.{AreAnswers}
use Rattle.record_rules.proofs.answers.note_lines.Goals as goal

pub loop-line-preserved : goal.loop-line-preserved
loop-line-preserved c = record {
  size = c.note_line.ensures.size;
  noted = λ before a.
      let more = take_more c.args.lines.now c.loop-line.line-index c.line-item.result c.loop-line-test.true ∙ ap (λ (l : Line). take c.loop-line.line-index c.args.lines.now ++ l ∷ []) (sym c.line-item.is) in
      subst (λ (t : List Line). AreAnswers t c.note_line.new.answers) (append_assoc before (take c.loop-line.line-index c.args.lines.now) (c.line-item.result ∷ []) ∙ ap (λ (t : List Line). before ++ t) (sym more))
      (c.note_line.ensures.noted (before ++ take c.loop-line.line-index c.args.lines.now) (c.loop-line.invariant.noted before a));
}

pub returns-clause-noted : goal.returns-clause-noted
returns-clause-noted c = λ before a.
    subst (λ (t : List Line). AreAnswers (before ++ t) c.loop-line.answers) (take_all c.loop-line.line-index c.args.lines.now (omega arith)) (c.loop-line.invariant.noted before a)
