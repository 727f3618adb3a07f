use Rattle.std.proofs.Common.{List, ◌++◌, ap, sym, ◌∙◌, map, take}
use Rattle.std.proofs.lemmas.List.{append-nil}
use Rattle.std.specs.Global.{Vec}
use Rattle.tx_model.specs.declared.report.Line.{Line}
use Rattle.tx_model.specs.declared.report.Step.{Step}
use Rattle.tx_model.specs.Rounds.{lines_in}
use Rattle.place_columns.specs.declared.lines.LineAt.{LineAt}
use Rattle.place_columns.specs.Lined.{line_at, lines_from}
use Rattle.place_columns.proofs.LineSteps.{lines_more, no_lines}
use Rattle.place_columns.proofs.lines.all_lines.Goals as goal
use Rattle.place_columns.proofs.lines.all_lines.Goals.{in-Round+in_ok-add_lines, in_default}

pub loop-number-preserved : goal.loop-number-preserved
loop-number-preserved c =
    let n = c.loop-number.number in
    let more = lines_more c.args.steps.now n c.index-steps-number.result c.loop-number-test.true c.index-steps-number.is in
    elim c.match-step.branch [
      | in-Round+in_ok-add_lines w ↦
          ap (λ (v : Vec LineAt). v.items) w.all-is
          ∙ w.in_ok-add_lines.ensures
          ∙ ap (λ (t : List LineAt). t ++ map (line_at n) w.items.result.now) c.loop-number.invariant
          ∙ ap (λ (t : List Line). lines_from 0 (take n c.args.steps.now) ++ map (line_at n) t) (w.items.ensures ∙ sym (ap (λ (x : Step). lines_in x) w.in-Round.is))
          ∙ sym more
      | in_default w ↦
          ap (λ (v : Vec LineAt). v.items) w.all-is
          ∙ c.loop-number.invariant
          ∙ sym (append-nil (lines_from 0 (take n c.args.steps.now)))
          ∙ ap (λ (t : List Line). lines_from 0 (take n c.args.steps.now) ++ map (line_at n) t) (sym (no_lines c.index-steps-number.result w.in_default.not-Round))
          ∙ sym more
    ]
