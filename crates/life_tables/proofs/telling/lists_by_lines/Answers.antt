use Rattle.std.proofs.Common.{List, ap, arith, map, ◌∙◌}
use Rattle.std.proofs.lemmas.List.{take_all}
use Rattle.std.specs.List.{flat_map}
use Rattle.tx_model.specs.declared.report.Line.{Line}
use Rattle.tx_model.specs.declared.report.Step.{Step}
use Rattle.tx_model.specs.Rounds.{lines_in}
use Rattle.event_rules.specs.SnapsTold.{told_lists}
use Rattle.life_tables.proofs.Snapped.{all_told}
use Rattle.life_tables.proofs.telling.lists_by_lines.Goals as goal

pub returns : goal.returns
returns c =
    let steps = c.args.steps.now in
    let whole = ap (λ (t : List Step). map (λ (l : Line). told_lists l.reply) (flat_map lines_in t)) (take_all c.loop-step.step-index steps (omega arith)) in
    all_told c.loop-step.so_far (map (λ (l : Line). told_lists l.reply) (flat_map lines_in steps)) (c.loop-step.invariant ∙ whole)
