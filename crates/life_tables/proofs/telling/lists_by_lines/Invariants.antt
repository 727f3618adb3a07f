use Rattle.std.proofs.Common.{◌≡◌, map, take}
use Rattle.std.specs.List.{flat_map}
use Rattle.tx_model.specs.declared.report.Line.{Line}
use Rattle.tx_model.specs.Rounds.{lines_in}
use Rattle.event_rules.specs.SnapsTold.{told_lists}
use Rattle.life_tables.specs.Told.{told_of}
use Rattle.life_tables.proofs.telling.lists_by_lines.Given as goal

abbrev pub invariant-loop-step : goal.invariant-loop-step
invariant-loop-step l = told_of l.so_far ≡ map (λ (x : Line). told_lists x.reply) (flat_map lines_in (take l.step-index l.steps))
