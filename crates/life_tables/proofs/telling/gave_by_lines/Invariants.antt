use Rattle.std.proofs.Common.{◌≡◌, map, take}
use Rattle.std.specs.List.{flat_map}
use Rattle.tx_model.specs.declared.report.Line.{Line}
use Rattle.tx_model.specs.Rounds.{lines_in}
use Rattle.life_tables.specs.Lives.{is_multi_reply}
use Rattle.life_tables.proofs.telling.gave_by_lines.Given as goal

abbrev pub invariant-loop-step : goal.invariant-loop-step
invariant-loop-step l = l.gave.items ≡ map (λ (x : Line). is_multi_reply x.reply) (flat_map lines_in (take l.step-index l.steps))
