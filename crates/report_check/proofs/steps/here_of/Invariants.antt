use Rattle.std.proofs.Common.{[]}
use Rattle.std.specs.List.{flat_map}
use Rattle.tx_model.specs.Rounds.{lines_in}
use Rattle.report_check.specs.Stepping.{steps_before}
use Rattle.report_check.proofs.steps.here_of.Given as goal

abbrev pub ghost-round_at : goal.ghost-round_at
ghost-round_at g a = record { j = g.of.j; rounds = flat_map lines_in (steps_before g.of); lines = [] }
