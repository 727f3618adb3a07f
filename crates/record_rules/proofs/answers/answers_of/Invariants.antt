use Rattle.std.proofs.Common.{take}
use Rattle.std.specs.List.{flat_map}
use Rattle.tx_model.specs.Rounds.{lines_in}
use Rattle.record_rules.specs.Answered.{AreAnswers}
use Rattle.record_rules.proofs.answers.answers_of.Given as goal

abbrev pub invariant-loop-step : goal.invariant-loop-step
invariant-loop-step l = AreAnswers (flat_map lines_in (take l.step-index l.steps)) l.answers.items
