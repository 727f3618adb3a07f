-- How many checkpoints were asked for with given counters.
use Rattle.std.specs.Prelude.{ℕ, ◌+◌, ◌&&◌, cond, Bool, true, false, List, [], ◌∷◌, ◌++◌}
use Rattle.tx_events.specs.declared.record.Counters.{Counters}
use Rattle.tx_model.specs.declared.report.Line.{Line}
use Rattle.tx_model.specs.declared.report.Step.{Step}
use Rattle.tx_model.specs.declared.report.Step.TheVariants as steps
use Rattle.tx_model.specs.Rounds.{lines_in}
use Rattle.report_law.specs.Checkpoints.{counters_behind, same_counters}
use Rattle.report_law.specs.Steps.{Judged}

abbrev pub is_checkpoint : Step → Bool
is_checkpoint (steps.Checkpoint reply) = true
is_checkpoint step = false

-- behind these lines
abbrev pub asked_checkpoints : Judged → Counters → List Line → List Step → ℕ
asked_checkpoints j c before [] = 0
asked_checkpoints j c before (s ∷ rest) =
    cond (is_checkpoint s && same_counters (counters_behind j before) c) 1 0 + asked_checkpoints j c (before ++ lines_in s) rest
