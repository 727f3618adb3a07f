-- What is asked of a life, step by step.
use Rattle.std.specs.Prelude.{ℕ, List, None, Option, Some}
use Rattle.std.specs.List.{filter_map}
use Rattle.tx_model.specs.declared.command.Command.{Command}
use Rattle.tx_model.specs.declared.report.DumpOf.{DumpOf}

-- the commands of a round, so many bytes from a place on, or a checkpoint
pub data Asked : Type 0 where
  round : List (ℕ × Command) → Asked
  dump : DumpOf → ℕ → ℕ → Asked
  checkpoint : Asked

-- the rounds among it
abbrev pub round_in : Asked → Option (List (ℕ × Command))
round_in (round turns) = Some turns
round_in (dump what at size) = None
round_in checkpoint = None

abbrev pub rounds_in : List Asked → List (List (ℕ × Command))
rounds_in asked = filter_map round_in asked
