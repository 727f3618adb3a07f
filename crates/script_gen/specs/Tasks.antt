-- What the words of the command line ask for.
use Rattle.std.specs.Prelude.{ℕ, ◌≤◌, List}
use Rattle.run_law.specs.Tool.{IsRun}
use Rattle.script_gen.specs.declared.task.Task.{Task}
use Rattle.script_gen.specs.declared.task.Task.TheVariants as tasks
use Rattle.script_gen.specs.Laws.{most_transactions}
use Rattle.script_gen.specs.Words.{IsGen}

-- the words ask for it
abbrev pub IsTask : List (List ℕ) → Task → Type 0
IsTask words tasks.Run = IsRun words
IsTask words (tasks.Gen seed size) = IsGen words seed size

-- the words are accepted: they ask for something
abbrev pub IsAccepted : List (List ℕ) → Type 0
IsAccepted words = (task : Task) × IsTask words task

-- it asks for no more transactions than a run takes
abbrev pub IsSized : Task → Type 0
IsSized tasks.Run = Unit {0}
IsSized (tasks.Gen seed size) = size ≤ most_transactions
