-- What the log answers to the records of an end.
use Rattle.std.specs.Prelude.{Result, Ok, Err}
use Rattle.tx_events.specs.declared.refusal.Refusal.{Refusal}
use Rattle.log_sections.specs.declared.appending.Appended.{Appended}
use Rattle.log_sections.specs.declared.appending.Appended.TheVariants as came

-- a record that the log didn't refuse has its number
abbrev pub IsNumbered : Result Appended Refusal → Type 0
IsNumbered (Ok (came.At number)) = Unit {0}
IsNumbered (Ok came.NoBase) = ⊥
IsNumbered (Err r) = Unit {0}
