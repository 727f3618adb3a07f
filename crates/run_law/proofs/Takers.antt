-- A command that makes a level takes a number, and so does one that makes a multixact.
use Rattle.std.proofs.Common.{◌≤◌, List, cond, arith, ℕ}
use Rattle.std.specs.List.{count_by}
use Rattle.tx_model.specs.declared.command.Command.{Command}
use Rattle.tx_model.specs.declared.command.Command.TheVariants as commands
use Rattle.life_law.specs.Commands.{makes_level, makes_multi}
use Rattle.run_law.specs.Turns.{takes_number}
use Rattle.run_law.proofs.PartSums.{sum_less}

level_takes : (c : Command) → cond (makes_level c) 1 0 ≤ cond (takes_number c) 1 0
level_takes commands.Begin = omega arith
level_takes commands.Save = omega arith
level_takes c = omega arith

multi_takes : (c : Command) → cond (makes_multi c) 1 0 ≤ cond (takes_number c) 1 0
multi_takes (commands.Multi members) = omega arith
multi_takes c = omega arith

-- so no more commands of the one kind than of the other
pub levels_take : {X : Type 0} (asked : X → Command) (xs : List X) → count_by (λ x. makes_level (asked x)) xs ≤ count_by (λ x. takes_number (asked x)) xs
levels_take asked xs = sum_less (λ x. cond (makes_level (asked x)) 1 0) (λ x. cond (takes_number (asked x)) 1 0) xs (λ x. level_takes (asked x))

pub multis_take : {X : Type 0} (asked : X → Command) (xs : List X) → count_by (λ x. makes_multi (asked x)) xs ≤ count_by (λ x. takes_number (asked x)) xs
multis_take asked xs = sum_less (λ x. cond (makes_multi (asked x)) 1 0) (λ x. cond (takes_number (asked x)) 1 0) xs (λ x. multi_takes (asked x))
