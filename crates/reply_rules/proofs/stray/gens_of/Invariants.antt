use Rattle.std.proofs.Common.{take}
use Rattle.reply_rules.specs.Gens.{AreGens}
use Rattle.reply_rules.proofs.stray.gens_of.Given as goal

abbrev pub invariant-loop-e : goal.invariant-loop-e
invariant-loop-e l = AreGens (take l.e-index l.multis) l.gens
