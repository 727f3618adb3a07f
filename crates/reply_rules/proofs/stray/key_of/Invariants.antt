use Rattle.std.proofs.Common.{◌≡◌, ◌++◌, drop}
use Rattle.reply_rules.specs.Gens.{key_of, members_key}
use Rattle.reply_rules.proofs.stray.key_of.Given as goal

abbrev pub invariant-loop-m : goal.invariant-loop-m
invariant-loop-m l = key_of l.fn.multi l.offset l.members ≡ l.key.items ++ members_key (drop l.m-index l.members)
