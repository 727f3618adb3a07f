use Rattle.std.proofs.Common.{◌≡◌, ◌-◌, ◌++◌}
use Rattle.script_gen.proofs.Steps.{transactions_from}
use Rattle.script_gen.proofs.generator.generate.Given as goal

abbrev pub invariant-loop-number : goal.invariant-loop-number
invariant-loop-number l =
    l.writer.items ++ transactions_from l.number (l.size - l.number) l.writer.draws.state ≡ transactions_from 0 l.size l.seed
