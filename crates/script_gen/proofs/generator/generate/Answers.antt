use Rattle.std.proofs.Common.{arith, ◌+◌, ◌-◌}
use Rattle.script_gen.proofs.Steps.{transactions_from, transactions_step}
use Rattle.script_gen.proofs.generator.generate.Goals as goal

pub loop-number-preserved : goal.loop-number-preserved
loop-number-preserved c =
    transactions_step c.loop-number.number (c.args.size - c.loop-number.number) (c.args.size - (c.loop-number.number + 1)) c.loop-number.writer c.put_transaction.new.self
    (transactions_from 0 c.args.size c.args.seed) (omega arith) c.in_ok-put_transaction.ensures c.loop-number.invariant
