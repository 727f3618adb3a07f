use Rattle.std.proofs.Common.{refl}
use Rattle.script_rounds.proofs.Fronts.{stopped_at}
use Rattle.script_rounds.proofs.steps.write_each.Goals as goal

pub returns-in_err-write-clause-front : goal.returns-in_err-write-clause-front
returns-in_err-write-clause-front g c =
    let held = g.K.Sink.held in
    stopped_at c.from_residual.result (held c.args.sink.now) (held c.loop-text.sink) (held c.write.new.sink) c.args.texts.now c.loop-text.text-index c.text-item.result c.text-item.result c.loop-text-test.true c.text-item.is refl c.loop-text.invariant.told c.in_err-write.ensures.front
