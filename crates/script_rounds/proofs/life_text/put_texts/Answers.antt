use Rattle.script_rounds.proofs.Fronts.{stopped_at}
use Rattle.script_rounds.proofs.life_text.put_texts.Goals as goal

pub returns-in_err-write_all-clause-front : goal.returns-in_err-write_all-clause-front
returns-in_err-write_all-clause-front g c =
    let held = g.K.Sink.held in
    stopped_at c.from_residual.result (held c.args.sink.now) (held c.loop-text.sink) (held c.write_all.new.sink) c.args.texts.now c.loop-text.text-index c.text-item.result c.bytes.result.now c.loop-text-test.true c.text-item.is c.bytes.ensures c.loop-text.invariant.told c.in_err-write_all.ensures.front
