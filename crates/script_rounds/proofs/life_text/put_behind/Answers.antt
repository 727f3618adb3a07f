use Rattle.std.proofs.Common.{refl, ◌++◌}
use Rattle.std.proofs.lemmas.Result.{on_err_weaker}
use Rattle.script_rounds.proofs.Fronts.{first_stopped, then_stopped}
use Rattle.script_rounds.proofs.life_text.put_behind.Goals as goal

pub returns-in_err-write-clause-front : goal.returns-in_err-write-clause-front
returns-in_err-write-clause-front g c =
    let held = g.K.Sink.held in
    let steps = c.args.steps.now in
    first_stopped c.from_residual.result (held c.args.sink.now) (held c.write.new.sink) steps (c.args.histories.now ++ c.args.log.now) steps refl c.in_err-write.ensures.front

pub returns-clause-front : goal.returns-clause-front
returns-clause-front g c =
    let held = g.K.Sink.held in
    on_err_weaker c.put_both.result
    (λ f. then_stopped (held c.args.sink.now) (held c.write.new.sink) (held c.put_both.new.sink) c.args.steps.now (c.args.histories.now ++ c.args.log.now) c.in_ok-write.ensures.ok f)
    c.put_both.ensures.front
