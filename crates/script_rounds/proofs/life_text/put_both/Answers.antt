use Rattle.std.proofs.lemmas.Result.{on_err_weaker}
use Rattle.script_rounds.proofs.Fronts.{first_stopped, then_stopped}
use Rattle.script_rounds.proofs.life_text.put_both.Goals as goal
use Rattle.std.proofs.Common.{refl}

pub returns-in_err-put_pieces-clause-front : goal.returns-in_err-put_pieces-clause-front
returns-in_err-put_pieces-clause-front g c =
    let held = g.K.Sink.held in
    first_stopped c.from_residual.result (held c.args.sink.now) (held c.put_pieces.new.sink) c.args.first.now c.args.second.now c.args.first.now refl c.in_err-put_pieces.ensures.front

pub returns-clause-front : goal.returns-clause-front
returns-clause-front g c =
    let held = g.K.Sink.held in
    on_err_weaker c.put_pieces-2.result
    (λ f. then_stopped (held c.args.sink.now) (held c.put_pieces.new.sink) (held c.put_pieces-2.new.sink) c.args.first.now c.args.second.now c.in_ok-put_pieces.ensures.ok f)
    c.put_pieces-2.ensures.front
