use Rattle.std.proofs.Common.{subst, ◌++◌}
use Rattle.std.proofs.lemmas.Result.{on_err_weaker}
use Rattle.std.specs.Io.KnownBytes.{Appends}
use Rattle.script_rounds.proofs.Fronts.{first_stopped, then_stopped}
use Rattle.script_rounds.proofs.life_text.put_parts.Goals as goal

pub returns-in_err-write_all-clause-front : goal.returns-in_err-write_all-clause-front
returns-in_err-write_all-clause-front g c =
    let held = g.K.Sink.held in
    let text = c.args.text.now in
    first_stopped c.from_residual.result (held c.args.sink.now) (held c.write_all.new.sink) text.front (text.steps ++ (text.histories ++ text.log)) c.bytes.result.now c.bytes.ensures c.in_err-write_all.ensures.front

pub returns-clause-front : goal.returns-clause-front
returns-clause-front g c =
    let held = g.K.Sink.held in
    let text = c.args.text.now in
    let begun = held c.args.sink.now in
    let mid = held c.write_all.new.sink in
    let end = held c.put_behind.new.sink in
    on_err_weaker c.put_behind.result
    (λ f. then_stopped begun mid end text.front (text.steps ++ (text.histories ++ text.log)) (subst (Appends begun mid) c.bytes.ensures c.in_ok-write_all.ensures.ok) f)
    c.put_behind.ensures.front
