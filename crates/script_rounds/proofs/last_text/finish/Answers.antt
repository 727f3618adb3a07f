use Rattle.std.proofs.Common.{length, subst, sym, take_all, arith}
use Rattle.std.specs.Io.KnownBytes.{Appends}
use Rattle.script_rounds.proofs.last_text.finish.Goals as goal

pub returns-in-Ok-clause-front : goal.returns-in-Ok-clause-front
returns-in-Ok-clause-front g c =
    let held = g.K.Sink.held in
    (length c.args.text.now, subst (Appends (held c.args.sink.now) (held c.write_all.new.sink)) (sym (take_all (length c.args.text.now) c.args.text.now (omega arith))) c.in-Ok.ensures.ok)
