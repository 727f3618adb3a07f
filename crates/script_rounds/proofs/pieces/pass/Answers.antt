use Rattle.std.proofs.Common.{length, subst, sym, take, ◌+◌}
use Rattle.std.proofs.KnownBytes.{Appends-trans}
use Rattle.std.proofs.Math.Seq.{take-append-add}
use Rattle.std.proofs.lemmas.Result.{on_err_weaker}
use Rattle.std.specs.Io.KnownBytes.{Appends}
use Rattle.script_rounds.proofs.pieces.pass.Goals as goal

pub returns-clause-front : goal.returns-clause-front
returns-clause-front g c =
    let held = g.K.Sink.held in
    let kept = c.args.kept.now.items in
    let first = held c.args.sink.now in
    let mid = held c.write_all.new.sink in
    let end = held c.write_all-2.new.sink in
    on_err_weaker c.write_all-2.result
    (λ f. (
      length kept + f.0,
      subst (Appends first end) (sym (take-append-add kept c.args.piece.now f.0))
          (Appends-trans first mid end kept (take f.0 c.args.piece.now) (subst (Appends first mid) c.as_slice.ensures.value c.in_ok-write_all.ensures.ok) f.1),
    ))
    c.write_all-2.ensures.front
