use Rattle.std.proofs.Common.{◌+◌, ◌++◌, arith, length-append}
use Rattle.std.proofs.KnownBytes.{Consumes-trans}
use Rattle.script_source.proofs.source.pass_rest.Goals as goal

pub returns-in-Err-clause-amount : goal.returns-in-Err-clause-amount
returns-in-Err-clause-amount g c =
    let left = g.S.Source.left in
    let i = c.loop-all.invariant in let p = i.passed in
    let a = c.in-Err.ensures.amount in
    record {
      bytes = p.bytes ++ a.bytes;
      read = Consumes-trans (left c.args.source.now) (left c.loop-all.source) (left c.read_piece.new.source) p.bytes a.bytes p.read a.read;
      few = omega (arith, i.bound, p.count, a.few, length-append p.bytes a.bytes);
    }

pub loop-all-preserved : goal.loop-all-preserved
loop-all-preserved g c =
    let left = g.S.Source.left in
    let i = c.loop-all.invariant in let p = i.passed in
    let piece = c.in-Ok.ensures.bytes in
    let later = c.in-Ok.ensures.later in
    record {
      passed = record {
        bytes = p.bytes ++ piece.0;
        read = Consumes-trans (left c.args.source.now) (left c.loop-all.source) (left c.read_piece.new.source) p.bytes piece.0 p.read piece.1;
        count = omega (arith, p.count, piece.3, length-append p.bytes piece.0);
      };
      later = omega (arith, i.later, later);
      bound = c.in-Ok.ensures.limit;
    }
