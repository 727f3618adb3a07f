use Rattle.std.proofs.Common.{◌≡◌, ◌+◌, ◌≤◌, Err, ap, arith, length, subst, sym}
use Rattle.session_lang.specs.Lines.{lines_of}
use Rattle.session_lang.specs.Pieces.{read_behind}
use Rattle.session_lang.specs.Script.{no_front, read_lines}
use Rattle.script_source.proofs.Coming.{comes_more, comes_read, fault_came, read_after, refused_whole, rose_from, whole_came}
use Rattle.script_source.proofs.StreamLemmas.{has_script, none_of, too_long_told}
use Rattle.script_source.proofs.source.take_script.Goals as goal

pub returns-in-Err-clause-amount : goal.returns-in-Err-clause-amount
returns-in-Err-clause-amount g c =
    let left = g.S.Source.left in
    read_after (left c.args.source.now) (left c.loop-came.source) (left c.read_piece.new.source) c.loop-came.reader c.loop-came.kept.items c.loop-came.came c.loop-came.invariant.comes c.loop-came.invariant.bound c.in-Err.ensures.amount

pub returns-in-Err-Fault-clause-refused : goal.returns-in-Err-Fault-clause-refused
returns-in-Err-Fault-clause-refused g c =
    let faults = g.S.Source.faults in
    rose_from (faults c.args.source.now) (faults c.loop-came.source) (faults c.read_piece.new.source) c.loop-came.invariant.later (c.in-Err-Fault.ensures.fault (ap Err c.in-Err-Fault.field-0-is))

pub returns-in-Err-Fault-clause-amount : goal.returns-in-Err-Fault-clause-amount
returns-in-Err-Fault-clause-amount g c =
    let left = g.S.Source.left in
    read_after (left c.args.source.now) (left c.loop-came.source) (left c.read_piece.new.source) c.loop-came.reader c.loop-came.kept.items c.loop-came.came c.loop-came.invariant.comes c.loop-came.invariant.bound c.in-Err-Fault.ensures.amount

pub returns-then-count-eq0-clause-script : goal.returns-then-count-eq0-clause-script
returns-then-count-eq0-clause-script g c =
    let left = g.S.Source.left in
    let piece = c.in-Ok.ensures.bytes in
    let w = comes_more (left c.args.source.now) (left c.loop-came.source) (left c.read_piece.new.source) c.loop-came.reader c.loop-came.kept.items c.read_piece.new.kept.items piece.0 c.loop-came.came c.in-Ok.count c.loop-came.invariant.comes piece.1 piece.2 piece.3 in
    let same = subst (λ xs. read_lines no_front 1 (lines_of w.bytes) ≡ read_behind c.loop-came.reader.reading c.loop-came.reader.number xs) (sym c.as_slice.ensures.value) (whole_came _ _ _ _ _ w) in
    let few : length w.bytes ≤ 16777216 = omega (arith, w.count, c.loop-came-test.true, c.if-count-eq0.true) in
    has_script _ _ w.bytes c.script_of.result w.read (c.in-Ok.ensures.end c.if-count-eq0.true) (c.script_of.ensures.script w.bytes few same)

pub returns-then-count-eq0-clause-refused : goal.returns-then-count-eq0-clause-refused
returns-then-count-eq0-clause-refused g c =
    let left = g.S.Source.left in
    let piece = c.in-Ok.ensures.bytes in
    let w = comes_more (left c.args.source.now) (left c.loop-came.source) (left c.read_piece.new.source) c.loop-came.reader c.loop-came.kept.items c.read_piece.new.kept.items piece.0 c.loop-came.came c.in-Ok.count c.loop-came.invariant.comes piece.1 piece.2 piece.3 in
    let same = subst (λ xs. read_lines no_front 1 (lines_of w.bytes) ≡ read_behind c.loop-came.reader.reading c.loop-came.reader.number xs) (sym c.as_slice.ensures.value) (whole_came _ _ _ _ _ w) in
    let few : length w.bytes ≤ 16777216 = omega (arith, w.count, c.loop-came-test.true, c.if-count-eq0.true) in
    none_of _ _ _ _ w.bytes c.script_of.result w.read (c.in-Ok.ensures.end c.if-count-eq0.true) (c.script_of.ensures.refused w.bytes few same)

pub returns-then-count-eq0-clause-amount : goal.returns-then-count-eq0-clause-amount
returns-then-count-eq0-clause-amount g c =
    let left = g.S.Source.left in
    read_after (left c.args.source.now) (left c.loop-came.source) (left c.read_piece.new.source) c.loop-came.reader c.loop-came.kept.items c.loop-came.came c.loop-came.invariant.comes c.loop-came.invariant.bound c.in-Ok.ensures.amount

pub loop-came-preserved-in-Ok-read_kept : goal.loop-came-preserved-in-Ok-read_kept
loop-came-preserved-in-Ok-read_kept g c =
    let left = g.S.Source.left in
    let piece = c.in-Ok.ensures.bytes in
    let i = c.loop-came.invariant in let later = c.in-Ok.ensures.later in
    let r = c.in-Ok-read_kept.ensures in
    let w = comes_more (left c.args.source.now) (left c.loop-came.source) (left c.read_piece.new.source) c.loop-came.reader c.loop-came.kept.items c.read_piece.new.kept.items piece.0 c.loop-came.came c.in-Ok.count i.comes piece.1 piece.2 piece.3 in
    record {
      comes = comes_read (left c.args.source.now) (left c.read_piece.new.source) c.loop-came.reader c.read_kept.new.reader c.read_piece.new.kept.items c.read_kept.new.kept.items (c.loop-came.came + c.in-Ok.count) w r.so_far r.numbers r.few r.on;
      later = omega (arith, i.later, later);
      bound = c.in-Ok.ensures.limit;
    }

pub returns-in-Err-Fault-read_kept-clause-refused : goal.returns-in-Err-Fault-read_kept-clause-refused
returns-in-Err-Fault-read_kept-clause-refused g c =
    let left = g.S.Source.left in let faults = g.S.Source.faults in
    let piece = c.in-Ok.ensures.bytes in
    let i = c.loop-came.invariant in let later = c.in-Ok.ensures.later in
    let w = comes_more (left c.args.source.now) (left c.loop-came.source) (left c.read_piece.new.source) c.loop-came.reader c.loop-came.kept.items c.read_piece.new.kept.items piece.0 c.loop-came.came c.in-Ok.count i.comes piece.1 piece.2 piece.3 in
    let low : faults c.args.source.now ≤ faults c.read_piece.new.source = omega (arith, i.later, later) in
    let told = c.in-Err-Fault-read_kept.ensures.refused in
    let named = rw c.in-Err-Fault-read_kept.field-0-is at told in
    refused_whole (left c.args.source.now) (left c.read_piece.new.source) (left c.refused_behind.new.source) _ _ _ w.bytes c.refused_behind.result w.read low
    (c.refused_behind.ensures.refused w.bytes (sym w.count) (fault_came _ _ c.loop-came.reader c.read_piece.new.kept.items (c.loop-came.came + c.in-Ok.count) c.in-Err-Fault-read_kept.line c.in-Err-Fault-read_kept.kind w named))

pub returns-in-Err-Fault-read_kept-clause-amount : goal.returns-in-Err-Fault-read_kept-clause-amount
returns-in-Err-Fault-read_kept-clause-amount g c =
    let left = g.S.Source.left in
    let piece = c.in-Ok.ensures.bytes in
    let i = c.loop-came.invariant in
    let w = comes_more (left c.args.source.now) (left c.loop-came.source) (left c.read_piece.new.source) c.loop-came.reader c.loop-came.kept.items c.read_piece.new.kept.items piece.0 c.loop-came.came c.in-Ok.count i.comes piece.1 piece.2 piece.3 in
    read_after (left c.args.source.now) (left c.read_piece.new.source) (left c.refused_behind.new.source) c.loop-came.reader c.read_piece.new.kept.items (c.loop-came.came + c.in-Ok.count) w c.in-Ok.ensures.limit c.refused_behind.ensures.amount

pub returns-in-Err-Memory-clause-amount : goal.returns-in-Err-Memory-clause-amount
returns-in-Err-Memory-clause-amount g c =
    let left = g.S.Source.left in
    read_after (left c.args.source.now) (left c.loop-came.source) (left c.read_piece.new.source) c.loop-came.reader c.loop-came.kept.items c.loop-came.came c.loop-came.invariant.comes c.loop-came.invariant.bound c.in-Ok.ensures.amount

pub loop-came-preserved : goal.loop-came-preserved
loop-came-preserved g c =
    let left = g.S.Source.left in
    let piece = c.in-Ok.ensures.bytes in
    let i = c.loop-came.invariant in let later = c.in-Ok.ensures.later in
    record {
      comes = comes_more (left c.args.source.now) (left c.loop-came.source) (left c.read_piece.new.source) c.loop-came.reader c.loop-came.kept.items c.read_piece.new.kept.items piece.0 c.loop-came.came c.in-Ok.count i.comes piece.1 piece.2 piece.3;
      later = omega (arith, i.later, later);
      bound = c.in-Ok.ensures.limit;
    }

pub returns-clause-refused : goal.returns-clause-refused
returns-clause-refused g c =
    let w = c.loop-came.invariant.comes in
    too_long_told _ _ _ _ c.refused.result (w.bytes, w.read, omega (arith, w.count, c.loop-came-test.false)) c.refused.ensures
