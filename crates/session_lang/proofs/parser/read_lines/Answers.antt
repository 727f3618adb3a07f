use Rattle.std.proofs.Common.{ap, arith, length}
use Rattle.session_lang.specs.Lines.{lines_of}
use Rattle.session_lang.specs.Script.{no_front, read_lines}
use Rattle.session_lang.proofs.parser.read_lines.Goals as goal

pub loop-more-init : goal.loop-more-init
unfolding no_front
loop-more-init c =
    let bytes = c.args.bytes.now in let none = ap (λ f. length f.items) c.new-reading.ensures.front in
    record {
      reads = ap (λ f. read_lines f 1 (lines_of bytes)) c.new-reading.ensures.front;
      so_far = c.new-reading.ensures.so_far;
      few = omega arith;
      numbers = λ _. omega arith;
    }
