use Rattle.std.proofs.Common.{◌≡◌, ◌+◌, ◌++◌, drop}
use Rattle.text_pieces.specs.Lines.{lines_text}
use Rattle.text_pieces.proofs.lines.put_lines.Given as goal

abbrev pub invariant-loop-item : goal.invariant-loop-item
invariant-loop-item g l = record {
  at : l.place ≡ l.from + l.item-index;
  rest : l.out ++ lines_text (g.X.Listed.line l.by) l.place (drop l.item-index l.items) ≡ l.fn.out ++ lines_text (g.X.Listed.line l.by) l.from l.items;
}
