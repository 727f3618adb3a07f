use Rattle.std.proofs.Common.{◌≡◌, take, true}
use Rattle.std.specs.List.{list_all}
use Rattle.script_lines.specs.LineWords.{is_line_byte}
use Rattle.script_lines.proofs.word.is_plain.Given as goal

abbrev pub invariant-loop-b : goal.invariant-loop-b
invariant-loop-b l = list_all is_line_byte (take l.b-index l.line) ≡ true
