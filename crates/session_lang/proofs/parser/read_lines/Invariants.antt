use Rattle.std.proofs.Common.{◌≡◌, ℕ, ◌+◌, ◌≤◌, List, Bool, true, cond, length, []}
use Rattle.session_lang.specs.declared.parser.reading.Reading.{Reading}
use Rattle.session_lang.specs.Lines.{lines_of}
use Rattle.session_lang.specs.Reading.{HasRead}
use Rattle.session_lang.specs.Script.{no_front, read_lines}
use Rattle.session_lang.proofs.parser.read_lines.Given as goal

pub record Goes (bytes rest : List ℕ) (r : Reading) (number : ℕ) (more : Bool) : Type 0 where
  pub reads : read_lines r.front number (cond more (lines_of rest) []) ≡ read_lines no_front 1 (lines_of bytes)
  pub so_far : HasRead r.front.names r.commands.items r.front.items
  pub few : length r.front.items + length rest ≤ length bytes
  pub numbers : more ≡ true → number + length rest ≤ length bytes + 1

abbrev pub invariant-loop-more : goal.invariant-loop-more
invariant-loop-more l = Goes l.bytes l.rest l.reading l.number l.more

abbrev pub decreases-loop-more : goal.decreases-loop-more
decreases-loop-more l = length l.rest + cond l.more 1 0
