use Rattle.std.proofs.Common.{◌≡◌, ℕ, ◌+◌, ◌≤◌, ◌∷◌, ◌++◌, List, Bool, false, cond, length, []}
use Rattle.script_source.specs.declared.reader.ScriptReader.{ScriptReader}
use Rattle.session_lang.specs.Lines.{lines_of}
use Rattle.session_lang.specs.Pieces.{IsReading, read_behind}
use Rattle.script_source.proofs.reader.ScriptReader.read_ended.Given as goal

pub record Goes (old now : ScriptReader) (bytes rest : List ℕ) (going : Bool) : Type 0 where
  pub on : (more : List ℕ) → read_behind old.reading old.number (bytes ++ more) ≡ read_behind now.reading now.number (rest ++ more)
  pub so_far : IsReading now.reading
  pub numbers : now.number + length rest ≤ old.number + length bytes
  pub few : length now.reading.front.items + length rest ≤ length old.reading.front.items + length bytes
  pub last : going ≡ false → lines_of rest ≡ rest ∷ []

abbrev pub invariant-loop-more : goal.invariant-loop-more
invariant-loop-more l = Goes l.fn.self l.self l.bytes l.rest l.more

abbrev pub decreases-loop-more : goal.decreases-loop-more
decreases-loop-more l = length l.rest + cond l.more 1 0
