-- A script that comes piece by piece.
use Rattle.std.specs.Prelude.{ℕ, List, Result}
use Rattle.script_lines.specs.declared.kind.Kind.{Kind}
use Rattle.session_lang.specs.declared.parser.reading.Front.{Front}
use Rattle.session_lang.specs.declared.parser.reading.Reading.{Reading}
use Rattle.session_lang.specs.Lines.{lines_of}
use Rattle.session_lang.specs.Reading.{HasRead}
use Rattle.session_lang.specs.Script.{read_lines}

-- what holds of what has been read
abbrev pub IsReading : Reading → Type 0
IsReading r = HasRead r.front.names r.commands.items r.front.items

-- what has been read, and the lines of these bytes, the first one of which has this number
abbrev pub read_behind : Reading → ℕ → List ℕ → Result Front (ℕ × Kind)
read_behind r number bytes = read_lines r.front number (lines_of bytes)
