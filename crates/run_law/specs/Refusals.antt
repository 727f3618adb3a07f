-- Where bytes are refused, and why.
use Rattle.std.specs.Prelude.{ℕ, nat_lt, List, [], ◌∷◌, codes, cond, Option, Some, None, Result, Ok, Err, get_or, length}
use Rattle.std.specs.Fmt.{decimal}
use Rattle.std.specs.List.{prefix_len}
use Rattle.report_text.specs.Words.{line_text}
use Rattle.script_lines.specs.declared.kind.Kind.{Kind}
use Rattle.script_lines.specs.declared.kind.Kind.TheVariants as kinds
use Rattle.script_lines.specs.Kinds.{kind_word}
use Rattle.session_lang.specs.declared.script.Script.{Script}
use Rattle.session_lang.specs.Lines.{lines_of}
use Rattle.session_lang.specs.Places.{item_lines}
use Rattle.session_lang.specs.Script.{read_script}
use Rattle.run_law.specs.Turns.{has_item}

-- the line of the first item that the run doesn't have
abbrev pub other_line : List ℕ → Script → ℕ
other_line bytes s = get_or (item_lines 1 (lines_of bytes)) (prefix_len has_item s.items) 0

-- the first fault; in a script the first item that the run doesn't have
abbrev pub refusal_by : List ℕ → Result Script (ℕ × Kind) → Option (ℕ × Kind)
refusal_by bytes (Err fault) = Some fault
refusal_by bytes (Ok s) = cond (nat_lt (prefix_len has_item s.items) (length s.items)) (Some (other_line bytes s, kinds.Command)) None

unfoldable pub refusal_of : List ℕ → Option (ℕ × Kind)
refusal_of bytes = refusal_by bytes (read_script bytes)

-- the line that tells it
unfoldable pub refusal_text : ℕ × Kind → List ℕ
refusal_text fault = line_text (codes "script" ∷ decimal fault.0 ∷ kind_word fault.1 ∷ [])
