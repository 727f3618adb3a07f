-- Which bytes are a script, and where the first fault of others is: a script is read line by line, and each line step by
-- step. The steps stand in the order of the kinds of fault.
use Rattle.std.specs.Prelude.{ℕ, ◌+◌, ◌&&◌, ◌||◌, ◌==◌, not, nat_lt, nat_le, List, [], ◌∷◌, ◌++◌, Bool, true, false, cond, Result, Ok, Err, length, get_or}
use Rattle.std.specs.List.{prefix_len}
use Rattle.tx_model.specs.declared.command.Command.{Command}
use Rattle.tx_events.specs.Events.{same_name}
use Rattle.script_lines.specs.declared.kind.Kind.{Kind}
use Rattle.script_lines.specs.declared.kind.Kind.TheVariants as kinds
use Rattle.script_lines.specs.declared.directive.Directive.{Directive}
use Rattle.script_lines.specs.declared.directive.Directive.TheVariants as directives
use Rattle.script_lines.specs.Kinds.{◌>>=◌, fault_if}
use Rattle.tx_events.specs.Names.{is_name}
use Rattle.script_lines.specs.LineWords.{is_plain, words_in}
use Rattle.script_lines.specs.Header.{banks_of, base_of, header_with, is_base, is_header_word, no_header}
use Rattle.script_lines.specs.Commands.{command_at}
use Rattle.script_lines.specs.Directives.{directive_at}
use Rattle.session_lang.specs.declared.script.Item.{Item}
use Rattle.session_lang.specs.declared.script.Item.TheVariants as items
use Rattle.session_lang.specs.declared.script.Script.{Script}
use Rattle.session_lang.specs.declared.parser.reading.Front.{Front}
use Rattle.session_lang.specs.Lines.{lines_of}
use Rattle.session_lang.specs.Rounds.{count_of}

-- ---- a line of commands

-- where the name stands, or one past the last name
abbrev pub place_of : List (List ℕ) → List ℕ → ℕ
place_of names name = prefix_len (λ other. not (same_name other name)) names

-- a 65th session, or the 100,001st command of a session in its round
abbrev pub is_full : Front → ℕ → Bool
is_full f session = nat_le 64 session || nat_le 100000 (count_of session f.items)

abbrev pub names_with : List (List ℕ) → ℕ → List ℕ → List (List ℕ)
names_with names session name = cond (session == length names) (names ++ name ∷ []) names

-- with a command of the session of this number, and of this name
abbrev pub with_turn : Front → ℕ → List ℕ → Command → Result Front Kind
with_turn f session name command =
    cond (is_full f session) (Err kinds.Limit) (Ok (record f { names = names_with f.names session name; items = f.items ++ items.Run session command ∷ [] }))

unfoldable pub command_line : Front → List ℕ → List (List ℕ) → Result Front Kind
command_line f name ws = do
  _ ← fault_if (not (is_name name)) kinds.Session
  command ← command_at ws
  with_turn f (place_of f.names name) name command

-- ---- a line of any kind behind the header

abbrev pub item_of : Directive → Item
item_of directives.Round = items.Round
item_of directives.Checkpoint = items.Checkpoint
item_of (directives.Crash how) = items.Crash how
item_of (directives.Dump what at size) = items.Dump what at size

abbrev pub with_directive : Front → Directive → Front
with_directive f d = record f { items = f.items ++ item_of d ∷ [] }

abbrev pub is_dot : List ℕ → Bool
is_dot w = get_or w 0 0 == 46

abbrev pub words_line : Front → List (List ℕ) → Result Front Kind
words_line f [] = Ok f
words_line f (w ∷ ws) = cond (is_dot w) (directive_at w ws >>= λ d. Ok (with_directive f d)) (command_line f w ws)

unfoldable pub body_line : Front → List ℕ → Result Front Kind
body_line f line = do
  _ ← fault_if (not (is_plain line)) kinds.Byte
  words_line f (words_in line)

-- ---- a line of the header

abbrev pub is_header_line : List (List ℕ) → Bool
is_header_line [] = false
is_header_line (w ∷ ws) = is_header_word w

abbrev pub header_words : Front → ℕ → List (List ℕ) → Result Front Kind
header_words f number [] = Ok f
header_words f number (w ∷ ws) = header_with f.header w ws >>= λ h. Ok (record f { header = h; header_end = number })

unfoldable pub header_line : Front → ℕ → List ℕ → Result Front Kind
header_line f number line = do
  _ ← fault_if (not (is_plain line)) kinds.Byte
  header_words f number (words_in line)

-- the header ends, once. A fault of its counters is one of its last line.
abbrev pub end_header : Front → Result Front (ℕ × Kind)
end_header f = cond (f.late || is_base (base_of f.header)) (Ok (record f { late = true })) (Err (f.header_end, kinds.Base))

-- ---- any line

-- without words, or a comment
abbrev pub is_passed : List (List ℕ) → Bool
is_passed [] = true
is_passed (w ∷ ws) = get_or w 0 0 == 35

abbrev pub at_line : ℕ → Result Front Kind → Result Front (ℕ × Kind)
at_line number (Ok f) = Ok f
at_line number (Err kind) = Err (number, kind)

-- Among the lines of the header a comment with a fault ends it, as any other line does.
unfoldable pub read_line : Front → ℕ → List ℕ → Result Front (ℕ × Kind)
read_line f number line =
    cond (is_plain line && is_passed (words_in line)) (Ok f)
    (cond (not f.late && is_header_line (words_in line)) (at_line number (header_line f number line))
    (end_header f >>= λ g. at_line number (body_line g line)))

-- ---- all lines

abbrev pub read_lines : Front → ℕ → List (List ℕ) → Result Front (ℕ × Kind)
read_lines f number [] = Ok f
read_lines f number (line ∷ lines) = read_line f number line >>= λ g. read_lines g (number + 1) lines

unfoldable pub no_front : Front
no_front = record { header = no_header; header_end = 0; late = false; names = []; items = [] }

abbrev pub script_of : Front → Script
script_of f = record { base = base_of f.header; banks = banks_of f.header; names = f.names; items = f.items }

-- the script, or the line and the kind of the first fault. A header with no other line behind it ends with the text.
unfoldable pub read_script : List ℕ → Result Script (ℕ × Kind)
read_script bytes = do
  _ ← fault_if (nat_lt 16777216 (length bytes)) (0, kinds.Size)
  front ← read_lines no_front 1 (lines_of bytes)
  _ ← fault_if (not (is_base (base_of front.header))) (front.header_end, kinds.Base)
  Ok (script_of front)
