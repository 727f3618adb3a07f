-- What a script may say, and its plain text: one line each, words with one space between them, numbers without leading zeros.
use Rattle.std.specs.Prelude.{◌≡◌, ℕ, ◌+◌, ◌<◌, ◌≤◌, ◌^◌, ◌&&◌, nat_le, List, [], ◌∷◌, ◌++◌, Bool, true, false, Option, None, Some, IfSome, codes, length, map}
use Rattle.std.specs.Fmt.{decimal}
use Rattle.std.specs.List.{AllByRecursion, flat_map, list_all}
use Rattle.tx_model.specs.declared.command.Command.{Command}
use Rattle.tx_model.specs.declared.command.Command.TheVariants as commands
use Rattle.tx_model.specs.declared.command.Pair.{Pair}
use Rattle.tx_model.specs.declared.report.DumpOf.{DumpOf}
use Rattle.tx_model.specs.declared.report.DumpOf.TheVariants as dumps
use Rattle.tx_model.specs.declared.report.How.{How}
use Rattle.tx_model.specs.declared.report.How.TheVariants as hows
use Rattle.tx_events.specs.Ids.{IsFullId, IsFullMulti, IsXidNumber}
use Rattle.report_text.specs.CommandText.{command_words}
use Rattle.report_text.specs.ReportText.{dump_words}
use Rattle.report_text.specs.Words.{line_text, more, name_at}
use Rattle.script_lines.specs.declared.directive.Directive.{Directive}
use Rattle.script_lines.specs.declared.directive.Directive.TheVariants as directives
use Rattle.script_lines.specs.declared.header.Header.{Header}
use Rattle.script_lines.specs.Header.{banks_of, base_of}
use Rattle.tx_events.specs.Names.{is_name}
use Rattle.session_lang.specs.declared.script.Item.{Item}
use Rattle.session_lang.specs.declared.script.Item.TheVariants as items
use Rattle.session_lang.specs.declared.script.Script.{Script}
use Rattle.session_lang.specs.Reading.{IsSound}

-- the ranges of a command's names and numbers
abbrev pub IsInRange : Command → Type 0
IsInRange (commands.Snap name) = is_name name ≡ true
IsInRange (commands.DropSnap name) = is_name name ≡ true
IsInRange (commands.See name x) = (is_name name ≡ true) × (x.number < 2 ^ 32)
IsInRange (commands.Status x) = IsXidNumber x × (x ≤ 2 ^ 62)
IsInRange (commands.Did x) = x.number < 2 ^ 32
IsInRange (commands.Multi members) = AllByRecursion (λ (p : Pair). p.x.number < 2 ^ 32) members
IsInRange (commands.SeeMulti name m) = (is_name name ≡ true) × (1 ≤ m.number) × (m.number < 2 ^ 32)
IsInRange (commands.Freeze x) = IsFullId x × (x ≤ 2 ^ 62)
IsInRange (commands.MultiFreeze m) = IsFullMulti m × (m ≤ 2 ^ 62)
IsInRange _ = Unit {0}

-- a word has printable bytes alone, and some
abbrev pub is_word_byte : ℕ → Bool
is_word_byte b = nat_le 33 b && nat_le b 126

abbrev pub is_word : List ℕ → Bool
is_word [] = false
is_word (b ∷ bytes) = is_word_byte b && list_all is_word_byte bytes

abbrev pub AreWords : List (List ℕ) → Type 0
AreWords words = AllByRecursion (λ w. is_word w ≡ true) words

-- the words with one space between them
abbrev pub spaced : List (List ℕ) → List ℕ
spaced [] = []
spaced (w ∷ words) = w ++ more words

-- the directives behind the header
abbrev pub how_word : How → List ℕ
how_word hows.Lost = codes "lost"
how_word hows.Kept = codes "kept"
how_word hows.Torn = codes "torn"

abbrev pub directive_word : Directive → List ℕ
directive_word directives.Round = codes ".round"
directive_word directives.Checkpoint = codes ".checkpoint"
directive_word (directives.Crash how) = codes ".crash"
directive_word (directives.Dump what at size) = codes ".dump"

abbrev pub directive_rest : Directive → List (List ℕ)
directive_rest directives.Round = []
directive_rest directives.Checkpoint = []
directive_rest (directives.Crash how) = how_word how ∷ []
directive_rest (directives.Dump what at size) = dump_words what ++ decimal at ∷ decimal size ∷ []

abbrev pub IsDump : DumpOf → ℕ → ℕ → Type 0
IsDump dumps.Log at size = at ≤ 2 ^ 40
IsDump (dumps.Xact page) at size = (page < 2 ^ 32) × (at + size ≤ 8192)
IsDump (dumps.Subtrans page) at size = (page < 2 ^ 32) × (at + size ≤ 8192)
IsDump (dumps.Offsets page) at size = (page < 2 ^ 32) × (at + size ≤ 8192)
IsDump (dumps.Members page) at size = (page < 2 ^ 32) × (at + size ≤ 8192)

abbrev pub IsDirective : Directive → Type 0
IsDirective (directives.Dump what at size) = IsDump what at size × (1 ≤ size) × (size ≤ 64)
IsDirective _ = Unit {0}

-- ---- a script's plain text: one line each, its words with one space between them, numbers without leading zeros

abbrev pub item_words : List (List ℕ) → Item → List (List ℕ)
item_words names (items.Run session command) = name_at names session ∷ command_words command
item_words names items.Round = directive_word directives.Round ∷ directive_rest directives.Round
item_words names items.Checkpoint = directive_word directives.Checkpoint ∷ directive_rest directives.Checkpoint
item_words names (items.Crash how) = directive_word (directives.Crash how) ∷ directive_rest (directives.Crash how)
item_words names (items.Dump what at size) = directive_word (directives.Dump what at size) ∷ directive_rest (directives.Dump what at size)

abbrev pub IsItem : Item → Type 0
IsItem (items.Run session command) = IsInRange command
IsItem (items.Dump what at size) = IsDirective (directives.Dump what at size)
IsItem _ = Unit {0}

-- a directive of the header and its number, where it is given, before other lines
abbrev pub given : List ℕ → Option ℕ → List (List (List ℕ)) → List (List (List ℕ))
given word None lines = lines
given word (Some n) lines = (word ∷ decimal n ∷ []) ∷ lines

-- the words of each line of a header, before other lines
abbrev pub header_onto : Header → List (List (List ℕ)) → List (List (List ℕ))
header_onto h lines =
    given (codes ".start") h.start (given (codes ".oldest") h.oldest (given (codes ".multi") h.multi (given (codes ".offset") h.offset
    (given (codes ".oldest-multi") h.oldest_multi (given (codes ".oldest-offset") h.oldest_offset (given (codes ".banks") h.banks lines))))))

abbrev pub IsStartId : ℕ → Type 0
IsStartId n = IsFullId n × (n ≤ 2 ^ 62)

abbrev pub IsStartMulti : ℕ → Type 0
IsStartMulti n = IsFullMulti n × (n ≤ 2 ^ 62)

abbrev pub IsFrom1 : ℕ → ℕ → Type 0
IsFrom1 high n = (1 ≤ n) × (n ≤ high)

pub record IsHeader (h : Header) : Type 0 where
  pub start : IfSome h.start IsStartId
  pub oldest : IfSome h.oldest IsStartId
  pub multi : IfSome h.multi IsStartMulti
  pub offset : IfSome h.offset (IsFrom1 (2 ^ 62))
  pub oldest_multi : IfSome h.oldest_multi IsStartMulti
  pub oldest_offset : IfSome h.oldest_offset (IsFrom1 (2 ^ 62))
  pub banks : IfSome h.banks (IsFrom1 16)

-- the bytes are the plain text of the script with this header
pub record IsPlainText (h : Header) (s : Script) (bytes : List ℕ) : Type 0 where
  pub text : bytes ≡ flat_map line_text (header_onto h (map (item_words s.names) s.items))
  pub size : length bytes ≤ 16777216
  pub header : IsHeader h
  pub base : s.base ≡ base_of h
  pub banks : s.banks ≡ banks_of h
  pub items : AllByRecursion IsItem s.items
  pub sound : IsSound s
