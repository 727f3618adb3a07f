-- The plain line of an item is read as it.
use Rattle.std.proofs.Common.{◌≡◌, ℕ, ◌+◌, ◌%◌, ◌^◌, ◌<◌, nat_lt, ◌&&◌, ◌==◌, not, List, [], ◌∷◌, ◌++◌, Bool, true, false, Ok, refl, ap, ◌∙◌, length, arith}
use Rattle.std.specs.List.{AllByRecursion, list_all}
use Rattle.std.proofs.lemmas.Bool.{false≢true}
use Rattle.std.proofs.lemmas.Bool.Decides.{nat_tests}
use Rattle.std.proofs.lemmas.Fmt.{decimal_by_steps}
use Rattle.std.specs.Fmt.{decimal}
use Rattle.tx_events.specs.declared.multi.Mode.{Mode}
use Rattle.tx_events.specs.declared.multi.Mode.TheVariants as modes
use Rattle.tx_model.specs.declared.command.Command.{Command}
use Rattle.tx_model.specs.declared.command.Command.TheVariants as commands
use Rattle.tx_model.specs.declared.command.Pair.{Pair}
use Rattle.tx_model.specs.declared.report.DumpOf.TheVariants as dumps
use Rattle.tx_model.specs.declared.report.How.TheVariants as hows
use Rattle.report_text.specs.CommandText.{command_word, command_words}
use Rattle.report_text.specs.MemberText.{id_word, mode_word, pair_word, pair_words}
use Rattle.script_lines.specs.declared.directive.Directive.{Directive}
use Rattle.script_lines.specs.declared.directive.Directive.TheVariants as directives
use Rattle.script_lines.specs.Header.{base_of, is_base, is_header_word}
use Rattle.tx_events.specs.Names.{is_letter, is_name, is_name_byte}
use Rattle.script_lines.specs.LineWords.{is_plain, words_in}
use Rattle.session_lang.specs.declared.parser.reading.Front.{Front}
use Rattle.session_lang.specs.Plain.{AreWords, IsDirective, IsInRange, directive_rest, directive_word, is_word, is_word_byte, spaced}
use Rattle.session_lang.specs.Script.{at_line, body_line, command_line, end_header, is_dot, is_header_line, is_passed, place_of, read_line, with_directive, with_turn, words_line}
use Rattle.session_lang.proofs.Again.{command_again, directive_again}
use Rattle.session_lang.proofs.LineLemmas.{body_read}
use Rattle.session_lang.proofs.PlainLines.{and_first, and_second, line_is_plain, line_words}

-- ---- its words are words

byte_of_name : (b : ℕ) → is_name_byte b ≡ true → is_word_byte b ≡ true
byte_of_name b e = grind (arith, nat_tests)

byte_of_letter : (b : ℕ) → is_letter b ≡ true → is_word_byte b ≡ true
byte_of_letter b e = grind (arith, nat_tests)

bytes_of_name : (w : List ℕ) → list_all is_name_byte w ≡ true → list_all is_word_byte w ≡ true
bytes_of_name [] e = refl
bytes_of_name (b ∷ w) e =
    rw (byte_of_name b (and_first (is_name_byte b) (list_all is_name_byte w) e)) (bytes_of_name w (and_second (is_name_byte b) (list_all is_name_byte w) e))

letter_first : (b : ℕ) (w : List ℕ) → is_name (b ∷ w) ≡ true → is_letter b ≡ true
letter_first b w e = and_first (is_letter b) (list_all is_name_byte w) (and_first (is_letter b && list_all is_name_byte w) (nat_lt (length w) 16) e)

pub name_is_word : (w : List ℕ) → is_name w ≡ true → is_word w ≡ true
name_is_word [] e = e
name_is_word (b ∷ w) e =
    let tail = list_all is_name_byte w in
    rw (byte_of_letter b (letter_first b w e)) (bytes_of_name w (and_second (is_letter b) tail (and_first (is_letter b && tail) (nat_lt (length w) 16) e)))

all_join : (xs ys : List ℕ) → list_all is_word_byte xs ≡ true → list_all is_word_byte ys ≡ true → list_all is_word_byte (xs ++ ys) ≡ true
all_join [] ys a b = b
all_join (x ∷ xs) ys a b =
    rw (and_first (is_word_byte x) (list_all is_word_byte xs) a) (all_join xs ys (and_second (is_word_byte x) (list_all is_word_byte xs) a) b)

word_join : (xs ys : List ℕ) → is_word xs ≡ true → list_all is_word_byte ys ≡ true → is_word (xs ++ ys) ≡ true
word_join [] ys a b = absurd (false≢true a)
word_join (x ∷ xs) ys a b =
    rw (and_first (is_word_byte x) (list_all is_word_byte xs) a) (all_join xs ys (and_second (is_word_byte x) (list_all is_word_byte xs) a) b)

digit_byte : (d : ℕ) → d < 10 → is_word_byte (48 + d) ≡ true
digit_byte d l = grind (arith, nat_tests)

pub number_is_word : (n : ℕ) → n < 2 ^ 64 → is_word (decimal n) ≡ true
number_is_word n l = decimal_by_steps (λ n ds. is_word ds ≡ true) (λ n l. rw (digit_byte n l) refl) (λ n ds m h. word_join ds ((48 + n % 10) ∷ []) h (rw (digit_byte (n % 10) (omega arith)) refl)) n l

mode_bytes : (m : Mode) → list_all is_word_byte (58 ∷ mode_word m) ≡ true
unfolding mode_word
mode_bytes modes.KeySh = refl
mode_bytes modes.Sh = refl
mode_bytes modes.ForNoKeyUpd = refl
mode_bytes modes.ForUpd = refl
mode_bytes modes.NoKeyUpd = refl
mode_bytes modes.Upd = refl

pairs_are_words : (pairs : List Pair) → AllByRecursion (λ (p : Pair). p.x.number < 2 ^ 32) pairs → AreWords (pair_words pairs)
unfolding pair_word id_word
pairs_are_words [] a = tt
pairs_are_words (p ∷ pairs) a =
    (word_join (decimal p.x.number) (58 ∷ mode_word p.mode) (number_is_word p.x.number (omega (arith, a.0))) (mode_bytes p.mode), pairs_are_words pairs a.1)

pub command_are_words : (c : Command) → IsInRange c → AreWords (command_words c)
unfolding command_word
command_are_words commands.Begin i = (refl, tt)
command_are_words commands.Save i = (refl, tt)
command_are_words commands.Write i = (refl, tt)
command_are_words commands.Release i = (refl, tt)
command_are_words commands.Undo i = (refl, tt)
command_are_words commands.Commit i = (refl, tt)
command_are_words commands.Abort i = (refl, tt)
command_are_words commands.Trim i = (refl, tt)
command_are_words commands.Horizon i = (refl, tt)
command_are_words (commands.Snap name) i = (refl, (name_is_word name i, tt))
command_are_words (commands.DropSnap name) i = (refl, (name_is_word name i, tt))
command_are_words (commands.See name x) i = (refl, (name_is_word name i.0, (number_is_word x.number (omega (arith, i.1)), tt)))
command_are_words (commands.Status x) i = (refl, (number_is_word x (omega (arith, i.1)), tt))
command_are_words (commands.Did x) i = (refl, (number_is_word x.number (omega (arith, i)), tt))
command_are_words (commands.Multi members) i = (refl, pairs_are_words members i)
command_are_words (commands.SeeMulti name m) i = (refl, (name_is_word name i.0, (number_is_word m.number (omega (arith, i.2)), tt)))
command_are_words (commands.Freeze x) i = (refl, (number_is_word x (omega (arith, i.1)), tt))
command_are_words (commands.MultiFreeze m) i = (refl, (number_is_word m (omega (arith, i.1)), tt))

pub directive_are_words : (d : Directive) → IsDirective d → AreWords (directive_word d ∷ directive_rest d)
directive_are_words directives.Round i = (refl, tt)
directive_are_words directives.Checkpoint i = (refl, tt)
directive_are_words (directives.Crash hows.Lost) i = (refl, (refl, tt))
directive_are_words (directives.Crash hows.Kept) i = (refl, (refl, tt))
directive_are_words (directives.Crash hows.Torn) i = (refl, (refl, tt))
directive_are_words (directives.Dump dumps.Log at size) i = (refl, (refl, (number_is_word at (omega (arith, i.0)), (number_is_word size (omega (arith, i.2)), tt))))
directive_are_words (directives.Dump (dumps.Xact page) at size) i = (refl, (refl, (number_is_word page (omega (arith, i.0.0)), (number_is_word at (omega (arith, i.0.1)), (number_is_word size (omega (arith, i.2)), tt)))))
directive_are_words (directives.Dump (dumps.Subtrans page) at size) i = (refl, (refl, (number_is_word page (omega (arith, i.0.0)), (number_is_word at (omega (arith, i.0.1)), (number_is_word size (omega (arith, i.2)), tt)))))
directive_are_words (directives.Dump (dumps.Offsets page) at size) i = (refl, (refl, (number_is_word page (omega (arith, i.0.0)), (number_is_word at (omega (arith, i.0.1)), (number_is_word size (omega (arith, i.2)), tt)))))
directive_are_words (directives.Dump (dumps.Members page) at size) i = (refl, (refl, (number_is_word page (omega (arith, i.0.0)), (number_is_word at (omega (arith, i.0.1)), (number_is_word size (omega (arith, i.2)), tt)))))

-- ---- and it is read

abbrev pub behind_header : Front → Front
behind_header f = record f { late = true }

pub header_ends : (f : Front) (b : Bool) → f.late ≡ b → is_base (base_of f.header) ≡ true → end_header f ≡ Ok (behind_header f)
header_ends f true e i = rw e refl
header_ends f false e i = rw (e, i) refl

no_header_line : (late : Bool) (ws : List (List ℕ)) → is_header_line ws ≡ false → (not late && is_header_line ws) ≡ false
no_header_line true ws e = refl
no_header_line false ws e = e

words_read : (f : Front) (words : List (List ℕ)) → AreWords words → body_line f (spaced words) ≡ words_line f words
unfolding body_line
words_read f words a = rw (line_is_plain words a, line_words words a) refl

body_of_words : (f : Front) (n : ℕ) (words : List (List ℕ)) → AreWords words → is_passed words ≡ false → is_header_line words ≡ false → is_base (base_of f.header) ≡ true → read_line f n (spaced words) ≡ at_line n (words_line (behind_header f) words)
body_of_words f n words a p h i =
    let line = spaced words in
    let not_passed : (is_plain line && is_passed (words_in line)) ≡ false = rw (line_is_plain words a, line_words words a) p in
    let not_header : (not f.late && is_header_line (words_in line)) ≡ false = rw (line_words words a) (no_header_line f.late words h) in
    body_read f (behind_header f) n line not_passed not_header (header_ends f f.late refl i) ∙ ap (at_line n) (words_read (behind_header f) words a)

letter_not : (b : ℕ) → is_letter b ≡ true → ((b == 35) ≡ false) × ((b == 46) ≡ false)
letter_not b e = (grind (arith, nat_tests), grind (arith, nat_tests))

not_passed : (w : List ℕ) (ws : List (List ℕ)) → is_name w ≡ true → is_passed (w ∷ ws) ≡ false
not_passed [] ws e = absurd (false≢true e)
not_passed (b ∷ w) ws e = (letter_not b (letter_first b w e)).0

not_dot : (w : List ℕ) → is_name w ≡ true → is_dot w ≡ false
not_dot [] e = absurd (false≢true e)
not_dot (b ∷ w) e = (letter_not b (letter_first b w e)).1

not_header_word : (w : List ℕ) → is_name w ≡ true → is_header_word w ≡ false
not_header_word [] e = absurd (false≢true e)
not_header_word (b ∷ w) e = let f : (b == 46) ≡ false = not_dot (b ∷ w) e in rw f refl

command_words_read : (f : Front) (name : List ℕ) (c : Command) → is_name name ≡ true → IsInRange c → words_line f (name ∷ command_words c) ≡ with_turn f (place_of f.names name) name c
unfolding command_line
command_words_read f name c e i = rw (not_dot name e, e, command_again c i) refl

pub command_read : (f : Front) (n : ℕ) (name : List ℕ) (c : Command) → is_name name ≡ true → IsInRange c → is_base (base_of f.header) ≡ true → read_line f n (spaced (name ∷ command_words c)) ≡ at_line n (with_turn (behind_header f) (place_of f.names name) name c)
command_read f n name c e i b =
    body_of_words f n (name ∷ command_words c) (name_is_word name e, command_are_words c i) (not_passed name (command_words c) e) (not_header_word name e) b
    ∙ ap (at_line n) (command_words_read (behind_header f) name c e i)

directive_words_read : (f : Front) (d : Directive) → IsDirective d → words_line f (directive_word d ∷ directive_rest d) ≡ Ok (with_directive f d)
directive_words_read f d i = rw (dot d, directive_again d i) refl
  where
    dot : (d : Directive) → is_dot (directive_word d) ≡ true
    dot directives.Round = refl
    dot directives.Checkpoint = refl
    dot (directives.Crash how) = refl
    dot (directives.Dump what at size) = refl

no_header_of : (d : Directive) → is_header_line (directive_word d ∷ directive_rest d) ≡ false
no_header_of directives.Round = refl
no_header_of directives.Checkpoint = refl
no_header_of (directives.Crash how) = refl
no_header_of (directives.Dump what at size) = refl

no_comment_of : (d : Directive) → is_passed (directive_word d ∷ directive_rest d) ≡ false
no_comment_of directives.Round = refl
no_comment_of directives.Checkpoint = refl
no_comment_of (directives.Crash how) = refl
no_comment_of (directives.Dump what at size) = refl

pub directive_read : (f : Front) (n : ℕ) (d : Directive) → IsDirective d → is_base (base_of f.header) ≡ true → read_line f n (spaced (directive_word d ∷ directive_rest d)) ≡ Ok (with_directive (behind_header f) d)
directive_read f n d i b =
    body_of_words f n (directive_word d ∷ directive_rest d) (directive_are_words d i) (no_comment_of d) (no_header_of d) b
    ∙ ap (at_line n) (directive_words_read (behind_header f) d i)
