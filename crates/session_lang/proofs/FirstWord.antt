-- A line with a byte that may not stand there, and one without, by its words.
use Rattle.std.proofs.Common.{◌≡◌, ◌==◌, ℕ, List, ◌∷◌, ◌&&◌, not, true, false, get_or, refl, Ok, Err}
use Rattle.script_lines.specs.declared.kind.Kind.TheVariants as kinds
use Rattle.script_lines.specs.Header.{is_header_word}
use Rattle.script_lines.specs.LineWords.{is_plain, words_in}
use Rattle.session_lang.specs.Answers.{ReadsAs}
use Rattle.session_lang.specs.declared.parser.reading.Front.{Front}
use Rattle.session_lang.specs.declared.script.ParseRefusal.{ParseRefusal}
use Rattle.session_lang.specs.declared.script.ParseRefusal.TheVariants as refusals
use Rattle.session_lang.specs.Script.{at_line, body_line, end_header, header_line, header_words, is_header_line, read_line, words_line}

-- ---- with such a byte

pub header_refused : (f : Front) (n : ℕ) (line : List ℕ) → is_plain line ≡ false → (not f.late && is_header_line (words_in line)) ≡ true → read_line f n line ≡ Err (n, kinds.Byte)
unfolding read_line header_line
header_refused f n line p h = rw (p, h) refl

pub body_refused : (f g : Front) (n : ℕ) (line : List ℕ) → is_plain line ≡ false → (not f.late && is_header_line (words_in line)) ≡ false → end_header f ≡ Ok g → read_line f n line ≡ Err (n, kinds.Byte)
unfolding read_line body_line
body_refused f g n line p h e = rw (p, h, e) refl

pub end_refused : (f : Front) (n : ℕ) (line : List ℕ) (r : ParseRefusal) → is_plain line ≡ false → (not f.late && is_header_line (words_in line)) ≡ false → ReadsAs {X = Unit {0}} (λ _. f) (Err r) (end_header f) → ReadsAs {X = Unit {0}} (λ _. f) (Err r) (read_line f n line)
unfolding read_line
end_refused f n line (refusals.Fault at kind) p h e = rw (p, h, e) refl
end_refused f n line refusals.Memory p h e = tt

-- ---- without

pub header_words_read : (f : Front) (n : ℕ) (line w : List ℕ) (ws : List (List ℕ)) → is_plain line ≡ true → words_in line ≡ w ∷ ws → (get_or w 0 0 == 35) ≡ false → (not f.late && is_header_word w) ≡ true → read_line f n line ≡ at_line n (header_words f n (w ∷ ws))
unfolding read_line header_line
header_words_read f n line w ws p e c h = rw (p, e, c, h) refl

pub body_words_read : (f g : Front) (n : ℕ) (line w : List ℕ) (ws : List (List ℕ)) → is_plain line ≡ true → words_in line ≡ w ∷ ws → (get_or w 0 0 == 35) ≡ false → (not f.late && is_header_word w) ≡ false → end_header f ≡ Ok g → read_line f n line ≡ at_line n (words_line g (w ∷ ws))
unfolding read_line body_line
body_words_read f g n line w ws p e c h ended = rw (p, e, c, h, ended) refl
