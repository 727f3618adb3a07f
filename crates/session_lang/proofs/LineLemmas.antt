-- A line of the header, and another one.
use Rattle.std.proofs.Common.{◌≡◌, ℕ, List, ◌&&◌, not, true, false, refl, Ok}
use Rattle.script_lines.specs.LineWords.{is_plain, words_in}
use Rattle.session_lang.specs.declared.parser.reading.Front.{Front}
use Rattle.session_lang.specs.Script.{at_line, body_line, end_header, header_line, is_header_line, is_passed, read_line}

pub nothing_read : (f : Front) (n : ℕ) (line : List ℕ) → (is_plain line && is_passed (words_in line)) ≡ true → read_line f n line ≡ Ok f
unfolding read_line
nothing_read f n line p = rw p refl

pub header_read : (f : Front) (n : ℕ) (line : List ℕ) → (is_plain line && is_passed (words_in line)) ≡ false → (not f.late && is_header_line (words_in line)) ≡ true → read_line f n line ≡ at_line n (header_line f n line)
unfolding read_line
header_read f n line p h = rw (p, h) refl

pub body_read : (f g : Front) (n : ℕ) (line : List ℕ) → (is_plain line && is_passed (words_in line)) ≡ false → (not f.late && is_header_line (words_in line)) ≡ false → end_header f ≡ Ok g → read_line f n line ≡ at_line n (body_line g line)
unfolding read_line
body_read f g n line p h e = rw (p, h, e) refl
