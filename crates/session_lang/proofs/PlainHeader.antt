-- The plain lines of a header are read as it.
use Rattle.std.proofs.Common.{◌≡◌, ℕ, ◌+◌, ◌^◌, ◌<◌, ◌≤◌, ◌&&◌, ◌==◌, not, List, [], ◌∷◌, ◌++◌, true, false, Option, Some, None, IfSome, Ok, refl, ap, ◌∙◌, codes, get_or, map, arith}
use Rattle.std.specs.Fmt.{decimal}
use Rattle.std.specs.List.{AllByRecursion}
use Rattle.script_lines.specs.declared.header.Header.{Header}
use Rattle.script_lines.specs.Header.{given_id, given_multi, given_number, header_with, is_header_word, no_header}
use Rattle.script_lines.specs.LineWords.{is_plain, words_in}
use Rattle.session_lang.specs.declared.parser.reading.Front.{Front}
use Rattle.session_lang.specs.Plain.{AreWords, IsFrom1, IsHeader, IsStartId, IsStartMulti, given, header_onto, is_word, spaced}
use Rattle.session_lang.specs.Script.{header_line, is_header_line, is_passed, no_front, read_line, read_lines}
use Rattle.session_lang.proofs.Again.{id_again, in_range, multi_again}
use Rattle.session_lang.proofs.LineLemmas.{header_read}
use Rattle.session_lang.proofs.PlainItems.{number_is_word}
use Rattle.session_lang.proofs.PlainLines.{line_is_plain, line_words}

abbrev pub front_of : Header → ℕ → Front
front_of h e = record { header = h; header_end = e; late = false; names = []; items = [] }

-- a directive's number, where it is given, makes the one header of the other
abbrev Sets : List ℕ → Option ℕ → Header → Header → Type 0
Sets word None h k = h ≡ k
Sets word (Some n) h k = (n < 2 ^ 64) × (header_with h word (decimal n ∷ []) ≡ Ok k)

-- a word that begins a line of the header
record IsHead (word : List ℕ) : Type 0 where
  is_one : is_header_word word ≡ true
  printable : is_word word ≡ true
  no_comment : (get_or word 0 0 == 35) ≡ false

one_read : (word : List ℕ) (n : ℕ) (h k : Header) (e m : ℕ) → IsHead word → n < 2 ^ 64 → header_with h word (decimal n ∷ []) ≡ Ok k → read_line (front_of h e) m (spaced (word ∷ decimal n ∷ [])) ≡ Ok (front_of k m)
unfolding header_line
one_read word n h k e m i l s =
    let words = word ∷ decimal n ∷ [] in
    let a : AreWords words = (i.printable, (number_is_word n l, tt)) in
    let line = spaced words in
    let none : (is_plain line && is_passed (words_in line)) ≡ false = rw (line_is_plain words a, line_words words a) i.no_comment in
    let head : (not false && is_header_line (words_in line)) ≡ true = rw (line_words words a) i.is_one in
    header_read (front_of h e) m line none head ∙ rw (line_is_plain words a, line_words words a, s) refl

-- reading goes on behind the lines from one header to the other
record Goes (h k : Header) (e n : ℕ) (lines tail : List (List ℕ)) (rest : List (List ℕ)) : Type 0 where
  end : ℕ
  number : ℕ
  read : read_lines (front_of h e) n (lines ++ tail) ≡ read_lines (front_of k end) number (rest ++ tail)

given_read : (word : List ℕ) (o : Option ℕ) (h k : Header) (e n : ℕ) (more : List (List (List ℕ))) (tail : List (List ℕ)) → IsHead word → Sets word o h k → Goes h k e n (map spaced (given word o more)) tail (map spaced more)
given_read word None h k e n more tail i s = record { end = e; number = n; read = ap (λ j. read_lines (front_of j e) n (map spaced more ++ tail)) s }
given_read word (Some x) h k e n more tail i s = record {
  end = n;
  number = n + 1;
  read = rw (one_read word x h k e n i s.0 s.1) refl;
}

abbrev header : Option ℕ → Option ℕ → Option ℕ → Option ℕ → Option ℕ → Option ℕ → Option ℕ → Header
header a b c d e f g = record { start = a; oldest = b; multi = c; offset = d; oldest_multi = e; oldest_offset = f; banks = g }

set_start : (a : Option ℕ) → IfSome a IsStartId → Sets (codes ".start") a (header None None None None None None None) (header a None None None None None None)
unfolding header_with given_id
set_start None i = refl
set_start (Some n) i = (omega (arith, i.1), rw (id_again n i.0 i.1) refl)

set_oldest : (a b : Option ℕ) → IfSome b IsStartId → Sets (codes ".oldest") b (header a None None None None None None) (header a b None None None None None)
unfolding header_with given_id
set_oldest a None i = refl
set_oldest a (Some n) i = (omega (arith, i.1), rw (id_again n i.0 i.1) refl)

set_multi : (a b c : Option ℕ) → IfSome c IsStartMulti → Sets (codes ".multi") c (header a b None None None None None) (header a b c None None None None)
unfolding header_with given_multi
set_multi a b None i = refl
set_multi a b (Some n) i = (omega (arith, i.1), rw (multi_again n i.0 i.1) refl)

set_offset : (a b c d : Option ℕ) → IfSome d (IsFrom1 (2 ^ 62)) → Sets (codes ".offset") d (header a b c None None None None) (header a b c d None None None)
unfolding header_with given_number
set_offset a b c None i = refl
set_offset a b c (Some n) i = (omega (arith, i.1), rw (in_range 1 (2 ^ 62) n i.0 i.1 (omega (arith, i.1))) refl)

set_oldest_multi : (a b c d e : Option ℕ) → IfSome e IsStartMulti → Sets (codes ".oldest-multi") e (header a b c d None None None) (header a b c d e None None)
unfolding header_with given_multi
set_oldest_multi a b c d None i = refl
set_oldest_multi a b c d (Some n) i = (omega (arith, i.1), rw (multi_again n i.0 i.1) refl)

set_oldest_offset : (a b c d e f : Option ℕ) → IfSome f (IsFrom1 (2 ^ 62)) → Sets (codes ".oldest-offset") f (header a b c d e None None) (header a b c d e f None)
unfolding header_with given_number
set_oldest_offset a b c d e None i = refl
set_oldest_offset a b c d e (Some n) i = (omega (arith, i.1), rw (in_range 1 (2 ^ 62) n i.0 i.1 (omega (arith, i.1))) refl)

set_banks : (a b c d e f g : Option ℕ) → IfSome g (IsFrom1 16) → Sets (codes ".banks") g (header a b c d e f None) (header a b c d e f g)
unfolding header_with given_number
set_banks a b c d e f None i = refl
set_banks a b c d e f (Some n) i = (omega (arith, i.1), rw (in_range 1 16 n i.0 i.1 (omega (arith, i.1))) refl)

-- the header's lines, before others
pub record ReadsHeader (h : Header) (more : List (List (List ℕ))) (tail : List (List ℕ)) : Type 0 where
  pub end : ℕ
  pub number : ℕ
  pub read : read_lines no_front 1 (map spaced (header_onto h more) ++ tail) ≡ read_lines (front_of h end) number (map spaced more ++ tail)

pub header_lines_read : (h : Header) (more : List (List (List ℕ))) (tail : List (List ℕ)) → IsHeader h → ReadsHeader h more tail
unfolding no_front no_header
header_lines_read h more tail i =
    let is_head : (word : List ℕ) → is_header_word word ≡ true → is_word word ≡ true → (get_or word 0 0 == 35) ≡ false → IsHead word = λ word a b c. record { is_one = a; printable = b; no_comment = c } in
    let a = h.start in let b = h.oldest in let c = h.multi in let d = h.offset in let e = h.oldest_multi in let f = h.oldest_offset in let g = h.banks in
    let m7 = given (codes ".banks") g more in
    let m6 = given (codes ".oldest-offset") f m7 in
    let m5 = given (codes ".oldest-multi") e m6 in
    let m4 = given (codes ".offset") d m5 in
    let m3 = given (codes ".multi") c m4 in
    let m2 = given (codes ".oldest") b m3 in
    let r1 = given_read (codes ".start") a (header None None None None None None None) (header a None None None None None None) 0 1 m2 tail (is_head (codes ".start") refl refl refl) (set_start a i.start) in
    let r2 = given_read (codes ".oldest") b (header a None None None None None None) (header a b None None None None None) r1.end r1.number m3 tail (is_head (codes ".oldest") refl refl refl) (set_oldest a b i.oldest) in
    let r3 = given_read (codes ".multi") c (header a b None None None None None) (header a b c None None None None) r2.end r2.number m4 tail (is_head (codes ".multi") refl refl refl) (set_multi a b c i.multi) in
    let r4 = given_read (codes ".offset") d (header a b c None None None None) (header a b c d None None None) r3.end r3.number m5 tail (is_head (codes ".offset") refl refl refl) (set_offset a b c d i.offset) in
    let r5 = given_read (codes ".oldest-multi") e (header a b c d None None None) (header a b c d e None None) r4.end r4.number m6 tail (is_head (codes ".oldest-multi") refl refl refl) (set_oldest_multi a b c d e i.oldest_multi) in
    let r6 = given_read (codes ".oldest-offset") f (header a b c d e None None) (header a b c d e f None) r5.end r5.number m7 tail (is_head (codes ".oldest-offset") refl refl refl) (set_oldest_offset a b c d e f i.oldest_offset) in
    let r7 = given_read (codes ".banks") g (header a b c d e f None) (header a b c d e f g) r6.end r6.number more tail (is_head (codes ".banks") refl refl refl) (set_banks a b c d e f g i.banks) in
    record { end = r7.end; number = r7.number; read = r1.read ∙ r2.read ∙ r3.read ∙ r4.read ∙ r5.read ∙ r6.read ∙ r7.read }

-- and their words
given_words : (word : List ℕ) (o : Option ℕ) (more : List (List (List ℕ))) → is_word word ≡ true → IfSome o (λ n. n ≤ 2 ^ 62) → AllByRecursion AreWords more → AllByRecursion AreWords (given word o more)
given_words word None more i l a = a
given_words word (Some n) more i l a = ((i, (number_is_word n (omega (arith, l)), tt)), a)

at_most : (P : ℕ → Type 0) (o : Option ℕ) → ((n : ℕ) → P n → n ≤ 2 ^ 62) → IfSome o P → IfSome o (λ n. n ≤ 2 ^ 62)
at_most P None f i = tt
at_most P (Some n) f i = f n i

pub header_are_words : (h : Header) (more : List (List (List ℕ))) → IsHeader h → AllByRecursion AreWords more → AllByRecursion AreWords (header_onto h more)
header_are_words h more i a =
    given_words (codes ".start") h.start _ refl (at_most IsStartId h.start (λ n j. j.1) i.start)
    (given_words (codes ".oldest") h.oldest _ refl (at_most IsStartId h.oldest (λ n j. j.1) i.oldest)
    (given_words (codes ".multi") h.multi _ refl (at_most IsStartMulti h.multi (λ n j. j.1) i.multi)
    (given_words (codes ".offset") h.offset _ refl (at_most (IsFrom1 (2 ^ 62)) h.offset (λ n j. j.1) i.offset)
    (given_words (codes ".oldest-multi") h.oldest_multi _ refl (at_most IsStartMulti h.oldest_multi (λ n j. j.1) i.oldest_multi)
    (given_words (codes ".oldest-offset") h.oldest_offset _ refl (at_most (IsFrom1 (2 ^ 62)) h.oldest_offset (λ n j. j.1) i.oldest_offset)
    (given_words (codes ".banks") h.banks more refl (at_most (IsFrom1 16) h.banks (λ n j. omega (arith, j.1)) i.banks) a))))))
