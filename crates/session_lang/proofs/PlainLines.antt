-- A plain line: its bytes, its words, and where it ends.
use Rattle.std.proofs.Common.{◌≡◌, ℕ, ◌-◌, ◌&&◌, ◌==◌, List, [], ◌∷◌, ◌++◌, Bool, true, false, refl, ap, ◌∙◌, zero, suc, get_or, length, map, append_assoc, arith}
use Rattle.std.specs.List.{AllByRecursion, filter, flat_map, list_all, slice_split}
use Rattle.std.proofs.lemmas.Bool.Decides.{nat_tests}
use Rattle.report_text.specs.Words.{line_text, more}
use Rattle.script_lines.specs.LineWords.{is_blank, is_line_byte, is_plain, words_in}
use Rattle.script_lines.specs.LineWords as script_words
use Rattle.session_lang.specs.Lines.{ended, is_line_end, lines_of, without_cr}
use Rattle.session_lang.specs.Plain.{AreWords, is_word, is_word_byte, spaced}
use Rattle.session_lang.proofs.CutLemmas.{before_parts}

-- ---- what holds of the bytes of a word and of a space

pub no_blank : (b : ℕ) → is_word_byte b ≡ true → is_blank b ≡ false
no_blank b e = grind (arith, nat_tests)

plain_byte : (b : ℕ) → is_word_byte b ≡ true → is_line_byte b ≡ true
plain_byte b e = grind (arith, nat_tests)

no_end : (b : ℕ) → is_word_byte b ≡ true → is_line_end b ≡ false
no_end b e = grind (arith, nat_tests)

no_cr : (b : ℕ) → is_word_byte b ≡ true → (b == 13) ≡ false
no_cr b e = grind (arith, nat_tests)

pub and_first : (a b : Bool) → (a && b) ≡ true → a ≡ true
and_first true b e = refl
and_first false b e = e

pub and_second : (a b : Bool) → (a && b) ≡ true → b ≡ true
and_second true b e = e
and_second false b e = absurd cc

-- of each byte of a line what holds of word bytes and spaces
abbrev OfBytes : (ℕ → Type 0) → Type 0
OfBytes P = (b : ℕ) → is_word_byte b ≡ true → P b

of_all : (P : ℕ → Type 0) → OfBytes P → (w rest : List ℕ) → list_all is_word_byte w ≡ true → AllByRecursion P rest → AllByRecursion P (w ++ rest)
of_all P f [] rest i r = r
of_all P f (b ∷ w) rest i r = (f b (and_first (is_word_byte b) (list_all is_word_byte w) i), of_all P f w rest (and_second (is_word_byte b) (list_all is_word_byte w) i) r)

of_word : (P : ℕ → Type 0) → OfBytes P → (w rest : List ℕ) → is_word w ≡ true → AllByRecursion P rest → AllByRecursion P (w ++ rest)
of_word P f [] rest i r = r
of_word P f (b ∷ w) rest i r = (f b (and_first (is_word_byte b) (list_all is_word_byte w) i), of_all P f w rest (and_second (is_word_byte b) (list_all is_word_byte w) i) r)

of_more : (P : ℕ → Type 0) → OfBytes P → P 32 → (words : List (List ℕ)) → AreWords words → AllByRecursion P (more words)
unfolding more
of_more P f space [] a = tt
of_more P f space (w ∷ words) a = (space, of_word P f w (more words) a.0 (of_more P f space words a.1))

of_line : (P : ℕ → Type 0) → OfBytes P → P 32 → (words : List (List ℕ)) → AreWords words → AllByRecursion P (spaced words)
of_line P f space [] a = tt
of_line P f space (w ∷ words) a = of_word P f w (more words) a.0 (of_more P f space words a.1)

all_tests : (p : ℕ → Bool) (xs : List ℕ) → AllByRecursion (λ b. p b ≡ true) xs → list_all p xs ≡ true
all_tests p [] a = refl
all_tests p (x ∷ xs) a = rw (a.0) (all_tests p xs a.1)

pub line_is_plain : (words : List (List ℕ)) → AreWords words → is_plain (spaced words) ≡ true
line_is_plain words a = all_tests is_line_byte (spaced words) (of_line (λ b. is_line_byte b ≡ true) plain_byte refl words a)

-- ---- its words

abbrev NoBlank : List ℕ → Type 0
NoBlank w = AllByRecursion (λ b. is_blank b ≡ false) w

no_blanks : (w : List ℕ) → list_all is_word_byte w ≡ true → NoBlank w
no_blanks [] i = tt
no_blanks (b ∷ w) i = (no_blank b (and_first (is_word_byte b) (list_all is_word_byte w) i), no_blanks w (and_second (is_word_byte b) (list_all is_word_byte w) i))

word_blanks : (w : List ℕ) → is_word w ≡ true → NoBlank w
word_blanks [] i = tt
word_blanks (b ∷ w) i = (no_blank b (and_first (is_word_byte b) (list_all is_word_byte w) i), no_blanks w (and_second (is_word_byte b) (list_all is_word_byte w) i))

words_split : (w : List ℕ) (words : List (List ℕ)) → NoBlank w → AreWords words → slice_split is_blank (w ++ more words) ≡ w ∷ words
unfolding more
words_split [] [] i a = refl
words_split [] (v ∷ words) i a = ap (λ t. [] ∷ t) (words_split v words (word_blanks v a.0) a.1)
words_split (c ∷ w) words i a = rw (i.0, words_split w words i.1 a) refl

all_kept : (words : List (List ℕ)) → AreWords words → filter script_words.is_word words ≡ words
all_kept [] a = refl
all_kept ([] ∷ words) a = absurd cc
all_kept ((b ∷ w) ∷ words) a = ap (λ t. (b ∷ w) ∷ t) (all_kept words a.1)

pub line_words : (words : List (List ℕ)) → AreWords words → words_in (spaced words) ≡ words
line_words [] a = refl
line_words (w ∷ words) a = ap (filter script_words.is_word) (words_split w words (word_blanks w a.0) a.1) ∙ all_kept (w ∷ words) a

-- ---- its end

cut_line : (xs rest : List ℕ) → AllByRecursion (λ b. is_line_end b ≡ false) xs → slice_split is_line_end (xs ++ 10 ∷ rest) ≡ xs ∷ slice_split is_line_end rest
cut_line [] rest a = refl
cut_line (x ∷ xs) rest a = rw (a.0, cut_line xs rest a.1) refl

at_place : (xs : List ℕ) (k : ℕ) → AllByRecursion (λ b. (b == 13) ≡ false) xs → (get_or xs k 0 == 13) ≡ false
at_place [] k a = refl
at_place (x ∷ xs) zero a = a.0
at_place (x ∷ xs) (suc k) a = at_place xs k a.1

keeps : (xs : List ℕ) → AllByRecursion (λ b. (b == 13) ≡ false) xs → without_cr xs ≡ xs
keeps xs a = rw (at_place xs (length xs - 1) a) refl

first_line : (words : List (List ℕ)) (rest : List ℕ) → AreWords words → lines_of (spaced words ++ 10 ∷ rest) ≡ spaced words ∷ lines_of rest
first_line words rest a =
    let line = spaced words in
    ap ended (cut_line line rest (of_line (λ b. is_line_end b ≡ false) no_end refl words a)) ∙ before_parts line rest
    ∙ ap (λ t. t ∷ lines_of rest) (keeps line (of_line (λ b. (b == 13) ≡ false) no_cr refl words a))

text_is : (words : List (List ℕ)) (rest : List ℕ) → line_text words ++ rest ≡ spaced words ++ 10 ∷ rest
unfolding line_text
text_is [] rest = refl
text_is (w ∷ words) rest = append_assoc (w ++ more words) (10 ∷ []) rest

-- the lines of a text of plain lines; behind the last of them an empty one stands
pub plain_lines : {X : Type 0} (line : X → List (List ℕ)) (xs : List X) → AllByRecursion (λ x. AreWords (line x)) xs → lines_of (flat_map (λ x. line_text (line x)) xs) ≡ map (λ x. spaced (line x)) xs ++ [] ∷ []
plain_lines line [] a = refl
plain_lines line (x ∷ xs) a =
    let rest = flat_map (λ y. line_text (line y)) xs in
    ap lines_of (text_is (line x) rest) ∙ first_line (line x) rest a.0 ∙ ap (λ t. spaced (line x) ∷ t) (plain_lines line xs a.1)
