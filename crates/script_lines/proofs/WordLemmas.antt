-- A line's words, one after the other.
use Rattle.std.proofs.Common.{◌≡◌, ℕ, ◌<◌, ◌≤◌, List, [], ◌∷◌, Bool, true, false, not, refl, sym, ap, ◌∙◌, take, drop, suc, one-add, length, arith, ◌==◌}
use Rattle.std.specs.List.{prefix_len, filter}
use Rattle.std.specs.Str.{bytes_eq}
use Rattle.std.proofs.lemmas.Slice.Eq.{bytes_eq-Decides}
use Rattle.std.proofs.lemmas.Bool.Decides.{nat_tests}
use Rattle.script_lines.proofs.Parts.{first_part, parts_behind}
use Rattle.script_lines.specs.LineWords.{is_blank, is_word, words_in}

abbrev to_blank : List ℕ → ℕ
to_blank xs = prefix_len (λ c. not (is_blank c)) xs

-- what stands behind a word begins with a blank, or is nothing
begins : (xs : List ℕ) → filter is_word (parts_behind is_blank (drop (to_blank xs) xs)) ≡ words_in (drop (to_blank xs) xs)
begins [] = refl
begins (x ∷ xs) = one (is_blank x) refl (begins xs)
  where
    one : (b : Bool) → is_blank x ≡ b → filter is_word (parts_behind is_blank (drop (to_blank xs) xs)) ≡ words_in (drop (to_blank xs) xs) → filter is_word (parts_behind is_blank (drop (to_blank (x ∷ xs)) (x ∷ xs))) ≡ words_in (drop (to_blank (x ∷ xs)) (x ∷ xs))
    one true e h = rw e (rw e refl)
    one false e h = rw (e, one-add) h

none_first : (x : ℕ) (xs : List ℕ) → is_blank x ≡ false → prefix_len is_blank (x ∷ xs) ≡ 0
none_first x xs e = rw e refl

pub skip_blanks : (xs : List ℕ) → words_in (drop (prefix_len is_blank xs) xs) ≡ words_in xs
skip_blanks [] = refl
skip_blanks (x ∷ xs) = one (is_blank x) refl (skip_blanks xs)
  where
    one : (b : Bool) → is_blank x ≡ b → words_in (drop (prefix_len is_blank xs) xs) ≡ words_in xs → words_in (drop (prefix_len is_blank (x ∷ xs)) (x ∷ xs)) ≡ words_in (x ∷ xs)
    one true e h = rw (e, one-add) h
    one false e h = ap (λ n. words_in (drop n (x ∷ xs))) (none_first x xs e)

not_blank : (xs : List ℕ) (y : ℕ) (ys : List ℕ) → y ∷ ys ≡ drop (prefix_len is_blank xs) xs → is_blank y ≡ false
not_blank [] y ys e = absurd cc
not_blank (x ∷ xs) y ys e = one (is_blank x) refl (not_blank xs y ys)
  where
    one : (b : Bool) → is_blank x ≡ b → (y ∷ ys ≡ drop (prefix_len is_blank xs) xs → is_blank y ≡ false) → is_blank y ≡ false
    one true f h = h (rw (f, one-add) at e)
    one false f h = let same : y ∷ ys ≡ x ∷ xs = e ∙ ap (λ n. drop n (x ∷ xs)) (none_first x xs f) in let heads : y ≡ x = cc in ap is_blank heads ∙ f

word_first : (y : ℕ) (ys : List ℕ) → is_blank y ≡ false → to_blank (y ∷ ys) ≡ suc (to_blank ys)
word_first y ys e = rw (e, one-add) refl

kept : (w : List ℕ) (ws : List (List ℕ)) → 0 < length w → filter is_word (w ∷ ws) ≡ w ∷ filter is_word ws
kept [] ws l = absurd (omega arith)
kept (b ∷ w) ws l = refl

pub record FirstWord (line rest word behind : List ℕ) : Type 0 where
  pub words : words_in line ≡ word ∷ words_in behind
  pub some : 0 < length word

at_word : (y : ℕ) (ys : List ℕ) (n : ℕ) → is_blank y ≡ false → n ≡ to_blank (y ∷ ys) → FirstWord (y ∷ ys) (y ∷ ys) (take n (y ∷ ys)) (drop n (y ∷ ys))
at_word y ys n e f =
    let size : n ≡ suc (to_blank ys) = f ∙ word_first y ys e in
    let some : 0 < length (take n (y ∷ ys)) = rw size (omega arith) in
    record {
      words = ap (filter is_word) (first_part is_blank (y ∷ ys)) ∙ ap (λ m. filter is_word (take m (y ∷ ys) ∷ parts_behind is_blank (drop m (y ∷ ys)))) (sym f)
          ∙ kept (take n (y ∷ ys)) (parts_behind is_blank (drop n (y ∷ ys))) some ∙ ap (λ t. take n (y ∷ ys) ∷ t) (ap (λ m. filter is_word (parts_behind is_blank (drop m (y ∷ ys)))) f ∙ begins (y ∷ ys) ∙ ap (λ m. words_in (drop m (y ∷ ys))) (sym f));
      some = some;
    }

pub first_word : (line rest word behind : List ℕ) (n : ℕ) → rest ≡ drop (prefix_len is_blank line) line → 1 ≤ length rest → n ≡ to_blank rest → word ≡ take n rest → behind ≡ drop n rest → FirstWord line rest word behind
first_word line [] word behind n r l e w b = absurd (omega arith)
first_word line (y ∷ ys) word behind n r l e w b =
    let f = at_word y ys n (not_blank line y ys r) e in
    record { words = sym (skip_blanks line) ∙ ap words_in (sym r) ∙ f.words ∙ ap (λ t. t ∷ words_in (drop n (y ∷ ys))) (sym w) ∙ ap (λ t. word ∷ words_in t) (sym b); some = rw w f.some }

pub no_word : (line rest : List ℕ) → rest ≡ drop (prefix_len is_blank line) line → length rest ≡ 0 → words_in line ≡ []
no_word line [] r l = sym (skip_blanks line) ∙ ap words_in (sym r)
no_word line (y ∷ ys) r l = absurd (omega arith)

pub not_empty : (xs : List ℕ) (b : Bool) → b ≡ (length xs == 0) → b ≡ false → 1 ≤ length xs
not_empty [] b e f = absurd cc
not_empty (x ∷ xs) b e f = omega arith

pub other_length : (xs ys : List ℕ) → (length xs == length ys) ≡ false → bytes_eq xs ys ≡ false
other_length xs ys e = one (bytes_eq xs ys) refl
  where
    one : (b : Bool) → bytes_eq xs ys ≡ b → b ≡ false
    one false f = refl
    one true f = let same : length xs ≡ length ys = ap length ((bytes_eq-Decides xs ys).0 f) in absurd (grind (arith, nat_tests))
