-- How long the parts of a text are, each with one byte behind it.
use Rattle.std.proofs.Common.{◌≡◌, ℕ, ◌+◌, ◌≤◌, suc, List, [], ◌∷◌, Bool, true, false, cond, refl, arith, length, take}
use Rattle.std.proofs.lemmas.List.{length-take}
use Rattle.std.specs.List.{filter, onto_first, slice_split}
use Rattle.script_lines.specs.LineWords.{is_blank, is_word, words_in}
use Rattle.session_lang.specs.Lines.{ended, is_line_end, lines_of, without_cr}

abbrev pub size_of : List (List ℕ) → ℕ
size_of [] = 0
size_of (part ∷ parts) = length part + 1 + size_of parts

cut_size : (x : ℕ) (parts : List (List ℕ)) (b : Bool) (n : ℕ) → size_of parts ≡ n + 1 → size_of (cond b ([] ∷ parts) (onto_first x parts)) ≡ suc n + 1
cut_size x [] b n e = absurd (omega arith)
cut_size x (part ∷ parts) true n e = omega arith
cut_size x (part ∷ parts) false n e = omega arith

split_size : (p : ℕ → Bool) (xs : List ℕ) → size_of (slice_split p xs) ≡ length xs + 1
split_size p [] = refl
split_size p (x ∷ xs) = cut_size x (slice_split p xs) (p x) (length xs) (split_size p xs)

kept_size : (parts : List (List ℕ)) → size_of (filter is_word parts) ≤ size_of parts
kept_size [] = omega arith
kept_size ([] ∷ parts) = let rest = kept_size parts in omega arith
kept_size ((b ∷ part) ∷ parts) = let rest = kept_size parts in omega arith

pub words_size : (line : List ℕ) → size_of (words_in line) ≤ length line + 1
words_size line =
    let all = split_size is_blank line in
    let some = kept_size (slice_split is_blank line) in
    omega arith

shorter : (n : ℕ) (raw : List ℕ) (b : Bool) → length (cond b (take n raw) raw) ≤ length raw
shorter n raw true = let size = length-take n raw in omega arith
shorter n raw false = omega arith

plain_size : (raw : List ℕ) → length (without_cr raw) ≤ length raw
plain_size raw = shorter _ raw _

ended_size : (raws : List (List ℕ)) → size_of (ended raws) ≤ size_of raws
ended_size [] = omega arith
ended_size (last ∷ []) = omega arith
ended_size (raw ∷ next ∷ more) =
    let rest = ended_size (next ∷ more) in
    let one = plain_size raw in
    omega arith

pub lines_size : (bytes : List ℕ) → size_of (lines_of bytes) ≤ length bytes + 1
lines_size bytes =
    let all = split_size is_line_end bytes in
    let some = ended_size (slice_split is_line_end bytes) in
    omega arith
