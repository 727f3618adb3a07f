-- Lines, one after the other.
use Rattle.std.proofs.Common.{◌≡◌, ℕ, ◌+◌, ◌<◌, ◌≤◌, List, [], ◌∷◌, ◌++◌, length-append, Bool, true, false, not, refl, sym, ap, subst, ◌∙◌, take, drop, length, length-drop, arith}
use Rattle.std.proofs.lemmas.List.{drop-append-le, take-append-le}
use Rattle.std.specs.List.{prefix_len, slice_split}
use Rattle.script_lines.proofs.Parts.{first_part, parts_behind}
use Rattle.session_lang.specs.Lines.{ended, is_line_end, lines_of, without_cr}

abbrev to_end : List ℕ → ℕ
to_end bytes = prefix_len (λ b. not (is_line_end b)) bytes

cut : (bytes raw behind : List ℕ) (n : ℕ) → n ≡ to_end bytes → raw ≡ take n bytes → behind ≡ drop n bytes → slice_split is_line_end bytes ≡ raw ∷ parts_behind is_line_end behind
cut bytes raw behind n e r b = rw (r, b, e) (first_part is_line_end bytes)

pub last_line : (bytes raw behind : List ℕ) (n : ℕ) → n ≡ to_end bytes → raw ≡ take n bytes → behind ≡ drop n bytes → length behind ≡ 0 → lines_of bytes ≡ raw ∷ []
last_line bytes raw [] n e r b l = ap ended (cut bytes raw [] n e r b)
last_line bytes raw (c ∷ behind) n e r b l = absurd (omega arith)

-- what stands before other parts ends
pub before_parts : (raw : List ℕ) (rest : List ℕ) → ended (raw ∷ slice_split is_line_end rest) ≡ without_cr raw ∷ lines_of rest
before_parts raw rest = rw (first_part is_line_end rest) refl

pub line_and_more : (bytes raw behind rest : List ℕ) (n : ℕ) → n ≡ to_end bytes → raw ≡ take n bytes → behind ≡ drop n bytes → 1 ≤ length behind → rest ≡ drop 1 behind → lines_of bytes ≡ without_cr raw ∷ lines_of rest
line_and_more bytes raw [] rest n e r b l f = absurd (omega arith)
line_and_more bytes raw (c ∷ behind) rest n e r b l f =
    let same : rest ≡ behind = f in
    ap ended (cut bytes raw (c ∷ behind) n e r b) ∙ before_parts raw behind ∙ ap (λ t. without_cr raw ∷ lines_of t) (sym same)

on_step : (b : ℕ) (bytes more : List ℕ) (t : Bool) → is_line_end b ≡ t → (to_end bytes < length bytes → to_end (bytes ++ more) ≡ to_end bytes) → to_end (b ∷ bytes) < length (b ∷ bytes) → to_end (b ∷ bytes ++ more) ≡ to_end (b ∷ bytes)
on_step b bytes more true e h l = rw e refl
on_step b bytes more false e h l =
    let m = rw e at l in
    rw e (ap (λ n. 1 + n) (h (omega (arith, m))))

-- what comes behind a line's end is no part of the line
to_end_on : (bytes more : List ℕ) → to_end bytes < length bytes → to_end (bytes ++ more) ≡ to_end bytes
to_end_on [] more l = absurd (omega arith)
to_end_on (b ∷ bytes) more l = on_step b bytes more (is_line_end b) refl (to_end_on bytes more) l

pub line_and_more_on : (bytes raw behind rest more : List ℕ) (n : ℕ) → n ≡ to_end bytes → raw ≡ take n bytes → behind ≡ drop n bytes → 1 ≤ length behind → rest ≡ drop 1 behind → lines_of (bytes ++ more) ≡ without_cr raw ∷ lines_of (rest ++ more)
line_and_more_on bytes raw behind rest more n e r b l f =
    let long : 1 ≤ length (drop n bytes) = subst (λ xs. 1 ≤ length xs) b l in
    let inside : n < length bytes = omega (arith, length-drop n bytes) in
    let same = to_end_on bytes more (subst (λ k. k < length bytes) e inside) in
    line_and_more (bytes ++ more) raw (behind ++ more) (rest ++ more) n (e ∙ sym same)
    (r ∙ sym (take-append-le n bytes more (omega arith)))
    (ap (λ xs. xs ++ more) b ∙ sym (drop-append-le n bytes more (omega arith)))
    (omega (arith, length-append behind more))
    (ap (λ xs. xs ++ more) f ∙ sym (drop-append-le 1 behind more l))
