-- A list is printed as its pieces are, one behind another.
use Rattle.std.proofs.Common.{Err, IfOk, IsOk, List, Ok, Result, [], ap, append_assoc, arith, drop, false, length, min, refl, slice_index_or, subst, suc, sym, take, true, zero, ℕ, ◌%◌, ◌*◌, ◌++◌, ◌+◌, ◌/◌, ◌<◌, ◌∙◌, ◌∷◌, ◌≡◌, ◌≤◌}
use Rattle.std.proofs.Math.ListN.{drop_of_length-le}
use Rattle.std.proofs.lemmas.Grind.{flat_map-append}
use Rattle.std.proofs.lemmas.List.Elements.{All-append}
use Rattle.std.proofs.lemmas.List.{drop-drop}
use Rattle.std.specs.List.{All, flat_map}
use Rattle.std.specs.Fork.{slice_chunk}
use Rattle.std.specs.Fmt.{decimal}
use Rattle.report_text.specs.RecordText.{record_words, records_text}
use Rattle.report_text.specs.Words.{line_text}
use Rattle.tx_events.specs.declared.record.Rec.{Rec}
use Rattle.text_pieces.specs.Lines.{lines_text, piece_text}

plus_suc : (n k : ℕ) → n + 1 + k ≡ n + suc k
plus_suc n k = omega arith

plus_none : (n : ℕ) → n ≡ n + 0
plus_none n = omega arith

-- cut behind so many elements, or behind all
pub lines_cut : {X : Type 0} (line : ℕ → X → List ℕ) (place k : ℕ) (xs : List X) → lines_text line place (take k xs) ++ lines_text line (place + k) (drop k xs) ≡ lines_text line place xs
lines_cut line place zero [] = refl
lines_cut line place zero (x ∷ xs) = ap (λ n. lines_text line n (x ∷ xs)) (sym (plus_none place))
lines_cut line place (suc k) [] = refl
lines_cut line place (suc k) (x ∷ xs) =
    append_assoc (line place x) (lines_text line (place + 1) (take k xs)) (lines_text line (place + suc k) (drop k xs))
    ∙ ap (λ (t : List ℕ). line place x ++ t)
    (ap (λ n. lines_text line (place + 1) (take k xs) ++ lines_text line n (drop k xs)) (sym (plus_suc place k)) ∙ lines_cut line (place + 1) k xs)

-- where the line doesn't go by its place
pub lines_flat : {X : Type 0} (line : X → List ℕ) (place : ℕ) (xs : List X) → lines_text (λ n x. line x) place xs ≡ flat_map line xs
lines_flat line place [] = refl
lines_flat line place (x ∷ xs) = ap (λ (t : List ℕ). line x ++ t) (lines_flat line (place + 1) xs)

plus_one : (a b : ℕ) → a + (b + 1) ≡ a + b + 1
plus_one a b = omega arith

-- where it is a record behind its number
pub lines_numbered : (from place : ℕ) (xs : List Rec) → lines_text (λ n r. line_text (decimal (from + n) ∷ record_words r)) place xs ≡ records_text (from + place) xs
lines_numbered from place [] = refl
lines_numbered from place (x ∷ xs) =
    ap (λ (t : List ℕ). line_text (decimal (from + place) ∷ record_words x) ++ t)
    (lines_numbered from (place + 1) xs ∙ ap (λ n. records_text n xs) (plus_one from place))

-- the piece of this number, where memory sufficed for it
abbrev IsPiece : {X E : Type 0} → (ℕ → X → List ℕ) → ℕ → List X → ℕ → Result (List ℕ) E → Type 0
IsPiece line size xs k r = IfOk r (λ text. text ≡ lines_text line (k * size) (take size (drop (k * size) xs)))

-- pieces from this number on, the last one of which is the list's last
pieces_from : {X E : Type 0} (line : ℕ → X → List ℕ) (size : ℕ) (xs : List X) (rs : List (Result (List ℕ) E)) (k : ℕ)
    → ((n : ℕ) (d : Result (List ℕ) E) → n < length rs → IsPiece line size xs (k + n) (slice_index_or rs n d))
    → length xs ≤ (k + length rs) * size → All IsOk rs → flat_map piece_text rs ≡ lines_text line (k * size) (drop (k * size) xs)
pieces_from line size xs [] k each long ok = ap (λ ys. lines_text line (k * size) ys) (sym (drop_of_length-le xs (whole k (length xs) size long))) where
  whole : (k n size : ℕ) → n ≤ (k + 0) * size → n ≤ k * size
  whole k n size l = subst (λ j. n ≤ j * size) (none k) l where
    none : (k : ℕ) → k + 0 ≡ k
    none k = omega arith
pieces_from {E = E} line size xs (Ok text ∷ rs) k each long ok =
    let ys = drop (k * size) xs in
    let first : text ≡ lines_text line (k * size) (take size ys) =
    subst (λ j. IsPiece {E = E} line size xs j (Ok text)) (none k) (each 0 (Ok text) (omega arith)) in
    let more = pieces_from line size xs rs (k + 1) (λ n d l. subst (λ j. IsPiece line size xs j (slice_index_or rs n d)) (later k n) (each (suc n) d (omega (arith, l))))
    (subst (λ j. length xs ≤ j * size) (later_all k (length rs)) long) (λ n d l. ok (suc n) d (omega (arith, l))) in
    ap (λ (t : List ℕ). t ++ flat_map piece_text rs) first
    ∙ (ap (λ (t : List ℕ). lines_text line (k * size) (take size ys) ++ t) (more ∙ ap (λ j. lines_text line j (drop j xs)) (next k size) ∙ ap (λ zs. lines_text line (k * size + size) zs) (sym (drop-drop size (k * size) xs)))
    ∙ lines_cut line (k * size) size ys) where
      none : (k : ℕ) → k + 0 ≡ k
      none k = omega arith

      later : (k n : ℕ) → k + suc n ≡ k + 1 + n
      later k n = omega arith

      later_all : (k n : ℕ) → k + suc n ≡ k + 1 + n
      later_all k n = omega arith

      next : (k size : ℕ) → (k + 1) * size ≡ k * size + size
      next k size = grind arith
pieces_from line size xs (Err e ∷ rs) k each long ok = let no : false ≡ true = ok 0 (Err e) (omega arith) in absurd cc

-- all pieces
pub pieces_text : {X E : Type 0} (line : ℕ → X → List ℕ) (size : ℕ) (xs : List X) (rs : List (Result (List ℕ) E)) → 0 < size
    → ((n : ℕ) (d : Result (List ℕ) E) → n < length rs → IfOk (slice_index_or rs n d) (λ text. text ≡ lines_text line (n * size) (slice_chunk xs size n)))
    → length rs ≡ length xs / size + min 1 (length xs % size) → All IsOk rs → flat_map piece_text rs ≡ lines_text line 0 xs
pieces_text line size xs rs some each count ok =
    pieces_from line size xs rs 0 (λ n d l. subst (λ j. IsPiece line size xs j (slice_index_or rs n d)) (from_none n) (each n d l))
    (subst (λ j. length xs ≤ j * size) (sym count ∙ from_none (length rs)) (enough (length xs) size some)) ok
    ∙ ap (λ j. lines_text line j (drop j xs)) (no_times size) where
      from_none : (n : ℕ) → n ≡ 0 + n
      from_none n = omega arith

      no_times : (n : ℕ) → 0 * n ≡ 0
      no_times n = omega arith

      enough : (n size : ℕ) → 0 < size → n ≤ (n / size + min 1 (n % size)) * size
      enough n size some = grind arith

-- one piece more
pub one_more : {E : Type 0} (front : List (List ℕ)) (before : List ℕ) (rs : List (Result (List ℕ) E)) (text : List ℕ) (r : Result (List ℕ) E) → r ≡ Ok text
    → flat_map (λ t. t) front ≡ before ++ flat_map piece_text rs → All IsOk rs
    → All IsOk (rs ++ r ∷ []) × (flat_map (λ t. t) (front ++ text ∷ []) ≡ before ++ flat_map piece_text (rs ++ r ∷ []))
one_more {E = E} front before rs text r is so ok = (
  All-append IsOk rs (r ∷ []) ok (one r text is),
  flat_map-append (λ t. t) front (text ∷ [])
      ∙ (ap (λ (t : List ℕ). t ++ flat_map (λ u. u) (text ∷ [])) so
      ∙ (ap (λ (q : Result (List ℕ) E). (before ++ flat_map piece_text rs) ++ flat_map piece_text (q ∷ [])) (sym is)
      ∙ (append_assoc before (flat_map piece_text rs) (flat_map piece_text (r ∷ []))
      ∙ ap (λ (t : List ℕ). before ++ t) (sym (flat_map-append piece_text rs (r ∷ [])))))),
) where
  one : {E : Type 0} (r : Result (List ℕ) E) (text : List ℕ) → r ≡ Ok text → All IsOk (r ∷ [])
  one (Ok t) text is zero d l = refl
  one (Ok t) text is (suc n) d l = absurd (omega arith)
  one (Err e) text is n d l = absurd cc

-- the lines of a history, which begins with a word
pub after_word : {X : Type 0} (line : X → List ℕ) (xs : List X) (old word mid new : List ℕ) → mid ≡ old ++ word → new ≡ mid ++ lines_text (λ n x. line x) 0 xs → new ≡ old ++ (word ++ flat_map line xs)
after_word line xs old word mid new one two =
    two ∙ ap (λ (t : List ℕ). t ++ lines_text (λ n x. line x) 0 xs) one ∙ append_assoc old word (lines_text (λ n x. line x) 0 xs)
    ∙ ap (λ (t : List ℕ). old ++ (word ++ t)) (lines_flat line 0 xs)
