-- A text with pieces between own bytes that is written.
use Rattle.std.proofs.Common.{◌≡◌, ℕ, suc, ◌+◌, ◌-◌, ◌<◌, ◌≤◌, List, [], ◌∷◌, ◌++◌, refl, sym, ap, subst, ◌∙◌, arith, append_assoc, drop, get_or, length, take}
use Rattle.std.proofs.Math.Seq.{drop-cons}
use Rattle.std.proofs.Math.ListN.{drop_of_length-le}
use Rattle.std.proofs.lemmas.List.{drop-drop}
use Rattle.script_rounds.specs.Woven.{Piece, own_before, pieces_at, pieces_in, spread, woven}
use Rattle.script_rounds.proofs.Weaving.{first_within, rest_within}

plus_one : (i : ℕ) → suc i ≡ i + 1
plus_one i = omega arith

from_one : {X : Type 0} (xs : List X) (i : ℕ) (x d : X) → i < length xs → x ≡ get_or xs i d → drop i xs ≡ x ∷ drop (i + 1) xs
from_one xs i x d l e = drop-cons xs i d l ∙ ap (λ y. y ∷ drop (suc i) xs) (sym e) ∙ ap (λ k. x ∷ drop k xs) (plus_one i)

-- the places from one on
pub at_places : (bytes places : List ℕ) (i place : ℕ) → i < length places → place ≡ get_or places i 0 → pieces_at bytes (drop i places) ≡ (place, bytes) ∷ pieces_at bytes (drop (i + 1) places)
at_places bytes places i place l e = ap (pieces_at bytes) (from_one places i place 0 l e)

pub no_places : (bytes places : List ℕ) (i : ℕ) → length places ≤ i → pieces_at bytes (drop i places) ≡ []
no_places bytes places i l = ap (pieces_at bytes) (drop_of_length-le places l)

-- the lists from one on
pub from_run : (runs : List (List Piece)) (i : ℕ) (run : List Piece) → i < length runs → run ≡ get_or runs i run → pieces_in (drop i runs) ≡ run ++ pieces_in (drop (i + 1) runs)
from_run runs i run l e = ap pieces_in (from_one runs i run run l e)

pub no_runs : (runs : List (List Piece)) (i : ℕ) → length runs ≤ i → pieces_in (drop i runs) ≡ []
no_runs runs i l = ap pieces_in (drop_of_length-le runs l)

-- one piece of several
pub before_cons : (m : Piece) (ms : List Piece) → own_before (m ∷ ms) ≡ m.0 + own_before ms
unfolding own_before
before_cons m ms = refl

pub spread_cons : (m : Piece) (ms : List Piece) (own : List ℕ) → spread (m ∷ ms) own ≡ take m.0 own ++ m.1 ++ spread ms (drop m.0 own)
unfolding spread
spread_cons m ms own = refl

pub spread_none : (own : List ℕ) → spread [] own ≡ []
unfolding spread
spread_none own = refl

pub before_none : own_before [] ≡ 0
unfolding own_before
before_none = refl

pub woven_last : (own : List ℕ) → woven [] own ≡ own
unfolding woven
woven_last own = refl

plus_assoc : (a b c : ℕ) → a + (b + c) ≡ a + b + c
plus_assoc a b c = omega arith

-- pieces, and others behind them
pub before_both : (ms ns : List Piece) → own_before (ms ++ ns) ≡ own_before ms + own_before ns
unfolding own_before
before_both [] ns = no_plus (own_before ns) where
  no_plus : (n : ℕ) → n ≡ 0 + n
  no_plus n = omega arith
before_both (m ∷ ms) ns = ap (λ k. m.0 + k) (before_both ms ns) ∙ plus_assoc m.0 (own_before ms) (own_before ns)

pub woven_both : (ms ns : List Piece) (own : List ℕ) → woven (ms ++ ns) own ≡ spread ms own ++ woven ns (drop (own_before ms) own)
unfolding own_before spread woven
woven_both [] ns own = refl
woven_both (m ∷ ms) ns own =
    let start = take m.0 own ++ m.1 in
    ap (λ (t : List ℕ). start ++ t) (woven_both ms ns (drop m.0 own))
    ∙ sym (append_assoc start (spread ms (drop m.0 own)) (woven ns (drop (own_before ms) (drop m.0 own))))
    ∙ ap (λ (d : List ℕ). start ++ spread ms (drop m.0 own) ++ woven ns d) (drop-drop (own_before ms) m.0 own)

-- what is left of the own bytes while places of one end are written
pub place_within : (bytes places : List ℕ) (i place : ℕ) (rest : List ℕ) → i < length places → place ≡ get_or places i 0 → own_before (pieces_at bytes (drop i places)) ≤ length rest
    → place + own_before (pieces_at bytes (drop (i + 1) places)) ≤ length rest
place_within bytes places i place rest l e w =
    subst (λ n. n ≤ length rest) (ap own_before (at_places bytes places i place l e) ∙ before_cons (place, bytes) (pieces_at bytes (drop (i + 1) places))) w

pub place_first : (bytes places : List ℕ) (i place : ℕ) (rest : List ℕ) → i < length places → place ≡ get_or places i 0 → own_before (pieces_at bytes (drop i places)) ≤ length rest → place ≤ length rest
place_first bytes places i place rest l e w =
    first_within place (own_before (pieces_at bytes (drop (i + 1) places))) (length rest) (place_within bytes places i place rest l e w)

pub place_rest : (bytes places : List ℕ) (i place : ℕ) (rest behind : List ℕ) → i < length places → place ≡ get_or places i 0 → own_before (pieces_at bytes (drop i places)) ≤ length rest
    → behind ≡ drop place rest → own_before (pieces_at bytes (drop (i + 1) places)) ≤ length behind
place_rest bytes places i place rest behind l e w f =
    let more = own_before (pieces_at bytes (drop (i + 1) places)) in
    subst (λ (x : List ℕ). more ≤ length x) (sym f) (rest_within place more rest (place_within bytes places i place rest l e w))

pub place_step : (bytes places : List ℕ) (i place : ℕ) (rest own behind : List ℕ) → i < length places → place ≡ get_or places i 0 → own ≡ take place rest → behind ≡ drop place rest
    → spread (pieces_at bytes (drop i places)) rest ≡ own ++ bytes ++ spread (pieces_at bytes (drop (i + 1) places)) behind
place_step bytes places i place rest own behind l e f h =
    let more = pieces_at bytes (drop (i + 1) places) in
    ap (λ (ms : List Piece). spread ms rest) (at_places bytes places i place l e) ∙ spread_cons (place, bytes) more rest
    ∙ ap (λ (t : List ℕ). t ++ bytes ++ spread more (drop place rest)) (sym f)
    ∙ ap (λ (d : List ℕ). own ++ bytes ++ spread more d) (sym h)

-- what is left behind the last place stays the same
pub place_behind : (bytes places : List ℕ) (i place : ℕ) (rest behind left : List ℕ) → i < length places → place ≡ get_or places i 0 → behind ≡ drop place rest
    → drop (own_before (pieces_at bytes (drop i places))) rest ≡ left → drop (own_before (pieces_at bytes (drop (i + 1) places))) behind ≡ left
place_behind bytes places i place rest behind left l e h k =
    let more = own_before (pieces_at bytes (drop (i + 1) places)) in
    ap (λ (x : List ℕ). drop more x) h ∙ drop-drop more place rest
    ∙ ap (λ n. drop n rest) (sym (ap own_before (at_places bytes places i place l e) ∙ before_cons (place, bytes) (pieces_at bytes (drop (i + 1) places)))) ∙ k

-- a text of which this much is written, and this kept to be written
pub told_all : (written kept both more here self : List ℕ) → written ++ kept ++ here ≡ self → here ≡ both ++ more → self ≡ written ++ (kept ++ both ++ more)
told_all written kept both more here self e f =
    sym e ∙ ap (λ (t : List ℕ). written ++ kept ++ t) f ∙ append_assoc written kept (both ++ more) ∙ ap (λ (t : List ℕ). written ++ t) (sym (append_assoc kept both more))

pub told_on : (written done new kept both more self : List ℕ) → done ++ new ≡ kept ++ both → self ≡ written ++ (kept ++ both ++ more) → written ++ done ++ new ++ more ≡ self
told_on written done new kept both more self e f =
    ap (λ (t : List ℕ). t ++ more) (append_assoc written done new ∙ ap (λ (t : List ℕ). written ++ t) e) ∙ append_assoc written (kept ++ both) more ∙ sym f

-- what is left of the own bytes while lists of pieces are written
run_within : (runs : List (List Piece)) (i : ℕ) (run : List Piece) (rest : List ℕ) → i < length runs → run ≡ get_or runs i run → own_before (pieces_in (drop i runs)) ≤ length rest
    → own_before run + own_before (pieces_in (drop (i + 1) runs)) ≤ length rest
run_within runs i run rest l e w = subst (λ n. n ≤ length rest) (ap own_before (from_run runs i run l e) ∙ before_both run (pieces_in (drop (i + 1) runs))) w

pub run_first : (runs : List (List Piece)) (i : ℕ) (run : List Piece) (rest : List ℕ) → i < length runs → run ≡ get_or runs i run → own_before (pieces_in (drop i runs)) ≤ length rest → own_before run ≤ length rest
run_first runs i run rest l e w = first_within (own_before run) (own_before (pieces_in (drop (i + 1) runs))) (length rest) (run_within runs i run rest l e w)

pub run_rest : (runs : List (List Piece)) (i : ℕ) (run : List Piece) (rest behind : List ℕ) → i < length runs → run ≡ get_or runs i run → own_before (pieces_in (drop i runs)) ≤ length rest
    → behind ≡ drop (own_before run) rest → own_before (pieces_in (drop (i + 1) runs)) ≤ length behind
run_rest runs i run rest behind l e w f =
    let more = own_before (pieces_in (drop (i + 1) runs)) in
    subst (λ (x : List ℕ). more ≤ length x) (sym f) (rest_within (own_before run) more rest (run_within runs i run rest l e w))

pub run_step : (runs : List (List Piece)) (i : ℕ) (run : List Piece) (rest : List ℕ) → i < length runs → run ≡ get_or runs i run
    → woven (pieces_in (drop i runs)) rest ≡ spread run rest ++ woven (pieces_in (drop (i + 1) runs)) (drop (own_before run) rest)
run_step runs i run rest l e = ap (λ (ms : List Piece). woven ms rest) (from_run runs i run l e) ∙ woven_both run (pieces_in (drop (i + 1) runs)) rest
