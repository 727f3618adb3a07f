-- The rows of a table, and each session's.
use Rattle.std.proofs.Common.{◌≡◌, ℕ, zero, suc, ◌+◌, ◌<◌, ◌≤◌, true, false, nat_lt, Some, List, [], ◌∷◌, ◌++◌, length, get_or, map, take, refl, sym, ap, ◌∙◌, arith, option_map}
use Rattle.std.specs.Global.{Vec}
use Rattle.std.specs.List.{AllByRecursion, slice_get, slice_index_or}
use Rattle.std.proofs.lemmas.List.{length-map, map-append, take_more}
use Rattle.std.proofs.lemmas.Option.{slice_get-map}
use Rattle.tx_events.specs.declared.event.By.{By}
use Rattle.place_columns.specs.declared.own.Own.{Own}
use Rattle.place_columns.specs.Owned.{AreAllOwn, own_of}
use Rattle.place_columns.specs.declared.lines.LineAt.{LineAt}
use Rattle.place_columns.specs.declared.lines.OwnLine.{OwnLine}
use Rattle.place_columns.specs.declared.lines.Row.{Row}
use Rattle.place_columns.specs.Lined.{AreInOrder, bys_of, number_of}
use Rattle.place_columns.specs.Rows.{AreOwnLines, line_of, own_line}
use Rattle.place_columns.proofs.Numbering.{found, none_at, parted}

pub at_map : {X Y : Type 0} (f : X → Y) (xs : List X) (i : ℕ) (d : X) → slice_index_or (map f xs) i (f d) ≡ f (slice_index_or xs i d)
at_map f [] i d = refl
at_map f (x ∷ xs) zero d = refl
at_map f (x ∷ xs) (suc i) d = at_map f xs i d

-- one more of them
pub map_push : {X Y : Type 0} (f : X → Y) (xs : List X) (x : X) (ys : List Y) (n : ℕ) (d : Y) → map f xs ≡ take n ys → n < length ys → f x ≡ get_or ys n d → map f (xs ++ x ∷ []) ≡ take (n + 1) ys
map_push {X} {Y} f xs x ys n d front within same =
    map-append f xs (x ∷ []) ∙ ap (λ (t : List Y). t ++ f x ∷ []) front ∙ ap (λ (y : Y). take n ys ++ y ∷ []) same ∙ sym (take_more ys n d within)

pub steps_more : (rows : List Row) (n : ℕ) (d : Row) → n < length rows
    → map (λ (l : LineAt). l.step) (map line_of (take n rows)) ++ (get_or rows n d).step ∷ [] ≡ map (λ (l : LineAt). l.step) (map line_of (take (n + 1) rows))
steps_more rows n d within =
    sym (map-append (λ (l : LineAt). l.step) (map line_of (take n rows)) (line_of (get_or rows n d) ∷ []))
    ∙ ap (λ (t : List LineAt). map (λ (l : LineAt). l.step) t) (sym (map-append line_of (take n rows) (get_or rows n d ∷ [])))
    ∙ ap (λ (t : List Row). map (λ (l : LineAt). l.step) (map line_of t)) (sym (take_more rows n d within))

-- ---- found among a session's

abbrev from_own : Own → OwnLine
from_own o = record { command = o.command; number = o.place }

command_is : (xs : List OwnLine) (command i : ℕ) (d : OwnLine) → nat_lt (slice_index_or (map own_line xs) i (own_line d)).command command ≡ nat_lt (slice_index_or xs i d).command command
command_is xs command i d = ap (λ (o : Own). nat_lt o.command command) (at_map own_line xs i d)

pub parted_lines : (bys : List By) (session command : ℕ) (xs : List OwnLine) → map own_line xs ≡ own_of session bys → AreInOrder bys → (i j : ℕ) (d : OwnLine) → i ≤ j → j < length xs → nat_lt (slice_index_or xs j d).command command ≡ true → nat_lt (slice_index_or xs i d).command command ≡ true
parted_lines bys session command xs is order i j d l m e =
    let size = length-map xs own_line in
    sym (command_is xs command i d) ∙ parted bys session command (map own_line xs) is order i j (own_line d) l (omega arith) (command_is xs command j d ∙ e)

pub found_line : (lines : List LineAt) (b : By) (xs : List OwnLine) (k : ℕ) (o : OwnLine) → map own_line xs ≡ own_of b.session (bys_of lines) → AreInOrder (bys_of lines) → slice_get xs k ≡ Some o → o.command ≡ b.command → o.number ≡ number_of lines b
found_line lines b xs k o is order at e = found lines b (map own_line xs) k (own_line o) is order (slice_get-map own_line xs k ∙ ap (λ t. option_map own_line t) at) e

got_line : (xs : List OwnLine) (k : ℕ) (o : Own) → slice_get (map own_line xs) k ≡ Some o → slice_get xs k ≡ Some (from_own o)
got_line [] k o e = absurd cc
got_line (x ∷ xs) zero o e = let same : own_line x ≡ o = cc in ap (λ (y : Own). Some (from_own y)) same
got_line (x ∷ xs) (suc k) o e = got_line xs k o e

pub no_line_at : (bys : List By) (b : By) (xs : List OwnLine) (at : ℕ) → map own_line xs ≡ own_of b.session bys → AreInOrder bys
    → ((k : ℕ) (d : OwnLine) → 0 ≤ k → k < at → nat_lt (slice_index_or xs k d).command b.command ≡ true)
    → ((k : ℕ) (d : OwnLine) → at ≤ k → k < length xs → nat_lt (slice_index_or xs k d).command b.command ≡ false)
    → ((o : OwnLine) → slice_get xs at ≡ Some o → o.command ≡ b.command → ⊥)
    → AllByRecursion (λ (o : Own). o.command ≡ b.command → ⊥) (map own_line xs)
no_line_at bys b xs at is order below past other =
    let size = length-map xs own_line in
    none_at bys b (map own_line xs) at is order
    (λ k d l m. command_is xs b.command k (from_own d) ∙ below k (from_own d) l m)
    (λ k d l m. command_is xs b.command k (from_own d) ∙ past k (from_own d) l (omega arith))
    (λ o e f. other (from_own o) (got_line xs at o e) f)

-- ---- those of all sessions

lines_at : (own : List (Vec OwnLine)) (places : List (Vec Own)) → map (λ (l : Vec OwnLine). map own_line l.items) own ≡ map (λ (l : Vec Own). l.items) places
    → (s : ℕ) (d : Vec OwnLine) (e : Vec Own) → s < length own → map own_line (get_or own s d).items ≡ (get_or places s e).items
lines_at [] places is s d e l = absurd (omega arith)
lines_at (x ∷ own) [] is s d e l = absurd cc
lines_at (x ∷ own) (y ∷ places) is zero d e l = let same : map own_line x.items ≡ y.items = cc in same
lines_at (x ∷ own) (y ∷ places) is (suc s) d e l =
    let rest : map (λ (l : Vec OwnLine). map own_line l.items) own ≡ map (λ (l : Vec Own). l.items) places = cc in
    lines_at own places rest s d e (omega arith)

pub as_many : (own : List (Vec OwnLine)) (places : List (Vec Own)) → map (λ (l : Vec OwnLine). map own_line l.items) own ≡ map (λ (l : Vec Own). l.items) places → length own ≡ length places
as_many own places is = sym (length-map own (λ (l : Vec OwnLine). map own_line l.items)) ∙ ap (λ (t : List (List Own)). length t) is ∙ length-map places (λ (l : Vec Own). l.items)

one_of : (places : List (Vec Own)) → 0 < length places → Vec Own
one_of [] l = absurd (omega arith)
one_of (x ∷ places) l = x

pub own_lines_are : (bys : List By) (sessions : ℕ) (places : List (Vec Own)) (own : List (Vec OwnLine)) → AreAllOwn bys sessions places
    → map (λ (l : Vec OwnLine). map own_line l.items) own ≡ map (λ (l : Vec Own). l.items) places → AreOwnLines bys own
own_lines_are bys sessions places own all is = λ s l d.
    let size = as_many own places is in
    let has = all.size in
    let e = one_of places (omega arith) in
    lines_at own places is s d e l ∙ all.each s (omega arith) e
