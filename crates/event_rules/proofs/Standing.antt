-- Where a command stands, by the number of its line.
use Rattle.std.proofs.Common.{◌≡◌, ◌↔◌, ℕ, suc, zero, ◌+◌, ◌<◌, List, [], ◌∷◌, ◌++◌, length, map, take, refl, ap, sym, subst, ◌∙◌, arith, Bool, true, false, cond, not, Some, length-append, nat_lt}
use Rattle.std.specs.Prelude.{IsTrue}
use Rattle.std.specs.List.{flat_map, slice_get}
use Rattle.std.proofs.lemmas.Bool.Decides.{nat_tests}
use Rattle.std.proofs.lemmas.List.{length-map}
use Rattle.tx_events.specs.declared.event.By.{By}
use Rattle.tx_events.specs.Events.{same_by}
use Rattle.tx_model.specs.declared.report.Line.{Line}
use Rattle.tx_model.specs.declared.report.Step.{Step}
use Rattle.tx_model.specs.Rounds.{lines_in}
use Rattle.place_columns.specs.declared.lines.LineAt.{LineAt}
use Rattle.place_columns.specs.Lined.{AreInOrder, bys_of, line_by, lines_from, number_of}
use Rattle.place_columns.proofs.LineSteps.{bys_are}
use Rattle.place_columns.proofs.Numbering.{by_at_number, number_is, same_self}
use Rattle.report_law.specs.Events.{StandsAt}
use Rattle.report_law.specs.Steps.{Judged, lines_of}
use Rattle.event_rules.specs.Lined.{AreLinesInOrder, number_at}

-- ---- lists

get_left : {X : Type 0} (xs ys : List X) (n : ℕ) (x : X) → slice_get xs n ≡ Some x → slice_get (xs ++ ys) n ≡ Some x
get_left [] ys n x e = absurd cc
get_left (y ∷ xs) ys zero x e = e
get_left (y ∷ xs) ys (suc n) x e = get_left xs ys n x e

get_right : {X : Type 0} (xs ys : List X) (n : ℕ) → slice_get (xs ++ ys) (length xs + n) ≡ slice_get ys n
get_right [] ys n = let z : 0 + n ≡ n = omega arith in ap (λ k. slice_get ys k) z
get_right (x ∷ xs) ys n = let z : suc (length xs) + n ≡ suc (length xs + n) = omega arith in ap (λ k. slice_get (x ∷ (xs ++ ys)) k) z ∙ get_right xs ys n

pub within : {X : Type 0} (xs : List X) (n : ℕ) (x : X) → slice_get xs n ≡ Some x → n < length xs
within [] n x e = absurd cc
within (y ∷ xs) zero x e = omega arith
within (y ∷ xs) (suc n) x e = let l = within xs n x e in omega arith

-- ---- from the place to the number

pub at_number : (steps : List Step) (r q : ℕ) (s : Step) (l : Line) → slice_get steps r ≡ Some s → slice_get (lines_in s) q ≡ Some l → slice_get (flat_map lines_in steps) (length (flat_map lines_in (take r steps)) + q) ≡ Some l
at_number [] r q s l told at = absurd cc
at_number (t ∷ steps) zero q s l told at =
    let same : t ≡ s = cc in
    let z : 0 + q ≡ q = omega arith in
    ap (λ k. slice_get (lines_in t ++ flat_map lines_in steps) k) z
    ∙ get_left (lines_in t) (flat_map lines_in steps) q l (subst (λ (x : Step). slice_get (lines_in x) q ≡ Some l) (sym same) at)
at_number (t ∷ steps) (suc r) q s l told at =
    let more = flat_map lines_in (take r steps) in
    let size : length (lines_in t ++ more) ≡ length (lines_in t) + length more = length-append (lines_in t) more in
    let z : length (lines_in t ++ more) + q ≡ length (lines_in t) + (length more + q) = omega arith in
    ap (λ k. slice_get (lines_in t ++ flat_map lines_in steps) k) z
    ∙ get_right (lines_in t) (flat_map lines_in steps) (length more + q)
    ∙ at_number steps r q s l told at

pub line_at_number : (j : Judged) (by : By) (s : StandsAt j by) → slice_get (lines_of j) (number_at j by s) ≡ Some s.line
line_at_number j by s = at_number j.steps s.round s.place s.step s.line s.told s.stands

by_at : (lines : List Line) (n : ℕ) (l : Line) → slice_get lines n ≡ Some l → slice_get (map line_by lines) n ≡ Some l.by
by_at [] n l e = absurd cc
by_at (x ∷ lines) zero l e = let same : x ≡ l = cc in ap (λ (y : Line). Some y.by) same
by_at (x ∷ lines) (suc n) l e = by_at lines n l e

pub by_at_line : (j : Judged) (by : By) (s : StandsAt j by) → slice_get (bys_of (lines_from 0 j.steps)) (number_at j by s) ≡ Some by
by_at_line j by s =
    ap (λ (t : List By). slice_get t (number_at j by s)) (bys_are 0 j.steps)
    ∙ by_at (lines_of j) (number_at j by s) s.line (line_at_number j by s)
    ∙ ap (λ (b : By). Some b) s.its

pub in_order : (j : Judged) → AreLinesInOrder j → AreInOrder (bys_of (lines_from 0 j.steps))
in_order j order = subst AreInOrder (sym (bys_are 0 j.steps)) order

-- a command's number is that of the one line where it stands
pub number_stands : (j : Judged) (by : By) (s : StandsAt j by) → AreLinesInOrder j → number_of (lines_from 0 j.steps) by ≡ number_at j by s
number_stands j by s order = number_is (lines_from 0 j.steps) (number_at j by s) by (in_order j order) (by_at_line j by s)

pub size_is : (j : Judged) → length (lines_from 0 j.steps) ≡ length (lines_of j)
size_is j =
    sym (length-map (lines_from 0 j.steps) (λ (l : LineAt). l.by))
    ∙ ap (λ (t : List By). length t) (bys_are 0 j.steps)
    ∙ length-map (lines_of j) line_by

-- ---- from the number to the place

record Found (steps : List Step) (l : Line) : Type 0 where
  pub round : ℕ
  pub step : Step
  pub told : slice_get steps round ≡ Some step
  pub place : ℕ
  pub stands : slice_get (lines_in step) place ≡ Some l

later : (t : Step) (steps : List Step) (l : Line) → Found steps l → Found (t ∷ steps) l
later t steps l f = record { round = suc f.round; step = f.step; told = f.told; place = f.place; stands = f.stands }

parts : (t : Step) (steps : List Step) (ls rest : List Line) (n : ℕ) (l : Line) → slice_get (ls ++ rest) n ≡ Some l
    → ((k : ℕ) → slice_get ls k ≡ Some l → Found (t ∷ steps) l) → ((k : ℕ) → slice_get rest k ≡ Some l → Found (t ∷ steps) l) → Found (t ∷ steps) l
parts t steps [] rest n l e f g = g n e
parts t steps (x ∷ ls) rest zero l e f g = f 0 e
parts t steps (x ∷ ls) rest (suc n) l e f g = parts t steps ls rest n l e (λ k h. f (suc k) h) g

found : (steps : List Step) (n : ℕ) (l : Line) → slice_get (flat_map lines_in steps) n ≡ Some l → Found steps l
found [] n l e = absurd cc
found (t ∷ steps) n l e = parts t steps (lines_in t) (flat_map lines_in steps) n l e
    (λ k h. record { round = 0; step = t; told = refl; place = k; stands = h })
    (λ k h. later t steps l (found steps k l h))

line_of_by : (lines : List Line) (n : ℕ) (b : By) → slice_get (map line_by lines) n ≡ Some b → (l : Line) × (slice_get lines n ≡ Some l) × (l.by ≡ b)
line_of_by [] n b e = absurd cc
line_of_by (x ∷ lines) zero b e = let same : x.by ≡ b = cc in (x, refl, same)
line_of_by (x ∷ lines) (suc n) b e = line_of_by lines n b e

pub stands_at : (j : Judged) (by : By) → number_of (lines_from 0 j.steps) by < length (lines_from 0 j.steps) → StandsAt j by
stands_at j by l =
    let at = by_at_number (lines_from 0 j.steps) by l in
    let n = number_of (lines_from 0 j.steps) by in
    let line = line_of_by (lines_of j) n by (subst (λ (t : List By). slice_get t n ≡ Some by) (bys_are 0 j.steps) at) in
    let f = found j.steps n line.0 line.1 in
    record { round = f.round; step = f.step; told = f.told; place = f.place; line = line.0; stands = f.stands; its = line.2 }

number_first : (lines : List LineAt) (i : ℕ) (b : By) → slice_get (bys_of lines) i ≡ Some b → number_of lines b < length lines
number_first [] i b e = absurd cc
number_first (x ∷ lines) zero b e =
    let same : x.by ≡ b = cc in
    let own : same_by x.by b ≡ true = subst (λ (y : By). same_by x.by y ≡ true) same (same_self x.by) in
    let none : number_of (x ∷ lines) b ≡ 0 = ap (λ t. cond (not t) (1 + number_of lines b) 0) own in
    omega arith
number_first (x ∷ lines) (suc i) b e = step (same_by x.by b) (number_first lines i b e)
  where
    step : (t : Bool) → number_of lines b < length lines → cond (not t) (1 + number_of lines b) 0 < suc (length lines)
    step true l = omega arith
    step false l = omega arith

pub has_number : (j : Judged) (by : By) → StandsAt j by → number_of (lines_from 0 j.steps) by < length (lines_from 0 j.steps)
has_number j by s = number_first (lines_from 0 j.steps) (number_at j by s) by (by_at_line j by s)

-- ---- told

lt_yes : (x n : ℕ) → nat_lt x n ≡ true → x < n
lt_yes x n e = grind (arith, nat_tests)

lt_is : (x n : ℕ) → x < n → nat_lt x n ≡ true
lt_is x n e = grind (arith, nat_tests)

pub stands_told : (j : Judged) (by : By) (table lines : List LineAt) (n : ℕ) → table ≡ lines_from 0 j.steps → lines ≡ table → n ≡ number_of table by → IsTrue (nat_lt n (length lines)) ↔ StandsAt j by
stands_told j by table lines n is same number =
    let whole : n ≡ number_of (lines_from 0 j.steps) by = number ∙ ap (λ (t : List LineAt). number_of t by) is in
    let size : length lines ≡ length (lines_from 0 j.steps) = ap (λ (t : List LineAt). length t) (same ∙ is) in (
      λ t. let l = lt_yes n (length lines) t in stands_at j by (omega arith),
      λ s. let l = has_number j by s in lt_is n (length lines) (omega arith),
    )
