-- The steps of commands, and that no event before is of a later one.
use Rattle.std.proofs.Common.{◌≡◌, ◌↔◌, ℕ, suc, zero, ◌+◌, ◌≤◌, List, [], ◌∷◌, ◌++◌, get_or, map, take, refl, ap, sym, subst, ◌∙◌, arith, Bool, true, false, cond, not, ◌||◌, Some, None, Option, unwrap_or, nat_le}
use Rattle.std.specs.Prelude.{IsTrue}
use Rattle.std.specs.List.{AllByRecursion, list_any, slice_get}
use Rattle.std.proofs.lemmas.Bool.Decides.{nat_tests}
use Rattle.tx_events.specs.declared.event.By.{By}
use Rattle.tx_events.specs.Events.{same_by}
use Rattle.tx_model.specs.declared.report.Line.{Line}
use Rattle.tx_model.specs.declared.report.Step.{Step}
use Rattle.tx_model.specs.Rounds.{lines_in}
use Rattle.place_columns.specs.declared.lines.LineAt.{LineAt}
use Rattle.place_columns.specs.Lined.{Numbered, line_at, lines_from, most_of, number_of, numbered, step_at}
use Rattle.place_columns.proofs.CountingLines.{all_upto, most_upto}
use Rattle.report_law.specs.Places.{IsNotLate, is_by, step_of}

-- the step of the first line of the command
abbrev pub first_step : List LineAt → By → Option ℕ
first_step [] by = None
first_step (l ∷ lines) by = cond (same_by l.by by) (Some l.step) (first_step lines by)

-- as `step_of` counts
abbrev here : Bool → Option ℕ → Option ℕ
here true later = Some 0
here false None = None
here false (Some n) = Some (n + 1)

abbrev moved : ℕ → Option ℕ → Option ℕ
moved k None = None
moved k (Some n) = Some (k + n)

in_round : (k : ℕ) (by : By) (lines : List Line) (rest : List LineAt) → first_step (map (line_at k) lines ++ rest) by ≡ cond (list_any (is_by by) lines) (Some k) (first_step rest by)
in_round k by [] rest = refl
in_round k by (l ∷ lines) rest = step (same_by l.by by) (in_round k by lines rest)
  where
    step : (t : Bool) → first_step (map (line_at k) lines ++ rest) by ≡ cond (list_any (is_by by) lines) (Some k) (first_step rest by)
        → cond t (Some k) (first_step (map (line_at k) lines ++ rest) by) ≡ cond (t || list_any (is_by by) lines) (Some k) (first_step rest by)
    step true e = refl
    step false e = e

moved_here : (k : ℕ) (t : Bool) (o : Option ℕ) → cond t (Some k) (moved (k + 1) o) ≡ moved k (here t o)
moved_here k true o = let z : k ≡ k + 0 = omega arith in ap (λ n. Some n) z
moved_here k false None = refl
moved_here k false (Some n) = let z : (k + 1) + n ≡ k + (n + 1) = omega arith in ap (λ n. Some n) z

steps_moved : (k : ℕ) (by : By) (steps : List Step) → first_step (lines_from k steps) by ≡ moved k (step_of by steps)
steps_moved k by [] = refl
steps_moved k by (s ∷ steps) =
    in_round k by (lines_in s) (lines_from (k + 1) steps)
    ∙ ap (λ (o : Option ℕ). cond (list_any (is_by by) (lines_in s)) (Some k) o) (steps_moved (k + 1) by steps)
    ∙ moved_here k (list_any (is_by by) (lines_in s)) (step_of by steps)

pub first_is : (by : By) (steps : List Step) → first_step (lines_from 0 steps) by ≡ step_of by steps
first_is by steps = steps_moved 0 by steps ∙ same (step_of by steps)
  where
    same : (o : Option ℕ) → moved 0 o ≡ o
    same None = refl
    same (Some n) = let z : 0 + n ≡ n = omega arith in ap (λ n. Some n) z

-- ---- in the tables

abbrev stepped : Option LineAt → Option ℕ
stepped None = None
stepped (Some l) = Some l.step

pub at_first : (lines : List LineAt) (by : By) → first_step lines by ≡ stepped (slice_get lines (number_of lines by))
at_first [] by = refl
at_first (l ∷ lines) by = step (same_by l.by by) (at_first lines by)
  where
    step : (t : Bool) → first_step lines by ≡ stepped (slice_get lines (number_of lines by))
        → cond t (Some l.step) (first_step lines by) ≡ stepped (slice_get (l ∷ lines) (cond (not t) (1 + number_of lines by) 0))
    step true e = refl
    step false e = let z : 1 + number_of lines by ≡ suc (number_of lines by) = omega arith in e ∙ ap (λ k. stepped (slice_get (l ∷ lines) k)) (sym z)

pub step_in_table : (lines : List LineAt) (by : By) → step_at (map (λ (l : LineAt). l.step) lines) (number_of lines by) ≡ unwrap_or (first_step lines by) 0
step_in_table lines by = at lines (number_of lines by) ∙ ap (λ (o : Option ℕ). unwrap_or o 0) (sym (at_first lines by))
  where
    at : (lines : List LineAt) (k : ℕ) → get_or (map (λ (l : LineAt). l.step) lines) k 0 ≡ unwrap_or (stepped (slice_get lines k)) 0
    at [] k = refl
    at (l ∷ lines) zero = refl
    at (l ∷ lines) (suc k) = at lines k

-- ---- in time

-- as `IsNotLate` asks
abbrev IsStepFrom : Option ℕ → Option ℕ → Type 0
IsStepFrom (Some n) (Some m) = m ≤ n
IsStepFrom _ _ = Unit {0}

to_number : (n : ℕ) (o : Option ℕ) → IsStepFrom (Some n) o → unwrap_or o 0 ≤ n
to_number n None u = omega arith
to_number n (Some m) l = l

from_number : (n : ℕ) (o : Option ℕ) → unwrap_or o 0 ≤ n → IsStepFrom (Some n) o
from_number n None l = tt
from_number n (Some m) l = l

all_to : (steps : List Step) (n : ℕ) (bys : List By) → AllByRecursion (λ b. IsStepFrom (Some n) (step_of b steps)) bys → AllByRecursion (λ k. k ≤ n) (map (λ b. unwrap_or (step_of b steps) 0) bys)
all_to steps n [] a = tt
all_to steps n (b ∷ bys) a = (to_number n (step_of b steps) a.0, all_to steps n bys a.1)

all_from : (steps : List Step) (n : ℕ) (bys : List By) → AllByRecursion (λ k. k ≤ n) (map (λ b. unwrap_or (step_of b steps) 0) bys) → AllByRecursion (λ b. IsStepFrom (Some n) (step_of b steps)) bys
all_from steps n [] a = tt
all_from steps n (b ∷ bys) a = (from_number n (step_of b steps) a.0, all_from steps n bys a.1)

pub never_late : (steps : List Step) (by : By) (bys : List By) → step_of by steps ≡ None → IsNotLate steps bys by
never_late steps by bys none = subst (λ (o : Option ℕ). AllByRecursion (λ b. IsStepFrom o (step_of b steps)) bys) (sym none) (nothing bys)
  where
    nothing : (bys : List By) → AllByRecursion (λ b. IsStepFrom None (step_of b steps)) bys
    nothing [] = tt
    nothing (b ∷ bys) = (tt, nothing bys)

pub in_time : (steps : List Step) (by : By) (n : ℕ) (bys : List By) → step_of by steps ≡ Some n → (most_of (map (λ b. unwrap_or (step_of b steps) 0) bys) ≤ n) ↔ IsNotLate steps bys by
in_time steps by n bys at = (
  λ l. subst (λ (o : Option ℕ). AllByRecursion (λ b. IsStepFrom o (step_of b steps)) bys) (sym at) (all_from steps n bys (all_upto (map (λ b. unwrap_or (step_of b steps) 0) bys) n l)),
  λ a. most_upto (map (λ b. unwrap_or (step_of b steps) 0) bys) n (all_to steps n bys (subst (λ (o : Option ℕ). AllByRecursion (λ b. IsStepFrom o (step_of b steps)) bys) at a)),
)

-- the column of steps
pub column_is : {E : Type 0} (by : E → By) (steps : List Step) (h : List E) (p : ℕ)
    → take p (map (step_at (map (λ (l : LineAt). l.step) (lines_from 0 steps))) (map (number_of (lines_from 0 steps)) (map by h))) ≡ map (λ b. unwrap_or (step_of b steps) 0) (map by (take p h))
column_is {E} by steps [] zero = refl
column_is {E} by steps [] (suc p) = refl
column_is {E} by steps (e ∷ h) zero = refl
column_is {E} by steps (e ∷ h) (suc p) =
    let one : step_at (map (λ (l : LineAt). l.step) (lines_from 0 steps)) (number_of (lines_from 0 steps) (by e)) ≡ unwrap_or (step_of (by e) steps) 0 =
    step_in_table (lines_from 0 steps) (by e) ∙ ap (λ (o : Option ℕ). unwrap_or o 0) (first_is (by e) steps) in
    ap (λ k. k ∷ take p (map (step_at (map (λ (l : LineAt). l.step) (lines_from 0 steps))) (map (number_of (lines_from 0 steps)) (map by h)))) one
    ∙ ap (λ (t : List ℕ). unwrap_or (step_of (by e) steps) 0 ∷ t) (column_is by steps h p)

le_yes : (x n : ℕ) → nat_le x n ≡ true → x ≤ n
le_yes x n e = grind (arith, nat_tests)

le_is : (x n : ℕ) → x ≤ n → nat_le x n ≡ true
le_is x n e = grind (arith, nat_tests)

-- the command's line is found
pub time_told : {E : Type 0} (by : E → By) (steps : List Step) (table : List LineAt) (own : Numbered) (h : List E) (p : ℕ) (b : By) (latest : ℕ) (line : LineAt)
    → table ≡ lines_from 0 steps → own ≡ numbered table (map by h) → latest ≡ most_of (take p (map (step_at own.steps) own.numbers)) → slice_get table (number_of table b) ≡ Some line
    → IsTrue (nat_le latest line.step) ↔ IsNotLate steps (map by (take p h)) b
time_told by steps table own h p b latest line is own_is late at =
    let there : slice_get (lines_from 0 steps) (number_of (lines_from 0 steps) b) ≡ Some line = subst (λ (t : List LineAt). slice_get t (number_of t b) ≡ Some line) is at in
    let step : step_of b steps ≡ Some line.step = sym (first_is b steps) ∙ at_first (lines_from 0 steps) b ∙ ap stepped there in
    let column : latest ≡ most_of (map (λ b. unwrap_or (step_of b steps) 0) (map by (take p h))) =
    late
    ∙ ap (λ (o : Numbered). most_of (take p (map (step_at o.steps) o.numbers))) (own_is ∙ ap (λ (t : List LineAt). numbered t (map by h)) is)
    ∙ ap (λ (t : List ℕ). most_of t) (column_is by steps h p) in
    let t = in_time steps b line.step (map by (take p h)) step in (
      λ y. let l = le_yes latest line.step y in t.0 (omega arith),
      λ a. let l = t.1 a in le_is latest line.step (omega arith),
    )

-- it has none
pub time_free : {E : Type 0} (by : E → By) (steps : List Step) (table : List LineAt) (h : List E) (p : ℕ) (b : By) → table ≡ lines_from 0 steps → slice_get table (number_of table b) ≡ None → IsTrue true ↔ IsNotLate steps (map by (take p h)) b
time_free by steps table h p b is none =
    let there : slice_get (lines_from 0 steps) (number_of (lines_from 0 steps) b) ≡ None = subst (λ (t : List LineAt). slice_get t (number_of t b) ≡ None) is none in
    let step : step_of b steps ≡ None = sym (first_is b steps) ∙ at_first (lines_from 0 steps) b ∙ ap stepped there in
    (λ y. never_late steps b (map by (take p h)) step, λ a. refl)

pub same_table : (table lines : List LineAt) (n : ℕ) (b : By) (o : Option LineAt) → lines ≡ table → n ≡ number_of table b → slice_get lines n ≡ o → slice_get table (number_of table b) ≡ o
same_table table lines n b o same number at = ap (λ k. slice_get table k) (sym number) ∙ ap (λ (t : List LineAt). slice_get t n) (sym same) ∙ at
