-- Which lines of a life are of the steps before one.
use Rattle.std.proofs.Common.{◌≡◌, ℕ, zero, suc, ◌+◌, ◌-◌, ◌<◌, ◌≤◌, ◌↔◌, true, false, nat_lt, Some, List, [], ◌∷◌, ◌++◌, length, map, take, refl, sym, ap, ◌∙◌, ⊎_elim, arith, length-append}
use Rattle.std.specs.List.{flat_map, slice_get, slice_index_or}
use Rattle.std.proofs.lemmas.Bool.{cases_lt}
use Rattle.std.proofs.lemmas.Bool.Decides.{nat_tests}
use Rattle.std.proofs.lemmas.List.{length-map}
use Rattle.std.proofs.lemmas.Option.{slice_get-get_or}
use Rattle.tx_model.specs.declared.report.Line.{Line}
use Rattle.tx_model.specs.declared.report.Step.{Step}
use Rattle.tx_model.specs.Rounds.{lines_in}
use Rattle.place_columns.specs.declared.lines.LineAt.{LineAt}
use Rattle.place_columns.specs.declared.lines.Row.{Row}
use Rattle.place_columns.specs.Lined.{line_at, lines_from}
use Rattle.place_columns.specs.Rows.{line_of}
use Rattle.place_columns.proofs.Rows.{at_map}

left_of : {X : Type 0} (xs ys : List X) (i : ℕ) → i < length xs → slice_get (xs ++ ys) i ≡ slice_get xs i
left_of [] ys i l = absurd (omega arith)
left_of (x ∷ xs) ys zero l = refl
left_of (x ∷ xs) ys (suc i) l = left_of xs ys i (omega arith)

right_of : {X : Type 0} (xs ys : List X) (i : ℕ) → length xs ≤ i → slice_get (xs ++ ys) i ≡ slice_get ys (i - length xs)
right_of [] ys i l = let z : i ≡ i - 0 = omega arith in ap (λ k. slice_get ys k) z
right_of (x ∷ xs) ys zero l = absurd (omega arith)
right_of (x ∷ xs) ys (suc i) l = let z : i - length xs ≡ suc i - suc (length xs) = omega arith in right_of xs ys i (omega arith) ∙ ap (λ k. slice_get ys k) z

step_there : (n : ℕ) (ls : List Line) (q : ℕ) (l : LineAt) → slice_get (map (line_at n) ls) q ≡ Some l → l.step ≡ n
step_there n [] q l e = absurd cc
step_there n (x ∷ ls) zero l e = let same : line_at n x ≡ l = cc in sym (ap (λ (y : LineAt). y.step) same)
step_there n (x ∷ ls) (suc q) l e = step_there n ls q l e

step_least : (n : ℕ) (steps : List Step) (i : ℕ) (l : LineAt) → slice_get (lines_from n steps) i ≡ Some l → n ≤ l.step
step_least n [] i l e = absurd cc
step_least n (t ∷ steps) i l e =
    let lines = map (line_at n) (lines_in t) in
    ⊎_elim
    (λ (u : i < length lines). let s = step_there n (lines_in t) i l (sym (left_of lines (lines_from (n + 1) steps) i u) ∙ e) in omega arith)
    (λ (u : length lines ≤ i). let s = step_least (n + 1) steps (i - length lines) l (sym (right_of lines (lines_from (n + 1) steps) i u) ∙ e) in omega arith)
    (cases_lt i (length lines))

pub before_step : (n k : ℕ) (steps : List Step) (i : ℕ) (l : LineAt) → slice_get (lines_from n steps) i ≡ Some l → (l.step < n + k) ↔ (i < length (flat_map lines_in (take k steps)))
before_step n zero steps i l e = let m = step_least n steps i l e in (λ u. absurd (omega arith), λ u. absurd (omega arith))
before_step n (suc k) [] i l e = absurd cc
before_step n (suc k) (t ∷ steps) i l e =
    let lines = map (line_at n) (lines_in t) in
    let long : length lines ≡ length (lines_in t) = length-map (lines_in t) (line_at n) in
    let more = flat_map lines_in (take k steps) in
    let size : length (lines_in t ++ more) ≡ length (lines_in t) + length more = length-append (lines_in t) more in
    ⊎_elim
    (λ (u : i < length lines).
    let s = step_there n (lines_in t) i l (sym (left_of lines (lines_from (n + 1) steps) i u) ∙ e) in
    (λ v. omega arith, λ v. omega arith))
    (λ (u : length lines ≤ i).
    let r = before_step (n + 1) k steps (i - length lines) l (sym (right_of lines (lines_from (n + 1) steps) i u) ∙ e) in
    (λ v. let a = r.0 (omega arith) in omega arith, λ v. let a = r.1 (omega arith) in omega arith))
    (cases_lt i (length lines))

lt_yes : (x n : ℕ) → nat_lt x n ≡ true → x < n
lt_yes x n e = grind (arith, nat_tests)

lt_is : (x n : ℕ) → x < n → nat_lt x n ≡ true
lt_is x n l = grind (arith, nat_tests)

lt_no : (x n : ℕ) → nat_lt x n ≡ false → n ≤ x
lt_no x n e = grind (arith, nat_tests)

pub front_most : (k : ℕ) (steps : List Step) → length (flat_map lines_in (take k steps)) ≤ length (flat_map lines_in steps)
front_most zero steps = omega arith
front_most (suc k) [] = omega arith
front_most (suc k) (t ∷ steps) =
    let a = length-append (lines_in t) (flat_map lines_in (take k steps)) in
    let b = length-append (lines_in t) (flat_map lines_in steps) in
    let r = front_most k steps in
    omega arith

table_size : (n : ℕ) (steps : List Step) → length (lines_from n steps) ≡ length (flat_map lines_in steps)
table_size n [] = refl
table_size n (t ∷ steps) =
    let a = length-append (map (line_at n) (lines_in t)) (lines_from (n + 1) steps) in
    let b = length-append (lines_in t) (flat_map lines_in steps) in
    let c = length-map (lines_in t) (line_at n) in
    let r = table_size (n + 1) steps in
    omega arith

module _ (steps : List Step) (k : ℕ) (lines : List LineAt) (is : lines ≡ lines_from 0 steps) where
  is_before : (i : ℕ) (d : LineAt) → i < length lines → ((slice_index_or lines i d).step < k) ↔ (i < length (flat_map lines_in (take k steps)))
  is_before i d l =
      let at : slice_get (lines_from 0 steps) i ≡ Some (slice_index_or lines i d) = ap (λ (ls : List LineAt). slice_get ls i) (sym is) ∙ slice_get-get_or lines i d l in
      let b = before_step 0 k steps i (slice_index_or lines i d) at in
      (λ u. b.0 (omega arith), λ u. let a = b.1 u in omega arith)

  pub steps_parted : (i j : ℕ) (d : LineAt) → i ≤ j → j < length lines → nat_lt (slice_index_or lines j d).step k ≡ true → nat_lt (slice_index_or lines i d).step k ≡ true
  steps_parted i j d l m e =
      let a = (is_before j d m).0 (lt_yes (slice_index_or lines j d).step k e) in
      lt_is (slice_index_or lines i d).step k ((is_before i d (omega arith)).1 (omega arith))

  pub part_is : (p : ℕ) → p ≤ length lines → ((i : ℕ) (d : LineAt) → 0 ≤ i → i < p → nat_lt (slice_index_or lines i d).step k ≡ true)
      → ((i : ℕ) (d : LineAt) → p ≤ i → i < length lines → nat_lt (slice_index_or lines i d).step k ≡ false) → p ≡ length (flat_map lines_in (take k steps))
  part_is p bound below behind =
      let c = length (flat_map lines_in (take k steps)) in
      let size : length lines ≡ length (flat_map lines_in steps) = ap (λ (ls : List LineAt). length ls) is ∙ table_size 0 steps in
      let most = front_most k steps in
      let upto : c ≤ p = ⊎_elim
      (λ (u : p < c).
      let d : LineAt = some_line lines (omega arith) in
      let a = lt_no (slice_index_or lines p d).step k (behind p d (omega arith) (omega arith)) in
      let b = (is_before p d (omega arith)).1 u in
      absurd (omega arith))
      (λ (u : c ≤ p). u)
      (cases_lt p c) in
      let from : p ≤ c = ⊎_elim
      (λ (u : c < p).
      let d : LineAt = some_line lines (omega arith) in
      let a = lt_yes (slice_index_or lines c d).step k (below c d (omega arith) u) in
      let b = (is_before c d (omega arith)).0 a in
      absurd (omega arith))
      (λ (u : p ≤ c). u)
      (cases_lt c p) in
      omega arith
    where
      some_line : (ls : List LineAt) → 0 < length ls → LineAt
      some_line [] l = absurd (omega arith)
      some_line (x ∷ ls) l = x

-- ---- by the table's rows

size_of : (rows : List Row) → length (map line_of rows) ≡ length rows
size_of rows = length-map rows line_of

abbrev row_from : LineAt → Row
row_from l = record { session = l.by.session; command = l.by.command; step = l.step }

module _ (steps : List Step) (k : ℕ) (rows : List Row) (is : map line_of rows ≡ lines_from 0 steps) where
  step_is : (i : ℕ) (d : Row) → nat_lt (slice_index_or (map line_of rows) i (line_of d)).step k ≡ nat_lt (slice_index_or rows i d).step k
  step_is i d = ap (λ (l : LineAt). nat_lt l.step k) (at_map line_of rows i d)

  pub rows_parted : (i j : ℕ) (d : Row) → i ≤ j → j < length rows → nat_lt (slice_index_or rows j d).step k ≡ true → nat_lt (slice_index_or rows i d).step k ≡ true
  rows_parted i j d l m e =
      let size = size_of rows in
      sym (step_is i d) ∙ steps_parted steps k (map line_of rows) is i j (line_of d) l (omega arith) (step_is j d ∙ e)

  pub rows_before : (p : ℕ) → p ≤ length rows → ((i : ℕ) (d : Row) → 0 ≤ i → i < p → nat_lt (slice_index_or rows i d).step k ≡ true)
      → ((i : ℕ) (d : Row) → p ≤ i → i < length rows → nat_lt (slice_index_or rows i d).step k ≡ false) → p ≡ length (flat_map lines_in (take k steps))
  rows_before p bound below behind =
      let size = size_of rows in
      part_is steps k (map line_of rows) is p (omega arith)
      (λ i d l m. step_is i (row_from d) ∙ below i (row_from d) l m)
      (λ i d l m. step_is i (row_from d) ∙ behind i (row_from d) l (omega arith))
