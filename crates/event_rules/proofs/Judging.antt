-- Which events are of the first lines, by the numbers of their lines.
use Rattle.std.proofs.Common.{◌≡◌, ◌↔◌, ℕ, suc, zero, ◌+◌, ◌<◌, ◌≤◌, List, [], ◌∷◌, length, map, take, refl, ap, sym, subst, ◌∙◌, arith, Bool, true, false, cond, not, nat_lt, ◌||◌}
use Rattle.std.specs.Prelude.{IsTrue}
use Rattle.std.specs.List.{AllByRecursion, count_by, list_any}
use Rattle.std.proofs.lemmas.Bool.Decides.{nat_tests}
use Rattle.std.proofs.lemmas.List.{length-map}
use Rattle.std.proofs.lemmas.List.Sums.{sum_by-cons}
use Rattle.tx_events.specs.declared.event.By.{By}
use Rattle.tx_events.specs.Events.{same_by}
use Rattle.tx_model.specs.declared.report.Line.{Line}
use Rattle.place_columns.specs.declared.lines.LineAt.{LineAt}
use Rattle.place_columns.specs.Lined.{Numbered, bys_of, line_by, lines_from, most_of, number_of, numbered}
use Rattle.place_columns.proofs.CountingLines.{all_upto, count_none, most_upto}
use Rattle.place_columns.proofs.LineSteps.{bys_are}
use Rattle.report_law.specs.Steps.{Judged, lines_of}
use Rattle.event_rules.specs.Lined.{AreBelow}

-- ---- the first lines

abbrev any_by : By → List By → Bool
any_by b bys = list_any (λ x. same_by x b) bys

lines_any : (n : ℕ) (b : By) (lines : List Line) → list_any (λ (l : Line). same_by l.by b) (take n lines) ≡ any_by b (take n (map line_by lines))
lines_any zero b lines = none lines
  where
    none : (lines : List Line) → list_any (λ (l : Line). same_by l.by b) (take 0 lines) ≡ any_by b (take 0 (map line_by lines))
    none [] = refl
    none (l ∷ lines) = refl
lines_any (suc n) b [] = refl
lines_any (suc n) b (l ∷ lines) = ap (λ t. same_by l.by b || t) (lines_any n b lines)

below_first : (n : ℕ) (b : By) (lines : List LineAt) → n ≤ length lines → any_by b (take n (bys_of lines)) ≡ nat_lt (number_of lines b) n
below_first zero b lines l = none lines ∙ sym (never (number_of lines b))
  where
    none : (lines : List LineAt) → any_by b (take 0 (bys_of lines)) ≡ false
    none [] = refl
    none (x ∷ lines) = refl

    never : (k : ℕ) → nat_lt k 0 ≡ false
    never k = grind (arith, nat_tests)
below_first (suc n) b [] l = absurd (omega arith)
below_first (suc n) b (x ∷ lines) l = step (same_by x.by b) (below_first n b lines (omega arith))
  where
    first : nat_lt 0 (suc n) ≡ true
    first = grind (arith, nat_tests)

    next : nat_lt (1 + number_of lines b) (suc n) ≡ nat_lt (number_of lines b) n
    next = grind (arith, nat_tests)

    step : (t : Bool) → any_by b (take n (bys_of lines)) ≡ nat_lt (number_of lines b) n → (t || any_by b (take n (bys_of lines))) ≡ nat_lt (cond (not t) (1 + number_of lines b) 0) (suc n)
    step true e = sym first
    step false e = e ∙ sym next

-- whether a command is of the first n lines of the life
pub is_of_first : (j : Judged) (n : ℕ) (b : By) → n ≤ length (lines_of j) → list_any (λ (l : Line). same_by l.by b) (take n (lines_of j)) ≡ nat_lt (number_of (lines_from 0 j.steps) b) n
is_of_first j n b l =
    let size : length (lines_from 0 j.steps) ≡ length (lines_of j) =
    sym (length-map (lines_from 0 j.steps) (λ (x : LineAt). x.by)) ∙ ap (λ (t : List By). length t) (bys_are 0 j.steps) ∙ length-map (lines_of j) line_by in
    lines_any n b (lines_of j)
    ∙ ap (λ (t : List By). any_by b (take n t)) (sym (bys_are 0 j.steps))
    ∙ below_first n b (lines_from 0 j.steps) (omega arith)

-- ---- counted

count_same : {E : Type 0} (has : E → Bool) (f : E → ℕ) (n : ℕ) → ((e : E) → has e ≡ nat_lt (f e) n) → (h : List E) → count_by (λ k. nat_lt k n) (map f h) ≡ count_by has h
count_same has f n same [] = refl
count_same has f n same (e ∷ h) =
    sum_by-cons (λ k. cond (nat_lt k n) 1 0) (f e) (map f h)
    ∙ ap (λ t. cond t 1 0 + count_by (λ k. nat_lt k n) (map f h)) (sym (same e))
    ∙ ap (λ k. cond (has e) 1 0 + k) (count_same has f n same h)
    ∙ sym (sum_by-cons (λ e. cond (has e) 1 0) e h)

lt_yes : (x n : ℕ) → nat_lt x n ≡ true → x < n
lt_yes x n e = grind (arith, nat_tests)

lt_is : (x n : ℕ) → x < n → nat_lt x n ≡ true
lt_is x n e = grind (arith, nat_tests)

all_to : {E : Type 0} (has : E → Bool) (f : E → ℕ) (n : ℕ) → ((e : E) → has e ≡ nat_lt (f e) n) → (c : ℕ) (h : List E) → AllByRecursion (λ k. k < n) (take c (map f h)) → AllByRecursion (λ e. has e ≡ true) (take c h)
all_to has f n same zero [] a = tt
all_to has f n same zero (e ∷ h) a = tt
all_to has f n same (suc c) [] a = tt
all_to has f n same (suc c) (e ∷ h) a = (same e ∙ lt_is (f e) n a.0, all_to has f n same c h a.1)

all_from : {E : Type 0} (has : E → Bool) (f : E → ℕ) (n : ℕ) → ((e : E) → has e ≡ nat_lt (f e) n) → (c : ℕ) (h : List E) → AllByRecursion (λ e. has e ≡ true) (take c h) → AllByRecursion (λ k. k < n) (take c (map f h))
all_from has f n same zero [] a = tt
all_from has f n same zero (e ∷ h) a = tt
all_from has f n same (suc c) [] a = tt
all_from has f n same (suc c) (e ∷ h) a = (lt_yes (f e) n (sym (same e) ∙ a.0), all_from has f n same c h a.1)

together : {E : Type 0} (f : By → ℕ) (by : E → By) (h : List E) → map f (map by h) ≡ map (λ e. f (by e)) h
together f by [] = refl
together f by (e ∷ h) = ap (λ (t : List ℕ). f (by e) ∷ t) (together f by h)

module _ {E : Type 0} (by : E → By) (j : Judged) (n : ℕ) (l : n ≤ length (lines_of j)) (h : List E) where
  abbrev has : E → Bool
  has e = list_any (λ (x : Line). same_by x.by (by e)) (take n (lines_of j))

  abbrev f : E → ℕ
  f e = number_of (lines_from 0 j.steps) (by e)

  pub counted : count_by (λ k. nat_lt k n) (map (number_of (lines_from 0 j.steps)) (map by h)) ≡ count_by has h
  counted = ap (λ (t : List ℕ). count_by (λ k. nat_lt k n) t) (together (number_of (lines_from 0 j.steps)) by h) ∙ count_same has f n (λ e. is_of_first j n (by e) l) h

  pub theirs : AreBelow n (map (number_of (lines_from 0 j.steps)) (map by h)) ↔ AllByRecursion (λ e. has e ≡ true) (take (count_by has h) h)
  theirs = (
    λ a. all_to has f n (λ e. is_of_first j n (by e) l) (count_by has h) h
        (subst (λ (t : List ℕ). AllByRecursion (λ k. k < n) (take (count_by has h) t)) (together (number_of (lines_from 0 j.steps)) by h)
        (subst (λ c. AllByRecursion (λ k. k < n) (take c (map (number_of (lines_from 0 j.steps)) (map by h)))) counted a)),
    λ a. subst (λ c. AllByRecursion (λ k. k < n) (take c (map (number_of (lines_from 0 j.steps)) (map by h)))) (sym counted)
        (subst (λ (t : List ℕ). AllByRecursion (λ k. k < n) (take (count_by has h) t)) (sym (together (number_of (lines_from 0 j.steps)) by h))
        (all_from has f n (λ e. is_of_first j n (by e) l) (count_by has h) h a)),
  )

-- ---- reached

below_upto : (n : ℕ) (ks : List ℕ) → AllByRecursion (λ k. k ≤ n) ks → AllByRecursion (λ k. k < suc n) ks
below_upto n [] a = tt
below_upto n (k ∷ ks) a = (let l : k ≤ n = a.0 in omega arith, below_upto n ks a.1)

upto_below : (n : ℕ) (ks : List ℕ) → AllByRecursion (λ k. k < suc n) ks → AllByRecursion (λ k. k ≤ n) ks
upto_below n [] a = tt
upto_below n (k ∷ ks) a = (let l : k < suc n = a.0 in omega arith, upto_below n ks a.1)

-- where some are below n
pub reached : (n c : ℕ) (ks : List ℕ) → c ≡ count_by (λ k. nat_lt k n) ks → (c ≡ 0 → ⊥) → (most_of (take c ks) < n) ↔ AreBelow n ks
reached zero c ks is some = absurd (some (is ∙ sym (count_none ks)))
reached (suc n) c ks is some = (
  λ m. subst (λ c. AllByRecursion (λ k. k < suc n) (take c ks)) is (below_upto n (take c ks) (all_upto (take c ks) n (omega arith))),
  λ a. let m = most_upto (take c ks) n (upto_below n (take c ks) (subst (λ c. AllByRecursion (λ k. k < suc n) (take c ks)) (sym is) a)) in omega arith,
)

pub reached_told : (n c r : ℕ) (ks : List ℕ) → r ≡ most_of (take c ks) → c ≡ count_by (λ k. nat_lt k n) ks → (c ≡ 0 → ⊥) → IsTrue (nat_lt r n) ↔ AreBelow n ks
reached_told n c r ks is count some =
    let b = reached n c ks count some in (
      λ t. let l = lt_yes r n t in b.0 (omega arith),
      λ a. let l = b.1 a in lt_is r n (omega arith),
    )

-- ---- of the tables

pub few_steps : (j : Judged) (n : ℕ) (own : Numbered) (bys : List By) → own ≡ numbered (lines_from 0 j.steps) bys → n ≤ length (lines_of j) → n ≤ length own.steps
few_steps j n own bys is l =
    let size : length own.steps ≡ length (lines_of j) =
    ap (λ (o : Numbered). length o.steps) is ∙ length-map (lines_from 0 j.steps) (λ (x : LineAt). x.step)
    ∙ sym (length-map (lines_from 0 j.steps) (λ (x : LineAt). x.by)) ∙ ap (λ (t : List By). length t) (bys_are 0 j.steps) ∙ length-map (lines_of j) line_by in
    omega arith

pub theirs_told : {E : Type 0} (by : E → By) (j : Judged) (n : ℕ) (l : n ≤ length (lines_of j)) (h : List E) (own : Numbered) (t : Bool) → own ≡ numbered (lines_from 0 j.steps) (map by h) → IsTrue t ↔ AreBelow n own.numbers
    → IsTrue t ↔ AllByRecursion (λ e. list_any (λ (x : Line). same_by x.by (by e)) (take n (lines_of j)) ≡ true) (take (count_by (λ e. list_any (λ (x : Line). same_by x.by (by e)) (take n (lines_of j))) h) h)
theirs_told by j n l h own t is b =
    let a = theirs by j n l h in (
      λ y. a.0 (subst (λ (o : Numbered). AreBelow n o.numbers) is (b.0 y)),
      λ y. b.1 (subst (λ (o : Numbered). AreBelow n o.numbers) (sym is) (a.1 y)),
    )
