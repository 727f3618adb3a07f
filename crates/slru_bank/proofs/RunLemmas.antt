-- Runs of subids, from the front.
use Rattle.std.proofs.Common.{◌≡◌, ◌≢◌, ℕ, zero, suc, ◌+◌, ◌-◌, ◌<◌, ◌≤◌, ◌==◌, Bool, true, false, cond, List, [], ◌∷◌, ◌++◌, length, drop, slice_index, refl, sym, ◌∙◌, ap, subst, arith, length-drop, drop-drop}
use Rattle.std.proofs.lemmas.Bool.{ne_eqb, eq-eqb}
use Rattle.std.specs.Prelude.{slice_get, option_map, Some, map}
use Rattle.std.proofs.lemmas.List.{get_or-drop}
use Rattle.slru_bank.specs.declared.plan.PlanStep.{PlanStep}
use Rattle.tx_events.specs.Pages.{xact_page}
use Rattle.slru_bank.specs.Plan.{Run, with_next, runs, run_at, top_step, around, plan_over, plan}

-- another page in front, or none: a run of its own
own_run : (page at : ℕ) (ids : List ℕ) → (1 ≤ length ids → xact_page (slice_index ids 0) ≢ page) → (next : ℕ) → with_next page at (runs next ids) ≡ record { page = page; first = at; past = at + 1 } ∷ runs next ids
own_run page at [] differs next = refl
own_run page at (id ∷ ids) differs next = of (runs (next + 1) ids) (differs (omega arith))
  where
    of : (rs : List Run) → xact_page id ≢ page → with_next page at (with_next (xact_page id) next rs) ≡ record { page = page; first = at; past = at + 1 } ∷ with_next (xact_page id) next rs
    of [] apart = let e : (xact_page id == page) ≡ false = ne_eqb (xact_page id) page apart in rw e refl
    of (r ∷ rs) apart = joined (r.page == xact_page id)
      where
        e : (xact_page id == page) ≡ false
        e = ne_eqb (xact_page id) page apart

        joined : (same : Bool) → with_next page at (cond same (record { page = xact_page id; first = next; past = r.past } ∷ rs) (record { page = xact_page id; first = next; past = next + 1 } ∷ (r ∷ rs)))
            ≡ record { page = page; first = at; past = at + 1 } ∷ cond same (record { page = xact_page id; first = next; past = r.past } ∷ rs) (record { page = xact_page id; first = next; past = next + 1 } ∷ (r ∷ rs))
        joined true = rw e refl
        joined false = rw e refl

-- the first n + 1 ids are on one page, and the next one isn't
pub front_run : (ids : List ℕ) (at n page : ℕ) → n < length ids → ((j : ℕ) → j < suc n → xact_page (slice_index ids j) ≡ page) → (suc n < length ids → xact_page (slice_index ids (suc n)) ≢ page)
    → runs at ids ≡ record { page = page; first = at; past = at + suc n } ∷ runs (at + suc n) (drop (suc n) ids)
front_run [] at n page within same ends = absurd (omega arith)
front_run (id ∷ ids) at zero page within same ends =
    let here : xact_page id ≡ page = same 0 (omega arith) in
    let next : at + 1 ≡ at + suc zero = omega arith in
    subst (λ (p : ℕ). with_next p at (runs (at + 1) ids) ≡ record { page = page; first = at; past = at + 1 } ∷ runs (at + 1) ids) (sym here)
    (own_run page at ids (λ some. ends (omega arith)) (at + 1))
front_run (id ∷ ids) at (suc n) page within same ends =
    let here : xact_page id ≡ page = same 0 (omega arith) in
    let rest : runs (at + 1) ids ≡ record { page = page; first = at + 1; past = at + 1 + suc n } ∷ runs (at + 1 + suc n) (drop (suc n) ids) =
    front_run ids (at + 1) n page (omega arith) (λ j below. same (suc j) (omega arith)) (λ more. ends (omega arith)) in
    let long : at + 1 + suc n ≡ at + suc (suc n) = omega arith in
    let is : (page == page) ≡ true = eq-eqb page page refl in
    rw (here, rest, is, long) refl

pub run_from : (subs : List ℕ) (first past page : ℕ) → first < past → past ≤ length subs → ((j : ℕ) → first ≤ j → j < past → xact_page (slice_index subs j) ≡ page) → (past < length subs → xact_page (slice_index subs past) ≢ page)
    → runs first (drop first subs) ≡ run_at (slice_index subs first) first past ∷ runs past (drop past subs)
run_from subs first past page some within same ends =
    let n : ℕ = past - first - 1 in
    let is : first + suc n ≡ past = omega arith in
    let long : length (drop first subs) ≡ length subs - first = length-drop {A = ℕ} first subs in
    let own : xact_page (slice_index subs first) ≡ page = same first (omega arith) some in
    let at : (j : ℕ) → slice_index (drop first subs) j ≡ slice_index subs (first + j) = λ j. get_or-drop first subs j 0 in
    let whole = front_run (drop first subs) first n page (omega arith)
    (λ j below. ap xact_page (at j) ∙ same (first + j) (omega arith) (omega arith))
    (λ more e. ends (omega arith) (sym (ap (λ (k : ℕ). xact_page (slice_index subs k)) is) ∙ sym (ap xact_page (at (suc n))) ∙ e)) in
    rw (own, ← is) (whole ∙ ap (λ (l : List ℕ). record { page = page; first = first; past = first + suc n } ∷ runs (first + suc n) l) (drop-drop (suc n) first subs))

-- ---- the steps round the top's

pub around_before : (f : Run → PlanStep) (t : PlanStep) (ys : List PlanStep) (rs : List Run) (k : ℕ) → k < length rs → slice_get (map f rs ++ (t ∷ ys)) k ≡ option_map f (slice_get rs k)
around_before f t ys [] k within = absurd (omega arith)
around_before f t ys (r ∷ rs) zero within = refl
around_before f t ys (r ∷ rs) (suc k) within = around_before f t ys rs k (omega arith)

pub around_at : (f : Run → PlanStep) (t : PlanStep) (ys : List PlanStep) (rs : List Run) → slice_get (map f rs ++ (t ∷ ys)) (length rs) ≡ Some t
around_at f t ys [] = refl
around_at f t ys (r ∷ rs) = around_at f t ys rs

pub around_past : (f : Run → PlanStep) (t : PlanStep) (ys : List PlanStep) (rs : List Run) (j : ℕ) → slice_get (map f rs ++ (t ∷ ys)) (length rs + suc j) ≡ slice_get ys j
around_past f t ys [] j = let e : 0 + suc j ≡ suc j = omega arith in rw e refl
around_past f t ys (r ∷ rs) j = let e : suc (length rs) + suc j ≡ suc (length rs + suc j) = omega arith in rw e (around_past f t ys rs j)

-- no subid shares the top's page, or there is none
pub plan_apart : (top : ℕ) (subs : List ℕ) → (1 ≤ length subs → xact_page (slice_index subs 0) ≢ xact_page top) → plan top subs ≡ around (top_step top 0) (runs 0 (drop 0 subs))
plan_apart top [] apart = refl
plan_apart top (id ∷ ids) apart = of (runs 1 ids)
  where
    other : (xact_page id == xact_page top) ≡ false
    other = ne_eqb (xact_page id) (xact_page top) (apart (omega arith))

    of : (rs : List Run) → plan_over top (with_next (xact_page id) 0 rs) ≡ around (top_step top 0) (with_next (xact_page id) 0 rs)
    of [] = rw other refl
    of (r ∷ rs) = joined (r.page == xact_page id)
      where
        joined : (same : Bool) → plan_over top (cond same (record { page = xact_page id; first = 0; past = r.past } ∷ rs) (record { page = xact_page id; first = 0; past = 1 } ∷ (r ∷ rs)))
            ≡ around (top_step top 0) (cond same (record { page = xact_page id; first = 0; past = r.past } ∷ rs) (record { page = xact_page id; first = 0; past = 1 } ∷ (r ∷ rs)))
        joined true = rw other refl
        joined false = rw other refl

-- the first subids share it
pub plan_shared : (top : ℕ) (subs : List ℕ) (past : ℕ) → xact_page (slice_index subs 0) ≡ xact_page top → runs 0 (drop 0 subs) ≡ run_at (slice_index subs 0) 0 past ∷ runs past (drop past subs)
    → plan top subs ≡ around (top_step top past) (runs past (drop past subs))
plan_shared top subs past same is =
    let yes : (xact_page (slice_index subs 0) == xact_page top) ≡ true = eq-eqb (xact_page (slice_index subs 0)) (xact_page top) same in
    ap (plan_over top) is ∙ (rw yes refl)
