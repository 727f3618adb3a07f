-- The steps of a commit give each subid its final state once.
use Rattle.std.proofs.Common.{◌≡◌, ℕ, suc, ◌+◌, ◌<◌, ◌==◌, ◌&&◌, Bool, true, false, cond, if◌then◌else◌, nat_le, nat_lt, List, [], ◌∷◌, ◌++◌, length, map, refl, sym, ◌∙◌, ap, arith}
use Rattle.std.proofs.lemmas.Bool.Decides.{nat_tests}
use Rattle.slru_bank.specs.declared.xact_state.State.{State}
use Rattle.slru_bank.specs.declared.xact_state.State.TheVariants.{InProgress, Committed, Aborted, SubCommitted}
use Rattle.slru_bank.specs.declared.plan.PlanStep.{PlanStep}
use Rattle.tx_events.specs.Pages.{xact_page}
use Rattle.slru_bank.specs.Plan.{Run, with_next, runs, run_step, top_step, around, plan_over, plan}

-- 1 for a number of a range, 0 for others
abbrev pub in_range : ℕ → ℕ → ℕ → ℕ
in_range i first past = if nat_le first i && nat_lt i past then 1 else 0

-- whether a step makes the i-th subid committed
abbrev pub commits : ℕ → State → ℕ → ℕ → ℕ
commits i InProgress first past = 0
commits i Committed first past = in_range i first past
commits i Aborted first past = 0
commits i SubCommitted first past = 0

-- how many of these steps make it committed
abbrev pub times_committed : ℕ → List PlanStep → ℕ
times_committed i [] = 0
times_committed i (s ∷ ss) = commits i s.state s.first s.past + times_committed i ss

in_runs : ℕ → List Run → ℕ
in_runs i [] = 0
in_runs i (r ∷ rs) = in_range i r.first r.past + in_runs i rs

none_committed : (i : ℕ) (rs : List Run) → times_committed i (map (run_step SubCommitted) rs) ≡ 0
none_committed i [] = refl
none_committed i (r ∷ rs) = let e : times_committed i (map (run_step SubCommitted) rs) ≡ 0 = none_committed i rs in omega (arith, e)

each_run : (i : ℕ) (rs : List Run) → times_committed i (map (run_step Committed) rs) ≡ in_runs i rs
unfolding in_runs
each_run i [] = refl
each_run i (r ∷ rs) = ap (λ (n : ℕ). in_range i r.first r.past + n) (each_run i rs)

joined : (i : ℕ) (xs ys : List PlanStep) → times_committed i (xs ++ ys) ≡ times_committed i xs + times_committed i ys
joined i [] ys = omega arith
joined i (x ∷ xs) ys = let e : times_committed i (xs ++ ys) ≡ times_committed i xs + times_committed i ys = joined i xs ys in omega (arith, e)

round_top : (i top past : ℕ) (rs : List Run) → times_committed i (around (top_step top past) rs) ≡ in_range i 0 past + in_runs i rs
round_top i top past rs =
    let front = none_committed i rs in
    let back = each_run i rs in
    joined i (map (run_step SubCommitted) rs) (top_step top past ∷ map (run_step Committed) rs) ∙ rw (front, back) (omega arith)

-- a list of runs begins with the at-th subid
abbrev Begins : ℕ → List Run → Type 0
Begins at [] = Unit {0}
Begins at (r ∷ rs) = (r.first ≡ at) × (at < r.past)

nothing : (i at : ℕ) → in_range i at at ≡ 0
nothing i at = grind (arith, nat_tests)

split_range : (i at past : ℕ) → at < past → in_range i at past ≡ in_range i at (at + 1) + in_range i (at + 1) past
split_range i at past some = grind (arith, nat_tests)

next_begins : (p at : ℕ) (rs : List Run) → Begins (at + 1) rs → Begins at (with_next p at rs)
next_begins p at [] begins = (refl, omega arith)
next_begins p at (r ∷ rs) begins = of (r.page == p)
  where
    of : (same : Bool) → Begins at (cond same (record { page = p; first = at; past = r.past } ∷ rs) (record { page = p; first = at; past = at + 1 } ∷ (r ∷ rs)))
    of true = (refl, omega (arith, begins.1))
    of false = (refl, omega arith)

runs_begin : (at : ℕ) (ids : List ℕ) → Begins at (runs at ids)
runs_begin at [] = tt
runs_begin at (id ∷ ids) = next_begins (xact_page id) at (runs (at + 1) ids) (runs_begin (at + 1) ids)

count_next : (i p at : ℕ) (rs : List Run) → Begins (at + 1) rs → in_runs i (with_next p at rs) ≡ in_range i at (at + 1) + in_runs i rs
unfolding in_runs
count_next i p at [] begins = refl
count_next i p at (r ∷ rs) begins = of (r.page == p)
  where
    of : (same : Bool) → in_runs i (cond same (record { page = p; first = at; past = r.past } ∷ rs) (record { page = p; first = at; past = at + 1 } ∷ (r ∷ rs))) ≡ in_range i at (at + 1) + in_runs i (r ∷ rs)
    of true =
        let parts : in_range i at r.past ≡ in_range i at (at + 1) + in_range i (at + 1) r.past = split_range i at r.past (omega (arith, begins.1)) in
        let same : in_range i r.first r.past ≡ in_range i (at + 1) r.past = ap (λ (f : ℕ). in_range i f r.past) begins.0 in
        rw (parts, same) (omega arith)
    of false = refl

counted : (i at : ℕ) (ids : List ℕ) → in_runs i (runs at ids) ≡ in_range i at (at + length ids)
unfolding in_runs
counted i at [] = let e : at + 0 ≡ at = omega arith in rw e (sym (nothing i at))
counted i at (id ∷ ids) =
    let rest : in_runs i (runs (at + 1) ids) ≡ in_range i (at + 1) (at + 1 + length ids) = counted i (at + 1) ids in
    let long : at + 1 + length ids ≡ at + suc (length ids) = omega arith in
    count_next i (xact_page id) at (runs (at + 1) ids) (runs_begin (at + 1) ids) ∙ rw (rest, long) (sym (split_range i at (at + suc (length ids)) (omega arith)))

over_runs : (i top : ℕ) (rs : List Run) → Begins 0 rs → times_committed i (plan_over top rs) ≡ in_runs i rs
unfolding in_runs
over_runs i top [] begins = round_top i top 0 [] ∙ (let none : in_range i 0 0 ≡ 0 = nothing i 0 in rw none refl)
over_runs i top (r ∷ rs) begins = of (r.page == xact_page top)
  where
    of : (same : Bool) → times_committed i (cond same (around (top_step top r.past) rs) (around (top_step top 0) (r ∷ rs))) ≡ in_range i r.first r.past + in_runs i rs
    of true = round_top i top r.past rs ∙ ap (λ (f : ℕ). in_range i f r.past + in_runs i rs) (sym begins.0)
    of false = round_top i top 0 (r ∷ rs) ∙ (let none : in_range i 0 0 ≡ 0 = nothing i 0 in rw none (omega arith))

-- each subid becomes committed in one step, and no other step
pub committed_once : (top : ℕ) (subs : List ℕ) (i : ℕ) → i < length subs → times_committed i (plan top subs) ≡ 1
committed_once top subs i within =
    let here : in_range i 0 (0 + length subs) ≡ 1 = grind (arith, nat_tests) in
    over_runs i top (runs 0 subs) (runs_begin 0 subs) ∙ counted i 0 subs ∙ here
