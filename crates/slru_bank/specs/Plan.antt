-- The tree rule of a commit: which pages change, and in which order.
use Rattle.std.specs.Prelude.{ℕ, ◌+◌, ◌%◌, ◌^◌, ◌==◌, true, false, if◌then◌else◌, List, [], ◌∷◌, ◌++◌, map}
use Rattle.tx_events.specs.Pages.{xact_page}
use Rattle.slru_bank.specs.declared.xact_state.State.{State}
use Rattle.slru_bank.specs.declared.xact_state.State.TheVariants.{Committed, SubCommitted}
use Rattle.slru_bank.specs.declared.plan.PlanStep.{PlanStep}

-- subids side by side that share a page: from the first-th to before the past-th
pub record Run : Type 0 where
  pub page : ℕ
  pub first : ℕ
  pub past : ℕ

-- a subid in front of runs, in the first of them or in one of its own
abbrev pub with_next : ℕ → ℕ → List Run → List Run
with_next page at [] = record { page = page; first = at; past = at + 1 } ∷ []
with_next page at (r ∷ rs) =
    if r.page == page then (record { page = page; first = at; past = r.past } ∷ rs) else (record { page = page; first = at; past = at + 1 } ∷ (r ∷ rs))

-- the runs of subids of which the first one is the at-th
abbrev pub runs : ℕ → List ℕ → List Run
runs at [] = []
runs at (id ∷ ids) = with_next (xact_page id) at (runs (at + 1) ids)

-- a step over a run's page
abbrev pub run_step : State → Run → PlanStep
run_step state r = record { page = r.page % 2 ^ 17; state = state; with_top = false; first = r.first; past = r.past }

-- the step over the top's page, with the first subids
abbrev pub top_step : ℕ → ℕ → PlanStep
top_step top past = record { page = xact_page top % 2 ^ 17; state = Committed; with_top = true; first = 0; past = past }

-- all other pages sub-committed, then the top's page, then all others committed
abbrev pub around : PlanStep → List Run → List PlanStep
around top rs = map (run_step SubCommitted) rs ++ (top ∷ map (run_step Committed) rs)

-- the steps, where these are the runs of all subids
abbrev pub plan_over : ℕ → List Run → List PlanStep
plan_over top [] = around (top_step top 0) []
plan_over top (r ∷ rs) = if r.page == xact_page top then around (top_step top r.past) rs else around (top_step top 0) (r ∷ rs)

-- the steps for a top and its subids, which ascend from it
abbrev pub plan : ℕ → List ℕ → List PlanStep
plan top subs = plan_over top (runs 0 subs)

-- the run of this subid's page
abbrev pub run_at : ℕ → ℕ → ℕ → Run
run_at id first past = record { page = xact_page id; first = first; past = past }
