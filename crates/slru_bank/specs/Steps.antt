-- Which ids a step of a commit has, among the top and its subids.
use Rattle.std.specs.Prelude.{◌≡◌, ℕ, ◌+◌, ◌<◌, cond, List, Contains, Some, slice_get}
use Rattle.std.specs.List.{slice_range}
use Rattle.slru_bank.specs.declared.plan.PlanStep.{PlanStep}
use Rattle.slru_bank.specs.declared.xact_state.State.{State}

-- where a step's ids begin, the top being the first one
abbrev pub step_first : PlanStep → ℕ
step_first p = cond p.with_top 0 (p.first + 1)

abbrev pub step_ids : List ℕ → PlanStep → List ℕ
step_ids ids p = slice_range ids (step_first p) (p.past + 1)

-- a step before the k-th has the id and sets this state
pub record IsBefore (ids : List ℕ) (steps : List PlanStep) (k id : ℕ) (state : State) : Type 0 where
  pub place : ℕ
  pub step : PlanStep
  pub before : place < k
  pub at : slice_get steps place ≡ Some step
  pub has : Contains (step_ids ids step) id
  pub sets : step.state ≡ state
