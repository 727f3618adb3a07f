-- The states as numbers of two bits.
use Rattle.std.specs.Prelude.{ℕ, zero, suc, ◌*◌}
use Rattle.slru_bank.specs.declared.xact_state.State.{State}
use Rattle.slru_bank.specs.declared.xact_state.State.TheVariants.{InProgress, Committed, Aborted, SubCommitted}

-- the two bits of each state
abbrev pub state_number : State → ℕ
state_number InProgress = 0
state_number Committed = 1
state_number Aborted = 2
state_number SubCommitted = 3

-- a number at the k-th place of two bits
abbrev pub times_4 : ℕ → ℕ → ℕ
times_4 n zero = n
times_4 n (suc k) = times_4 (n * 4) k
