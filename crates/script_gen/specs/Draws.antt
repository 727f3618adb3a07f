-- The draws of a script: those of Lehmer's generator with the multiplier 48271 and the modulus 2^31 - 1.
use Rattle.std.specs.Prelude.{ℕ, zero, suc, ◌*◌, ◌%◌}

-- a draw is the next state, and a draw below n is its rest by n
abbrev pub next_state : ℕ → ℕ
next_state s = s * 48271 % 2147483647

-- the state behind n draws
abbrev pub state_behind : ℕ → ℕ → ℕ
state_behind zero s = s
state_behind (suc n) s = state_behind n (next_state s)
