-- Sources and sinks in memory, which fail where they are told to.
use Rattle.std.specs.Prelude.{◌≡◌, ℕ, ◌-◌, ◌||◌, ◌==◌, nat_lt, min, Bool, cond, List, ◌++◌, length, take, Result, IfOk, is_err}
use Rattle.std.specs.List.{list_any}
use Rattle.tx_io.specs.Causes.{counted, counted_by}

-- the call of this number is one that is to fail
abbrev pub is_planned : List ℕ → ℕ → Bool
is_planned failing call = list_any (λ n. n == call) failing

-- a source: the bytes left, the numbers of the reads that are to fail, and the reads and the faults so far
pub record SourceState : Type 0 where
  pub left : List ℕ
  pub failing : List ℕ
  pub calls : ℕ
  pub faults : ℕ

-- a read of up to `room` bytes gave `result`: it fails where that is planned, and otherwise gives all that there is
-- and that fits
pub record Reads {E : Type 0} (old new : SourceState) (room : ℕ) (result : Result ℕ E) : Type 0 where
  pub calls : new.calls ≡ counted old.calls
  pub failing : new.failing ≡ old.failing
  pub fails : is_err result ≡ is_planned old.failing new.calls
  pub count : IfOk result (λ n. n ≡ min room (length old.left))
  pub faults : new.faults ≡ counted_by result old.faults

-- a sink: the bytes held, how many it has room for, the numbers of the writes that are to fail, and the writes and
-- the faults so far
pub record SinkState : Type 0 where
  pub held : List ℕ
  pub room : ℕ
  pub failing : List ℕ
  pub calls : ℕ
  pub faults : ℕ

-- a write of `from` gave `result`: it fails where that is planned, and then takes nothing, and where `from` doesn't
-- fit, and then takes what fits; otherwise it takes all
pub record Writes {E : Type 0} (old new : SinkState) (from : List ℕ) (result : Result ℕ E) : Type 0 where
  pub calls : new.calls ≡ counted old.calls
  pub failing : new.failing ≡ old.failing
  pub room : new.room ≡ old.room
  pub fails : is_err result ≡ (is_planned old.failing new.calls || nat_lt (old.room - length old.held) (length from))
  pub count : IfOk result (λ n. n ≡ length from)
  pub held : new.held ≡ cond (is_planned old.failing new.calls) old.held (old.held ++ take (old.room - length old.held) from)
  pub faults : new.faults ≡ counted_by result old.faults
