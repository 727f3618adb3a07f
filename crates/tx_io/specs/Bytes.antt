-- What a write does to the bytes that a sink holds.
use Rattle.std.specs.Prelude.{ℕ, ◌<◌, ◌≤◌, List, length, take, Option, Result, MatchResult, IfOk}
use Rattle.std.specs.Io.KnownBytes.{Appends}

-- known bytes grow by the front of what was to be written: by the count at `Ok`, by some count at `Err`
abbrev pub Takes : {E : Type 0} → Option (List ℕ) → Option (List ℕ) → Result ℕ E → List ℕ → Type 0
Takes old new result from =
    MatchResult result (λ n. Appends old new (take n from)) (λ _. (n : ℕ) × Appends old new (take n from))

-- the count is at most what was to be written, and 0 only for nothing
abbrev pub TakesSome : {E : Type 0} → Result ℕ E → List ℕ → Type 0
TakesSome result from = IfOk result (λ n. (n ≤ length from) × (0 < length from → 0 < n))
