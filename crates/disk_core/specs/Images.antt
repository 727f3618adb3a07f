-- What crashes may leave, as time goes on. An image is a value of I.
use Rattle.std.specs.Prelude.{◌≡◌, ◌⊎◌, ℕ, ◌≤◌, ◌<◌}

-- each new outcome of a crash was one before
abbrev pub NoMore : {I : Type 0} → (I → Type 0) → (I → Type 0) → Type 0
NoMore {I = I} old new = (c : I) → new c → old c

-- each new outcome of a crash is an old outcome after a step
abbrev pub Follows : {I : Type 0} → (I → I → Type 0) → (I → Type 0) → (I → Type 0) → Type 0
Follows {I = I} step old new = (c : I) → new c → (d : I) × old d × step d c

-- a crash leaves this and nothing else
abbrev pub Only : {I : Type 0} → I → (I → Type 0) → Type 0
Only {I = I} now outcomes = (c : I) → outcomes c → c ≡ now

-- A call of a disk, from moment `before` to moment `now`. `past` says what a crash at each moment may have left as
-- the call begins, `since` as it returns.
pub record Elapses {I : Type 0} (before now : ℕ) (past since : ℕ → I → Type 0) (images : I → Type 0) : Type 0 where
  pub later : before ≤ now
  -- moments that are over stay as they were
  pub kept : (t : ℕ) (c : I) → t ≤ before → past t c → since t c
  pub no_more : (t : ℕ) (c : I) → t ≤ before → since t c → past t c
  -- at a moment of the call a crash leaves what one before the call or after it may leave
  pub between : (t : ℕ) (c : I) → before < t → t ≤ now → since t c → past before c ⊎ images c

-- A crash at any moment from old to new leaves an image that has P, and earlier moments stay as they were.
pub record LeavesOnly {D I : Type 0} (moment : D → ℕ) (left_at : D → ℕ → I → Type 0) (old new : D) (P : I → Type 0) : Type 0 where
  pub later : moment old ≤ moment new
  pub each : (t : ℕ) (c : I) → moment old ≤ t → t ≤ moment new → left_at new t c → P c
  pub kept : (t : ℕ) (c : I) → t ≤ moment old → left_at old t c → left_at new t c
  pub no_more : (t : ℕ) (c : I) → t ≤ moment old → left_at new t c → left_at old t c
