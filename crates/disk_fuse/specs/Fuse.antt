-- A volume that fails some of its calls without doing them.
use Rattle.std.specs.Prelude.{◌≡◌, ℕ, ◌+◌, ◌-◌, ◌^◌, ◌==◌, min, Bool, false, IsTrue, Result, IsErr}
use Rattle.disk_core.specs.Faults.{CountsFault}
use Rattle.disk_fuse.specs.declared.fails.Fails.{Fails}
use Rattle.disk_fuse.specs.declared.fails.Fails.TheVariants.{Never, Behind, At}

-- which calls fail behind the next one
abbrev pub spent : Fails → Fails
spent Never = Never
spent (Behind n) = Behind (n - 1)
spent (At n) = At (n - 1)

-- whether the next one fails
abbrev pub is_blown : Fails → Bool
is_blown Never = false
is_blown (Behind n) = n == 0
is_blown (At n) = n == 1

-- which calls fail behind a crash, of those that the media's volume was to fail and those that are left of them
abbrev pub past_crash : Fails → Fails → Fails
past_crash Never left = Never
past_crash (Behind n) left = Never
past_crash (At n) left = left

-- a call of a fused volume: one that is to fail isn't done and is counted, and each other one fails only as the volume itself does
pub record Spends {D T E : Type 0} (faults : D → ℕ) (before after : Fails) (refused refused_2 : ℕ) (old new : D) (result : Result T E) : Type 0 where
  pub left : after ≡ spent before
  pub blown : IsTrue (is_blown before) → IsErr result × (new ≡ old) × (refused_2 ≡ min (refused + 1) (2 ^ 64 - 1))
  pub passed : is_blown before ≡ false → CountsFault result (faults old) (faults new) × (refused_2 ≡ refused)
