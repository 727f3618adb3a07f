-- What a command's snapshots show of a stored half.
use Rattle.std.specs.Prelude.{◌≡◌, ℕ, ◌^◌, ◌<◌, ◌≤◌, List, Some, slice_get}
use Rattle.tx_events.specs.declared.event.By.{By}
use Rattle.tx_model.specs.Replies.{RoundSpan, seen_id}
use Rattle.multi_rules.specs.declared.taken.Taken.{Taken}

-- a command that asks the snapshot that its session's command `number` took, and the ids that the base has as committed
pub record Seeing : Type 0 where
  pub ids : List ℕ
  pub by : By
  pub number : ℕ

-- and in its round
pub record Asking : Type 0 where
  pub round : RoundSpan
  pub by : By
  pub number : ℕ

-- each xmax is an id
abbrev pub AreFull : List Taken → Type 0
AreFull taken = (i : ℕ) (t : Taken) → slice_get taken i ≡ Some t → (3 ≤ t.xmax) × (t.xmax < 2 ^ 63)

-- the stored half means the same to those from number `from` to below `end`
abbrev pub MeanTheSame : List Taken → ℕ → ℕ → ℕ → Type 0
MeanTheSame taken x from end = (i : ℕ) (s t : Taken) → from ≤ i → i < end → slice_get taken from ≡ Some s → slice_get taken i ≡ Some t → seen_id s.xmax x ≡ seen_id t.xmax x
