-- A stored parent is the one that the history gave.
use Rattle.std.specs.Prelude.{◌≡◌, ℕ, List, Contains}
use Rattle.tx_events.specs.declared.event.By.{By}
use Rattle.tx_events.specs.declared.event.Event.TheVariants as events
use Rattle.tx_core.specs.declared.entry.Entry.{Entry}
use Rattle.tx_core.specs.Lists.{Upheld}
use Rattle.tx_core.specs.Entries.{history, EachLink}

-- the caller's session was given this id below this parent
abbrev pub IsGivenBelow : List (List Entry) → ℕ → ℕ → ℕ → Type 0
IsGivenBelow lists session parent id = (by : By) × (by.session ≡ session) × Contains (history lists) (events.Sub by parent id)

abbrev pub NeedsSubs : List (List Entry) → ℕ → List Entry → Entry → Type 0
NeedsSubs lists lock before e = EachLink (λ link. IsGivenBelow lists link.caller.session link.parent link.id) e

-- Each parent that was set on pg_subtrans stands in the history, as the one under which its id was given.
pub record ParentsFollow (lists : List (List Entry)) : Type 0 where
  pub each : Upheld NeedsSubs lists
