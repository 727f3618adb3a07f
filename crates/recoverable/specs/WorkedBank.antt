-- The bank of pg_xact of the worked life: id 3 was set committed, and then the bank was synced.
use Rattle.std.specs.Prelude.{◌≡◌, [], ◌∷◌, None}
use Rattle.tx_events.specs.declared.event.By.{By}
use Rattle.tx_core.specs.declared.entry.Entry.{Entry}
use Rattle.tx_core.specs.declared.entry.Kind.TheVariants as kinds
use Rattle.tx_core.specs.declared.entry.Start.{Start}
use Rattle.tx_core.specs.declared.entry.State.TheVariants as states
use Rattle.tx_core.specs.Laws.{all_set}
use Rattle.recoverable.specs.WorkedLife.{page_with}
use Rattle.recoverable.specs.WorkedLife as life
use Rattle.recoverable.specs.XactImages.{Follows}

-- a life of one bank that begins with id 3
pub record IsFirstLife (start : Start) : Type 0 where
  pub banks : start.banks ≡ 1
  pub next : start.base.next ≡ 3
  pub oldest : start.base.oldest ≡ 3

abbrev pub set_3 : By → Entry
set_3 by = record { by = by; kind = kinds.Set (all_set by states.Committed (3 ∷ [])) }

abbrev pub sync : By → Entry
sync by = record { by = by; kind = kinds.Sync }

-- Before the sync an image may show the state, or not yet. Behind it an image that doesn't is none of the bank's.
pub record FollowsOrNot (start : Start) (by : By) : Type 0 where
  pub not_yet : Follows start 0 (λ id. None) (set_3 by ∷ []) (page_with [])
  pub set : Follows start 0 (λ id. None) (set_3 by ∷ []) life.states
  pub synced : Follows start 0 (λ id. None) (set_3 by ∷ sync by ∷ []) life.states
  pub lost : Follows start 0 (λ id. None) (set_3 by ∷ sync by ∷ []) (page_with []) → ⊥

abbrev pub WorkedBank : Type 0
WorkedBank = (start : Start) (by : By) → IsFirstLife start → FollowsOrNot start by
