-- A record of an end names a transaction whole.
use Rattle.std.specs.Prelude.{◌≡◌, ℕ, ◌⊎◌, List, ◌∷◌, Some, take, slice_get, true}
use Rattle.tx_events.specs.declared.event.By.{By}
use Rattle.tx_events.specs.declared.event.Event.{Event}
use Rattle.tx_events.specs.declared.xact_end.XactEnd.{XactEnd}
use Rattle.tx_events.specs.Families.{is_top}
use Rattle.tx_events.specs.Running.{open_ids}
use Rattle.tx_events.specs.XactEnds.{end_event}

-- the top is a top, and these are the ids that its session has open, or that its event of this end closed
pub record IsWholeIn (how : XactEnd) (h : List Event) (session top : ℕ) (subs : List ℕ) : Type 0 where
  pub root : is_top h top ≡ true
  pub ids : (open_ids session h ≡ top ∷ subs)
      ⊎ ((p : ℕ) × (by : By) × (by.session ≡ session) × (slice_get h p ≡ Some (end_event how by top))
      × (open_ids session (take p h) ≡ top ∷ subs))
