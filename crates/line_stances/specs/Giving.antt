-- Ids that are given one below another.
use Rattle.std.specs.Prelude.{ℕ, List, [], ◌∷◌, Option, Some}
use Rattle.tx_events.specs.declared.event.By.{By}
use Rattle.tx_events.specs.declared.event.Event.{Event}
use Rattle.tx_model.specs.CommandEvents.{giving}

-- each below the one before it, and the first below this parent
abbrev pub giving_all : By → Option ℕ → List ℕ → List Event
giving_all by parent [] = []
giving_all by parent (id ∷ ids) = giving by parent id ∷ giving_all by (Some id) ids
