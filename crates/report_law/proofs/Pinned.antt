-- A pin is of its command.
use Rattle.std.proofs.Common.{◌≡◌, ℕ, Some, List, map}
use Rattle.std.specs.List.{slice_get}
use Rattle.tx_events.specs.declared.event.By.{By}
use Rattle.tx_events.specs.declared.multi.MultiEvent.{MultiEvent}
use Rattle.tx_events.specs.declared.multi.MultiEvent.TheVariants as multis
use Rattle.tx_events.specs.Multis.{multi_by}
use Rattle.tx_events.proofs.MultiPlaces.{its_by}
use Rattle.report_law.specs.Kinds.{IsPinAt}

pub pin_by : (all : List MultiEvent) (by : By) (p : ℕ) → IsPinAt all by p → slice_get (map multi_by all) p ≡ Some by
pin_by all by p i = its_by all p (multis.Hold by i.0) i.1
