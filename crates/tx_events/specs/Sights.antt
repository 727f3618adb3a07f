-- What a snapshot shows of an id.
use Rattle.std.specs.Prelude.{◌≡◌, ℕ, ◌<◌, ◌≤◌, ◌⊎◌, ◌||◌, not, Bool, List, true, false, cond, nat_le, nat_lt}
use Rattle.tx_events.specs.declared.event.Event.{Event}
use Rattle.tx_events.specs.declared.record.Counters.{Counters}
use Rattle.tx_events.specs.Families.{is_top}
use Rattle.tx_events.specs.History.{IsLegal}
use Rattle.tx_events.specs.IdLists.{has}
use Rattle.tx_events.specs.Running.{running}
use Rattle.tx_events.specs.Snapshots.{snapshot_data, snapshot_xmax}
use Rattle.tx_events.specs.declared.snapshot.SnapData.{SnapData}
use Rattle.tx_events.specs.declared.sight.Sight.{Sight}
use Rattle.tx_events.specs.declared.sight.Sight.TheVariants as sights
use Rattle.tx_events.specs.declared.said.Says.{Says}
use Rattle.tx_events.specs.declared.said.Says.TheVariants as says
use Rattle.tx_events.specs.Says.{SaysRight, says_of}

abbrev pub sight_said : Says → Sight
sight_said says.Ended = sights.Seen
sight_said says.Running = sights.Hidden
sight_said says.AskParents = sights.AskParents

-- the steps of the answer: an id at or past the xmax, or one that hasn't committed, is hidden
abbrev pub sight_by : SnapData → ℕ → Bool → Sight
sight_by d x committed = cond (nat_le d.xmax x) sights.Hidden (cond committed (sight_said (says_of d x)) sights.Hidden)

-- a topmost parent below the xmin had ended, and so had one that the snapshot doesn't list
abbrev pub top_sight_by : SnapData → ℕ → Bool
top_sight_by d topmost = nat_lt topmost d.xmin || not (has d.xip topmost)

-- what is shown rests on what was so when the snapshot was taken, of whatever legal history
abbrev pub IsSightRight : SnapData → ℕ → Bool → Sight → Type 0
IsSightRight d x committed sights.Seen = (x < d.xmax) × (committed ≡ true) × SaysRight d x says.Ended
IsSightRight d x committed sights.Hidden = (d.xmax ≤ x) ⊎ (committed ≡ false) ⊎ ((x < d.xmax) × (committed ≡ true) × SaysRight d x says.Running)
IsSightRight d x committed sights.AskParents = (x < d.xmax) × (committed ≡ true) × SaysRight d x says.AskParents

-- of whatever legal history the data are, a top below the xmax ran exactly where it isn't shown
abbrev pub IsTopSightRight : SnapData → ℕ → Bool → Type 0
IsTopSightRight d topmost seen =
    (base : Counters) (h : List Event) → IsLegal base h → d ≡ snapshot_data base.next h → is_top h topmost ≡ true → topmost < snapshot_xmax base.next h → seen ≡ not (has (running h) topmost)
