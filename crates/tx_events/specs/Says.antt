-- What a snapshot says of an id, and that it is so.
use Rattle.std.specs.Prelude.{◌≡◌, ℕ, ◌<◌, ◌≤◌, ◌||◌, ◌⊎◌, true, false, cond, nat_lt, List}
use Rattle.tx_events.specs.declared.event.Event.{Event}
use Rattle.tx_events.specs.declared.snapshot.SnapData.{SnapData}
use Rattle.tx_events.specs.declared.record.Counters.{Counters}
use Rattle.tx_events.specs.Running.{running}
use Rattle.tx_events.specs.History.{IsLegal}
use Rattle.tx_events.specs.Snapshots.{snapshot_data, snapshot_xmin, snapshot_xmax, is_overflowed}
use Rattle.tx_events.specs.IdLists.{has}
use Rattle.tx_events.specs.declared.said.Says.{Says}
use Rattle.tx_events.specs.declared.said.Says.TheVariants as says

-- the steps of the answer
abbrev pub says_of : SnapData → ℕ → Says
says_of d x =
    cond (nat_lt x d.xmin) says.Ended (cond (nat_lt x d.xmax) (cond d.overflowed says.AskParents (cond (has d.xip x || has d.subxip x) says.Running says.Ended)) says.Running)

-- the parents have to be asked exactly where the data are overflowed and x is between their limits
abbrev pub IsToAsk : ℕ → List Event → ℕ → Type 0
IsToAsk first h x = (is_overflowed first h ≡ true) × (snapshot_xmin first h ≤ x) × (x < snapshot_xmax first h)

-- what is said of x is so after these events: it is running then or past the limit, or neither
abbrev pub IsSaid : ℕ → List Event → ℕ → Says → Type 0
IsSaid first h x says.AskParents = IsToAsk first h x
IsSaid first h x says.Running = (IsToAsk first h x → ⊥) × ((has (running h) x ≡ true) ⊎ (snapshot_xmax first h ≤ x))
IsSaid first h x says.Ended = (IsToAsk first h x → ⊥) × (has (running h) x ≡ false) × (x < snapshot_xmax first h)

-- of whatever legal history the data are, what is said is so after it
abbrev pub SaysRight : SnapData → ℕ → Says → Type 0
SaysRight d x r = (base : Counters) (h : List Event) → IsLegal base h → d ≡ snapshot_data base.next h → IsSaid base.next h x r
