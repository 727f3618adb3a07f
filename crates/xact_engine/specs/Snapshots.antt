-- What a snapshot is that was taken of a table.
use Rattle.std.specs.Prelude.{◌≡◌, ℕ, List, length}
use Rattle.tx_events.specs.declared.event.By.{By}
use Rattle.tx_events.specs.declared.event.Event.TheVariants as events
use Rattle.tx_events.specs.declared.snapshot.SnapData.{SnapData}
use Rattle.proc_table.specs.Table.{Table, Adds, data_at}

-- what the reply tells and what the session keeps are what the table says, and the place is that of its event
pub record IsTaken (old new : Table) (by : By) (name : List ℕ) (lists kept : SnapData)
    (place : ℕ) : Type 0 where
  pub lists_are : lists ≡ data_at old
  pub kept_are : kept ≡ data_at old
  pub place_is : place ≡ length old.events
  pub adds : Adds old new (events.Snap name by)
