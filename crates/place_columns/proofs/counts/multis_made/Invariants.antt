use Rattle.std.proofs.Common.{◌≡◌, ◌+◌, ◌*◌, ◌≤◌, take}
use Rattle.tx_events.specs.Multis.{next_made}
use Rattle.place_columns.specs.Columns.{IsColumn}
use Rattle.place_columns.proofs.counts.multis_made.Given as goal

abbrev pub invariant-loop-event : goal.invariant-loop-event
invariant-loop-event l = record {
  column : IsColumn (next_made l.first) (take l.event-index l.events) l.column.items;
  next : l.next ≡ next_made l.first (take l.event-index l.events);
  near : l.next ≤ l.first + 4 * l.event-index;
}
