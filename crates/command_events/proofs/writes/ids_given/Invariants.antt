use Rattle.std.proofs.Common.{◌≡◌, ◌++◌, ◌≤◌, drop, length}
use Rattle.command_events.specs.Told.{all_given}
use Rattle.command_events.proofs.writes.ids_given.Given as goal

abbrev pub invariant-loop-e : goal.invariant-loop-e
invariant-loop-e l = record {
  ids : all_given l.below l.own ≡ l.ids.items ++ all_given l.under (drop l.e-index l.own);
  few : length l.ids.items ≤ l.most;
}
