use Rattle.std.proofs.Common.{◌≡◌, take}
use Rattle.place_columns.specs.Lined.{places_of}
use Rattle.place_columns.proofs.Copying.{picked}
use Rattle.place_columns.proofs.copies.events_of_line.Given as goal

abbrev pub invariant-loop-place : goal.invariant-loop-place
invariant-loop-place g l = l.copies.items ≡ picked l.events (take l.place-index (places_of l.line l.own.numbers))
