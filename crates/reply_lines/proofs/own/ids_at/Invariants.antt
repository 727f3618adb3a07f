use Rattle.std.proofs.Common.{◌≡◌, take}
use Rattle.tx_events.specs.Events.{given}
use Rattle.place_columns.specs.Lined.{places_of}
use Rattle.place_columns.proofs.Copying.{picked}
use Rattle.reply_lines.proofs.own.ids_at.Given as goal

abbrev pub invariant-loop-place : goal.invariant-loop-place
invariant-loop-place l = l.ids.items ≡ given (picked l.events (take l.place-index (places_of l.number l.own.numbers)))
