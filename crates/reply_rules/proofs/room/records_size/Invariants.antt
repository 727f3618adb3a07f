use Rattle.std.proofs.Common.{◌≡◌, ◌-◌, ◌^◌, min, take}
use Rattle.tx_events.specs.RecordSize.{records_size}
use Rattle.reply_rules.proofs.room.records_size.Given as goal

abbrev pub invariant-loop-rec : goal.invariant-loop-rec
invariant-loop-rec l = l.sum ≡ min (records_size (take l.rec-index l.recs)) (2 ^ 64 - 1)
