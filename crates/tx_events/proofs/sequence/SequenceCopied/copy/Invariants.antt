use Rattle.std.proofs.Common.{◌≡◌, take}
use Rattle.tx_events.proofs.sequence.SequenceCopied.copy.Given as goal

abbrev pub invariant-loop-item : goal.invariant-loop-item
invariant-loop-item g l = l.all ≡ take l.item-index l.item-items
