use Rattle.std.proofs.Common.{◌≡◌, take}
use Rattle.script_gen.specs.Counts.{counts_of}
use Rattle.script_gen.proofs.summary.counts_of.Given as goal

abbrev pub invariant-loop-event : goal.invariant-loop-event
invariant-loop-event l = l.counts ≡ counts_of (take l.event-index l.history)
