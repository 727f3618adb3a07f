use Rattle.std.proofs.Common.{take}
use Rattle.event_rules.specs.Told.{AreMarked}
use Rattle.event_rules.proofs.events.mark_told.Given as goal

abbrev pub invariant-loop-rank : goal.invariant-loop-rank
invariant-loop-rank l = AreMarked l.fn.marks.items l.marks.items (take l.rank l.own) l.told
