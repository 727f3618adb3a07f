use Rattle.std.proofs.Common.{take}
use Rattle.std.specs.Ordering.{nat_cmp}
use Rattle.record_rules.specs.Firsts.{HasKeys, announces}
use Rattle.record_rules.proofs.announced.ids_of.Given as goal

abbrev pub invariant-loop-event : goal.invariant-loop-event
invariant-loop-event l = HasKeys nat_cmp announces (take l.event-index l.events) l.ids
