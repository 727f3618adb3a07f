use Rattle.std.proofs.Common.{take}
use Rattle.record_rules.specs.Firsts.{HasKeys, raises, start_cmp}
use Rattle.record_rules.proofs.announced.starts_of.Given as goal

abbrev pub invariant-loop-event : goal.invariant-loop-event
invariant-loop-event l = HasKeys start_cmp raises (take l.event-index l.events) l.starts
