use Rattle.std.proofs.Common.{◌+◌, take}
use Rattle.tx_events.specs.Multis.{pins}
use Rattle.multi_rules.specs.Limits.{AreLimitsBelow, IsTally}
use Rattle.multi_rules.proofs.limits.limits_along.Given as goal

abbrev pub invariant-loop-place : goal.invariant-loop-place
invariant-loop-place l = record {
  tally : IsTally (pins (take l.place l.places.events)) l.counts;
  limits : AreLimitsBelow l.places.base l.places.events (l.place + 1) l.limits.items;
}
