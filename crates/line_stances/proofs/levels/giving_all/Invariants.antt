use Rattle.std.proofs.Common.{◌≡◌, ◌++◌, drop}
use Rattle.line_stances.specs.Giving.{giving_all}
use Rattle.line_stances.proofs.levels.giving_all.Given as goal

abbrev pub invariant-loop-id : goal.invariant-loop-id
invariant-loop-id l = giving_all l.by l.fn.parent l.ids ≡ l.events.items ++ giving_all l.by l.above (drop l.id-index l.ids)
