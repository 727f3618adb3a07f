use Rattle.std.proofs.Common.{◌↔◌, drop}
use Rattle.std.specs.List.{AllByRecursion}
use Rattle.command_events.specs.Reached.{MayBeMember}
use Rattle.command_events.proofs.reach.Reach.may_be_members.Given as goal

abbrev pub invariant-loop-pair : goal.invariant-loop-pair
invariant-loop-pair l = AllByRecursion (MayBeMember l.self) l.pairs ↔ AllByRecursion (MayBeMember l.self) (drop l.pair-index l.pairs)
