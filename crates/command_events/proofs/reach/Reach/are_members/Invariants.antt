use Rattle.std.proofs.Common.{◌≡◌, ◌↔◌, drop, length}
use Rattle.std.specs.List.{AllZip}
use Rattle.command_events.specs.Reached.{IsMember}
use Rattle.command_events.proofs.reach.Reach.are_members.Given as goal

abbrev pub invariant-loop-place : goal.invariant-loop-place
invariant-loop-place l = record {
  rest : AllZip (IsMember l.self) l.pairs l.members ↔ AllZip (IsMember l.self) (drop l.place l.pairs) (drop l.place l.members);
  same : length l.pairs ≡ length l.members;
}
