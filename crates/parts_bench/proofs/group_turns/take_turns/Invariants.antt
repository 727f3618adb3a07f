use Rattle.parts_bench.specs.Turns.{IsReady, JoinedMore}
use Rattle.parts_bench.proofs.group_turns.take_turns.Given as goal

abbrev pub invariant-loop : goal.invariant-loop
invariant-loop g l = IsReady l.list l.player × JoinedMore l.counter l.initial.player.member l.player.member
