use Rattle.std.proofs.Common.{◌≡◌, ◌≤◌, length, vec_capacity}
use Rattle.std.specs.List.{All}
use Rattle.hall.specs.declared.view.Stage.TheVariants.{Free}
use Rattle.hall.specs.Calls.{view, IsOf, passes_of}
use Rattle.parts_bench.specs.Crew.{AllNames, IsFree, pass_of}
use Rattle.parts_bench.proofs.hall_turns.gather.Given as goal

abbrev pub invariant-loop-number : goal.invariant-loop-number
invariant-loop-number l = record {
  own : IsOf l.hall l.host;
  free : (view l.host).stage ≡ Free;
  few : length l.members.items ≤ l.number;
  room : l.count ≤ vec_capacity l.members;
  names : AllNames pass_of (passes_of l.hall) (view l.host) l.members.items;
  each : All (IsFree l.hall) l.members.items;
}
