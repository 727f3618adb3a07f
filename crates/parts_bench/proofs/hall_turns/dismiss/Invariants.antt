use Rattle.std.proofs.Common.{◌≡◌, length}
use Rattle.std.specs.List.{All}
use Rattle.hall.specs.declared.view.Stage.TheVariants.{Free}
use Rattle.hall.specs.Calls.{view, IsOf, passes_of}
use Rattle.parts_bench.specs.Crew.{AllNames, IsFree, pass_of}
use Rattle.parts_bench.proofs.hall_turns.dismiss.Given as goal

abbrev pub invariant-loop-members : goal.invariant-loop-members
invariant-loop-members l = record {
  own : IsOf l.hall l.host;
  free : (view l.host).stage ≡ Free;
  names : AllNames pass_of (passes_of l.hall) (view l.host) l.members.items;
  each : All (IsFree l.hall) l.members.items;
}

abbrev pub decreases-loop-members : goal.decreases-loop-members
decreases-loop-members l = length l.members.items
