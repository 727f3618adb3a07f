use Rattle.std.proofs.Common.{◌≡◌, ◌-◌, ◌≤◌, length}
use Rattle.hall.specs.Calls.{view, start_of}
use Rattle.engine_parts.specs.Adding.{IsPlain}
use Rattle.multi_makes.specs.Visits.{Visited}
use Rattle.multi_makes.proofs.Setting.{AreDoneUpto}
use Rattle.multi_makes.proofs.members.set_members.Given as goal

abbrev pub invariant-loop-done : goal.invariant-loop-done
invariant-loop-done g l = record {
  visited : Visited l.hall l.banks IsPlain l.fn.caller l.caller;
  session : l.caller.session ≡ l.fn.caller.session;
  within : l.done ≤ length l.members;
  slots : AreDoneUpto (start_of l.hall) (view l.caller.pass).seen l.offset l.members l.done;
}

abbrev pub decreases-loop-done : goal.decreases-loop-done
decreases-loop-done g l = length l.members - l.done
