use Rattle.std.proofs.Common.{◌≡◌, ℕ, ◌-◌, ◌≤◌, [], length}
use Rattle.hall.specs.Calls.{view, start_of}
use Rattle.engine_parts.specs.Calls.{MayStep}
use Rattle.engine_parts.specs.Steps.{GoesOn}
use Rattle.xact_ends.specs.Aborts.{AreAborted}
use Rattle.engine_parts.specs.Adding.{Adds, IsPlain}
use Rattle.engine_parts.specs.Sessions.{by_at}
use Rattle.xact_ends.proofs.aborting.set_aborted.Given as goal

abbrev pub invariant-loop-first : goal.invariant-loop-first
invariant-loop-first g l = record {
  step : MayStep l.hall l.banks l.caller;
  session : l.caller.session ≡ l.fn.caller.session;
  number : l.caller.number ≡ l.fn.caller.number;
  goes : GoesOn l.fn.caller.number [] (view l.fn.caller.pass).seen (view l.caller.pass).seen;
  within : l.first ≤ length l.fn.caller.session.levels.open_ids.items;
  set : AreAborted (start_of l.hall) (view l.caller.pass).seen l.fn.caller.session.levels.open_ids.items 0 l.first;
  adds : Adds (by_at l.fn.caller.number l.fn.caller.session.levels.commands) IsPlain (view l.fn.caller.pass).seen (view l.caller.pass).seen;
}

abbrev pub decreases-loop-first : goal.decreases-loop-first
decreases-loop-first g l = length l.fn.caller.session.levels.open_ids.items - l.first
