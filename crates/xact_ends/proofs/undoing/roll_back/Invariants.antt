use Rattle.std.proofs.Common.{◌≡◌, ℕ, ◌-◌, ◌≤◌, [], length}
use Rattle.hall.specs.Calls.{view, IsOf, start_of}
use Rattle.engine_parts.specs.Sessions.{MayCall, by_at}
use Rattle.engine_parts.specs.Steps.{GoesOn}
use Rattle.xact_ends.specs.Aborts.{AreAborted}
use Rattle.engine_parts.specs.Adding.{Adds, IsPlain}
use Rattle.xact_ends.proofs.undoing.roll_back.Given as goal

abbrev pub invariant-loop-first : goal.invariant-loop-first
invariant-loop-first g l = record {
  own : IsOf l.hall l.caller.pass;
  may : MayCall (start_of l.hall) (view l.caller.pass) l.caller.number l.caller.session;
  session : l.caller.session ≡ l.fn.caller.session;
  number : l.caller.number ≡ l.fn.caller.number;
  goes : GoesOn l.fn.caller.number [] (view l.fn.caller.pass).seen (view l.caller.pass).seen;
  low : l.fn.from ≤ l.first;
  within : l.first ≤ length l.fn.caller.session.levels.open_ids.items;
  set : AreAborted (start_of l.hall) (view l.caller.pass).seen l.fn.caller.session.levels.open_ids.items l.fn.from l.first;
  adds : Adds (by_at l.fn.caller.number l.fn.caller.session.levels.commands) IsPlain (view l.fn.caller.pass).seen (view l.caller.pass).seen;
}

abbrev pub decreases-loop-first : goal.decreases-loop-first
decreases-loop-first g l = length l.fn.caller.session.levels.open_ids.items - l.first
