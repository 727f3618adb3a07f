use Rattle.std.proofs.Common.{◌≡◌, ℕ, ◌≤◌, []}
use Rattle.hall.specs.Calls.{view}
use Rattle.engine_parts.specs.Calls.{MayStep}
use Rattle.engine_parts.specs.Steps.{GoesOn}
use Rattle.xact_ends.specs.Trees.{IsSettledTo}
use Rattle.engine_parts.specs.Adding.{Adds, IsPlain}
use Rattle.engine_parts.specs.Sessions.{by_at}
use Rattle.xact_ends.proofs.settling.set_tree.Given as goal

abbrev pub invariant-loop-k : goal.invariant-loop-k
invariant-loop-k g l = record {
  step : MayStep l.hall l.banks l.caller;
  settled : IsSettledTo l.fn.caller.session l.caller.session l.k;
  number : l.caller.number ≡ l.fn.caller.number;
  goes : GoesOn l.fn.caller.number [] (view l.fn.caller.pass).seen (view l.caller.pass).seen;
  from : l.fn.from ≤ l.k;
  adds : Adds (by_at l.fn.caller.number l.fn.caller.session.levels.commands) IsPlain (view l.fn.caller.pass).seen (view l.caller.pass).seen;
}
