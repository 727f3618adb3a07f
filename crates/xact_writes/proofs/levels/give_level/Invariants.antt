use Rattle.std.proofs.Common.{◌≡◌, []}
use Rattle.hall.specs.Calls.{view}
use Rattle.engine_parts.specs.Adding.{Adds, IsPlain}
use Rattle.engine_parts.specs.Calls.{MayStep}
use Rattle.engine_parts.specs.Sessions.{by_at}
use Rattle.engine_parts.specs.Steps.{WentOn}
use Rattle.xact_writes.proofs.levels.give_level.Given as goal

abbrev pub invariant-loop : goal.invariant-loop
invariant-loop g l =
    MayStep l.hall l.banks l.caller × WentOn l.initial.caller.number [] (view l.initial.caller.pass).seen (view l.caller.pass).seen × ((l.caller.session ≡ l.initial.caller.session) × (l.caller.number ≡ l.initial.caller.number))
    × Adds (by_at l.initial.caller.number l.initial.caller.session.levels.commands) IsPlain (view l.initial.caller.pass).seen (view l.caller.pass).seen
