use Rattle.std.proofs.Common.{◌≡◌, ◌+◌, ◌≤◌, None}
use Rattle.std.specs.Vec.{vec_len, vec_capacity}
use Rattle.hall.specs.Calls.{view, start_of}
use Rattle.engine_parts.specs.Adding.{Adds, IsPlain}
use Rattle.engine_parts.specs.Calls.{MayStep}
use Rattle.engine_parts.specs.Sessions.{by_at}
use Rattle.xact_writes.specs.Writes.{Writing}
use Rattle.xact_writes.proofs.writes.name_levels.Given as goal

abbrev pub invariant-loop-caller : goal.invariant-loop-caller
invariant-loop-caller g l =
    MayStep l.hall l.banks l.caller
    × Writing (start_of l.hall) l.fn.caller.number l.fn.caller.session l.caller.session l.ids.items l.warn (view l.fn.caller.pass).seen (view l.caller.pass).seen
    × ((l.caller.number ≡ l.fn.caller.number) × (l.caller.session.unlinked ≡ None)) × (vec_len l.ids + l.caller.session.levels.unnamed ≤ vec_capacity l.ids)
    × Adds (by_at l.fn.caller.number l.fn.caller.session.levels.commands) IsPlain (view l.fn.caller.pass).seen (view l.caller.pass).seen

abbrev pub decreases-loop-caller : goal.decreases-loop-caller
decreases-loop-caller g l = l.caller.session.levels.unnamed
