use Rattle.std.proofs.Common.{◌≡◌, ◌≤◌, [], IsTrue}
use Rattle.hall.specs.Calls.{view, IsOf, start_of}
use Rattle.engine_parts.specs.Adding.{Adds, IsPlain}
use Rattle.engine_parts.specs.Sessions.{IsReady, by_at}
use Rattle.engine_parts.specs.Steps.{WentOn}
use Rattle.xact_reads.proofs.Ascending.{ComesTo}
use Rattle.xact_reads.proofs.dids.ancestors_did.Given as goal

abbrev pub invariant-loop-asked : goal.invariant-loop-asked
invariant-loop-asked g l =
    IsOf l.hall l.caller.pass × IsReady (start_of l.hall) (view l.caller.pass) l.caller.number l.caller.session
    × WentOn l.fn.caller.number [] (view l.fn.caller.pass).seen (view l.caller.pass).seen
    × ((l.caller.session ≡ l.fn.caller.session) × (l.caller.number ≡ l.fn.caller.number)) × (l.x ≤ l.fn.asked)
    × Adds (by_at l.fn.caller.number l.fn.caller.session.levels.commands) IsPlain (view l.fn.caller.pass).seen (view l.caller.pass).seen
    × (IsTrue g.P.PageDisk.tells → ComesTo (start_of l.hall) (view l.fn.caller.pass).seen (view l.caller.pass).seen l.fn.xmin l.fn.asked l.x)

abbrev pub decreases-loop-asked : goal.decreases-loop-asked
decreases-loop-asked g l = l.x
