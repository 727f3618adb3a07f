use Rattle.std.proofs.Common.{◌≡◌, ◌≤◌, [], IsTrue}
use Rattle.hall.specs.Calls.{view, IsOf, start_of}
use Rattle.engine_parts.specs.Adding.{Adds, IsPlain}
use Rattle.engine_parts.specs.Sessions.{IsReady, by_at}
use Rattle.engine_parts.specs.Steps.{WentOn}
use Rattle.xact_reads.specs.Apart.{StaysApart}
use Rattle.xact_reads.proofs.Climbing.{IsOnTheWay}
use Rattle.xact_reads.proofs.climbs.climb.Given as goal

abbrev pub invariant-loop-xmin : goal.invariant-loop-xmin
invariant-loop-xmin g l =
    IsOf l.hall l.caller.pass × IsReady (start_of l.hall) (view l.caller.pass) l.caller.number l.caller.session
    × WentOn l.fn.caller.number [] (view l.fn.caller.pass).seen (view l.caller.pass).seen
    × ((l.caller.session ≡ l.fn.caller.session) × (l.caller.number ≡ l.fn.caller.number)) × (l.top ≤ l.fn.x)
    × (IsTrue g.P.PageDisk.tells → IsOnTheWay (start_of l.hall) (view l.caller.pass).seen l.fn.x l.top)
    × Adds (by_at l.fn.caller.number l.fn.caller.session.levels.commands) IsPlain (view l.fn.caller.pass).seen (view l.caller.pass).seen
    × StaysApart l.fn.caller.number (view l.fn.caller.pass).seen (view l.caller.pass).seen

abbrev pub decreases-loop-xmin : goal.decreases-loop-xmin
decreases-loop-xmin g l = l.top
