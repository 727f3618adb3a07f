use Rattle.std.proofs.Common.{ℕ, ◌<◌, [], Ok}
use Rattle.hall.specs.Calls.{start_of, view}
use Rattle.engine_parts.specs.Sessions.{by_at}
use Rattle.xact_freezes.specs.Trims.{AreCut, MayTrim}
use Rattle.xact_freezes.specs.Visits.{Visited}
use Rattle.xact_freezes.proofs.cutting.cut_all.Given as goal

abbrev pub invariant-loop-bank : goal.invariant-loop-bank
invariant-loop-bank g l = record {
  visited : Visited l.hall l.banks (MayTrim {T = Unit {0}} (Ok tt)) [] l.fn.caller l.caller;
  cut : (b : ℕ) → b < l.bank → AreCut (start_of l.hall) (view l.caller.pass).seen (by_at l.fn.caller.number l.fn.caller.session.levels.commands) l.found.oldest l.found.oldest_xmin l.multis.oldest_multi l.multis.oldest_offset b;
}
