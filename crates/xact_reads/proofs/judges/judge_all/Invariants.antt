use Rattle.std.proofs.Common.{length, [], take, vec_capacity, IsTrue, ◌-◌, ◌≡◌, ◌≤◌}
use Rattle.std.specs.List.{AllByRecursion, filter_map}
use Rattle.hall.specs.Calls.{view, IsOf, start_of}
use Rattle.life_law.specs.MultiReplies.{IsOfId}
use Rattle.tx_core.specs.Entries.{AreFewIds}
use Rattle.session_levels.specs.declared.session.RegisteredSnapshot.{RegisteredSnapshot}
use Rattle.engine_parts.specs.Adding.{Adds, IsPlain}
use Rattle.engine_parts.specs.Sessions.{IsReady, by_at}
use Rattle.engine_parts.specs.Steps.{WentOn}
use Rattle.xact_reads.specs.Apart.{ApartOrMet}
use Rattle.xact_reads.specs.Glances.{IsNamed}
use Rattle.xact_reads.specs.Multis.{AreJudged, IsCarried, IsStoredIn, pair_in}
use Rattle.xact_reads.proofs.judges.judge_all.Given as goal

abbrev pub invariant-loop-place : goal.invariant-loop-place
invariant-loop-place g l = record {
  own : IsOf l.hall l.caller.pass;
  ready : IsReady (start_of l.hall) (view l.caller.pass) l.caller.number l.caller.session;
  went : WentOn l.fn.caller.number [] (view l.fn.caller.pass).seen (view l.caller.pass).seen;
  same : (l.caller.session ≡ l.fn.caller.session) × (l.caller.number ≡ l.fn.caller.number);
  oldest : IsCarried (start_of l.hall) (view l.caller.pass).seen l.oldest;
  from : (start_of l.hall).base.oldest ≤ l.oldest;
  within : l.place ≤ length l.slots;
  room : 64 ≤ vec_capacity l.into;
  said : IsTrue g.P.PageDisk.tells → AreFewIds (view l.caller.pass).seen → length (filter_map pair_in l.slots) ≤ 64 → (k : RegisteredSnapshot) → IsNamed l.fn.caller.session.levels l.name k → AreJudged (start_of l.hall) (view l.caller.pass).seen k (filter_map pair_in (take l.place l.slots)) l.into.items;
  ranges : AllByRecursion IsOfId l.into.items;
  adds : Adds (by_at l.fn.caller.number l.fn.caller.session.levels.commands) IsPlain (view l.fn.caller.pass).seen (view l.caller.pass).seen;
  apart : ApartOrMet (start_of l.hall) (by_at l.fn.caller.number l.fn.caller.session.levels.commands) l.fn.caller.session.levels l.name (IsStoredIn l.slots) (view l.fn.caller.pass).seen (view l.caller.pass).seen;
}

abbrev pub decreases-loop-place : goal.decreases-loop-place
decreases-loop-place g l = length l.slots - l.place
