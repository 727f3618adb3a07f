use Rattle.std.proofs.Common.{◌∙◌, ap, arith}
use Rattle.history_check.specs.Replays.{Replayed}
use Rattle.history_check.proofs.TurnLemmas.{illegal_at, one_further}
use Rattle.history_check.proofs.legal.first_illegal.Goals as goal

pub returns-then-not-branch-clause-some : goal.returns-then-not-branch-clause-some
returns-then-not-branch-clause-some c =
    illegal_at c.args.base c.loop-place.replay.base c.args.events.now c.loop-place.replay.events c.loop-place.place c.index-events-place.result c.loop-place.invariant.sofar c.loop-place.invariant.base (omega arith) c.index-events-place.is c.events-legal.ensures.legal (c.in_ok-add.ensures.refused c.if-not-branch.true).0

pub loop-place-preserved : goal.loop-place-preserved
loop-place-preserved c =
    let added = (c.in_ok-add.ensures.added c.if-not-branch.false).1 in
    record {
      sofar = one_further c.args.events.now c.loop-place.replay.events c.add.new.self.events c.loop-place.place c.index-events-place.result c.loop-place.invariant.sofar (omega arith) c.index-events-place.is (ap (λ (r : Replayed). r.events) added);
      base = ap (λ (r : Replayed). r.base) added ∙ c.loop-place.invariant.base;
      sessions = ap (λ (r : Replayed). r.sessions) added ∙ c.loop-place.invariant.sessions;
    }
