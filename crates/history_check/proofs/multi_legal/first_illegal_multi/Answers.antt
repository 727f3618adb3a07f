use Rattle.std.proofs.Common.{◌∙◌, arith}
use Rattle.history_check.proofs.MultiSteps.{illegal_at, one_further}
use Rattle.history_check.proofs.multi_legal.first_illegal_multi.Goals as goal

pub returns-then-not-branch-clause-some : goal.returns-then-not-branch-clause-some
returns-then-not-branch-clause-some c =
    illegal_at c.args.base c.loop-place.multis.base c.args.events.now c.loop-place.multis.events c.loop-place.place c.index-events-place.result c.loop-place.invariant.sofar c.loop-place.invariant.base (omega arith) c.index-events-place.is c.events-legal.ensures.legal (c.in_ok-add_multi.ensures.refused c.if-not-branch.true)

pub loop-place-preserved : goal.loop-place-preserved
loop-place-preserved c =
    let added = c.in_ok-add_multi.ensures.added c.if-not-branch.false in
    record {
      sofar = one_further c.args.events.now c.loop-place.multis.events c.add_multi.new.multis.events c.loop-place.place c.index-events-place.result c.loop-place.invariant.sofar (omega arith) c.index-events-place.is added.events;
      base = added.base ∙ c.loop-place.invariant.base;
    }
