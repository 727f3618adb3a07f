use Rattle.std.proofs.Common.{◌+◌, arith, subst, sym}
use Rattle.engine_bench.specs.declared.crew.Member.{Member}
use Rattle.engine_bench.proofs.Crewing.{AreIn, none_in, one_more_in}
use Rattle.engine_bench.proofs.crew.let_in.Goals as goal

pub admit-requires-clause-parked : goal.admit-requires-clause-parked
admit-requires-clause-parked g c =
    c.loop-number.invariant.are_in.parked c.loop-number.number c.new_session.result (omega arith) c.loop-number-test.true c.new_session.ensures

pub loop-number-preserved : goal.loop-number-preserved
loop-number-preserved g c =
    let h = c.args.hall.now in
    let a = c.admit.ensures in
    let m : Member _ _ _ _ = record { caller = c.admit.result; done = 0 } in
    record {
      are_in = subst (AreIn h c.args.host.now (c.loop-number.number + 1) c.admit.new.host) (sym c.push_reserved.ensures.items)
          (one_more_in h c.args.host.now c.loop-number.number c.loop-number.host c.admit.new.host c.loop-number.members.items m
          c.loop-number.invariant.are_in a.host a.cluster a.names a.stay a.number a.caller);
      room = (let w = c.loop-number.invariant.room in let e = c.push_reserved.ensures.capacity in omega (arith, w, e));
    }

pub loop-number-init : goal.loop-number-init
loop-number-init g c = record {
  are_in = none_in c.args.hall.now c.args.host.now c.args.members.now.items c.requires.host c.requires.names c.requires.parked c.requires.none;
  room = c.requires.room;
}
