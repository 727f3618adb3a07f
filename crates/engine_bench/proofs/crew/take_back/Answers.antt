use Rattle.engine_bench.proofs.Crewing.{last_may, one_back}
use Rattle.engine_bench.proofs.crew.take_back.Goals as goal

pub dismiss-requires-clause-caller : goal.dismiss-requires-clause-caller
dismiss-requires-clause-caller g c =
    last_may c.args.hall.now c.args.host.now c.loop-member.host c.loop-member.members.items c.pop.new.self.items c.in-Some.member
    c.in-Some.ensures.items c.loop-member.invariant

pub loop-member-preserved-in-Some : goal.loop-member-preserved-in-Some
loop-member-preserved-in-Some g c =
    let d = c.dismiss.ensures in
    one_back c.args.hall.now c.args.host.now c.loop-member.host c.dismiss.new.host c.loop-member.members.items c.pop.new.self.items c.in-Some.member
    c.in-Some.ensures.items c.loop-member.invariant d.host d.cluster d.names

pub loop-member-preserved : goal.loop-member-preserved
loop-member-preserved g c =
    let d = c.dismiss.ensures in
    one_back c.args.hall.now c.args.host.now c.loop-member.host c.dismiss.new.host c.loop-member.members.items c.pop.new.self.items c.in-Some.member
    c.in-Some.ensures.items c.loop-member.invariant d.host d.cluster d.names
