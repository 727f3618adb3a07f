use Rattle.std.proofs.Common.{subst, sym, arith, refl, length}
use Rattle.std.specs.List.{All}
use Rattle.engine_host.specs.declared.cluster.Cluster.{Cluster}
use Rattle.engine_parts.specs.Calls.{MayRun}
use Rattle.session_run.specs.Rounds.{MayReturn}
use Rattle.session_run.proofs.Returning.{all_coming, last_of, one_back}
use Rattle.session_run.proofs.round.take_back.Goals as goal

pub loop-member-init : goal.loop-member-init
loop-member-init g c =
    all_coming c.args.hall.now c.args.host.now c.args.sessions.now c.args.members.now.items c.requires.host c.requires.names c.requires.may c.requires.apart c.requires.others

pub dismiss-session-requires-clause-caller : goal.dismiss-session-requires-clause-caller
dismiss-session-requires-clause-caller g c =
    let h = c.args.hall.now in
    let i = c.loop-member.invariant in
    let m = c.in-Some.member in
    let F = MayReturn h c.args.host.now.cluster.banks (length c.args.sessions.now) in
    let mine = last_of F c.pop.new.self.items m (subst (All F) c.in-Some.ensures.items i.may) in
    subst (λ (k : Cluster). MayRun h k.banks m.caller) (sym i.cluster) mine.may

pub bounds-sessions-number : goal.bounds-sessions-number
bounds-sessions-number g c =
    let h = c.args.hall.now in
    let i = c.loop-member.invariant in
    let m = c.in-Some.member in
    let F = MayReturn h c.args.host.now.cluster.banks (length c.args.sessions.now) in
    let mine = last_of F c.pop.new.self.items m (subst (All F) c.in-Some.ensures.items i.may) in
    let a = mine.known in let b = i.count in omega (arith, a, b)

pub loop-member-preserved : goal.loop-member-preserved
loop-member-preserved g c =
    let d = c.dismiss-session.ensures in
    one_back c.args.hall.now c.args.host.now c.args.sessions.now c.args.members.now.items c.loop-member.host c.dismiss-session.new.host
    c.loop-member.sessions _ c.loop-member.members.items c.pop.new.self.items c.in-Some.member c.dismiss-session.result
    c.in-Some.ensures.items c.loop-member.invariant d.host d.cluster d.joined d.names d.parked d.session d.stay refl

pub loop-member-preserved-in-Some : goal.loop-member-preserved-in-Some
loop-member-preserved-in-Some g c =
    let d = c.dismiss-session.ensures in
    one_back c.args.hall.now c.args.host.now c.args.sessions.now c.args.members.now.items c.loop-member.host c.dismiss-session.new.host
    c.loop-member.sessions _ c.loop-member.members.items c.pop.new.self.items c.in-Some.member c.dismiss-session.result
    c.in-Some.ensures.items c.loop-member.invariant d.host d.cluster d.joined d.names d.parked d.session d.stay refl
