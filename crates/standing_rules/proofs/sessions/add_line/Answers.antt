use Rattle.std.proofs.Common.{sym, subst}
use Rattle.std.proofs.lemmas.Result.{on_ok_weaker}
use Rattle.standing_rules.specs.declared.sessions.Session.{Session}
use Rattle.standing_rules.specs.Sessions.{IsBehind, with_line}
use Rattle.standing_rules.proofs.Behind.{all_behind}
use Rattle.standing_rules.proofs.sessions.add_line.Goals as goal

pub returns : goal.returns
returns g c =
    let all = c.args.sessions.now.items in
    let line = c.args.line.now in
    let q = c.requires in
    let here : IsBehind g.v line.by.session c.index_mut.result.now =
    subst (λ (s : Session). IsBehind g.v line.by.session s) (sym c.index_mut.ensures.value) (q.1.1.1.each line.by.session q.0 c.index_mut.result.now) in
    on_ok_weaker c.add_to.result
    (λ (b : IsBehind (with_line g.v line) line.by.session c.add_to.new.session).
    all_behind g.v line all c.add_to.new.session q.0 q.1.1.1 b)
    (c.add_to.ensures g.v q.1.0 q.1.1.0 here)
