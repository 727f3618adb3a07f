use Rattle.std.proofs.Common.{ℕ, ◌≡◌, ap, arith, subst, sym, ◌∙◌}
use Rattle.hall.specs.Calls.{start_of, view}
use Rattle.hall.specs.Rule.{Holds}
use Rattle.hall.specs.declared.view.View.{View}
use Rattle.tx_core.specs.declared.entry.Entry.{Entry}
use Rattle.tx_core.specs.declared.entry.Start.{Start}
use Rattle.engine_parts.specs.Holds.{Knowledge}
use Rattle.engine_parts.specs.Sessions.{MayCall}
use Rattle.engine_host.proofs.Hosting.{name_given, name_of_given, name_left}
use Rattle.engine_host.proofs.Parking.{parked_still}
use Rattle.engine_host.proofs.host.admit.Goals as goal

pub unreachable-requires : goal.unreachable-requires
unreachable-requires g c =
    let host = c.requires.host in
    let parked = c.requires.parked in
    c.in_default.ensures.none (parked.held, λ is. omega (arith, parked.below, is ∙ host.name))

pub returns-clause-caller : goal.returns-clause-caller
returns-clause-caller g c =
    let host = c.requires.host in
    let parked = c.requires.parked in
    let split = c.in-Some.ensures.view in
    record {
      step = record {
        own = split.0;
        laid = host.laid;
        each = (sym host.banks, host.cluster.banks.0, host.cluster.banks.1);
        may = subst (λ (u : Knowledge). MayCall (start_of c.args.hall.now) u c.args.number c.args.session) (sym split.2) parked.may;
      };
      few = parked.few;
    }

pub returns-clause-name : goal.returns-clause-name
returns-clause-name g c n =
    let split = c.in-Some.ensures.view in
    let pass = view c.in-Some.pass in
    let name : pass.name ≡ c.args.number = ap (λ (u : View Start Entry). u.name) split.2 in
    (name_of_given (view c.args.host.now.pass) pass c.args.number n split.2, λ is. subst (λ (m : ℕ). Holds pass m) (name ∙ sym is) split.0.named)

pub returns-clause-host : goal.returns-clause-host
returns-clause-host g c =
    let host = c.requires.host in
    let is = c.in-Some.ensures.view.1 in
    record {
      own = c.in-Some.ensures.own.0;
      free = ap (λ (u : View Start Entry). u.stage) is ∙ host.free;
      cluster = host.cluster;
      start = host.start;
      laid = host.laid;
      banks = host.banks;
      sessions = host.sessions;
      base = host.base;
      before = host.before;
      passes = host.passes;
      name = ap (λ (u : View Start Entry). u.name) is ∙ host.name;
    }

pub returns-clause-names : goal.returns-clause-names
returns-clause-names g c away has n inside = name_given (view c.args.host.now.pass) _ c.args.number n away c.in-Some.ensures.view.1 (has n inside)

pub returns-clause-stay : goal.returns-clause-stay
returns-clause-stay g c n s differs parked =
    let v = view c.args.host.now.pass in
    let w = view c.split.new.pass in
    let is = c.in-Some.ensures.view.1 in
    record {
      held = name_left v w c.args.number n is differs parked.held;
      below = parked.below;
      may = parked_still (start_of c.args.hall.now) v w n s (ap (λ (u : View Start Entry). u.seen) is) parked.may;
      few = parked.few;
    }
