use Rattle.std.proofs.Common.{ℕ, List, ap, arith, refl, subst, sym, ◌∙◌}
use Rattle.hall.specs.Calls.{start_of, view}
use Rattle.hall.specs.Rule.{Holds}
use Rattle.hall.specs.Told.{Moment, asking, given}
use Rattle.hall.specs.declared.view.View.{View}
use Rattle.tx_core.specs.declared.entry.Entry.{Entry}
use Rattle.tx_core.specs.declared.entry.Start.{Start}
use Rattle.tx_core.specs.Entries.{session_of}
use Rattle.tx_core.specs.EngineInvariant.{EngineInvariant}
use Rattle.engine_parts.specs.Law.{writer_of}
use Rattle.engine_host.proofs.Hosting.{name_back, name_kept, name_taken}
use Rattle.engine_host.proofs.Parking.{parked_later}
use Rattle.engine_host.proofs.host.dismiss.Goals as goal

pub returns-clause-host : goal.returns-clause-host
returns-clause-host g c =
    let host = c.requires.host in
    record {
      own = c.join.ensures.own.0;
      free = ap (λ (u : View Start Entry). u.stage) c.join.ensures.view.view_is ∙ host.free;
      cluster = host.cluster;
      start = host.start;
      laid = host.laid;
      banks = host.banks;
      sessions = host.sessions;
      base = host.base;
      before = host.before;
      passes = host.passes;
      name = ap (λ (u : View Start Entry). u.name) c.join.ensures.view.view_is ∙ host.name;
    }

pub returns-clause-names : goal.returns-clause-names
returns-clause-names g c away has n inside =
    let host = view c.args.host.now.pass in
    let other = view c.args.caller.pass in
    name_back host other (view c.join.new.pass) c.args.caller.number n away (ap (λ (u : View Start Entry). u.holds) c.join.ensures.view.view_is)
    (subst (λ (m : ℕ). Holds other m) c.requires.caller.step.may.ready.at.name c.requires.caller.step.own.named) (has n inside)

pub returns-clause-parked : goal.returns-clause-parked
returns-clause-parked g c =
    let host = view c.args.host.now.pass in
    let caller = view c.args.caller.pass in
    let u = view c.join.new.pass in
    let n = c.args.caller.number in
    let joined = c.join.ensures.view in
    let step = c.requires.caller.step in
    let at = step.may.ready.at in
    let has : Holds caller n = subst (λ (m : ℕ). Holds caller m) at.name step.own.named in
    let other = subst (λ (seen : List (List Entry)). Moment session_of writer_of EngineInvariant (start_of c.args.hall.now) caller seen) (sym (ap (λ (z : View Start Entry). z.seen) joined.view_is)) joined.other in
    record {
      held = name_taken host caller u n (ap (λ (z : View Start Entry). z.holds) joined.view_is) has;
      below = omega (arith, at.known, c.requires.host.sessions);
      may = parked_later (start_of c.args.hall.now) caller u n c.args.caller.session other has caller at.name refl step.may.ready.free step.may;
      few = c.requires.caller.few;
    }

pub returns-clause-stay : goal.returns-clause-stay
returns-clause-stay g c n s differs parked =
    let host = view c.args.host.now.pass in
    let caller = view c.args.caller.pass in
    let u = view c.join.new.pass in
    let joined = c.join.ensures.view in
    let mine = subst (λ (seen : List (List Entry)). Moment session_of writer_of EngineInvariant (start_of c.args.hall.now) host seen) (sym (ap (λ (z : View Start Entry). z.seen) joined.view_is)) joined.moment in
    record {
      held = name_kept host caller u n (ap (λ (z : View Start Entry). z.holds) joined.view_is) parked.held;
      below = parked.below;
      may = parked_later (start_of c.args.hall.now) host u n s mine parked.held (given (asking n host)) refl refl refl parked.may;
      few = parked.few;
    }
