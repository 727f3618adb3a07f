use Rattle.std.proofs.Common.{◌≡◌, ◌⊎◌, ℕ, ◌+◌, ◌<◌, Contains, ap, subst, sym, ◌∙◌, arith, refl, get_or, length, false}
use Rattle.std.proofs.lemmas.List.{take_all}
use Rattle.std.proofs.lemmas.List.Elements.{All-get_or}
use Rattle.hall.specs.Calls.{view}
use Rattle.hall.specs.Rule.{Holds}
use Rattle.engine_host.specs.Hosts.{IsParked}
use Rattle.session_run.specs.declared.member.Member.{Member}
use Rattle.engine_parts.specs.declared.session.Session.{Session}
use Rattle.session_run.proofs.Letting.{AreIn, next_rests, one_more_in}
use Rattle.session_run.proofs.round.let_in.Goals as goal

pub admit-requires-clause-parked : goal.admit-requires-clause-parked
admit-requires-clause-parked g c =
    let h = c.args.hall.now in
    let i = c.loop-number.invariant.are_in in
    let k = c.loop-number.number-index in
    let ss = c.loop-number.sessions in
    let n = get_or c.args.numbers.now k 0 in
    let r = c.replace-session.result in
    let known : n < length c.args.sessions.now = All-get_or (λ j. j < length c.args.sessions.now) c.args.numbers.now k 0 c.loop-number-test.true c.requires.known in
    let here : r ≡ get_or ss n r = c.replace-session.ensures.value ∙ ap (λ (d : Session). get_or ss n d) (c.index-sessions-number.is ∙ sym c.replace-session.ensures.value) in
    let rests = next_rests g.K.LineKeeper h c.args.host.now c.args.sessions.now c.args.numbers.now k c.loop-number.host ss c.loop-number.members.items r c.requires.apart c.loop-number-test.true known i in
    subst (IsParked h c.loop-number.host n) (sym here) rests

pub loop-number-preserved : goal.loop-number-preserved
loop-number-preserved g c =
    let h = c.args.hall.now in
    let i = c.loop-number.invariant.are_in in
    let k = c.loop-number.number-index in
    let ss = c.loop-number.sessions in
    let n = get_or c.args.numbers.now k 0 in
    let r = c.replace-session.result in
    let known : n < length c.args.sessions.now = All-get_or (λ j. j < length c.args.sessions.now) c.args.numbers.now k 0 c.loop-number-test.true c.requires.known in
    let here : r ≡ get_or ss n r = c.replace-session.ensures.value ∙ ap (λ (d : Session). get_or ss n d) (c.index-sessions-number.is ∙ sym c.replace-session.ensures.value) in
    let a = c.admit.ensures in
    let m : Member _ _ _ _ _ = record { caller = c.admit.result; kept = c.none.result; lines = c.none-in-loop-number.result; lost = false } in
    record {
      are_in = subst (AreIn g.K.LineKeeper h c.args.host.now c.args.sessions.now c.args.numbers.now (k + 1) c.admit.new.host _) (sym c.push_reserved.ensures.items)
          (one_more_in g.K.LineKeeper h c.args.host.now c.args.sessions.now c.args.numbers.now k c.loop-number.host c.admit.new.host ss _ c.loop-number.members.items
          c.replace-session.new.dest r m c.requires.apart c.loop-number-test.true known i refl a.host a.cluster a.seen a.names a.stay
          a.number (a.session ∙ here) a.told a.caller c.none.ensures c.none-in-loop-number.ensures);
      room = (let w = c.loop-number.invariant.room in let e = c.push_reserved.ensures.capacity in omega (arith, w, e));
    }

pub returns-clause-names : goal.returns-clause-names
returns-clause-names g c =
    subst (λ t. (n : ℕ) → n < c.loop-number.host.cluster.sessions + 1 → Holds (view c.loop-number.host.pass) n ⊎ Contains t n)
    (take_all c.loop-number.number-index c.args.numbers.now c.loop-number-test.false) c.loop-number.invariant.are_in.names
