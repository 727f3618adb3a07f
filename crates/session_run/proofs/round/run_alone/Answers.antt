use Rattle.std.proofs.Common.{◌≡◌, ◌<◌, ap, refl, subst, sym, ◌∙◌, false, get_or, length, length-set}
use Rattle.engine_host.specs.Hosts.{IsParked}
use Rattle.engine_parts.specs.declared.session.Session.{Session}
use Rattle.session_run.specs.declared.member.Member.{Member}
use Rattle.session_run.specs.Turns.{member_of}
use Rattle.session_run.proofs.Alone.{known_alone, let_one_in, none_lost, not_lost, one_may, taken_back, was_lost}
use Rattle.session_run.proofs.Rounding.{both_ok}
use Rattle.session_run.proofs.TurnLemmas.{Keeps}
use Rattle.session_run.proofs.round.run_alone.Goals as goal

pub admit-caller-requires-clause-parked : goal.admit-caller-requires-clause-parked
admit-caller-requires-clause-parked g c =
    let h = c.args.hall.now in
    let first = c.args.host.now in
    let start = c.args.sessions.now in
    let n = c.args.number in
    let r = c.replace-session.result in
    let here : r ≡ get_or start n r = c.replace-session.ensures.value ∙ ap (λ (d : Session). get_or start n d) (c.index-sessions-number.is ∙ sym c.replace-session.ensures.value) in
    subst (IsParked h first n) (sym here)
    (c.requires.parked n r (known_alone g.K.LineKeeper h first start c.args.plan.now c.args.round.now n c.requires.alone c.requires.plan.0 c.requires.plan.1))

pub run_session-ran-requires-clause-may : goal.run_session-ran-requires-clause-may
run_session-ran-requires-clause-may g c =
    let h = c.args.hall.now in
    let start = c.args.sessions.now in
    let n = c.args.number in
    let a = c.admit-caller.ensures in
    let r = c.replace-session.result in
    let here : r ≡ get_or start n r = c.replace-session.ensures.value ∙ ap (λ (d : Session). get_or start n d) (c.index-sessions-number.is ∙ sym c.replace-session.ensures.value) in
    let x : Member _ _ _ _ _ = record { caller = c.admit-caller.result; kept = g.K.LineKeeper.nothing; lines = c.none-lines.result; lost = false } in
    let is = let_one_in g.K.LineKeeper h c.args.host.now start c.args.plan.now c.args.round.now n c.requires.alone c.requires.plan.0 c.requires.plan.1
    c.admit-caller.new.host _ c.replace-session.new.dest r x c.requires.host c.requires.all c.requires.parked refl a.host a.cluster a.seen a.names a.stay
    a.number (a.session ∙ here) a.told a.caller refl c.none-lines.ensures in
    one_may g.K.LineKeeper h c.args.host.now start c.args.plan.now c.args.round.now n c.requires.alone c.requires.plan.0 c.requires.plan.1
    x c.args.kept.now is.sent c.requires.room

pub bounds-sessions-number-2 : goal.bounds-sessions-number-2
bounds-sessions-number-2 g c =
    let start = c.args.sessions.now in
    let n = c.args.number in
    subst (λ k. n < k) (sym (length-set start n c.replace-session.new.dest))
    (known_alone g.K.LineKeeper c.args.hall.now c.args.host.now start c.args.plan.now c.args.round.now n c.requires.alone c.requires.plan.0 c.requires.plan.1)

pub returns-clause-all : goal.returns-clause-all
returns-clause-all g c =
    let keep = g.K.LineKeeper in
    let kind = g.met.K.LineKeeper in
    let h = c.args.hall.now in
    let names = c.args.names.now in
    let start = c.args.sessions.now in
    let n = c.args.number in
    let a = c.admit-caller.ensures in
    let d = c.dismiss.ensures in
    let r = c.replace-session.result in
    let laws : Keeps keep names = record { none = kind.no_lines names; then = kind.then_lines names; join = kind.join_lines names } in
    let here : r ≡ get_or start n r = c.replace-session.ensures.value ∙ ap (λ (s : Session). get_or start n s) (c.index-sessions-number.is ∙ sym c.replace-session.ensures.value) in
    let x : Member _ _ _ _ _ = record { caller = c.admit-caller.result; kept = keep.nothing; lines = c.none-lines.result; lost = false } in
    let is = let_one_in keep h c.args.host.now start c.args.plan.now c.args.round.now n c.requires.alone c.requires.plan.0 c.requires.plan.1
    c.admit-caller.new.host _ c.replace-session.new.dest r x c.requires.host c.requires.all c.requires.parked refl a.host a.cluster a.seen a.names a.stay
    a.number (a.session ∙ here) a.told a.caller refl c.none-lines.ensures in
    let ran = c.run_session-ran.result in
    let r' : Member _ _ _ _ _ = member_of c.run_session-ran.new.caller c.run_session-ran.new.kept c.run_session-ran.new.lines in
    let gone = taken_back keep h c.args.host.now start c.args.plan.now c.args.round.now n c.requires.alone c.requires.plan.0 c.requires.plan.1
    names laws c.admit-caller.new.host _ x r' c.args.kept.now is refl _ (was_lost ran) (not_lost ran) c.run_session-ran.ensures
    c.dismiss.new.host _ c.dismiss.result d.host d.cluster d.joined d.names d.parked d.session d.stay refl in
    gone.all

pub returns-clause-parked : goal.returns-clause-parked
returns-clause-parked g c =
    let keep = g.K.LineKeeper in
    let kind = g.met.K.LineKeeper in
    let h = c.args.hall.now in
    let names = c.args.names.now in
    let start = c.args.sessions.now in
    let n = c.args.number in
    let a = c.admit-caller.ensures in
    let d = c.dismiss.ensures in
    let r = c.replace-session.result in
    let laws : Keeps keep names = record { none = kind.no_lines names; then = kind.then_lines names; join = kind.join_lines names } in
    let here : r ≡ get_or start n r = c.replace-session.ensures.value ∙ ap (λ (s : Session). get_or start n s) (c.index-sessions-number.is ∙ sym c.replace-session.ensures.value) in
    let x : Member _ _ _ _ _ = record { caller = c.admit-caller.result; kept = keep.nothing; lines = c.none-lines.result; lost = false } in
    let is = let_one_in keep h c.args.host.now start c.args.plan.now c.args.round.now n c.requires.alone c.requires.plan.0 c.requires.plan.1
    c.admit-caller.new.host _ c.replace-session.new.dest r x c.requires.host c.requires.all c.requires.parked refl a.host a.cluster a.seen a.names a.stay
    a.number (a.session ∙ here) a.told a.caller refl c.none-lines.ensures in
    let ran = c.run_session-ran.result in
    let r' : Member _ _ _ _ _ = member_of c.run_session-ran.new.caller c.run_session-ran.new.kept c.run_session-ran.new.lines in
    let gone = taken_back keep h c.args.host.now start c.args.plan.now c.args.round.now n c.requires.alone c.requires.plan.0 c.requires.plan.1
    names laws c.admit-caller.new.host _ x r' c.args.kept.now is refl _ (was_lost ran) (not_lost ran) c.run_session-ran.ensures
    c.dismiss.new.host _ c.dismiss.result d.host d.cluster d.joined d.names d.parked d.session d.stay refl in
    gone.parked

pub returns-clause-went : goal.returns-clause-went
returns-clause-went g c =
    let keep = g.K.LineKeeper in
    let kind = g.met.K.LineKeeper in
    let h = c.args.hall.now in
    let names = c.args.names.now in
    let start = c.args.sessions.now in
    let n = c.args.number in
    let a = c.admit-caller.ensures in
    let d = c.dismiss.ensures in
    let r = c.replace-session.result in
    let laws : Keeps keep names = record { none = kind.no_lines names; then = kind.then_lines names; join = kind.join_lines names } in
    let here : r ≡ get_or start n r = c.replace-session.ensures.value ∙ ap (λ (s : Session). get_or start n s) (c.index-sessions-number.is ∙ sym c.replace-session.ensures.value) in
    let x : Member _ _ _ _ _ = record { caller = c.admit-caller.result; kept = keep.nothing; lines = c.none-lines.result; lost = false } in
    let is = let_one_in keep h c.args.host.now start c.args.plan.now c.args.round.now n c.requires.alone c.requires.plan.0 c.requires.plan.1
    c.admit-caller.new.host _ c.replace-session.new.dest r x c.requires.host c.requires.all c.requires.parked refl a.host a.cluster a.seen a.names a.stay
    a.number (a.session ∙ here) a.told a.caller refl c.none-lines.ensures in
    let ran = c.run_session-ran.result in
    let r' : Member _ _ _ _ _ = member_of c.run_session-ran.new.caller c.run_session-ran.new.kept c.run_session-ran.new.lines in
    let gone = taken_back keep h c.args.host.now start c.args.plan.now c.args.round.now n c.requires.alone c.requires.plan.0 c.requires.plan.1
    names laws c.admit-caller.new.host _ x r' c.args.kept.now is refl _ (was_lost ran) (not_lost ran) c.run_session-ran.ensures
    c.dismiss.new.host _ c.dismiss.result d.host d.cluster d.joined d.names d.parked d.session d.stay refl in
    both_ok (was_lost ran ≡ false) (was_lost ran ≡ false) _ ran (λ so _. gone.went so) (none_lost ran) (none_lost ran)
