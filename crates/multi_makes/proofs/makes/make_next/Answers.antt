use Rattle.std.proofs.Common.{◌≡◌, ℕ, None, inl, sym, subst, ◌∙◌}
use Rattle.hall.specs.Calls.{view, start_of}
use Rattle.engine_parts.specs.declared.session.Session.{Session}
use Rattle.engine_parts.specs.Adding.{IsOfMulti, IsToldBy, MayAdd}
use Rattle.engine_parts.specs.Sessions.{by_at}
use Rattle.log_sections.proofs.Rooms.{met_for_then}
use Rattle.multi_makes.specs.Makes.{MakesNew}
use Rattle.multi_makes.specs.Pending.{IsPending}
use Rattle.multi_makes.proofs.Announcing.{told_wider}
use Rattle.multi_makes.proofs.Going.{both_add, command_kept}
use Rattle.multi_makes.proofs.Outcomes.{next_of}
use Rattle.multi_makes.proofs.makes.make_next.Goals as goal

pub returns-in-Ok-clause-adds : goal.returns-in-Ok-clause-adds
returns-in-Ok-clause-adds g c =
    let old = c.args.caller.now in
    let t = c.finish.new.caller in
    let x = c.make_new.new.caller in
    let f = c.in-Ok.ensures in
    let r = c.make_new.result in
    let same : t.session ≡ record old.session { making = t.session.making } = f.finishes.0 ∙ (λ j. record old.session { making = (sym f.finishes.0 j).making }) in
    both_add (by_at old.number old.session.levels.commands) (by_at t.number t.session.levels.commands) (MayAdd IsOfMulti ⊥ (λ q. ⊥)) (MayAdd IsOfMulti ⊥ (IsToldBy r)) (MayAdd IsOfMulti ⊥ (IsToldBy r)) (view old.pass).seen (view t.pass).seen (view x.pass).seen
    (command_kept old.number t.number old.session t.session f.visited.number same) (told_wider r) (λ lock kind m. m) f.visited.adds c.make_new.ensures.adds

pub returns-in-Ok-clause-makes : goal.returns-in-Ok-clause-makes
returns-in-Ok-clause-makes g c =
    let start = start_of c.args.hall.now in
    let old = c.args.caller.now in
    let t = c.finish.new.caller in
    let x = c.make_new.new.caller in
    let f = c.in-Ok.ensures in
    let same : (t.number, t.session) ≡ (old.number, record old.session { making = None }) = λ j. (f.visited.number j, f.finishes.0 j) in
    next_of start old.number old.session x.session c.args.pairs.now (view old.pass).seen (view t.pass).seen (view x.pass).seen f.visited.went c.make_new.result
    (subst (λ (z : ℕ × Session). MakesNew start z.0 z.1 x.session c.args.pairs.now (view t.pass).seen (view x.pass).seen c.make_new.result) same c.make_new.ensures.makes)

pub returns-in-Err-clause-makes : goal.returns-in-Err-clause-makes
returns-in-Err-clause-makes g c =
    let f = c.in-Err.ensures in
    inl (record { went = f.visited.went; old = f.finishes.1; new = f.finishes.2; stops = f.finishes.3 })

pub returns-in-Ok-clause-full : goal.returns-in-Ok-clause-full
returns-in-Ok-clause-full g c =
    let old = c.args.caller.now in
    let t = c.finish.new.caller in
    let x = c.make_new.new.caller in
    let f = c.in-Ok.ensures in
    let same : t.session ≡ record old.session { making = t.session.making } = f.finishes.0 ∙ (λ j. record old.session { making = (sym f.finishes.0 j).making }) in
    met_for_then (start_of c.args.hall.now) (view x.pass).seen (by_at t.number t.session.levels.commands) (by_at old.number old.session.levels.commands) (IsPending x.session.making) (IsPending x.session.making) c.make_new.result
    (command_kept old.number t.number old.session t.session f.visited.number same) (λ z of. of) c.make_new.ensures.full
