use Rattle.std.proofs.Common.{ℕ, [], ◌∷◌, ◌++◌, ap, arith, refl, subst, sym, ◌∙◌}
use Rattle.hall.specs.Calls.{view, start_of}
use Rattle.notes.specs.Lists.{at}
use Rattle.tx_events.specs.declared.event.By.{By}
use Rattle.engine_parts.specs.Holds.{Leaves}
use Rattle.engine_parts.specs.Law.{MayKeep}
use Rattle.engine_parts.specs.Parts.{PartStands}
use Rattle.engine_parts.proofs.Leaving.{ready_quiet}
use Rattle.engine_parts.proofs.quiet.leave_quiet.Goals as goal

pub leave-requires-clause-session : goal.leave-requires-clause-session
leave-requires-clause-session g c = ap (λ (b : By). b.session) c.requires.by ∙ sym c.requires.at.name

pub leave-requires-clause-may : goal.leave-requires-clause-may
leave-requires-clause-may g c = subst (λ (z : ℕ). MayKeep (start_of c.args.hall.now) (view c.args.caller.now.pass).seen z c.args.entry.value) (sym c.requires.cell) c.requires.may

pub leave-requires-clause-stands : goal.leave-requires-clause-stands
leave-requires-clause-stands g c =
    subst (λ (z : ℕ). PartStands (start_of c.args.hall.now) z c.args.part (at (view c.args.caller.now.pass).seen z ++ c.args.entry.value ∷ [])) (sym c.requires.cell) c.requires.stands

pub returns-clause-ready : goal.returns-clause-ready
returns-clause-ready g c =
    let wide = c.requires.at.wide in
    let laid = c.requires.laid in
    let below = c.requires.lock in
    let l = subst (λ (z : ℕ). Leaves (start_of c.args.hall.now) z c.args.entry.value (view c.args.caller.now.pass) (view c.leave.new.pass)) c.requires.cell c.leave.ensures.left in
    ready_quiet (start_of c.args.hall.now) (view c.args.caller.now.pass) (view c.leave.new.pass) c.args.caller.now.number c.args.caller.now.number c.args._lock c.args.caller.now.session c.args.caller.now.session c.args.entry.value c.requires.at (omega arith) c.requires.by c.requires.quiet.0 c.requires.quiet.1 c.requires.quiet.2 refl refl l

pub returns-clause-left : goal.returns-clause-left
returns-clause-left g c = subst (λ (z : ℕ). Leaves (start_of c.args.hall.now) z c.args.entry.value (view c.args.caller.now.pass) (view c.leave.new.pass)) c.requires.cell c.leave.ensures.left
