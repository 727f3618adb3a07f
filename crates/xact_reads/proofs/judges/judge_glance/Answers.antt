use Rattle.std.proofs.Common.{Bool, Err, IfErr, IfOk, Result, Some, arith, inl, subst, sym, ◌≤◌}
use Rattle.hall.specs.Calls.{view, start_of}
use Rattle.tx_events.specs.declared.refusal.Refusal.{Refusal}
use Rattle.tx_model.specs.declared.reply.Verdict.{Verdict}
use Rattle.bank_sections.specs.Faults.{IsBankFault}
use Rattle.engine_parts.specs.Adding.{Adds, MayFault}
use Rattle.engine_parts.specs.Sessions.{by_at}
use Rattle.xact_reads.specs.Multis.{IsVerdictOn}
use Rattle.xact_reads.proofs.Aparting.{shown_apart}
use Rattle.xact_reads.proofs.Verdicts.{judged_adds, judged_fault, judged_said, verdict_shown}
use Rattle.xact_reads.proofs.judges.judge_glance.Goals as goal

pub returns-in-Ok-clause-said : goal.returns-in-Ok-clause-said
returns-in-Ok-clause-said g c told few k named =
    let start = start_of c.args.hall.now in
    let w = (view c.show.new.caller.pass).seen in
    let from = c.requires.from in
    let past = c.if-number-oldest.false in
    let value = c.number.ensures.value in
    let young : c.args.oldest ≤ c.args.glance.id = omega arith in
    subst (IsVerdictOn start w k.place (Some c.args.glance.id)) (sym c.verdict_on.ensures)
    (verdict_shown start w k.place c.args.glance.id c.in-Ok.shown (c.in-Ok.ensures.shown told few (omega (arith, from, young)) k named))

pub returns-in-Err-clause-adds : goal.returns-in-Err-clause-adds
returns-in-Err-clause-adds g c =
    let old = c.args.caller.now in
    subst (λ (z : Result Verdict Refusal). Adds (by_at old.number old.session.levels.commands) (MayFault z) (view old.pass).seen (view c.show.new.caller.pass).seen) (sym c.refused_on.ensures)
    (judged_adds (by_at old.number old.session.levels.commands) (view old.pass).seen (view c.show.new.caller.pass).seen c.in-Err.refusal c.in-Err.ensures.adds)

pub returns-in-Err-clause-said : goal.returns-in-Err-clause-said
returns-in-Err-clause-said g c told few k named =
    let old = c.args.caller.now in
    subst (λ (z : Result Verdict Refusal). IfOk z (IsVerdictOn (start_of c.args.hall.now) (view c.show.new.caller.pass).seen k.place (Some c.args.glance.id))) (sym c.refused_on.ensures)
    (judged_said (start_of c.args.hall.now) (view c.show.new.caller.pass).seen (by_at old.number old.session.levels.commands) k.place c.args.glance.id c.in-Err.refusal c.in-Err.ensures.unread)

pub returns-in-Err-clause-fault : goal.returns-in-Err-clause-fault
returns-in-Err-clause-fault g c =
    let old = c.args.caller.now in
    subst (λ (z : Result Verdict Refusal). IfErr z (IsBankFault (view c.show.new.caller.pass).seen (by_at old.number old.session.levels.commands))) (sym c.refused_on.ensures)
    (judged_fault (start_of c.args.hall.now) (view c.show.new.caller.pass).seen (by_at old.number old.session.levels.commands) c.args.glance.id c.in-Err.refusal c.in-Err.ensures.unread)

pub returns-in-Ok-clause-apart : goal.returns-in-Ok-clause-apart
returns-in-Ok-clause-apart g c = inl c.in-Ok.ensures.apart

pub returns-in-Err-clause-apart : goal.returns-in-Err-clause-apart
returns-in-Err-clause-apart g c =
    let old = c.args.caller.now in
    let r : Result Bool Refusal = Err c.in-Err.refusal in
    shown_apart (start_of c.args.hall.now) (by_at old.number old.session.levels.commands) (view old.pass).seen (view c.show.new.caller.pass).seen old.session.levels c.args.name.now c.args._x.number c.args.glance r c.requires.glanced c.in-Err.ensures.apart

pub show-requires-clause-glanced : goal.show-requires-clause-glanced
show-requires-clause-glanced g c = (c.args._x.number, c.requires.glanced)
