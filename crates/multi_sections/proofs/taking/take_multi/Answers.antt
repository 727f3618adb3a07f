use Rattle.std.proofs.Common.{◌≡◌, List, length, refl, sym, ap, subst, ◌∙◌, arith}
use Rattle.hall.specs.Calls.{view, start_of}
use Rattle.notes.specs.Lists.{at}
use Rattle.tx_events.specs.declared.event.By.{By}
use Rattle.tx_events.specs.declared.multi.MultiEvent.{MultiEvent}
use Rattle.tx_events.specs.declared.multi.MultiEvent.TheVariants as events
use Rattle.tx_events.specs.Multis.{multi_by}
use Rattle.multi_store.specs.Generator.{Adds, Generator, IsGiven, IsNotGiven}
use Rattle.tx_core.specs.Entries.{history}
use Rattle.tx_core.specs.Locks.{multi_lock}
use Rattle.tx_core.proofs.Lasting.{history_grows}
use Rattle.tx_core.proofs.Rising.{given_more}
use Rattle.tx_core.specs.MultiEntries.{multi_history}
use Rattle.engine_parts.specs.Faults.{look_of}
use Rattle.engine_parts.specs.Sessions.{by_at, look_by}
use Rattle.engine_parts.specs.Stand.{MultiStands}
use Rattle.engine_parts.proofs.Multing.{multi_looks}
use Rattle.engine_parts.proofs.Sectioning.{same_command, section_of}
use Rattle.multi_sections.specs.Steps.{entry_of}
use Rattle.multi_sections.specs.Takings.{IsNotTaken}
use Rattle.multi_sections.proofs.Answered.{given_next, is_seen, is_taken, not_taken}
use Rattle.multi_sections.proofs.Generating.{is_laid, looked_multi, multis_left, multis_looked, went_multi}
use Rattle.multi_sections.proofs.taking.take_multi.Goals as goal

pub leave_given-requires-clause-by : goal.leave_given-requires-clause-by
leave_given-requires-clause-by g c =
    let e = c.enter_multi-held.ensures in
    ap multi_by c.gen_note-event.ensures ∙ (c.command_of-by.ensures ∙ (λ j. by_at (sym e.same.1 j) (sym e.same.0 j).levels.commands))

pub leave_given-requires-clause-next : goal.leave_given-requires-clause-next
leave_given-requires-clause-next g c =
    let start = start_of c.args.hall.now in
    let u = view c.enter_multi-held.new.caller.pass in
    let given = c.in-Ok.given in
    let here : MultiStands start c.deref_mut-multis.result.now (at u.seen multi_lock) = subst (λ (l : Generator). MultiStands start l (at u.seen multi_lock)) (sym c.deref_mut-multis.ensures.value) c.enter_multi-held.ensures.stands in
    let is = subst (λ (l : Generator). IsGiven l c.next.new.self c.command_of-by.result c.args.members given) (is_seen start u c.deref_mut-multis.result.now here) c.in-Ok.ensures in
    given_next start.base (multi_history u.seen) c.next.new.self c.command_of-by.result c.args.members given c.requires.members is

pub leave_given-requires-clause-before : goal.leave_given-requires-clause-before
leave_given-requires-clause-before g c = λ id k.
    let start = start_of c.args.hall.now in
    let v = view c.args.caller.now.pass in
    let u = view c.enter_multi-held.new.caller.pass in
    let b = c.requires.before id k in
    let up = given_more start.base (history v.seen) (history u.seen) (history_grows v.seen u.seen c.enter_multi-held.ensures.entered.learns.knows.grows) in
    omega (arith, b, up)

pub leave_given-requires-clause-made : goal.leave_given-requires-clause-made
leave_given-requires-clause-made g c =
    let start = start_of c.args.hall.now in
    let u = view c.enter_multi-held.new.caller.pass in record {
      old = c.deref_mut-multis.result.now;
      stood = subst (λ (l : Generator). MultiStands start l (at u.seen multi_lock)) (sym c.deref_mut-multis.ensures.value) c.enter_multi-held.ensures.stands;
      adds = subst (λ (d : MultiEvent). Adds c.deref_mut-multis.result.now c.next.new.self d) (sym c.gen_note-event.ensures) c.in-Ok.ensures.adds;
    }

pub returns-in-Ok-clause-section : goal.returns-in-Ok-clause-section
returns-in-Ok-clause-section g c =
    let old = c.args.caller.now in
    let given = c.in-Ok.given in
    section_of (start_of c.args.hall.now) (view old.pass) (view c.enter_multi-held.new.caller.pass) (view c.leave_given.new.caller.pass) multi_lock (entry_of c.gen_note-event.result.value) (entry_of (events.Gen (by_at old.number old.session.levels.commands) given.multi given.offset c.args.members)) c.enter_multi-held.ensures.entered
    (ap entry_of (c.gen_note-event.ensures ∙ ap (λ (b : By). events.Gen b given.multi given.offset c.args.members) c.command_of-by.ensures)) c.leave_given.ensures.left

pub returns-in-Ok-clause-takes : goal.returns-in-Ok-clause-takes
returns-in-Ok-clause-takes g c =
    let start = start_of c.args.hall.now in
    let old = c.args.caller.now in
    let v = view old.pass in
    let u = view c.enter_multi-held.new.caller.pass in
    let w = view c.leave_given.new.caller.pass in
    let given = c.in-Ok.given in
    let by = by_at old.number old.session.levels.commands in
    let event : MultiEvent = events.Gen by given.multi given.offset c.args.members in
    let e = c.enter_multi-held.ensures in
    let same : c.gen_note-event.result.value ≡ event = c.gen_note-event.ensures ∙ ap (λ (b : By). events.Gen b given.multi given.offset c.args.members) c.command_of-by.ensures in
    let left = rw same at c.leave_given.ensures.left in
    let here : MultiStands start c.deref_mut-multis.result.now (at u.seen multi_lock) = subst (λ (l : Generator). MultiStands start l (at u.seen multi_lock)) (sym c.deref_mut-multis.ensures.value) e.stands in
    let is = subst (λ (l : Generator). IsGiven l c.next.new.self c.command_of-by.result c.args.members given) (is_seen start u c.deref_mut-multis.result.now here) c.in-Ok.ensures in (
      went_multi start v u w by old.session event c.requires.ready.at e.entered refl left,
      multi_history u.seen,
      record { split = multis_left start u w event (is_laid start v u old.number old.session c.requires.ready.at e.entered) left },
      is_taken start.base (multi_history u.seen) c.next.new.self c.command_of-by.result c.args.members given c.requires.members is,
    )

pub leave_looked-requires-clause-stands : goal.leave_looked-requires-clause-stands
leave_looked-requires-clause-stands g c =
    let start = start_of c.args.hall.now in
    let u = c.enter_multi-held.new.caller in
    let es = at (view u.pass).seen multi_lock in
    let here : MultiStands start c.deref_mut-multis.result.now es = subst (λ (l : Generator). MultiStands start l es) (sym c.deref_mut-multis.ensures.value) c.enter_multi-held.ensures.stands in
    (refl, multi_looks start c.next.new.self es (by_at u.number u.session.levels.commands) (subst (λ (l : Generator). MultiStands start l es) (sym c.in-Err.ensures.0) here))

pub returns-in-Err-clause-section : goal.returns-in-Err-clause-section
returns-in-Err-clause-section g c =
    let e = c.enter_multi-held.ensures in
    let t = c.enter_multi-held.new.caller in
    let s = c.args.caller.now.session in
    let n = c.args.caller.now.number in
    section_of (start_of c.args.hall.now) (view c.args.caller.now.pass) (view t.pass) (view c.leave_looked.new.caller.pass) multi_lock (look_by t.number t.session) (look_by n s) e.entered (ap look_of (same_command n t.number s t.session e.same.1 e.same.0)) c.leave_looked.ensures.left

pub returns-in-Err-clause-takes : goal.returns-in-Err-clause-takes
returns-in-Err-clause-takes g c =
    let start = start_of c.args.hall.now in
    let old = c.args.caller.now in
    let v = view old.pass in
    let t = c.enter_multi-held.new.caller in
    let u = view t.pass in
    let w = view c.leave_looked.new.caller.pass in
    let e = c.enter_multi-held.ensures in
    let by = by_at t.number t.session.levels.commands in
    let here : MultiStands start c.deref_mut-multis.result.now (at u.seen multi_lock) = subst (λ (l : Generator). MultiStands start l (at u.seen multi_lock)) (sym c.deref_mut-multis.ensures.value) e.stands in
    let why = subst (λ (l : Generator). IsNotGiven l c.args.members c.in-Err.refusal) (is_seen start u c.deref_mut-multis.result.now here) c.in-Err.ensures.1 in
    let still = multis_looked start u w by (is_laid start v u old.number old.session c.requires.ready.at e.entered) c.leave_looked.ensures.left in (
      looked_multi start v u w old.number old.session by c.requires.ready.at e.entered c.leave_looked.ensures.left,
      subst (λ (h : List MultiEvent). IsNotTaken start.base h (length c.args.members) c.in-Err.refusal) (sym still) (not_taken start.base (multi_history u.seen) c.args.members c.in-Err.refusal why),
    )
