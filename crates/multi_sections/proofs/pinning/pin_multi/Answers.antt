use Rattle.std.proofs.Common.{◌≡◌, Contains, List, refl, sym, ap, subst, ◌∙◌}
use Rattle.hall.specs.Calls.{view, start_of}
use Rattle.notes.specs.Lists.{at}
use Rattle.tx_events.specs.declared.event.By.{By}
use Rattle.tx_events.specs.declared.multi.MultiEvent.{MultiEvent}
use Rattle.tx_events.specs.declared.multi.MultiEvent.TheVariants as events
use Rattle.tx_events.specs.Multis.{InBase, MultiMayCome, multi_by, pins}
use Rattle.multi_store.specs.Generator.{Adds, Generator, IsHeld, IsNotHeld}
use Rattle.tx_core.specs.Locks.{multi_lock}
use Rattle.tx_core.specs.MultiEntries.{multi_history}
use Rattle.tx_core.specs.MultisLegal.{ToldOf}
use Rattle.engine_parts.specs.Faults.{look_of}
use Rattle.engine_parts.specs.Sessions.{by_at, look_by}
use Rattle.engine_parts.specs.Stand.{MultiStands}
use Rattle.engine_parts.proofs.Multing.{multi_looks}
use Rattle.engine_parts.proofs.Sectioning.{same_command, section_of}
use Rattle.multi_sections.specs.Steps.{entry_of}
use Rattle.multi_sections.specs.Pinnings.{IsNotPinned}
use Rattle.multi_sections.proofs.Answered.{is_pinned, is_seen, not_pinned, pinned_now}
use Rattle.multi_sections.proofs.Generating.{is_laid, looked_multi, multis_left, multis_looked, went_multi}
use Rattle.multi_sections.proofs.pinning.pin_multi.Goals as goal

pub leave_made-requires-clause-by : goal.leave_made-requires-clause-by
leave_made-requires-clause-by g c =
    let e = c.enter_multi-held.ensures in
    ap multi_by c.hold_note-event.ensures ∙ (c.command_of-by.ensures ∙ (λ j. by_at (sym e.same.1 j) (sym e.same.0 j).levels.commands))

pub leave_made-requires-clause-may : goal.leave_made-requires-clause-may
leave_made-requires-clause-may g c =
    let start = start_of c.args.hall.now in
    let u = view c.enter_multi-held.new.caller.pass in
    let pinned = c.in-Ok.pinned in
    let here : MultiStands start c.deref_mut-multis.result.now (at u.seen multi_lock) = subst (λ (l : Generator). MultiStands start l (at u.seen multi_lock)) (sym c.deref_mut-multis.ensures.value) c.enter_multi-held.ensures.stands in
    let is = subst (λ (l : Generator). IsHeld l c.hold.new.self c.command_of-by.result c.args.m.number pinned) (is_seen start u c.deref_mut-multis.result.now here) c.in-Ok.ensures in
    subst (MultiMayCome start.base (InBase start.base) (multi_history u.seen)) (sym c.hold_note-event.ensures) (is_pinned start.base (multi_history u.seen) c.hold.new.self c.command_of-by.result c.args.m.number pinned is).known

pub leave_made-requires-clause-told : goal.leave_made-requires-clause-told
leave_made-requires-clause-told g c = subst (ToldOf (start_of c.args.hall.now)) (sym c.hold_note-event.ensures) tt

pub leave_made-requires-clause-made : goal.leave_made-requires-clause-made
leave_made-requires-clause-made g c =
    let start = start_of c.args.hall.now in
    let u = view c.enter_multi-held.new.caller.pass in record {
      old = c.deref_mut-multis.result.now;
      stood = subst (λ (l : Generator). MultiStands start l (at u.seen multi_lock)) (sym c.deref_mut-multis.ensures.value) c.enter_multi-held.ensures.stands;
      adds = subst (λ (d : MultiEvent). Adds c.deref_mut-multis.result.now c.hold.new.self d) (sym c.hold_note-event.ensures) c.in-Ok.ensures.adds;
    }

pub returns-in-Ok-clause-section : goal.returns-in-Ok-clause-section
returns-in-Ok-clause-section g c =
    let old = c.args.caller.now in
    let pinned = c.in-Ok.pinned in
    section_of (start_of c.args.hall.now) (view old.pass) (view c.enter_multi-held.new.caller.pass) (view c.leave_made.new.caller.pass) multi_lock (entry_of c.hold_note-event.result.value) (entry_of (events.Hold (by_at old.number old.session.levels.commands) pinned.multi)) c.enter_multi-held.ensures.entered
    (ap entry_of (c.hold_note-event.ensures ∙ ap (λ (b : By). events.Hold b pinned.multi) c.command_of-by.ensures)) c.leave_made.ensures.left

pub returns-in-Ok-clause-pins : goal.returns-in-Ok-clause-pins
returns-in-Ok-clause-pins g c =
    let start = start_of c.args.hall.now in
    let old = c.args.caller.now in
    let v = view old.pass in
    let u = view c.enter_multi-held.new.caller.pass in
    let w = view c.leave_made.new.caller.pass in
    let pinned = c.in-Ok.pinned in
    let by = by_at old.number old.session.levels.commands in
    let event : MultiEvent = events.Hold by pinned.multi in
    let e = c.enter_multi-held.ensures in
    let same : c.hold_note-event.result.value ≡ event = c.hold_note-event.ensures ∙ ap (λ (b : By). events.Hold b pinned.multi) c.command_of-by.ensures in
    let left = rw same at c.leave_made.ensures.left in
    let here : MultiStands start c.deref_mut-multis.result.now (at u.seen multi_lock) = subst (λ (l : Generator). MultiStands start l (at u.seen multi_lock)) (sym c.deref_mut-multis.ensures.value) e.stands in
    let is = subst (λ (l : Generator). IsHeld l c.hold.new.self c.command_of-by.result c.args.m.number pinned) (is_seen start u c.deref_mut-multis.result.now here) c.in-Ok.ensures in (
      went_multi start v u w by old.session event c.requires.ready.at e.entered refl left,
      subst (λ (h : List MultiEvent). Contains (pins h) (old.number, pinned.multi)) (sym (multis_left start u w event (is_laid start v u old.number old.session c.requires.ready.at e.entered) left)) (pinned_now (multi_history u.seen) by pinned.multi),
      multi_history u.seen,
      record { split = multis_left start u w event (is_laid start v u old.number old.session c.requires.ready.at e.entered) left },
      is_pinned start.base (multi_history u.seen) c.hold.new.self c.command_of-by.result c.args.m.number pinned is,
    )

pub leave_looked-requires-clause-stands : goal.leave_looked-requires-clause-stands
leave_looked-requires-clause-stands g c =
    let start = start_of c.args.hall.now in
    let u = c.enter_multi-held.new.caller in
    let es = at (view u.pass).seen multi_lock in
    let here : MultiStands start c.deref_mut-multis.result.now es = subst (λ (l : Generator). MultiStands start l es) (sym c.deref_mut-multis.ensures.value) c.enter_multi-held.ensures.stands in
    (refl, multi_looks start c.hold.new.self es (by_at u.number u.session.levels.commands) (subst (λ (l : Generator). MultiStands start l es) (sym c.in-Err.ensures.0) here))

pub returns-in-Err-clause-section : goal.returns-in-Err-clause-section
returns-in-Err-clause-section g c =
    let e = c.enter_multi-held.ensures in
    let t = c.enter_multi-held.new.caller in
    let s = c.args.caller.now.session in
    let n = c.args.caller.now.number in
    section_of (start_of c.args.hall.now) (view c.args.caller.now.pass) (view t.pass) (view c.leave_looked.new.caller.pass) multi_lock (look_by t.number t.session) (look_by n s) e.entered (ap look_of (same_command n t.number s t.session e.same.1 e.same.0)) c.leave_looked.ensures.left

pub returns-in-Err-clause-pins : goal.returns-in-Err-clause-pins
returns-in-Err-clause-pins g c =
    let start = start_of c.args.hall.now in
    let old = c.args.caller.now in
    let v = view old.pass in
    let t = c.enter_multi-held.new.caller in
    let u = view t.pass in
    let w = view c.leave_looked.new.caller.pass in
    let e = c.enter_multi-held.ensures in
    let by = by_at t.number t.session.levels.commands in
    let here : MultiStands start c.deref_mut-multis.result.now (at u.seen multi_lock) = subst (λ (l : Generator). MultiStands start l (at u.seen multi_lock)) (sym c.deref_mut-multis.ensures.value) e.stands in
    let why = subst (λ (l : Generator). IsNotHeld l c.args.m.number c.in-Err.refusal) (is_seen start u c.deref_mut-multis.result.now here) c.in-Err.ensures.1 in
    let still = multis_looked start u w by (is_laid start v u old.number old.session c.requires.ready.at e.entered) c.leave_looked.ensures.left in (
      looked_multi start v u w old.number old.session by c.requires.ready.at e.entered c.leave_looked.ensures.left,
      subst (λ (h : List MultiEvent). IsNotPinned start.base h c.args.m.number c.in-Err.refusal) (sym still) (not_pinned start.base (multi_history u.seen) c.args.m.number c.in-Err.refusal why),
    )
