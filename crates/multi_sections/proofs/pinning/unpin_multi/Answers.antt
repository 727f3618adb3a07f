use Rattle.std.proofs.Common.{◌≡◌, Contains, List, ℕ, refl, sym, ap, subst, ◌∙◌}
use Rattle.hall.specs.Calls.{view, start_of}
use Rattle.notes.specs.Lists.{Knows, at}
use Rattle.tx_events.specs.declared.event.By.{By}
use Rattle.tx_events.specs.declared.multi.MultiEvent.{MultiEvent}
use Rattle.tx_events.specs.declared.multi.MultiEvent.TheVariants as events
use Rattle.tx_events.specs.Multis.{InBase, MultiMayCome, multi_by, pins}
use Rattle.multi_store.specs.Generator.{Adds, Generator}
use Rattle.tx_core.specs.Entries.{session_of}
use Rattle.tx_core.specs.Locks.{multi_lock}
use Rattle.tx_core.specs.MultiEntries.{multi_history}
use Rattle.tx_core.specs.MultisLegal.{ToldOf}
use Rattle.engine_parts.specs.Sessions.{by_at}
use Rattle.engine_parts.specs.Stand.{MultiStands}
use Rattle.engine_parts.proofs.Sectioning.{section_of}
use Rattle.tx_core.proofs.OwnMultis.{pins_stay}
use Rattle.multi_sections.specs.Steps.{entry_of}
use Rattle.multi_sections.proofs.Generating.{went_multi}
use Rattle.multi_sections.proofs.pinning.unpin_multi.Goals as goal

-- the pin is still there inside the lock
pub unhold-requires : goal.unhold-requires
unhold-requires g c =
    let start = start_of c.args.hall.now in
    let old = c.args.caller.now in
    let v = view old.pass in
    let u = view c.enter_multi-held.new.caller.pass in
    let e = c.enter_multi-held.ensures in
    let here : MultiStands start c.deref_mut-multis.result.now (at u.seen multi_lock) = subst (λ (l : Generator). MultiStands start l (at u.seen multi_lock)) (sym c.deref_mut-multis.ensures.value) e.stands in
    let knows : Knows session_of old.number v.seen u.seen = subst (λ (z : ℕ). Knows session_of z v.seen u.seen) c.requires.ready.at.name e.entered.learns.knows in
    let pinned : Contains (pins (multi_history u.seen)) (old.number, c.args.multi) = pins_stay start old.number c.args.multi v.seen u.seen e.entered.kept knows c.requires.pinned in
    subst (λ (by : By). Contains (pins c.deref_mut-multis.result.now.events) (by.session, c.args.multi)) (sym c.command_of-by.ensures) (subst (λ (h : List MultiEvent). Contains (pins h) (old.number, c.args.multi)) (sym here.events) pinned)

pub leave_made-requires-clause-by : goal.leave_made-requires-clause-by
leave_made-requires-clause-by g c =
    let e = c.enter_multi-held.ensures in
    ap multi_by c.unhold_note-event.ensures ∙ (c.command_of-by.ensures ∙ (λ j. by_at (sym e.same.1 j) (sym e.same.0 j).levels.commands))

pub leave_made-requires-clause-may : goal.leave_made-requires-clause-may
leave_made-requires-clause-may g c =
    let start = start_of c.args.hall.now in
    let old = c.args.caller.now in
    let v = view old.pass in
    let u = view c.enter_multi-held.new.caller.pass in
    let e = c.enter_multi-held.ensures in
    let knows : Knows session_of old.number v.seen u.seen = subst (λ (z : ℕ). Knows session_of z v.seen u.seen) c.requires.ready.at.name e.entered.learns.knows in
    let pinned : Contains (pins (multi_history u.seen)) (old.number, c.args.multi) = pins_stay start old.number c.args.multi v.seen u.seen e.entered.kept knows c.requires.pinned in
    subst (MultiMayCome start.base (InBase start.base) (multi_history u.seen)) (sym (c.unhold_note-event.ensures ∙ ap (λ (b : By). events.Unhold b c.args.multi) c.command_of-by.ensures)) pinned

pub leave_made-requires-clause-told : goal.leave_made-requires-clause-told
leave_made-requires-clause-told g c = subst (ToldOf (start_of c.args.hall.now)) (sym c.unhold_note-event.ensures) tt

pub leave_made-requires-clause-made : goal.leave_made-requires-clause-made
leave_made-requires-clause-made g c =
    let start = start_of c.args.hall.now in
    let u = view c.enter_multi-held.new.caller.pass in record {
      old = c.deref_mut-multis.result.now;
      stood = subst (λ (l : Generator). MultiStands start l (at u.seen multi_lock)) (sym c.deref_mut-multis.ensures.value) c.enter_multi-held.ensures.stands;
      adds = subst (λ (d : MultiEvent). Adds c.deref_mut-multis.result.now c.unhold.new.self d) (sym c.unhold_note-event.ensures) c.unhold.ensures;
    }

pub returns-clause-section : goal.returns-clause-section
returns-clause-section g c =
    let old = c.args.caller.now in
    section_of (start_of c.args.hall.now) (view old.pass) (view c.enter_multi-held.new.caller.pass) (view c.leave_made.new.caller.pass) multi_lock (entry_of c.unhold_note-event.result.value) (entry_of (events.Unhold (by_at old.number old.session.levels.commands) c.args.multi)) c.enter_multi-held.ensures.entered
    (ap entry_of (c.unhold_note-event.ensures ∙ ap (λ (b : By). events.Unhold b c.args.multi) c.command_of-by.ensures)) c.leave_made.ensures.left

pub returns-clause-went : goal.returns-clause-went
returns-clause-went g c =
    let start = start_of c.args.hall.now in
    let old = c.args.caller.now in
    let by = by_at old.number old.session.levels.commands in
    let event : MultiEvent = events.Unhold by c.args.multi in
    let same : c.unhold_note-event.result.value ≡ event = c.unhold_note-event.ensures ∙ ap (λ (b : By). events.Unhold b c.args.multi) c.command_of-by.ensures in
    let left = rw same at c.leave_made.ensures.left in
    went_multi start (view old.pass) (view c.enter_multi-held.new.caller.pass) (view c.leave_made.new.caller.pass) by old.session event c.requires.ready.at c.enter_multi-held.ensures.entered refl left
