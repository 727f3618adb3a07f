use Rattle.std.proofs.Common.{◌≡◌, List, refl, sym, ap, subst, ◌∙◌}
use Rattle.hall.specs.Calls.{view, start_of}
use Rattle.notes.specs.Lists.{at}
use Rattle.tx_events.specs.declared.event.By.{By}
use Rattle.tx_events.specs.declared.multi.MultiEvent.{MultiEvent}
use Rattle.tx_events.specs.Multis.{InBase, MultiMayCome}
use Rattle.multi_store.specs.Generator.{Generator}
use Rattle.tx_core.specs.Locks.{multi_lock}
use Rattle.tx_core.specs.MultiEntries.{multi_history}
use Rattle.tx_core.specs.MultisLegal.{ToldOf}
use Rattle.engine_parts.specs.Sessions.{by_at}
use Rattle.engine_parts.specs.Stand.{MultiStands}
use Rattle.engine_parts.proofs.Multing.{multi_looks}
use Rattle.engine_parts.proofs.Sectioning.{section_of}
use Rattle.multi_sections.specs.Steps.{entry_of}
use Rattle.multi_sections.specs.Raisings.{IsFrozenAs, IsNotFrozen, freezing_event, frozen_event}
use Rattle.multi_sections.proofs.Answered.{is_seen}
use Rattle.multi_sections.proofs.Beginning.{freezing_is, may_freeze, own_event, starts_of, told_freeze}
use Rattle.multi_sections.proofs.Generating.{is_laid, looked_multi, multis_left, multis_looked, went_multi}
use Rattle.multi_sections.proofs.raising.start_freeze.Goals as goal

pub leave_made-requires-clause-may : goal.leave_made-requires-clause-may
leave_made-requires-clause-may g c =
    let start = start_of c.args.hall.now in
    let u = view c.enter_multi-held.new.caller.pass in
    let f = c.in-Ok.freezing in
    let by = c.command_of-by.result in
    let here : MultiStands start c.deref_mut-multis.result.now (at u.seen multi_lock) = subst (λ (l : Generator). MultiStands start l (at u.seen multi_lock)) (sym c.deref_mut-multis.ensures.value) c.enter_multi-held.ensures.stands in
    let is = subst (λ (l : Generator). IsFrozenAs l c.begin_freeze.new.multis by c.args.multi f) (is_seen start u c.deref_mut-multis.result.now here) c.in-Ok.ensures in
    subst (MultiMayCome start.base (InBase start.base) (multi_history u.seen)) (sym c.freezing_note-event.ensures) (may_freeze start.base (multi_history u.seen) c.begin_freeze.new.multis by c.args.multi f is)

pub leave_made-requires-clause-told : goal.leave_made-requires-clause-told
leave_made-requires-clause-told g c =
    let start = start_of c.args.hall.now in
    let u = view c.enter_multi-held.new.caller.pass in
    let f = c.in-Ok.freezing in
    let by = c.command_of-by.result in
    let here : MultiStands start c.deref_mut-multis.result.now (at u.seen multi_lock) = subst (λ (l : Generator). MultiStands start l (at u.seen multi_lock)) (sym c.deref_mut-multis.ensures.value) c.enter_multi-held.ensures.stands in
    let is = subst (λ (l : Generator). IsFrozenAs l c.begin_freeze.new.multis by c.args.multi f) (is_seen start u c.deref_mut-multis.result.now here) c.in-Ok.ensures in
    subst (ToldOf start) (sym c.freezing_note-event.ensures) (told_freeze start (multi_history u.seen) c.begin_freeze.new.multis by c.args.multi f is)

pub returns-in-Ok-clause-section : goal.returns-in-Ok-clause-section
returns-in-Ok-clause-section g c =
    let old = c.args.caller.now in
    let f = c.in-Ok.freezing in
    section_of (start_of c.args.hall.now) (view old.pass) (view c.enter_multi-held.new.caller.pass) (view c.leave_made.new.caller.pass) multi_lock (entry_of c.freezing_note-event.result.value) (entry_of (freezing_event old.number old.session c.args.multi f)) c.enter_multi-held.ensures.entered
    (ap entry_of (c.freezing_note-event.ensures ∙ (ap (λ (b : By). frozen_event b c.args.multi f) c.command_of-by.ensures ∙ freezing_is old.number old.session c.args.multi f))) c.leave_made.ensures.left

pub returns-in-Ok-clause-starts : goal.returns-in-Ok-clause-starts
returns-in-Ok-clause-starts g c =
    let start = start_of c.args.hall.now in
    let old = c.args.caller.now in
    let v = view old.pass in
    let u = view c.enter_multi-held.new.caller.pass in
    let w = view c.leave_made.new.caller.pass in
    let f = c.in-Ok.freezing in
    let by = by_at old.number old.session.levels.commands in
    let event : MultiEvent = frozen_event by c.args.multi f in
    let e = c.enter_multi-held.ensures in
    let same : c.freezing_note-event.result.value ≡ event = c.freezing_note-event.ensures ∙ ap (λ (b : By). frozen_event b c.args.multi f) c.command_of-by.ensures in
    let is_event = freezing_is old.number old.session c.args.multi f in
    let left = rw (same ∙ is_event) at c.leave_made.ensures.left in
    let here : MultiStands start c.deref_mut-multis.result.now (at u.seen multi_lock) = subst (λ (l : Generator). MultiStands start l (at u.seen multi_lock)) (sym c.deref_mut-multis.ensures.value) e.stands in
    let is = subst (λ (l : Generator). IsFrozenAs l c.begin_freeze.new.multis c.command_of-by.result c.args.multi f) (is_seen start u c.deref_mut-multis.result.now here) c.in-Ok.ensures in
    let mine = own_event old.number old.session c.args.multi f in
    starts_of start old.number old.session c.args.multi v.seen w.seen (multi_history u.seen) c.begin_freeze.new.multis c.command_of-by.result f
    (went_multi start v u w by old.session (freezing_event old.number old.session c.args.multi f) c.requires.ready.at e.entered mine left)
    (multis_left start u w (freezing_event old.number old.session c.args.multi f) (is_laid start v u old.number old.session c.requires.ready.at e.entered) left) is

pub leave_looked-requires-clause-stands : goal.leave_looked-requires-clause-stands
leave_looked-requires-clause-stands g c =
    let start = start_of c.args.hall.now in
    let u = c.enter_multi-held.new.caller in
    let es = at (view u.pass).seen multi_lock in
    let here : MultiStands start c.deref_mut-multis.result.now es = subst (λ (l : Generator). MultiStands start l es) (sym c.deref_mut-multis.ensures.value) c.enter_multi-held.ensures.stands in
    (refl, multi_looks start c.begin_freeze.new.multis es (by_at u.number u.session.levels.commands) (subst (λ (l : Generator). MultiStands start l es) (sym c.in-Err.ensures.0) here))

pub returns-in-Err-clause-starts : goal.returns-in-Err-clause-starts
returns-in-Err-clause-starts g c =
    let start = start_of c.args.hall.now in
    let old = c.args.caller.now in
    let v = view old.pass in
    let t = c.enter_multi-held.new.caller in
    let u = view t.pass in
    let w = view c.leave_looked.new.caller.pass in
    let e = c.enter_multi-held.ensures in
    let by = by_at t.number t.session.levels.commands in
    let here : MultiStands start c.deref_mut-multis.result.now (at u.seen multi_lock) = subst (λ (l : Generator). MultiStands start l (at u.seen multi_lock)) (sym c.deref_mut-multis.ensures.value) e.stands in
    let why = subst (λ (l : Generator). IsNotFrozen l.base l.events c.args.multi c.in-Err.refusal) (is_seen start u c.deref_mut-multis.result.now here) c.in-Err.ensures.1 in
    let still = multis_looked start u w by (is_laid start v u old.number old.session c.requires.ready.at e.entered) c.leave_looked.ensures.left in (
      looked_multi start v u w old.number old.session by c.requires.ready.at e.entered c.leave_looked.ensures.left,
      subst (λ (h : List MultiEvent). IsNotFrozen start.base h c.args.multi c.in-Err.refusal) (sym still) why,
    )
