use Rattle.std.proofs.Common.{◌≡◌, ◌<◌, List, length, refl, sym, ap, subst, ◌∙◌}
use Rattle.hall.specs.Calls.{view, start_of}
use Rattle.notes.specs.Lists.{at}
use Rattle.tx_events.specs.declared.event.By.{By}
use Rattle.tx_events.specs.declared.multi.MultiEvent.{MultiEvent}
use Rattle.tx_events.specs.declared.multi.MultiEvent.TheVariants as events
use Rattle.tx_events.specs.Multis.{made}
use Rattle.multi_store.specs.Generator.{Generator}
use Rattle.tx_core.specs.Locks.{multi_lock}
use Rattle.tx_core.specs.MultiEntries.{multi_history}
use Rattle.tx_core.specs.MultisLegal.{ToldOf}
use Rattle.engine_parts.specs.Sessions.{by_at}
use Rattle.engine_parts.specs.Stand.{MultiStands}
use Rattle.engine_parts.proofs.Multing.{multi_looks}
use Rattle.multi_sections.specs.Raised.{IsNotRaisedNow, IsRaisedAs}
use Rattle.multi_sections.specs.declared.settling.Raising.TheVariants as raisings
use Rattle.multi_sections.proofs.Answered.{is_seen}
use Rattle.multi_sections.proofs.Generating.{is_laid, looked_multi, multis_left, multis_looked, went_multi}
use Rattle.multi_sections.proofs.PinnedRaises.{few_before, raised_there, recorded_there}
use Rattle.multi_sections.proofs.settling.raise_multi.Goals as goal

pub leave_made-requires-clause-told : goal.leave_made-requires-clause-told
leave_made-requires-clause-told g c =
    let start = start_of c.args.hall.now in
    let v = view c.args.caller.now.pass in
    let u = view c.enter_multi-part.new.caller.pass in
    let h = c.args.held.now in
    let offset = c.in-Ok-Raised.offset in
    let by = c.command_of-by.result in
    let here : MultiStands start c.deref_mut-multis.result.now (at u.seen multi_lock) = subst (λ (l : Generator). MultiStands start l (at u.seen multi_lock)) (sym c.deref_mut-multis.ensures.value) c.enter_multi-part.ensures.stands in
    let said = rw c.in-Ok-Raised.field-0-is at c.in-Ok-Raised.ensures in
    let is = subst (λ (l : Generator). IsRaisedAs l c.raise_pinned.new.multis by h c.args.low (raisings.Raised offset)) (is_seen start u c.deref_mut-multis.result.now here) said in
    subst (ToldOf start) (sym c.raise_note-event.ensures) (λ told rec among below.
    recorded_there start v.seen h c.args.low offset c.requires.read is.0 told rec among (few_before v.seen u.seen c.enter_multi-part.ensures.entered.learns.knows.grows (is.5 below)) below)

pub returns-in-Ok-Raised-clause-raises : goal.returns-in-Ok-Raised-clause-raises
returns-in-Ok-Raised-clause-raises g c =
    let start = start_of c.args.hall.now in
    let old = c.args.caller.now in
    let v = view old.pass in
    let u = view c.enter_multi-part.new.caller.pass in
    let w = view c.leave_made.new.caller.pass in
    let h = c.args.held.now in
    let offset = c.in-Ok-Raised.offset in
    let by = by_at old.number old.session.levels.commands in
    let event : MultiEvent = events.Raise by h.multi offset in
    let e = c.enter_multi-part.ensures in
    let same : c.raise_note-event.result.value ≡ event = c.raise_note-event.ensures ∙ ap (λ (b : By). events.Raise b h.multi offset) c.command_of-by.ensures in
    let left = rw same at c.leave_made.ensures.left in
    let here : MultiStands start c.deref_mut-multis.result.now (at u.seen multi_lock) = subst (λ (l : Generator). MultiStands start l (at u.seen multi_lock)) (sym c.deref_mut-multis.ensures.value) e.stands in
    let said = rw c.in-Ok-Raised.field-0-is at c.in-Ok-Raised.ensures in
    let is = subst (λ (l : Generator). IsRaisedAs l c.raise_pinned.new.multis c.command_of-by.result h c.args.low (raisings.Raised offset)) (is_seen start u c.deref_mut-multis.result.now here) said in (
      record {
        went = went_multi start v u w by old.session event c.requires.ready.at e.entered refl left;
        before = multi_history u.seen;
        last = record { split = multis_left start u w event (is_laid start v u old.number old.session c.requires.ready.at e.entered) left };
        raised = raised_there start.base (multi_history u.seen) c.raise_pinned.new.multis c.command_of-by.result h c.args.low offset is;
      },
      is.0,
    )

pub leave_looked-requires-clause-stands : goal.leave_looked-requires-clause-stands
leave_looked-requires-clause-stands g c =
    let start = start_of c.args.hall.now in
    let u = c.enter_multi-part.new.caller in
    let es = at (view u.pass).seen multi_lock in
    let here : MultiStands start c.deref_mut-multis.result.now es = subst (λ (l : Generator). MultiStands start l es) (sym c.deref_mut-multis.ensures.value) c.enter_multi-part.ensures.stands in
    let said = rw c.in-Ok-Many.field-0-is at c.in-Ok-Many.ensures in
    (refl, multi_looks start c.raise_pinned.new.multis es (by_at u.number u.session.levels.commands) (subst (λ (l : Generator). MultiStands start l es) (sym said.0) here))

pub returns-in-Ok-Many-clause-raises : goal.returns-in-Ok-Many-clause-raises
returns-in-Ok-Many-clause-raises g c =
    let start = start_of c.args.hall.now in
    let old = c.args.caller.now in
    let v = view old.pass in
    let t = c.enter_multi-part.new.caller in
    let u = view t.pass in
    let w = view c.leave_looked.new.caller.pass in
    let e = c.enter_multi-part.ensures in
    let by = by_at t.number t.session.levels.commands in
    let here : MultiStands start c.deref_mut-multis.result.now (at u.seen multi_lock) = subst (λ (l : Generator). MultiStands start l (at u.seen multi_lock)) (sym c.deref_mut-multis.ensures.value) e.stands in
    let said = rw c.in-Ok-Many.field-0-is at c.in-Ok-Many.ensures in
    let is = subst (λ (l : Generator). IsRaisedAs l c.raise_pinned.new.multis c.command_of-by.result c.args.held.now c.args.low raisings.Many) (is_seen start u c.deref_mut-multis.result.now here) said in
    let still = multis_looked start u w by (is_laid start v u old.number old.session c.requires.ready.at e.entered) c.leave_looked.ensures.left in (
      looked_multi start v u w old.number old.session by c.requires.ready.at e.entered c.leave_looked.ensures.left,
      is.1,
      λ few. is.2 (subst (λ (h : List MultiEvent). length (made h) < 2900000) still few),
    )

pub leave_looked-requires-in-Err-clause-stands : goal.leave_looked-requires-in-Err-clause-stands
leave_looked-requires-in-Err-clause-stands g c =
    let start = start_of c.args.hall.now in
    let u = c.enter_multi-part.new.caller in
    let es = at (view u.pass).seen multi_lock in
    let here : MultiStands start c.deref_mut-multis.result.now es = subst (λ (l : Generator). MultiStands start l es) (sym c.deref_mut-multis.ensures.value) c.enter_multi-part.ensures.stands in
    (refl, multi_looks start c.raise_pinned.new.multis es (by_at u.number u.session.levels.commands) (subst (λ (l : Generator). MultiStands start l es) (sym c.in-Err.ensures.0) here))

pub returns-in-Err-clause-raises : goal.returns-in-Err-clause-raises
returns-in-Err-clause-raises g c =
    let start = start_of c.args.hall.now in
    let old = c.args.caller.now in
    let v = view old.pass in
    let t = c.enter_multi-part.new.caller in
    let u = view t.pass in
    let w = view c.leave_looked-in-Err.new.caller.pass in
    let e = c.enter_multi-part.ensures in
    let by = by_at t.number t.session.levels.commands in
    let here : MultiStands start c.deref_mut-multis.result.now (at u.seen multi_lock) = subst (λ (l : Generator). MultiStands start l (at u.seen multi_lock)) (sym c.deref_mut-multis.ensures.value) e.stands in
    let why = subst (λ (l : Generator). IsNotRaisedNow l.base l.events c.args.held.now c.args.low c.in-Err.refusal) (is_seen start u c.deref_mut-multis.result.now here) c.in-Err.ensures.1 in
    let still = multis_looked start u w by (is_laid start v u old.number old.session c.requires.ready.at e.entered) c.leave_looked-in-Err.ensures.left in (
      looked_multi start v u w old.number old.session by c.requires.ready.at e.entered c.leave_looked-in-Err.ensures.left,
      subst (λ (h : List MultiEvent). IsNotRaisedNow start.base h c.args.held.now c.args.low c.in-Err.refusal) (sym still) why,
    )
