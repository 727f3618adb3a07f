use Rattle.std.proofs.Common.{[], ◌∷◌, ◌<◌, Err, ap, refl, subst, ◌∙◌}
use Rattle.hall.specs.Calls.{view, start_of}
use Rattle.tx_events.specs.declared.refusal.Lock.TheVariants as locks
use Rattle.tx_core.specs.declared.entry.Change.TheVariants as changes
use Rattle.tx_core.specs.declared.entry.Kind.TheVariants as kinds
use Rattle.tx_core.specs.Locks.{subtrans_lock}
use Rattle.engine_parts.specs.Sessions.{by_at}
use Rattle.bank_sections.proofs.Faulting.{done_adds, fault_adds}
use Rattle.bank_sections.proofs.Visiting.{is_subtrans_lock}
use Rattle.bank_sections.proofs.Unlinking.{call_linked, call_went, parent_lock, still_below}
use Rattle.bank_sections.proofs.unlinked.record_parent.Goals as goal

pub link_parent-requires-clause-here : goal.link_parent-requires-clause-here
link_parent-requires-clause-here g c = parent_lock (start_of c.args.hall.now) c.in-Some.missing.id c.low.result.number c.subtrans_page.result c.bank_of-bank.result c.args.banks c.low.ensures c.subtrans_page.ensures.page c.bank_of-bank.ensures.value c.requires.banks.0

pub link_parent-requires-clause-below : goal.link_parent-requires-clause-below
link_parent-requires-clause-below g c = still_below (start_of c.args.hall.now) (view c.args.caller.now.pass) c.args.caller.now.number c.args.caller.now.session c.in-Some.missing c.requires.may.ready.at c.in-Some.is

pub returns-in-Ok-clause-may : goal.returns-in-Ok-clause-may
returns-in-Ok-clause-may g c =
    let e = c.in-Ok.ensures in
    let u = c.link_parent.new.caller in
    let old = c.args.caller.now in
    let start = start_of c.args.hall.now in
    call_linked start (view u.pass) u.number u.session c.in-Some.missing
    (call_went start (view old.pass) (view u.pass) old.number u.number old.session u.session [] c.requires.may e.went e.same.1 e.same.0 e.ready)
    (ap (λ z. z.unlinked) e.same.0 ∙ c.in-Some.is) e.linked

pub returns-in-Err-DiskFault-clause-may : goal.returns-in-Err-DiskFault-clause-may
returns-in-Err-DiskFault-clause-may g c =
    let e = c.in-Err-DiskFault.ensures in
    let u = c.link_parent.new.caller in
    let old = c.args.caller.now in
    call_went (start_of c.args.hall.now) (view old.pass) (view u.pass) old.number u.number old.session u.session [] c.requires.may e.went e.same.1 e.same.0 e.ready

pub returns-in-Err-DiskFault-clause-recorded : goal.returns-in-Err-DiskFault-clause-recorded
returns-in-Err-DiskFault-clause-recorded g c =
    let e = c.in-Err-DiskFault.ensures in
    (e.same.0, e.fault (ap (λ z. Err z) c.in-Err-DiskFault.field-0-is))

pub returns-in-Ok-clause-adds : goal.returns-in-Ok-clause-adds
returns-in-Ok-clause-adds g c =
    let old = c.args.caller.now in
    let bank = c.bank_of-bank.result in
    let start = start_of c.args.hall.now in
    let m = c.in-Some.missing in
    let by = by_at old.number old.session.levels.commands in
    let inside : bank < start.banks = subst (λ z. bank < z) c.requires.banks.0 c.bank_of-bank.ensures.within in
    done_adds start (view old.pass) (view c.link_parent.new.caller.pass) (subtrans_lock bank) by old.session c.requires.may.ready.at (is_subtrans_lock start bank inside) (kinds.Set (changes.Parent by m.id m.parent ∷ [])) tt c.in-Ok.ensures.section

pub returns-in-Err-DiskFault-clause-adds : goal.returns-in-Err-DiskFault-clause-adds
returns-in-Err-DiskFault-clause-adds g c =
    let old = c.args.caller.now in
    let bank = c.bank_of-bank.result in
    let start = start_of c.args.hall.now in
    let inside : bank < start.banks = subst (λ z. bank < z) c.requires.banks.0 c.bank_of-bank.ensures.within in
    fault_adds start (view old.pass) (view c.link_parent.new.caller.pass) (subtrans_lock bank) (by_at old.number old.session.levels.commands) old.session c.requires.may.ready.at (is_subtrans_lock start bank inside) _ c.in-Err-DiskFault.field-0 (locks.Subtrans bank) refl c.in-Err-DiskFault.field-0-is c.in-Err-DiskFault.ensures.section
