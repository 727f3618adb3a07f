use Rattle.std.proofs.Common.{◌<◌, Err, IfErr, ap, refl, sym, subst, ◌∙◌}
use Rattle.hall.specs.Calls.{view, start_of}
use Rattle.tx_events.specs.declared.event.By.{By}
use Rattle.tx_events.specs.declared.refusal.Lock.TheVariants as locks
use Rattle.tx_events.specs.declared.refusal.Refusal.TheVariants as refusals
use Rattle.tx_core.specs.declared.entry.Kind.TheVariants as kinds
use Rattle.tx_core.specs.Locks.{member_page_in_full, members_lock}
use Rattle.engine_parts.specs.Adding.{IsPlain, MayFault, MayMeet}
use Rattle.engine_parts.specs.Sessions.{by_at}
use Rattle.engine_parts.proofs.Adding.{plain_faults}
use Rattle.multi_banks.proofs.Visiting.{is_members_lock}
use Rattle.multi_makes.specs.Pending.{IsMultiFault}
use Rattle.multi_makes.specs.Slots.{AreRecordedAt}
use Rattle.multi_makes.proofs.Faulting.{cut_adds, done_adds, fault_adds}
use Rattle.multi_makes.proofs.Going.{command_kept, few_before, same_making, visited_of, visited_then}
use Rattle.multi_makes.proofs.Setting.{members_here, page_stands, part_wanted, parts_later, slots_gone, slots_later}
use Rattle.multi_makes.proofs.members.make_run.Goals as goal

pub make_member_page-requires-clause-here : goal.make_member_page-requires-clause-here
make_member_page-requires-clause-here g c = members_here (start_of c.args.hall.now) c.args.offset c.members_bank-bank.result c.args.banks c.members_bank-bank.ensures.bank c.requires.step.each.0

pub make_member_page-requires-clause-wanted : goal.make_member_page-requires-clause-wanted
make_member_page-requires-clause-wanted g c =
    let old = c.args.caller.now in
    let a = c.requires.step.may.ready.at in
    part_wanted (start_of c.args.hall.now) (view old.pass).seen old.number c.args.offset c.args.members.now (by_at old.number old.session.levels.commands) refl a.base a.kept c.requires.some c.requires.recorded

pub set_run-requires-clause-step : goal.set_run-requires-clause-step
set_run-requires-clause-step g c =
    let hall = c.args.hall.now in
    let start = start_of hall in
    let old = c.args.caller.now in
    let w = c.make_member_page.new.caller in
    let e = c.make_member_page.ensures in
    let by = by_at old.number old.session.levels.commands in
    let bank = c.members_bank-bank.result in
    let inside : bank < start.banks = subst (λ z. bank < z) c.requires.step.each.0 c.members_bank-bank.ensures.within in
    (visited_of hall c.args.banks IsPlain old w c.requires.step e.own e.ready e.went e.same
    (done_adds start (view old.pass) (view w.pass) (members_lock bank) by old.session c.requires.step.may.ready.at (is_members_lock start bank inside) (kinds.Zero (member_page_in_full c.args.offset)) tt c.in-Ok.ensures.section)).step

pub set_run-requires-clause-made : goal.set_run-requires-clause-made
set_run-requires-clause-made g c =
    let start = start_of c.args.hall.now in
    page_stands start (view c.make_member_page.new.caller.pass).seen c.args.offset c.members_bank-bank.result (members_here start c.args.offset c.members_bank-bank.result c.args.banks c.members_bank-bank.ensures.bank c.requires.step.each.0) c.in-Ok.ensures.made

pub set_run-requires-clause-recorded : goal.set_run-requires-clause-recorded
set_run-requires-clause-recorded g c =
    let old = c.args.caller.now in
    let w = c.make_member_page.new.caller in
    let e = c.make_member_page.ensures in
    subst (λ z. AreRecordedAt (view w.pass).seen z c.args.offset c.args.members.now) (sym e.same.1) (parts_later (view old.pass).seen (view w.pass).seen old.number c.args.offset c.args.members.now e.went.grows c.requires.recorded)

pub returns-in-Ok-clause-visited : goal.returns-in-Ok-clause-visited
returns-in-Ok-clause-visited g c =
    let hall = c.args.hall.now in
    let start = start_of hall in
    let old = c.args.caller.now in
    let w = c.make_member_page.new.caller in
    let x = c.set_run.new.caller in
    let e = c.make_member_page.ensures in
    let by = by_at old.number old.session.levels.commands in
    let bank = c.members_bank-bank.result in
    let inside : bank < start.banks = subst (λ z. bank < z) c.requires.step.each.0 c.members_bank-bank.ensures.within in
    visited_then hall c.args.banks IsPlain (MayFault c.set_run.result) (MayFault c.set_run.result) old w x (same_making old.session w.session e.same.0) (plain_faults c.set_run.result) (λ lock kind m. m)
    (visited_of hall c.args.banks IsPlain old w c.requires.step e.own e.ready e.went e.same
    (done_adds start (view old.pass) (view w.pass) (members_lock bank) by old.session c.requires.step.may.ready.at (is_members_lock start bank inside) (kinds.Zero (member_page_in_full c.args.offset)) tt c.in-Ok.ensures.section))
    c.set_run.ensures.visited

pub returns-in-Ok-clause-session : goal.returns-in-Ok-clause-session
returns-in-Ok-clause-session g c = c.set_run.ensures.session ∙ c.make_member_page.ensures.same.0

pub returns-in-Ok-clause-fault : goal.returns-in-Ok-clause-fault
returns-in-Ok-clause-fault g c =
    let old = c.args.caller.now in
    let w = c.make_member_page.new.caller in
    let x = c.set_run.new.caller in
    let e = c.make_member_page.ensures in
    subst (λ (b : By). IfErr c.set_run.result (IsMultiFault (view x.pass).seen b)) (command_kept old.number w.number old.session w.session e.same.1 (same_making old.session w.session e.same.0)) c.set_run.ensures.fault

pub returns-in-Err-DiskFault-clause-visited : goal.returns-in-Err-DiskFault-clause-visited
returns-in-Err-DiskFault-clause-visited g c =
    let hall = c.args.hall.now in
    let start = start_of hall in
    let old = c.args.caller.now in
    let w = c.make_member_page.new.caller in
    let e = c.make_member_page.ensures in
    let by = by_at old.number old.session.levels.commands in
    let bank = c.members_bank-bank.result in
    let inside : bank < start.banks = subst (λ z. bank < z) c.requires.step.each.0 c.members_bank-bank.ensures.within in
    visited_of hall c.args.banks (MayMeet (refusals.DiskFault (locks.Members bank))) old w c.requires.step e.own e.ready e.went e.same
    (fault_adds start (view old.pass) (view w.pass) (members_lock bank) by old.session c.requires.step.may.ready.at (is_members_lock start bank inside) _ c.in-Err-DiskFault.field-0 (locks.Members bank) refl c.in-Err-DiskFault.field-0-is c.in-Err-DiskFault.ensures.section)

pub returns-in-Err-DiskFault-clause-fault : goal.returns-in-Err-DiskFault-clause-fault
returns-in-Err-DiskFault-clause-fault g c = c.in-Err-DiskFault.ensures.fault (ap (λ z. Err z) c.in-Err-DiskFault.field-0-is)

pub pass_cut-requires : goal.pass_cut-requires
pass_cut-requires g c =
    let hall = c.args.hall.now in
    let start = start_of hall in
    let old = c.args.caller.now in
    let w = c.make_member_page.new.caller in
    let e = c.make_member_page.ensures in
    let by = by_at old.number old.session.levels.commands in
    let bank = c.members_bank-bank.result in
    let inside : bank < start.banks = subst (λ z. bank < z) c.requires.step.each.0 c.members_bank-bank.ensures.within in
    (visited_of hall c.args.banks IsPlain old w c.requires.step e.own e.ready e.went e.same
    (cut_adds start (view old.pass) (view w.pass) (members_lock bank) by old.session c.requires.step.may.ready.at (is_members_lock start bank inside) _ c.in-Err-Cut.field-0 _ c.in-Err-Cut.field-0-is c.in-Err-Cut.ensures.section)).step

pub returns-in-Err-Cut-clause-visited : goal.returns-in-Err-Cut-clause-visited
returns-in-Err-Cut-clause-visited g c =
    let hall = c.args.hall.now in
    let start = start_of hall in
    let old = c.args.caller.now in
    let w = c.make_member_page.new.caller in
    let x = c.pass_cut.new.caller in
    let e = c.make_member_page.ensures in
    let by = by_at old.number old.session.levels.commands in
    let bank = c.members_bank-bank.result in
    let inside : bank < start.banks = subst (λ z. bank < z) c.requires.step.each.0 c.members_bank-bank.ensures.within in
    visited_then hall c.args.banks IsPlain IsPlain IsPlain old w x (same_making old.session w.session e.same.0) (λ lock kind m. m) (λ lock kind m. m)
    (visited_of hall c.args.banks IsPlain old w c.requires.step e.own e.ready e.went e.same
    (cut_adds start (view old.pass) (view w.pass) (members_lock bank) by old.session c.requires.step.may.ready.at (is_members_lock start bank inside) _ c.in-Err-Cut.field-0 _ c.in-Err-Cut.field-0-is c.in-Err-Cut.ensures.section))
    c.pass_cut.ensures.visited

pub returns-in-Err-Cut-clause-session : goal.returns-in-Err-Cut-clause-session
returns-in-Err-Cut-clause-session g c = c.pass_cut.ensures.session ∙ c.make_member_page.ensures.same.0

pub returns-in-Err-Cut-clause-slots : goal.returns-in-Err-Cut-clause-slots
returns-in-Err-Cut-clause-slots g c =
    let start = start_of c.args.hall.now in
    let w = (view c.make_member_page.new.caller.pass).seen in
    let x = (view c.pass_cut.new.caller.pass).seen in
    let grows = c.pass_cut.ensures.visited.went.grows in
    let bank = c.members_bank-bank.result in
    let here = members_here start c.args.offset bank c.args.banks c.members_bank-bank.ensures.bank c.requires.step.each.0 in
    slots_later start w x c.args.offset c.args.members.now grows
    (slots_gone start w c.args.offset bank c.args.members.now here c.requires.share
    (c.in-Err-Cut.ensures.gone (few_before w x grows c.pass_cut.ensures.few) _ (ap (λ z. Err z) c.in-Err-Cut.field-0-is)))
