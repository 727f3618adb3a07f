use Rattle.std.proofs.Common.{◌<◌, Err, IfErr, ap, refl, sym, subst, ◌∙◌}
use Rattle.hall.specs.Calls.{view, start_of}
use Rattle.tx_events.specs.declared.event.By.{By}
use Rattle.tx_events.specs.declared.refusal.Lock.TheVariants as locks
use Rattle.tx_events.specs.declared.refusal.Refusal.TheVariants as refusals
use Rattle.tx_core.specs.declared.entry.Kind.TheVariants as kinds
use Rattle.tx_core.specs.Locks.{offset_page, offsets_lock}
use Rattle.engine_parts.specs.Adding.{IsPlain, MayFault, MayMeet}
use Rattle.engine_parts.specs.Sessions.{by_at}
use Rattle.engine_parts.proofs.Adding.{plain_faults}
use Rattle.multi_banks.proofs.Visiting.{is_offsets_lock}
use Rattle.multi_makes.specs.Pending.{IsMultiFault}
use Rattle.multi_makes.specs.Slots.{MayBegin}
use Rattle.multi_makes.proofs.Faulting.{cut_adds, done_adds, fault_adds}
use Rattle.multi_makes.proofs.Going.{command_kept, few_before, same_making, visited_of, visited_then}
use Rattle.multi_makes.proofs.Setting.{begin_gone, begin_later, multi_wanted, offset_page_stands, offsets_here}
use Rattle.multi_makes.proofs.offsets.make_begin.Goals as goal

pub make_offset_page-requires-clause-here : goal.make_offset_page-requires-clause-here
make_offset_page-requires-clause-here g c = offsets_here (start_of c.args.hall.now) c.args.multi c.offsets_bank-bank.result c.args.banks c.offsets_bank-bank.ensures.bank c.requires.step.each.0

pub make_offset_page-requires-clause-wanted : goal.make_offset_page-requires-clause-wanted
make_offset_page-requires-clause-wanted g c =
    let old = c.args.caller.now in
    let a = c.requires.step.may.ready.at in
    multi_wanted (start_of c.args.hall.now) (view old.pass).seen old.number c.args.multi c.args.offset a.kept c.requires.may

pub set_begin-requires-clause-step : goal.set_begin-requires-clause-step
set_begin-requires-clause-step g c =
    let hall = c.args.hall.now in
    let start = start_of hall in
    let old = c.args.caller.now in
    let w = c.make_offset_page.new.caller in
    let e = c.make_offset_page.ensures in
    let by = by_at old.number old.session.levels.commands in
    let bank = c.offsets_bank-bank.result in
    let inside : bank < start.banks = subst (λ z. bank < z) c.requires.step.each.0 c.offsets_bank-bank.ensures.within in
    (visited_of hall c.args.banks IsPlain old w c.requires.step e.own e.ready e.went e.same
    (done_adds start (view old.pass) (view w.pass) (offsets_lock bank) by old.session c.requires.step.may.ready.at (is_offsets_lock start bank inside) (kinds.Zero (offset_page c.args.multi)) tt c.in-Ok.ensures.section)).step

pub set_begin-requires-clause-made : goal.set_begin-requires-clause-made
set_begin-requires-clause-made g c =
    let start = start_of c.args.hall.now in
    offset_page_stands start (view c.make_offset_page.new.caller.pass).seen c.args.multi c.offsets_bank-bank.result (offsets_here start c.args.multi c.offsets_bank-bank.result c.args.banks c.offsets_bank-bank.ensures.bank c.requires.step.each.0) c.in-Ok.ensures.made

pub set_begin-requires-clause-may : goal.set_begin-requires-clause-may
set_begin-requires-clause-may g c =
    let start = start_of c.args.hall.now in
    let old = c.args.caller.now in
    let w = c.make_offset_page.new.caller in
    let e = c.make_offset_page.ensures in
    subst (λ z. MayBegin start (view w.pass).seen z c.args.multi c.args.offset) (sym e.same.1) (begin_later start (view old.pass).seen (view w.pass).seen old.number c.args.multi c.args.offset e.went.grows c.requires.may)

pub returns-in-Ok-clause-visited : goal.returns-in-Ok-clause-visited
returns-in-Ok-clause-visited g c =
    let hall = c.args.hall.now in
    let start = start_of hall in
    let old = c.args.caller.now in
    let w = c.make_offset_page.new.caller in
    let x = c.set_begin.new.caller in
    let e = c.make_offset_page.ensures in
    let by = by_at old.number old.session.levels.commands in
    let bank = c.offsets_bank-bank.result in
    let inside : bank < start.banks = subst (λ z. bank < z) c.requires.step.each.0 c.offsets_bank-bank.ensures.within in
    visited_then hall c.args.banks IsPlain (MayFault c.set_begin.result) (MayFault c.set_begin.result) old w x (same_making old.session w.session e.same.0) (plain_faults c.set_begin.result) (λ lock kind m. m)
    (visited_of hall c.args.banks IsPlain old w c.requires.step e.own e.ready e.went e.same
    (done_adds start (view old.pass) (view w.pass) (offsets_lock bank) by old.session c.requires.step.may.ready.at (is_offsets_lock start bank inside) (kinds.Zero (offset_page c.args.multi)) tt c.in-Ok.ensures.section))
    c.set_begin.ensures.visited

pub returns-in-Ok-clause-session : goal.returns-in-Ok-clause-session
returns-in-Ok-clause-session g c = c.set_begin.ensures.session ∙ c.make_offset_page.ensures.same.0

pub returns-in-Ok-clause-fault : goal.returns-in-Ok-clause-fault
returns-in-Ok-clause-fault g c =
    let old = c.args.caller.now in
    let w = c.make_offset_page.new.caller in
    let x = c.set_begin.new.caller in
    let e = c.make_offset_page.ensures in
    subst (λ (b : By). IfErr c.set_begin.result (IsMultiFault (view x.pass).seen b)) (command_kept old.number w.number old.session w.session e.same.1 (same_making old.session w.session e.same.0)) c.set_begin.ensures.fault

pub returns-in-Err-DiskFault-clause-visited : goal.returns-in-Err-DiskFault-clause-visited
returns-in-Err-DiskFault-clause-visited g c =
    let hall = c.args.hall.now in
    let start = start_of hall in
    let old = c.args.caller.now in
    let w = c.make_offset_page.new.caller in
    let e = c.make_offset_page.ensures in
    let by = by_at old.number old.session.levels.commands in
    let bank = c.offsets_bank-bank.result in
    let inside : bank < start.banks = subst (λ z. bank < z) c.requires.step.each.0 c.offsets_bank-bank.ensures.within in
    visited_of hall c.args.banks (MayMeet (refusals.DiskFault (locks.Offsets bank))) old w c.requires.step e.own e.ready e.went e.same
    (fault_adds start (view old.pass) (view w.pass) (offsets_lock bank) by old.session c.requires.step.may.ready.at (is_offsets_lock start bank inside) _ c.in-Err-DiskFault.field-0 (locks.Offsets bank) refl c.in-Err-DiskFault.field-0-is c.in-Err-DiskFault.ensures.section)

pub returns-in-Err-DiskFault-clause-fault : goal.returns-in-Err-DiskFault-clause-fault
returns-in-Err-DiskFault-clause-fault g c = c.in-Err-DiskFault.ensures.fault (ap (λ z. Err z) c.in-Err-DiskFault.field-0-is)

pub pass_cut-requires : goal.pass_cut-requires
pass_cut-requires g c =
    let hall = c.args.hall.now in
    let start = start_of hall in
    let old = c.args.caller.now in
    let w = c.make_offset_page.new.caller in
    let e = c.make_offset_page.ensures in
    let by = by_at old.number old.session.levels.commands in
    let bank = c.offsets_bank-bank.result in
    let inside : bank < start.banks = subst (λ z. bank < z) c.requires.step.each.0 c.offsets_bank-bank.ensures.within in
    (visited_of hall c.args.banks IsPlain old w c.requires.step e.own e.ready e.went e.same
    (cut_adds start (view old.pass) (view w.pass) (offsets_lock bank) by old.session c.requires.step.may.ready.at (is_offsets_lock start bank inside) _ c.in-Err-Cut.field-0 _ c.in-Err-Cut.field-0-is c.in-Err-Cut.ensures.section)).step

pub returns-in-Err-Cut-clause-visited : goal.returns-in-Err-Cut-clause-visited
returns-in-Err-Cut-clause-visited g c =
    let hall = c.args.hall.now in
    let start = start_of hall in
    let old = c.args.caller.now in
    let w = c.make_offset_page.new.caller in
    let x = c.pass_cut.new.caller in
    let e = c.make_offset_page.ensures in
    let by = by_at old.number old.session.levels.commands in
    let bank = c.offsets_bank-bank.result in
    let inside : bank < start.banks = subst (λ z. bank < z) c.requires.step.each.0 c.offsets_bank-bank.ensures.within in
    visited_then hall c.args.banks IsPlain IsPlain IsPlain old w x (same_making old.session w.session e.same.0) (λ lock kind m. m) (λ lock kind m. m)
    (visited_of hall c.args.banks IsPlain old w c.requires.step e.own e.ready e.went e.same
    (cut_adds start (view old.pass) (view w.pass) (offsets_lock bank) by old.session c.requires.step.may.ready.at (is_offsets_lock start bank inside) _ c.in-Err-Cut.field-0 _ c.in-Err-Cut.field-0-is c.in-Err-Cut.ensures.section))
    c.pass_cut.ensures.visited

pub returns-in-Err-Cut-clause-session : goal.returns-in-Err-Cut-clause-session
returns-in-Err-Cut-clause-session g c = c.pass_cut.ensures.session ∙ c.make_offset_page.ensures.same.0

pub returns-in-Err-Cut-clause-begins : goal.returns-in-Err-Cut-clause-begins
returns-in-Err-Cut-clause-begins g c =
    let start = start_of c.args.hall.now in
    let w = (view c.make_offset_page.new.caller.pass).seen in
    let x = (view c.pass_cut.new.caller.pass).seen in
    let grows = c.pass_cut.ensures.visited.went.grows in
    let bank = c.offsets_bank-bank.result in
    let here = offsets_here start c.args.multi bank c.args.banks c.offsets_bank-bank.ensures.bank c.requires.step.each.0 in
    begin_gone start w x c.args.multi c.args.offset bank here grows
    (c.in-Err-Cut.ensures.gone (few_before w x grows c.pass_cut.ensures.few) _ (ap (λ z. Err z) c.in-Err-Cut.field-0-is))
