use Rattle.std.proofs.Common.{◌<◌, Err, inl, ap, refl, subst, ◌∙◌}
use Rattle.hall.specs.Calls.{view, start_of}
use Rattle.tx_events.specs.declared.refusal.Lock.TheVariants as locks
use Rattle.tx_core.specs.declared.entry.Kind.TheVariants as kinds
use Rattle.tx_core.specs.Locks.{members_lock}
use Rattle.engine_parts.specs.Adding.{IsPlain, MayMeet}
use Rattle.engine_parts.specs.Sessions.{by_at}
use Rattle.tx_events.specs.declared.refusal.Refusal.TheVariants as refusals
use Rattle.multi_banks.proofs.Visiting.{is_members_lock}
use Rattle.multi_banks.specs.Members.{slots_set}
use Rattle.multi_makes.proofs.Faulting.{cut_adds, done_adds, fault_adds}
use Rattle.multi_makes.proofs.Going.{few_before, same_making, visited_of, visited_then}
use Rattle.multi_makes.proofs.Setting.{members_here, page_at, slot_of_part, slots_gone, slots_later}
use Rattle.multi_makes.proofs.members.set_run.Goals as goal

pub record_members-requires-clause-here : goal.record_members-requires-clause-here
record_members-requires-clause-here g c = members_here (start_of c.args.hall.now) c.args.offset c.members_bank-bank.result c.args.banks c.members_bank-bank.ensures.bank c.requires.step.each.0

pub record_members-requires-clause-made : goal.record_members-requires-clause-made
record_members-requires-clause-made g c =
    let start = start_of c.args.hall.now in
    page_at start (view c.args.caller.now.pass).seen c.args.offset c.members_bank-bank.result (members_here start c.args.offset c.members_bank-bank.result c.args.banks c.members_bank-bank.ensures.bank c.requires.step.each.0) c.requires.made

pub record_members-requires-clause-may : goal.record_members-requires-clause-may
record_members-requires-clause-may g c =
    let old = c.args.caller.now in
    slot_of_part (view old.pass).seen old.number c.args.offset c.args.members.now (by_at old.number old.session.levels.commands) refl c.requires.recorded

pub returns-in-Ok-clause-visited : goal.returns-in-Ok-clause-visited
returns-in-Ok-clause-visited g c =
    let hall = c.args.hall.now in
    let start = start_of hall in
    let old = c.args.caller.now in
    let w = c.record_members.new.caller in
    let e = c.record_members.ensures in
    let by = by_at old.number old.session.levels.commands in
    let bank = c.members_bank-bank.result in
    let inside : bank < start.banks = subst (λ z. bank < z) c.requires.step.each.0 c.members_bank-bank.ensures.within in
    visited_of hall c.args.banks IsPlain old w c.requires.step e.own e.ready e.went e.same
    (done_adds start (view old.pass) (view w.pass) (members_lock bank) by old.session c.requires.step.may.ready.at (is_members_lock start bank inside) (kinds.Set (slots_set by c.args.offset c.args.members.now)) tt c.in-Ok.ensures.section)

pub returns-in-Ok-clause-slots : goal.returns-in-Ok-clause-slots
returns-in-Ok-clause-slots g c = λ k member among. inl (c.in-Ok.ensures.set k member among)

pub returns-in-Err-DiskFault-clause-visited : goal.returns-in-Err-DiskFault-clause-visited
returns-in-Err-DiskFault-clause-visited g c =
    let hall = c.args.hall.now in
    let start = start_of hall in
    let old = c.args.caller.now in
    let w = c.record_members.new.caller in
    let e = c.record_members.ensures in
    let by = by_at old.number old.session.levels.commands in
    let bank = c.members_bank-bank.result in
    let inside : bank < start.banks = subst (λ z. bank < z) c.requires.step.each.0 c.members_bank-bank.ensures.within in
    visited_of hall c.args.banks (MayMeet (refusals.DiskFault (locks.Members bank))) old w c.requires.step e.own e.ready e.went e.same
    (fault_adds start (view old.pass) (view w.pass) (members_lock bank) by old.session c.requires.step.may.ready.at (is_members_lock start bank inside) _ c.in-Err-DiskFault.field-0 (locks.Members bank) refl c.in-Err-DiskFault.field-0-is c.in-Err-DiskFault.ensures.section)

pub returns-in-Err-DiskFault-clause-fault : goal.returns-in-Err-DiskFault-clause-fault
returns-in-Err-DiskFault-clause-fault g c = c.in-Err-DiskFault.ensures.fault (ap (λ z. Err z) c.in-Err-DiskFault.field-0-is)

pub pass_cut-requires : goal.pass_cut-requires
pass_cut-requires g c =
    let hall = c.args.hall.now in
    let start = start_of hall in
    let old = c.args.caller.now in
    let w = c.record_members.new.caller in
    let e = c.record_members.ensures in
    let by = by_at old.number old.session.levels.commands in
    let bank = c.members_bank-bank.result in
    let inside : bank < start.banks = subst (λ z. bank < z) c.requires.step.each.0 c.members_bank-bank.ensures.within in
    (visited_of hall c.args.banks IsPlain old w c.requires.step e.own e.ready e.went e.same
    (cut_adds start (view old.pass) (view w.pass) (members_lock bank) by old.session c.requires.step.may.ready.at (is_members_lock start bank inside) _ c.in-Err-Cut.field-0 _ c.in-Err-Cut.field-0-is c.in-Err-Cut.ensures.section)).step

pub returns-in-Err-Cut-clause-visited : goal.returns-in-Err-Cut-clause-visited
returns-in-Err-Cut-clause-visited g c =
    let hall = c.args.hall.now in
    let start = start_of hall in
    let old = c.args.caller.now in
    let w = c.record_members.new.caller in
    let x = c.pass_cut.new.caller in
    let e = c.record_members.ensures in
    let by = by_at old.number old.session.levels.commands in
    let bank = c.members_bank-bank.result in
    let inside : bank < start.banks = subst (λ z. bank < z) c.requires.step.each.0 c.members_bank-bank.ensures.within in
    visited_then hall c.args.banks IsPlain IsPlain IsPlain old w x (same_making old.session w.session e.same.0) (λ lock kind m. m) (λ lock kind m. m)
    (visited_of hall c.args.banks IsPlain old w c.requires.step e.own e.ready e.went e.same
    (cut_adds start (view old.pass) (view w.pass) (members_lock bank) by old.session c.requires.step.may.ready.at (is_members_lock start bank inside) _ c.in-Err-Cut.field-0 _ c.in-Err-Cut.field-0-is c.in-Err-Cut.ensures.section))
    c.pass_cut.ensures.visited

pub returns-in-Err-Cut-clause-session : goal.returns-in-Err-Cut-clause-session
returns-in-Err-Cut-clause-session g c = c.pass_cut.ensures.session ∙ c.record_members.ensures.same.0

pub returns-in-Err-Cut-clause-slots : goal.returns-in-Err-Cut-clause-slots
returns-in-Err-Cut-clause-slots g c =
    let start = start_of c.args.hall.now in
    let w = (view c.record_members.new.caller.pass).seen in
    let x = (view c.pass_cut.new.caller.pass).seen in
    let grows = c.pass_cut.ensures.visited.went.grows in
    let bank = c.members_bank-bank.result in
    let here = members_here start c.args.offset bank c.args.banks c.members_bank-bank.ensures.bank c.requires.step.each.0 in
    slots_later start w x c.args.offset c.args.members.now grows
    (slots_gone start w c.args.offset bank c.args.members.now here c.requires.share
    (c.in-Err-Cut.ensures.gone (few_before w x grows c.pass_cut.ensures.few) _ (ap (λ z. Err z) c.in-Err-Cut.field-0-is)))
