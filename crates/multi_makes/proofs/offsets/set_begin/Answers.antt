use Rattle.std.proofs.Common.{◌<◌, [], ◌∷◌, Err, inl, ap, refl, subst, ◌∙◌}
use Rattle.hall.specs.Calls.{view, start_of}
use Rattle.tx_events.specs.declared.refusal.Lock.TheVariants as locks
use Rattle.tx_core.specs.declared.entry.Change.TheVariants as changes
use Rattle.tx_core.specs.declared.entry.Kind.TheVariants as kinds
use Rattle.tx_core.specs.Locks.{offsets_lock}
use Rattle.engine_parts.specs.Adding.{IsPlain, MayMeet}
use Rattle.engine_parts.specs.Sessions.{by_at}
use Rattle.tx_events.specs.declared.refusal.Refusal.TheVariants as refusals
use Rattle.multi_banks.proofs.Visiting.{is_offsets_lock}
use Rattle.multi_makes.proofs.Faulting.{cut_adds, done_adds, fault_adds}
use Rattle.multi_makes.proofs.Going.{few_before, same_making, visited_of, visited_then}
use Rattle.multi_makes.proofs.Setting.{begin_gone, offset_may, offset_page_at, offsets_here}
use Rattle.multi_makes.proofs.offsets.set_begin.Goals as goal

pub record_offset-requires-clause-here : goal.record_offset-requires-clause-here
record_offset-requires-clause-here g c = offsets_here (start_of c.args.hall.now) c.args.multi c.offsets_bank-bank.result c.args.banks c.offsets_bank-bank.ensures.bank c.requires.step.each.0

pub record_offset-requires-clause-made : goal.record_offset-requires-clause-made
record_offset-requires-clause-made g c =
    let start = start_of c.args.hall.now in
    offset_page_at start (view c.args.caller.now.pass).seen c.args.multi c.offsets_bank-bank.result (offsets_here start c.args.multi c.offsets_bank-bank.result c.args.banks c.offsets_bank-bank.ensures.bank c.requires.step.each.0) c.requires.made

pub record_offset-requires-clause-may : goal.record_offset-requires-clause-may
record_offset-requires-clause-may g c =
    let old = c.args.caller.now in
    offset_may (start_of c.args.hall.now) (view old.pass).seen old.number c.args.multi c.args.offset (by_at old.number old.session.levels.commands) refl c.requires.may

pub returns-in-Ok-clause-visited : goal.returns-in-Ok-clause-visited
returns-in-Ok-clause-visited g c =
    let hall = c.args.hall.now in
    let start = start_of hall in
    let old = c.args.caller.now in
    let w = c.record_offset.new.caller in
    let e = c.record_offset.ensures in
    let by = by_at old.number old.session.levels.commands in
    let bank = c.offsets_bank-bank.result in
    let inside : bank < start.banks = subst (λ z. bank < z) c.requires.step.each.0 c.offsets_bank-bank.ensures.within in
    visited_of hall c.args.banks IsPlain old w c.requires.step e.own e.ready e.went e.same
    (done_adds start (view old.pass) (view w.pass) (offsets_lock bank) by old.session c.requires.step.may.ready.at (is_offsets_lock start bank inside) (kinds.Set (changes.Offset by c.args.multi c.args.offset ∷ [])) tt c.in-Ok.ensures.section)

pub returns-in-Ok-clause-begins : goal.returns-in-Ok-clause-begins
returns-in-Ok-clause-begins g c = inl c.in-Ok.ensures.set

pub returns-in-Err-DiskFault-clause-visited : goal.returns-in-Err-DiskFault-clause-visited
returns-in-Err-DiskFault-clause-visited g c =
    let hall = c.args.hall.now in
    let start = start_of hall in
    let old = c.args.caller.now in
    let w = c.record_offset.new.caller in
    let e = c.record_offset.ensures in
    let by = by_at old.number old.session.levels.commands in
    let bank = c.offsets_bank-bank.result in
    let inside : bank < start.banks = subst (λ z. bank < z) c.requires.step.each.0 c.offsets_bank-bank.ensures.within in
    visited_of hall c.args.banks (MayMeet (refusals.DiskFault (locks.Offsets bank))) old w c.requires.step e.own e.ready e.went e.same
    (fault_adds start (view old.pass) (view w.pass) (offsets_lock bank) by old.session c.requires.step.may.ready.at (is_offsets_lock start bank inside) _ c.in-Err-DiskFault.field-0 (locks.Offsets bank) refl c.in-Err-DiskFault.field-0-is c.in-Err-DiskFault.ensures.section)

pub returns-in-Err-DiskFault-clause-fault : goal.returns-in-Err-DiskFault-clause-fault
returns-in-Err-DiskFault-clause-fault g c = c.in-Err-DiskFault.ensures.fault (ap (λ z. Err z) c.in-Err-DiskFault.field-0-is)

pub pass_cut-requires : goal.pass_cut-requires
pass_cut-requires g c =
    let hall = c.args.hall.now in
    let start = start_of hall in
    let old = c.args.caller.now in
    let w = c.record_offset.new.caller in
    let e = c.record_offset.ensures in
    let by = by_at old.number old.session.levels.commands in
    let bank = c.offsets_bank-bank.result in
    let inside : bank < start.banks = subst (λ z. bank < z) c.requires.step.each.0 c.offsets_bank-bank.ensures.within in
    (visited_of hall c.args.banks IsPlain old w c.requires.step e.own e.ready e.went e.same
    (cut_adds start (view old.pass) (view w.pass) (offsets_lock bank) by old.session c.requires.step.may.ready.at (is_offsets_lock start bank inside) _ c.in-Err-Cut.field-0 _ c.in-Err-Cut.field-0-is c.in-Err-Cut.ensures.section)).step

pub returns-in-Err-Cut-clause-visited : goal.returns-in-Err-Cut-clause-visited
returns-in-Err-Cut-clause-visited g c =
    let hall = c.args.hall.now in
    let start = start_of hall in
    let old = c.args.caller.now in
    let w = c.record_offset.new.caller in
    let x = c.pass_cut.new.caller in
    let e = c.record_offset.ensures in
    let by = by_at old.number old.session.levels.commands in
    let bank = c.offsets_bank-bank.result in
    let inside : bank < start.banks = subst (λ z. bank < z) c.requires.step.each.0 c.offsets_bank-bank.ensures.within in
    visited_then hall c.args.banks IsPlain IsPlain IsPlain old w x (same_making old.session w.session e.same.0) (λ lock kind m. m) (λ lock kind m. m)
    (visited_of hall c.args.banks IsPlain old w c.requires.step e.own e.ready e.went e.same
    (cut_adds start (view old.pass) (view w.pass) (offsets_lock bank) by old.session c.requires.step.may.ready.at (is_offsets_lock start bank inside) _ c.in-Err-Cut.field-0 _ c.in-Err-Cut.field-0-is c.in-Err-Cut.ensures.section))
    c.pass_cut.ensures.visited

pub returns-in-Err-Cut-clause-session : goal.returns-in-Err-Cut-clause-session
returns-in-Err-Cut-clause-session g c = c.pass_cut.ensures.session ∙ c.record_offset.ensures.same.0

pub returns-in-Err-Cut-clause-begins : goal.returns-in-Err-Cut-clause-begins
returns-in-Err-Cut-clause-begins g c =
    let start = start_of c.args.hall.now in
    let w = (view c.record_offset.new.caller.pass).seen in
    let x = (view c.pass_cut.new.caller.pass).seen in
    let grows = c.pass_cut.ensures.visited.went.grows in
    let bank = c.offsets_bank-bank.result in
    let here = offsets_here start c.args.multi bank c.args.banks c.offsets_bank-bank.ensures.bank c.requires.step.each.0 in
    begin_gone start w x c.args.multi c.args.offset bank here grows
    (c.in-Err-Cut.ensures.gone (few_before w x grows c.pass_cut.ensures.few) _ (ap (λ z. Err z) c.in-Err-Cut.field-0-is))
