use Rattle.std.proofs.Common.{◌<◌, refl, subst}
use Rattle.hall.specs.Calls.{view, start_of}
use Rattle.tx_events.specs.declared.refusal.Lock.TheVariants as locks
use Rattle.tx_core.specs.Locks.{offsets_lock}
use Rattle.engine_parts.specs.Sessions.{by_at}
use Rattle.multi_banks.proofs.Visiting.{is_offsets_lock}
use Rattle.xact_reads.proofs.Banking.{failed_adds, failed_apart, looked_adds, looked_apart}
use Rattle.xact_reads.proofs.spans.offset_of.Goals as goal

pub returns-in-Ok-clause-adds : goal.returns-in-Ok-clause-adds
returns-in-Ok-clause-adds g c =
    let old = c.args.caller.now in
    let bank = c.bank_of-bank.result in
    let start = start_of c.args.hall.now in
    let inside : bank < start.banks = subst (λ z. bank < z) c.requires.banks.0 c.bank_of-bank.ensures.within in
    looked_adds start (view old.pass) (view c.read_offset.new.caller.pass) (offsets_lock bank) (by_at old.number old.session.levels.commands) old.session c.requires.ready.at (is_offsets_lock start bank inside) c.in-Ok.ensures.section

pub returns-in-Err-DiskFault-clause-adds : goal.returns-in-Err-DiskFault-clause-adds
returns-in-Err-DiskFault-clause-adds g c =
    let old = c.args.caller.now in
    let bank = c.bank_of-bank.result in
    let start = start_of c.args.hall.now in
    let inside : bank < start.banks = subst (λ z. bank < z) c.requires.banks.0 c.bank_of-bank.ensures.within in
    failed_adds start (view old.pass) (view c.read_offset.new.caller.pass) (offsets_lock bank) (by_at old.number old.session.levels.commands) old.session c.requires.ready.at (is_offsets_lock start bank inside) _ c.in-Err-DiskFault.field-0 (locks.Offsets bank) refl c.in-Err-DiskFault.field-0-is c.in-Err-DiskFault.ensures.section

pub returns-in-Ok-clause-apart : goal.returns-in-Ok-clause-apart
returns-in-Ok-clause-apart g c =
    let old = c.args.caller.now in
    let bank = c.bank_of-bank.result in
    let start = start_of c.args.hall.now in
    let inside : bank < start.banks = subst (λ z. bank < z) c.requires.banks.0 c.bank_of-bank.ensures.within in
    looked_apart start (view old.pass) (view c.read_offset.new.caller.pass) (offsets_lock bank) (by_at old.number old.session.levels.commands) old.session c.requires.ready.at (is_offsets_lock start bank inside) c.in-Ok.ensures.section

pub returns-in-Err-DiskFault-clause-apart : goal.returns-in-Err-DiskFault-clause-apart
returns-in-Err-DiskFault-clause-apart g c =
    let old = c.args.caller.now in
    let bank = c.bank_of-bank.result in
    let start = start_of c.args.hall.now in
    let inside : bank < start.banks = subst (λ z. bank < z) c.requires.banks.0 c.bank_of-bank.ensures.within in
    failed_apart start (view old.pass) (view c.read_offset.new.caller.pass) (offsets_lock bank) (by_at old.number old.session.levels.commands) old.session c.requires.ready.at (is_offsets_lock start bank inside) _ c.in-Err-DiskFault.field-0 c.in-Err-DiskFault.field-0-is c.in-Err-DiskFault.ensures.section
