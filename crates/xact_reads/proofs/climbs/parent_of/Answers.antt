use Rattle.std.proofs.Common.{◌<◌, arith, refl, sym, subst}
use Rattle.hall.specs.Calls.{view, start_of}
use Rattle.tx_events.specs.declared.refusal.Lock.TheVariants as locks
use Rattle.tx_core.specs.declared.entry.Kind.TheVariants as kinds
use Rattle.tx_core.specs.Locks.{subtrans_lock}
use Rattle.engine_parts.specs.Sessions.{by_at}
use Rattle.bank_sections.proofs.Faulting.{done_adds, fault_adds}
use Rattle.bank_sections.proofs.Visiting.{is_subtrans_lock}
use Rattle.bank_sections.specs.Reads.{IsParentOf}
use Rattle.bank_sections.specs.Sections.{BankRefused, IsSubtransCut}
use Rattle.store_pages.specs.Layouts.{word_page_of}
use Rattle.xact_reads.proofs.Aparting.{section_apart}
use Rattle.xact_reads.proofs.Climbing.{parent_below}
use Rattle.xact_reads.proofs.climbs.parent_of.Goals as goal

pub returns-in-Ok-clause-parent : goal.returns-in-Ok-clause-parent
returns-in-Ok-clause-parent g c told used few =
    let start = start_of c.args.hall.now in
    let lists = (view c.read_parent.new.caller.pass).seen in
    let is = c.in-Ok.ensures.parent told used few in
    subst (IsParentOf start lists c.args.x) (sym (c.below.ensures.kept (parent_below start lists c.args.x c.in-Ok.parent c.requires.ready.at.base c.in-Ok.ensures.ready.at.kept is))) is

pub returns-in-Ok-clause-adds : goal.returns-in-Ok-clause-adds
returns-in-Ok-clause-adds g c =
    let old = c.args.caller.now in
    let bank = c.bank_of-bank.result in
    let start = start_of c.args.hall.now in
    let inside : bank < start.banks = subst (λ z. bank < z) c.requires.banks.0 c.bank_of-bank.ensures.within in
    done_adds start (view old.pass) (view c.read_parent.new.caller.pass) (subtrans_lock bank) (by_at old.number old.session.levels.commands) old.session c.requires.ready.at (is_subtrans_lock start bank inside) kinds.Look tt c.in-Ok.ensures.section

pub returns-in-Err-DiskFault-clause-adds : goal.returns-in-Err-DiskFault-clause-adds
returns-in-Err-DiskFault-clause-adds g c =
    let old = c.args.caller.now in
    let bank = c.bank_of-bank.result in
    let start = start_of c.args.hall.now in
    let inside : bank < start.banks = subst (λ z. bank < z) c.requires.banks.0 c.bank_of-bank.ensures.within in
    fault_adds start (view old.pass) (view c.read_parent.new.caller.pass) (subtrans_lock bank) (by_at old.number old.session.levels.commands) old.session c.requires.ready.at (is_subtrans_lock start bank inside) _ c.in-Err-DiskFault.field-0 (locks.Subtrans bank) refl c.in-Err-DiskFault.field-0-is c.in-Err-DiskFault.ensures.section

pub returns-in-Ok-clause-apart : goal.returns-in-Ok-clause-apart
returns-in-Ok-clause-apart g c =
    section_apart (start_of c.args.hall.now) (view c.args.caller.now.pass) (view c.read_parent.new.caller.pass) (subtrans_lock c.bank_of-bank.result) _ c.args.caller.now.number c.requires.ready.at.name (omega arith) c.in-Ok.ensures.section

pub returns-in-Err-DiskFault-clause-apart : goal.returns-in-Err-DiskFault-clause-apart
returns-in-Err-DiskFault-clause-apart g c =
    let old = c.args.caller.now in
    let start = start_of c.args.hall.now in
    let lock = subtrans_lock c.bank_of-bank.result in
    let v = view old.pass in
    let w = view c.read_parent.new.caller.pass in
    let by = by_at old.number old.session.levels.commands in
    let met = subst (λ z. BankRefused start lock by (IsSubtransCut start w.seen c.bank_of-bank.result (word_page_of c.args.x)) v w z) c.in-Err-DiskFault.field-0-is c.in-Err-DiskFault.ensures.section in
    section_apart start v w lock _ old.number c.requires.ready.at.name (omega arith) met.1
