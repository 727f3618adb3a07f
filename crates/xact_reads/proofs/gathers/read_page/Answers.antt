use Rattle.std.proofs.Common.{Err, ◌<◌, ap, refl, subst}
use Rattle.hall.specs.Calls.{view, start_of}
use Rattle.tx_events.specs.declared.refusal.Lock.TheVariants as locks
use Rattle.tx_core.specs.Locks.{members_lock}
use Rattle.engine_parts.specs.Sessions.{by_at}
use Rattle.multi_banks.proofs.Visiting.{is_members_lock}
use Rattle.xact_reads.proofs.Banking.{cut_adds, cut_apart, failed_adds, failed_apart, free_later, looked_adds, looked_apart}
use Rattle.xact_reads.proofs.Gathering.{slots_since}
use Rattle.xact_reads.proofs.gathers.read_page.Goals as goal

pub returns-in-Ok-clause-adds : goal.returns-in-Ok-clause-adds
returns-in-Ok-clause-adds g c =
    let old = c.args.caller.now in
    let bank = c.bank_of-bank.result in
    let start = start_of c.args.hall.now in
    let inside : bank < start.banks = subst (λ z. bank < z) c.requires.banks.0 c.bank_of-bank.ensures.within in
    looked_adds start (view old.pass) (view c.read_members.new.caller.pass) (members_lock bank) (by_at old.number old.session.levels.commands) old.session c.requires.ready.at (is_members_lock start bank inside) c.in-Ok.ensures.section

pub returns-in-Ok-clause-slots : goal.returns-in-Ok-clause-slots
returns-in-Ok-clause-slots g c told few from to =
    let e = c.in-Ok.ensures in
    let r = e.slots told from in
    record {
      slots = r.0;
      behind = r.1;
      long = r.2;
      read = slots_since (start_of c.args.hall.now) (view c.args.caller.now.pass).seen (view c.read_members.new.caller.pass).seen c.args.offset r.0 e.went.grows few r.3;
    }

pub returns-in-Err-DiskFault-clause-adds : goal.returns-in-Err-DiskFault-clause-adds
returns-in-Err-DiskFault-clause-adds g c =
    let old = c.args.caller.now in
    let bank = c.bank_of-bank.result in
    let start = start_of c.args.hall.now in
    let inside : bank < start.banks = subst (λ z. bank < z) c.requires.banks.0 c.bank_of-bank.ensures.within in
    failed_adds start (view old.pass) (view c.read_members.new.caller.pass) (members_lock bank) (by_at old.number old.session.levels.commands) old.session c.requires.ready.at (is_members_lock start bank inside) _ c.in-Err-DiskFault.field-0 (locks.Members bank) refl c.in-Err-DiskFault.field-0-is c.in-Err-DiskFault.ensures.section

pub returns-in-Err-Cut-clause-adds : goal.returns-in-Err-Cut-clause-adds
returns-in-Err-Cut-clause-adds g c =
    let old = c.args.caller.now in
    let bank = c.bank_of-bank.result in
    let start = start_of c.args.hall.now in
    let inside : bank < start.banks = subst (λ z. bank < z) c.requires.banks.0 c.bank_of-bank.ensures.within in
    cut_adds start (view old.pass) (view c.read_members.new.caller.pass) (members_lock bank) (by_at old.number old.session.levels.commands) old.session c.requires.ready.at (is_members_lock start bank inside) _ c.in-Err-Cut.field-0 _ c.in-Err-Cut.field-0-is c.in-Err-Cut.ensures.section

pub returns-in-Err-Cut-clause-slots : goal.returns-in-Err-Cut-clause-slots
returns-in-Err-Cut-clause-slots g c told few from to =
    let e = c.in-Err-Cut.ensures in
    let start = start_of c.args.hall.now in
    absurd (e.uncut few from (free_later start (view c.args.caller.now.pass).seen (view c.read_members.new.caller.pass).seen c.args.offset e.ready.at.base e.ready.at.kept e.went.grows to) _ (ap Err c.in-Err-Cut.field-0-is))

pub returns-in-Ok-clause-apart : goal.returns-in-Ok-clause-apart
returns-in-Ok-clause-apart g c =
    let old = c.args.caller.now in
    let bank = c.bank_of-bank.result in
    let start = start_of c.args.hall.now in
    let inside : bank < start.banks = subst (λ z. bank < z) c.requires.banks.0 c.bank_of-bank.ensures.within in
    looked_apart start (view old.pass) (view c.read_members.new.caller.pass) (members_lock bank) (by_at old.number old.session.levels.commands) old.session c.requires.ready.at (is_members_lock start bank inside) c.in-Ok.ensures.section

pub returns-in-Err-DiskFault-clause-apart : goal.returns-in-Err-DiskFault-clause-apart
returns-in-Err-DiskFault-clause-apart g c =
    let old = c.args.caller.now in
    let bank = c.bank_of-bank.result in
    let start = start_of c.args.hall.now in
    let inside : bank < start.banks = subst (λ z. bank < z) c.requires.banks.0 c.bank_of-bank.ensures.within in
    failed_apart start (view old.pass) (view c.read_members.new.caller.pass) (members_lock bank) (by_at old.number old.session.levels.commands) old.session c.requires.ready.at (is_members_lock start bank inside) _ c.in-Err-DiskFault.field-0 c.in-Err-DiskFault.field-0-is c.in-Err-DiskFault.ensures.section

pub returns-in-Err-Cut-clause-apart : goal.returns-in-Err-Cut-clause-apart
returns-in-Err-Cut-clause-apart g c =
    let old = c.args.caller.now in
    let bank = c.bank_of-bank.result in
    let start = start_of c.args.hall.now in
    let inside : bank < start.banks = subst (λ z. bank < z) c.requires.banks.0 c.bank_of-bank.ensures.within in
    cut_apart start (view old.pass) (view c.read_members.new.caller.pass) (members_lock bank) (by_at old.number old.session.levels.commands) old.session c.requires.ready.at (is_members_lock start bank inside) _ c.in-Err-Cut.field-0 _ c.in-Err-Cut.field-0-is c.in-Err-Cut.ensures.section
