use Rattle.std.proofs.Common.{◌<◌, inr, arith, refl, rules, subst}
use Rattle.std.proofs.lemmas.Bool.Decides.{nat_tests}
use Rattle.hall.specs.Calls.{view, start_of}
use Rattle.tx_events.specs.declared.refusal.Lock.TheVariants as locks
use Rattle.tx_events.specs.declared.refusal.Refusal.TheVariants as refusals
use Rattle.tx_core.specs.declared.entry.Kind.TheVariants as kinds
use Rattle.tx_core.specs.Locks.{xact_lock}
use Rattle.engine_parts.specs.Adding.{MayMeet}
use Rattle.engine_parts.specs.Sessions.{by_at}
use Rattle.engine_parts.proofs.Adding.{plain_meets}
use Rattle.engine_parts.proofs.Unmoved.{look_adds}
use Rattle.bank_sections.proofs.Faulting.{cut_adds, done_adds, fault_adds}
use Rattle.bank_sections.proofs.Visiting.{is_xact_lock}
use Rattle.bank_sections.specs.Sections.{BankRefused, IsXactCut}
use Rattle.store_pages.specs.Layouts.{xact_page_of}
use Rattle.xact_reads.proofs.Aparting.{found_cut, section_apart}
use Rattle.xact_reads.proofs.Going.{read_adds, went_both}
use Rattle.xact_reads.proofs.states.state_of.Goals as goal

pub returns-then-lt-clause-went : goal.returns-then-lt-clause-went
returns-then-lt-clause-went g c =
    went_both c.args.caller.now.number c.read_state.new.caller.number (view c.args.caller.now.pass).seen (view c.read_state.new.caller.pass).seen (view c.read_oldest-oldest.new.caller.pass).seen c.in-Err-Cut.ensures.same.1 c.in-Err-Cut.ensures.went c.read_oldest-oldest.ensures.went

pub returns-then-lt-clause-unread : goal.returns-then-lt-clause-unread
returns-then-lt-clause-unread g c = (c.read_oldest-oldest.ensures.oldest, grind (arith, nat_tests, c.if-lt.true, c.lt.ensures))

pub returns-in-Ok-clause-adds : goal.returns-in-Ok-clause-adds
returns-in-Ok-clause-adds g c =
    let old = c.args.caller.now in
    let bank = c.bank_of-bank.result in
    let start = start_of c.args.hall.now in
    let inside : bank < start.banks = subst (λ z. bank < z) c.requires.banks.0 c.bank_of-bank.ensures.within in
    done_adds start (view old.pass) (view c.read_state.new.caller.pass) (xact_lock bank) (by_at old.number old.session.levels.commands) old.session c.requires.ready.at (is_xact_lock start bank inside) kinds.Look tt c.in-Ok.ensures.section

pub returns-in-Err-DiskFault-clause-adds : goal.returns-in-Err-DiskFault-clause-adds
returns-in-Err-DiskFault-clause-adds g c =
    let old = c.args.caller.now in
    let bank = c.bank_of-bank.result in
    let start = start_of c.args.hall.now in
    let inside : bank < start.banks = subst (λ z. bank < z) c.requires.banks.0 c.bank_of-bank.ensures.within in
    fault_adds start (view old.pass) (view c.read_state.new.caller.pass) (xact_lock bank) (by_at old.number old.session.levels.commands) old.session c.requires.ready.at (is_xact_lock start bank inside) _ c.in-Err-DiskFault.field-0 (locks.Xact bank) refl c.in-Err-DiskFault.field-0-is c.in-Err-DiskFault.ensures.section

pub returns-then-lt-clause-adds : goal.returns-then-lt-clause-adds
returns-then-lt-clause-adds g c =
    let old = c.args.caller.now in
    let u = c.read_state.new.caller in
    let w = view c.read_oldest-oldest.new.caller.pass in
    let d = c.in-Err-Cut.ensures in
    let bank = c.bank_of-bank.result in
    let start = start_of c.args.hall.now in
    let by = by_at old.number old.session.levels.commands in
    let inside : bank < start.banks = subst (λ z. bank < z) c.requires.banks.0 c.bank_of-bank.ensures.within in
    let told = MayMeet (refusals.TooOld c.read_oldest-oldest.result) in
    let first = cut_adds start (view old.pass) (view u.pass) (xact_lock bank) by old.session c.requires.ready.at (is_xact_lock start bank inside) _ c.in-Err-Cut.field-0 _ c.in-Err-Cut.field-0-is d.section in
    read_adds old.number u.number old.session u.session told (view old.pass).seen (view u.pass).seen w.seen d.same.1 d.same.0 (plain_meets (refusals.TooOld c.read_oldest-oldest.result)) first
    (look_adds start (view u.pass) w u.number u.session told d.ready.at (λ number. tt) tt c.read_oldest-oldest.ensures.section)

pub returns-in-Ok-clause-apart : goal.returns-in-Ok-clause-apart
returns-in-Ok-clause-apart g c =
    section_apart (start_of c.args.hall.now) (view c.args.caller.now.pass) (view c.read_state.new.caller.pass) (xact_lock c.bank_of-bank.result) _ c.args.caller.now.number c.requires.ready.at.name (omega arith) c.in-Ok.ensures.section

pub returns-in-Err-DiskFault-clause-apart : goal.returns-in-Err-DiskFault-clause-apart
returns-in-Err-DiskFault-clause-apart g c =
    let old = c.args.caller.now in
    let start = start_of c.args.hall.now in
    let lock = xact_lock c.bank_of-bank.result in
    let v = view old.pass in
    let w = view c.read_state.new.caller.pass in
    let by = by_at old.number old.session.levels.commands in
    let met = subst (λ z. BankRefused start lock by (IsXactCut start w.seen c.bank_of-bank.result (xact_page_of c.args.x)) v w z) c.in-Err-DiskFault.field-0-is c.in-Err-DiskFault.ensures.section in
    section_apart start v w lock _ old.number c.requires.ready.at.name (omega arith) met.1

pub returns-then-lt-clause-apart : goal.returns-then-lt-clause-apart
returns-then-lt-clause-apart g c =
    let old = c.args.caller.now in
    let u = c.read_state.new.caller in
    let e = c.in-Err-Cut.ensures in
    let start = start_of c.args.hall.now in
    let bank = c.bank_of-bank.result in
    let v = view old.pass in
    let w = view c.read_oldest-oldest.new.caller.pass in
    let by = by_at old.number old.session.levels.commands in
    let inside : bank < start.banks = subst (λ z. bank < z) c.requires.banks.0 c.bank_of-bank.ensures.within in
    let met = subst (λ z. BankRefused start (xact_lock bank) by (IsXactCut start (view u.pass).seen bank (xact_page_of c.args.x)) v (view u.pass) z) c.in-Err-Cut.field-0-is e.section in
    inr (found_cut start v (view u.pass) w old.number u.number old.session u.session bank c.args.x _ inside e.same.1 e.same.0 c.requires.ready.at e.ready.at (search rules) met.0 met.1 c.read_oldest-oldest.ensures.section c.read_oldest-oldest.ensures.went.on.grows)
