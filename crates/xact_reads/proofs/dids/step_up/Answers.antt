use Rattle.std.proofs.Common.{◌<◌, IfSome, None, Some, inl, inr, refl, subst}
use Rattle.hall.specs.Calls.{view, start_of}
use Rattle.tx_events.specs.declared.event.By.{By}
use Rattle.tx_events.specs.declared.refusal.Lock.TheVariants as locks
use Rattle.tx_core.specs.declared.entry.Kind.TheVariants as kinds
use Rattle.tx_core.specs.Locks.{subtrans_lock}
use Rattle.engine_parts.specs.Adding.{IsPlain, MayMeet}
use Rattle.engine_parts.specs.Sessions.{by_at}
use Rattle.engine_parts.proofs.Adding.{plain_meets}
use Rattle.engine_parts.proofs.Sectioning.{same_command}
use Rattle.bank_sections.proofs.Faulting.{cut_adds, done_adds, fault_adds}
use Rattle.bank_sections.proofs.Visiting.{is_subtrans_lock}
use Rattle.xact_reads.specs.Readings.{IsStateUnread}
use Rattle.xact_reads.proofs.Ascending.{cut_told, just_now, parent_found, parent_says}
use Rattle.xact_reads.proofs.Going.{read_adds, went_both}
use Rattle.xact_reads.proofs.Storing.{below_less}
use Rattle.xact_reads.proofs.dids.step_up.Goals as goal

pub returns-in-Ok-ancestor_state-clause-went : goal.returns-in-Ok-ancestor_state-clause-went
returns-in-Ok-ancestor_state-clause-went g c =
    let u = c.read_parent.new.caller in
    went_both c.args.caller.now.number u.number (view c.args.caller.now.pass).seen (view u.pass).seen (view c.ancestor_state.new.caller.pass).seen c.in-Ok.ensures.same.1 c.in-Ok.ensures.went c.in-Ok-ancestor_state.ensures.went

pub returns-in-Ok-ancestor_state-clause-adds : goal.returns-in-Ok-ancestor_state-clause-adds
returns-in-Ok-ancestor_state-clause-adds g c =
    let old = c.args.caller.now in
    let u = c.read_parent.new.caller in
    let bank = c.bank_of-bank.result in
    let start = start_of c.args.hall.now in
    let inside : bank < start.banks = subst (λ z. bank < z) c.requires.banks.0 c.bank_of-bank.ensures.within in
    read_adds old.number u.number old.session u.session IsPlain (view old.pass).seen (view u.pass).seen (view c.ancestor_state.new.caller.pass).seen c.in-Ok.ensures.same.1 c.in-Ok.ensures.same.0 (λ lock kind m. m)
    (done_adds start (view old.pass) (view u.pass) (subtrans_lock bank) (by_at old.number old.session.levels.commands) old.session c.requires.ready.at (is_subtrans_lock start bank inside) kinds.Look tt c.in-Ok.ensures.section)
    c.in-Ok-ancestor_state.ensures.adds

pub returns-in-Ok-ancestor_state-clause-further : goal.returns-in-Ok-ancestor_state-clause-further
returns-in-Ok-ancestor_state-clause-further g c = below_less c.args.x c.in-Some.parent c.in-Ok-ancestor_state.step (subst (λ z. IfSome z (λ y. y < c.args.x)) c.in-Some.is c.below.ensures.below) c.in-Ok-ancestor_state.ensures.further

pub returns-in-Err-clause-went : goal.returns-in-Err-clause-went
returns-in-Err-clause-went g c =
    let u = c.read_parent.new.caller in
    went_both c.args.caller.now.number u.number (view c.args.caller.now.pass).seen (view u.pass).seen (view c.ancestor_state.new.caller.pass).seen c.in-Ok.ensures.same.1 c.in-Ok.ensures.went c.in-Err.ensures.went

pub returns-in-Err-clause-adds : goal.returns-in-Err-clause-adds
returns-in-Err-clause-adds g c =
    let old = c.args.caller.now in
    let u = c.read_parent.new.caller in
    let bank = c.bank_of-bank.result in
    let start = start_of c.args.hall.now in
    let inside : bank < start.banks = subst (λ z. bank < z) c.requires.banks.0 c.bank_of-bank.ensures.within in
    read_adds old.number u.number old.session u.session (MayMeet c.in-Err.refusal) (view old.pass).seen (view u.pass).seen (view c.ancestor_state.new.caller.pass).seen c.in-Ok.ensures.same.1 c.in-Ok.ensures.same.0 (plain_meets c.in-Err.refusal)
    (done_adds start (view old.pass) (view u.pass) (subtrans_lock bank) (by_at old.number old.session.levels.commands) old.session c.requires.ready.at (is_subtrans_lock start bank inside) kinds.Look tt c.in-Ok.ensures.section)
    c.in-Err.ensures.adds

pub returns-in-Err-clause-unread : goal.returns-in-Err-clause-unread
returns-in-Err-clause-unread g c =
    let old = c.args.caller.now in
    let u = c.read_parent.new.caller in
    let w = view c.ancestor_state.new.caller.pass in
    inl (subst (λ (b : By). IsStateUnread (start_of c.args.hall.now) w.seen b c.args.asked c.in-Err.refusal) (same_command old.number u.number old.session u.session c.in-Ok.ensures.same.1 c.in-Ok.ensures.same.0) c.in-Err.ensures.unread)

pub returns-in-Ok-ancestor_state-clause-said : goal.returns-in-Ok-ancestor_state-clause-said
returns-in-Ok-ancestor_state-clause-said g c told =
    let old = view c.args.caller.now.pass in
    let u = view c.read_parent.new.caller.pass in
    let w = view c.ancestor_state.new.caller.pass in
    let start = start_of c.args.hall.now in
    let e = c.in-Ok.ensures in
    let f = c.in-Ok-ancestor_state.ensures in
    parent_says start old.seen u.seen w.seen c.args.x c.in-Some.parent c.in-Ok-ancestor_state.step e.went.on.grows f.went.on.grows
    (parent_found start old.seen u.seen c.args.x c.in-Ok.found c.below.result (Some c.in-Some.parent) c.requires.ready.at.base e.ready.at.kept e.went.on.grows (e.parent told) c.below.ensures.kept c.in-Some.is) (f.said told)

pub returns-in-None-clause-said : goal.returns-in-None-clause-said
returns-in-None-clause-said g c told =
    let old = view c.args.caller.now.pass in
    let u = view c.read_parent.new.caller.pass in
    let e = c.in-Ok.ensures in
    inl (refl, inl (parent_found (start_of c.args.hall.now) old.seen u.seen c.args.x c.in-Ok.found c.below.result None c.requires.ready.at.base e.ready.at.kept e.went.on.grows (e.parent told) c.below.ensures.kept c.in-None.is))

pub returns-in-Err-Cut-clause-said : goal.returns-in-Err-Cut-clause-said
returns-in-Err-Cut-clause-said g c told =
    let old = c.args.caller.now in
    let u = view c.read_parent.new.caller.pass in
    let d = c.in-Err-Cut.ensures in
    let bank = c.bank_of-bank.result in
    inl (refl, inr (just_now (view old.pass).seen u.seen _ d.went.on.grows (bank, c.in-Err-Cut.field-0-0, cut_told (start_of c.args.hall.now) (subtrans_lock bank) (by_at old.number old.session.levels.commands) _ (view old.pass) u c.in-Err-Cut.field-0 _ c.in-Err-Cut.field-0-is d.section)))

pub returns-in-None-clause-adds : goal.returns-in-None-clause-adds
returns-in-None-clause-adds g c =
    let old = c.args.caller.now in
    let bank = c.bank_of-bank.result in
    let start = start_of c.args.hall.now in
    let inside : bank < start.banks = subst (λ z. bank < z) c.requires.banks.0 c.bank_of-bank.ensures.within in
    done_adds start (view old.pass) (view c.read_parent.new.caller.pass) (subtrans_lock bank) (by_at old.number old.session.levels.commands) old.session c.requires.ready.at (is_subtrans_lock start bank inside) kinds.Look tt c.in-Ok.ensures.section

pub returns-in-Err-DiskFault-clause-adds : goal.returns-in-Err-DiskFault-clause-adds
returns-in-Err-DiskFault-clause-adds g c =
    let old = c.args.caller.now in
    let bank = c.bank_of-bank.result in
    let start = start_of c.args.hall.now in
    let inside : bank < start.banks = subst (λ z. bank < z) c.requires.banks.0 c.bank_of-bank.ensures.within in
    fault_adds start (view old.pass) (view c.read_parent.new.caller.pass) (subtrans_lock bank) (by_at old.number old.session.levels.commands) old.session c.requires.ready.at (is_subtrans_lock start bank inside) _ c.in-Err-DiskFault.field-0 (locks.Subtrans bank) refl c.in-Err-DiskFault.field-0-is c.in-Err-DiskFault.ensures.section

pub returns-in-Err-Cut-clause-adds : goal.returns-in-Err-Cut-clause-adds
returns-in-Err-Cut-clause-adds g c =
    let old = c.args.caller.now in
    let bank = c.bank_of-bank.result in
    let start = start_of c.args.hall.now in
    let inside : bank < start.banks = subst (λ z. bank < z) c.requires.banks.0 c.bank_of-bank.ensures.within in
    cut_adds start (view old.pass) (view c.read_parent.new.caller.pass) (subtrans_lock bank) (by_at old.number old.session.levels.commands) old.session c.requires.ready.at (is_subtrans_lock start bank inside) _ c.in-Err-Cut.field-0 _ c.in-Err-Cut.field-0-is c.in-Err-Cut.ensures.section
