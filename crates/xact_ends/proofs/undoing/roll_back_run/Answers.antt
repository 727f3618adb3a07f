use Rattle.std.proofs.Common.{◌≡◌, ℕ, ◌%◌, ◌<◌, ◌≤◌, false, ap, ◌∙◌, subst, sym, refl, slice_index, length, arith}
use Rattle.std.proofs.lemmas.List.{get_or_default}
use Rattle.std.specs.List.{slice_range}
use Rattle.hall.specs.Calls.{view, start_of}
use Rattle.tx_events.specs.Ids.{low_half}
use Rattle.tx_core.specs.declared.entry.State.TheVariants as states
use Rattle.tx_core.specs.Locks.{xact_page, xact_lock}
use Rattle.engine_parts.specs.declared.session.Session.{Session}
use Rattle.engine_parts.specs.Stages.{may_be_recorded}
use Rattle.bank_sections.specs.Sets.{MaySet}
use Rattle.xact_ends.proofs.Aborted.{among_all}
use Rattle.xact_ends.proofs.RolledBack.{call_rolling}
use Rattle.xact_ends.proofs.Unrecorded.{may_abort}
use Rattle.tx_events.specs.declared.refusal.Lock.TheVariants as locks
use Rattle.tx_core.specs.declared.entry.Kind.TheVariants as kinds
use Rattle.tx_core.specs.Laws.{all_set}
use Rattle.engine_parts.specs.Sessions.{by_at}
use Rattle.bank_sections.proofs.Faulting.{done_adds, fault_adds}
use Rattle.bank_sections.proofs.Visiting.{is_xact_lock}
use Rattle.xact_ends.proofs.undoing.roll_back_run.Goals as goal

pub set_page-requires-clause-may : goal.set_page-requires-clause-may
set_page-requires-clause-may g c =
    let start = start_of c.args.hall.now in
    let v = view c.args.caller.now.pass in
    let s = c.args.caller.now.session in
    let n = c.args.caller.now.number in
    let opened = s.levels.open_ids.items in
    let first = c.args.first in
    let a = c.requires.may.ready.at in
    let within : first < length opened = let x = c.requires.some in let y = c.requires.among in omega arith in
    let id_is : c.index-id.result.now ≡ slice_index opened first = c.index-id.ensures ∙ get_or_default opened first c.index-id.result.now 0 within in
    let page_is : c.xact_page.result ≡ xact_page (low_half (slice_index opened first)) = c.xact_page.ensures.page ∙ (ap xact_page c.low.ensures ∙ ap (λ z. xact_page (low_half z)) id_is) in
    subst (λ z. MaySet start v.seen n z (slice_range opened first c.args.past) states.Aborted) (sym (c.bank_of-bank.ensures.value ∙ (λ j. page_is j % c.requires.banks.0 j)))
    (may_abort start v.seen n first c.args.past opened a.kept (a.clear (ap may_be_recorded c.requires.stage)) a.stands.opened (among_all opened first c.args.past) c.requires.page)

pub returns-in-Ok-clause-may : goal.returns-in-Ok-clause-may
returns-in-Ok-clause-may g c =
    let old = c.args.caller.now in
    let t = c.set_page.new.caller in
    let e = c.set_page.ensures in
    call_rolling (start_of c.args.hall.now) (view old.pass) (view t.pass) old.number t.number old.session t.session c.args.first c.args.past c.requires.may c.requires.stage c.requires.inside e.asks e.same.0 e.same.1 e.ready

pub returns-in-Err-DiskFault-clause-may : goal.returns-in-Err-DiskFault-clause-may
returns-in-Err-DiskFault-clause-may g c =
    let old = c.args.caller.now in
    let t = c.set_page.new.caller in
    let e = c.set_page.ensures in
    call_rolling (start_of c.args.hall.now) (view old.pass) (view t.pass) old.number t.number old.session t.session c.args.first c.args.past c.requires.may c.requires.stage c.requires.inside e.asks e.same.0 e.same.1 e.ready

pub returns-in-Ok-clause-adds : goal.returns-in-Ok-clause-adds
returns-in-Ok-clause-adds g c =
    let old = c.args.caller.now in
    let start = start_of c.args.hall.now in
    let by = by_at old.number old.session.levels.commands in
    let bank = c.bank_of-bank.result in
    let inside : bank < start.banks = subst (λ z. bank < z) c.requires.banks.0 c.bank_of-bank.ensures.within in
    done_adds start (view old.pass) (view c.set_page.new.caller.pass) (xact_lock bank) by old.session c.requires.may.ready.at (is_xact_lock start bank inside) (kinds.Set (all_set by states.Aborted (slice_range old.session.levels.open_ids.items c.args.first c.args.past))) tt c.in-Ok.ensures.section

pub returns-in-Err-DiskFault-clause-adds : goal.returns-in-Err-DiskFault-clause-adds
returns-in-Err-DiskFault-clause-adds g c =
    let old = c.args.caller.now in
    let start = start_of c.args.hall.now in
    let by = by_at old.number old.session.levels.commands in
    let bank = c.bank_of-bank.result in
    let inside : bank < start.banks = subst (λ z. bank < z) c.requires.banks.0 c.bank_of-bank.ensures.within in
    fault_adds start (view old.pass) (view c.set_page.new.caller.pass) (xact_lock bank) by old.session c.requires.may.ready.at (is_xact_lock start bank inside) _ c.in-Err-DiskFault.field-0 (locks.Xact bank) refl c.in-Err-DiskFault.field-0-is c.in-Err-DiskFault.ensures.section
