use Rattle.std.proofs.Common.{refl, sym, ap, subst, Err, ◌∙◌, ◌≡◌, ◌≤◌}
use Rattle.tx_core.specs.declared.entry.Kind.TheVariants as kinds
use Rattle.slru_bank.specs.declared.refusal.BankRefusal.TheVariants as refused
use Rattle.slru_bank.specs.declared.refusal.BankRefusal.{BankRefusal}
use Rattle.engine_parts.proofs.Sectioning.{same_command, section_of}
use Rattle.engine_parts.specs.Faults.{fault_by}
use Rattle.engine_parts.specs.Parts.{IsSubtransOf}
use Rattle.engine_parts.specs.Sessions.{by_at}
use Rattle.engine_parts.specs.Stand.{IsSubtransReach, first_subtrans_page}
use Rattle.hall.specs.Calls.{start_of, view}
use Rattle.bank_sections.proofs.Cutting.{cut_met, is_subtrans_lock, may_cut, may_fault_cut, now_told, parents_cut_by, parents_reach, same_told, visited, xmin_later}
use Rattle.bank_sections.proofs.ParentsCut.{parents_cut}
use Rattle.bank_sections.specs.Cuts.{CutSection, cut_fault_by, cut_too}
use Rattle.notes.specs.Lists.{at}
use Rattle.store_pages.specs.Layouts.{subtrans_cut_page}
use Rattle.slru_bank.specs.Calls.{cutoff_of, faults_of}
use Rattle.slru_bank.specs.Removal.{later_cutoff}
use Rattle.tx_core.proofs.FaultCounts.{risen_past}
use Rattle.tx_core.specs.Entries.{asks_in, cut_in, event_of, links_in}
use Rattle.tx_core.specs.FaultsRise.{count_in, faults_told}
use Rattle.tx_core.specs.Locks.{subtrans_lock}
use Rattle.tx_core.specs.MultiEntries.{multi_of}
use Rattle.tx_core.specs.Pages.{zeroed_in}
use Rattle.tx_core.specs.declared.entry.Entry.{Entry}
use Rattle.tx_events.specs.PageOrder.{Ids}
use Rattle.tx_events.specs.declared.event.By.{By}
use Rattle.bank_sections.proofs.cuts.cut_parents.Goals as goal

pub leave_quiet-requires-clause-may : goal.leave_quiet-requires-clause-may
leave_quiet-requires-clause-may g c =
    let start = start_of c.args.hall.now in
    let e = c.enter_subtrans-held.ensures in
    let v = view c.args.caller.now.pass in
    let u = view c.enter_subtrans-held.new.caller.pass in
    let t = c.enter_subtrans-held.new.caller in
    let pages = is_subtrans_lock start c.args.bank c.requires.bank.0 in
    let on = c.subtrans_cut_page-page.ensures ∙ ap (λ z. subtrans_cut_page z c.args.xmin) c.requires.first in
    may_cut start u.seen (subtrans_lock c.args.bank) (subtrans_cut_page start.base.oldest c.args.xmin) (by_at t.number t.session.levels.commands) c.cut_note-entry.result.value pages (parents_cut_by start u.seen c.args.bank c.args.xmin (xmin_later start v.seen u.seen c.args.xmin e.entered.learns.knows.grows c.requires.told))
    (c.cut_note-entry.ensures ∙ (λ j. record { by = c.command_of-by.ensures j; kind = kinds.Cut (on j) })) (e.at.turns (subtrans_lock c.args.bank))

pub leave_quiet-requires-clause-stands : goal.leave_quiet-requires-clause-stands
leave_quiet-requires-clause-stands g c =
    let start = start_of c.args.hall.now in
    let e = c.enter_subtrans-held.ensures in
    let v = view c.args.caller.now.pass in
    let u = view c.enter_subtrans-held.new.caller.pass in
    let on = c.subtrans_cut_page-page.ensures ∙ ap (λ z. subtrans_cut_page z c.args.xmin) c.requires.first in
    let reach = parents_reach start u.seen c.args.xmin c.requires.ready.at.base e.entered.kept (xmin_later start v.seen u.seen c.args.xmin e.entered.learns.knows.grows c.requires.told) in
    let r = c.in-Ok.ensures in
    let q = c.cut_note-entry.ensures in (
      c.args.bank,
      refl,
      parents_cut (start_of c.args.hall.now) c.args.bank c.requires.ready.at.base c.deref_mut-store.result.now c.truncate.new.self (at (view c.enter_subtrans-held.new.caller.pass).seen (subtrans_lock c.args.bank)) c.subtrans_cut_page-page.result _ (ap (λ (e : Entry). cut_in e.kind) q) (ap links_in q) (ap (λ (e : Entry). zeroed_in e.kind) q) (subst (λ z. first_subtrans_page start ≤ z) (sym on) reach.0) (subst (IsSubtransReach start) (sym on) reach.1) (same_told (start_of c.args.hall.now) (subtrans_lock c.args.bank) _ (faults_of c.deref_mut-store.result.now) (faults_of c.truncate.new.self) (at (view c.enter_subtrans-held.new.caller.pass).seen (subtrans_lock c.args.bank)) (ap (λ (e : Entry). count_in e.kind) q) (subst (λ l. IsSubtransOf (start_of c.args.hall.now) c.args.bank l (at (view c.enter_subtrans-held.new.caller.pass).seen (subtrans_lock c.args.bank))) (sym c.deref_mut-store.ensures.value) c.enter_subtrans-held.ensures.stands).count r.bank.sweeps.count)
          (r.cutoff ∙ ap (λ z. later_cutoff Ids 2048 (cutoff_of c.deref_mut-store.result.now) z) (c.stored_parents.ensures)) r.bank.others r.bank.sweeps.last r.bank.crash (subst (λ l. IsSubtransOf (start_of c.args.hall.now) c.args.bank l (at (view c.enter_subtrans-held.new.caller.pass).seen (subtrans_lock c.args.bank))) (sym c.deref_mut-store.ensures.value) c.enter_subtrans-held.ensures.stands),
    )

pub leave_quiet-requires-in-Err-clause-may : goal.leave_quiet-requires-in-Err-clause-may
leave_quiet-requires-in-Err-clause-may g c =
    let start = start_of c.args.hall.now in
    let e = c.enter_subtrans-held.ensures in
    let v = view c.args.caller.now.pass in
    let u = view c.enter_subtrans-held.new.caller.pass in
    let t = c.enter_subtrans-held.new.caller in
    let pages = is_subtrans_lock start c.args.bank c.requires.bank.0 in
    let on = c.subtrans_cut_page-page.ensures ∙ ap (λ z. subtrans_cut_page z c.args.xmin) c.requires.first in
    may_fault_cut start u.seen (subtrans_lock c.args.bank) (subtrans_cut_page start.base.oldest c.args.xmin) (faults_of c.truncate.new.self) (by_at t.number t.session.levels.commands) c.with_cut-fault.result.value pages (parents_cut_by start u.seen c.args.bank c.args.xmin (xmin_later start v.seen u.seen c.args.xmin e.entered.learns.knows.grows c.requires.told))
    (risen_past (faults_told start (subtrans_lock c.args.bank) (at u.seen (subtrans_lock c.args.bank))) (faults_of c.deref_mut-store.result.now) _ (subst (λ l. IsSubtransOf (start_of c.args.hall.now) c.args.bank l (at (view c.enter_subtrans-held.new.caller.pass).seen (subtrans_lock c.args.bank))) (sym c.deref_mut-store.ensures.value) c.enter_subtrans-held.ensures.stands).count (c.in-Err.ensures.bank.sweeps.fault refl).1)
    ((c.with_cut-fault.ensures ∙ ap (cut_too c.subtrans_cut_page-page.result) (c.fault_note.ensures ∙ ap (λ (b : By). fault_by b (faults_of c.truncate.new.self)) c.command_of-by.ensures)) ∙ (λ j. cut_fault_by (by_at t.number t.session.levels.commands) (on j) (faults_of c.truncate.new.self))) (e.at.turns (subtrans_lock c.args.bank))

pub leave_quiet-requires-in-Err-clause-stands : goal.leave_quiet-requires-in-Err-clause-stands
leave_quiet-requires-in-Err-clause-stands g c =
    let start = start_of c.args.hall.now in
    let e = c.enter_subtrans-held.ensures in
    let v = view c.args.caller.now.pass in
    let u = view c.enter_subtrans-held.new.caller.pass in
    let on = c.subtrans_cut_page-page.ensures ∙ ap (λ z. subtrans_cut_page z c.args.xmin) c.requires.first in
    let reach = parents_reach start u.seen c.args.xmin c.requires.ready.at.base e.entered.kept (xmin_later start v.seen u.seen c.args.xmin e.entered.learns.knows.grows c.requires.told) in
    let r = c.in-Err.ensures in
    let q = (c.with_cut-fault.ensures ∙ ap (cut_too c.subtrans_cut_page-page.result) (c.fault_note.ensures ∙ ap (λ (b : By). fault_by b (faults_of c.truncate.new.self)) c.command_of-by.ensures)) in (
      c.args.bank,
      refl,
      parents_cut (start_of c.args.hall.now) c.args.bank c.requires.ready.at.base c.deref_mut-store.result.now c.truncate.new.self (at (view c.enter_subtrans-held.new.caller.pass).seen (subtrans_lock c.args.bank)) c.subtrans_cut_page-page.result _ (ap (λ (e : Entry). cut_in e.kind) q) (ap links_in q) (ap (λ (e : Entry). zeroed_in e.kind) q) (subst (λ z. first_subtrans_page start ≤ z) (sym on) reach.0) (subst (IsSubtransReach start) (sym on) reach.1) (now_told (start_of c.args.hall.now) (subtrans_lock c.args.bank) _ (faults_of c.truncate.new.self) (at (view c.enter_subtrans-held.new.caller.pass).seen (subtrans_lock c.args.bank)) (ap (λ (e : Entry). count_in e.kind) q))
          (r.cutoff ∙ ap (λ z. later_cutoff Ids 2048 (cutoff_of c.deref_mut-store.result.now) z) (c.stored_parents.ensures)) r.bank.others r.bank.sweeps.last r.bank.crash (subst (λ l. IsSubtransOf (start_of c.args.hall.now) c.args.bank l (at (view c.enter_subtrans-held.new.caller.pass).seen (subtrans_lock c.args.bank))) (sym c.deref_mut-store.ensures.value) c.enter_subtrans-held.ensures.stands),
    )

pub returns-in-Ok-clause-went : goal.returns-in-Ok-clause-went
returns-in-Ok-clause-went g c =
    let start = start_of c.args.hall.now in
    let e = c.enter_subtrans-held.ensures in
    let v = view c.args.caller.now.pass in
    let u = view c.enter_subtrans-held.new.caller.pass in
    let w = view c.leave_quiet.new.caller.pass in
    let s = c.args.caller.now.session in
    let n = c.args.caller.now.number in
    let pages = is_subtrans_lock start c.args.bank c.requires.bank.0 in
    let q = c.cut_note-entry.ensures in
    visited start v u w n (subtrans_lock c.args.bank) s c.requires.ready.at pages e.entered c.cut_note-entry.result.value (ap event_of q) (ap multi_of q) (ap asks_in q) c.leave_quiet.ensures.left

pub returns-in-Err-clause-section : goal.returns-in-Err-clause-section
returns-in-Err-clause-section g c =
    let start = start_of c.args.hall.now in
    let e = c.enter_subtrans-held.ensures in
    let v = view c.args.caller.now.pass in
    let u = view c.enter_subtrans-held.new.caller.pass in
    let w = view c.leave_quiet-in-Err.new.caller.pass in
    let t = c.enter_subtrans-held.new.caller in
    let s = c.args.caller.now.session in
    let n = c.args.caller.now.number in
    let pages = is_subtrans_lock start c.args.bank c.requires.bank.0 in
    let told = (c.in-Err.ensures.bank.sweeps.fault refl).0 in
    let is : c.in-Err.refusal ≡ refused.DiskFault = cc in
    subst (λ (z : BankRefusal). CutSection {T = Unit {0}} start (subtrans_lock c.args.bank) (by_at n s.levels.commands) (subtrans_cut_page c.args.first c.args.xmin) v w (Err z)) (sym is) (
      faults_of c.truncate.new.self,
      section_of start v u w (subtrans_lock c.args.bank) c.with_cut-fault.result.value (cut_fault_by (by_at n s.levels.commands) (subtrans_cut_page c.args.first c.args.xmin) (faults_of c.truncate.new.self)) e.entered
          ((c.with_cut-fault.ensures ∙ ap (cut_too c.subtrans_cut_page-page.result) (c.fault_note.ensures ∙ ap (λ (b : By). fault_by b (faults_of c.truncate.new.self)) c.command_of-by.ensures)) ∙ (λ j. cut_fault_by (same_command n t.number s t.session e.same.1 e.same.0 j) (c.subtrans_cut_page-page.ensures j) (faults_of c.truncate.new.self))) c.leave_quiet-in-Err.ensures.left,
    )

pub returns-in-Err-clause-went : goal.returns-in-Err-clause-went
returns-in-Err-clause-went g c =
    let start = start_of c.args.hall.now in
    let e = c.enter_subtrans-held.ensures in
    let v = view c.args.caller.now.pass in
    let u = view c.enter_subtrans-held.new.caller.pass in
    let w = view c.leave_quiet-in-Err.new.caller.pass in
    let s = c.args.caller.now.session in
    let n = c.args.caller.now.number in
    let pages = is_subtrans_lock start c.args.bank c.requires.bank.0 in
    let q = (c.with_cut-fault.ensures ∙ ap (cut_too c.subtrans_cut_page-page.result) (c.fault_note.ensures ∙ ap (λ (b : By). fault_by b (faults_of c.truncate.new.self)) c.command_of-by.ensures)) in
    visited start v u w n (subtrans_lock c.args.bank) s c.requires.ready.at pages e.entered c.with_cut-fault.result.value (ap event_of q) (ap multi_of q) (ap asks_in q) c.leave_quiet-in-Err.ensures.left

pub returns-in-Err-clause-fault : goal.returns-in-Err-clause-fault
returns-in-Err-clause-fault g c is =
    let start = start_of c.args.hall.now in
    let e = c.enter_subtrans-held.ensures in
    let v = view c.args.caller.now.pass in
    let u = view c.enter_subtrans-held.new.caller.pass in
    let w = view c.leave_quiet-in-Err.new.caller.pass in
    let t = c.enter_subtrans-held.new.caller in
    let s = c.args.caller.now.session in
    let n = c.args.caller.now.number in
    let pages = is_subtrans_lock start c.args.bank c.requires.bank.0 in
    cut_met start v u w n (subtrans_lock c.args.bank) s c.requires.ready.at pages e.entered t.number t.session e.same.1 e.same.0 c.subtrans_cut_page-page.result (faults_of c.truncate.new.self) c.with_cut-fault.result.value (c.with_cut-fault.ensures ∙ ap (cut_too c.subtrans_cut_page-page.result) (c.fault_note.ensures ∙ ap (λ (b : By). fault_by b (faults_of c.truncate.new.self)) c.command_of-by.ensures)) c.leave_quiet-in-Err.ensures.left

pub returns-in-Err-clause-uncut : goal.returns-in-Err-clause-uncut
returns-in-Err-clause-uncut g c cutoff is =
    let told = (c.in-Err.ensures.bank.sweeps.fault refl).0 in
    absurd cc
