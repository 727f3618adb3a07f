use Rattle.std.proofs.Common.{◌≡◌, ℕ, ◌*◌, ◌/◌, ◌%◌, List, false, refl, sym, ap, subst, ◌∙◌, Err}
use Rattle.hall.specs.Calls.{view, start_of}
use Rattle.notes.specs.Lists.{at}
use Rattle.slru_bank.specs.Calls.{faults_of, pages_of, cutoff_of}
use Rattle.store_pages.specs.Layouts.{number_in, word_page_of, word_place_of}
use Rattle.bank_stores.specs.Parents.{parent_of}
use Rattle.tx_events.specs.declared.event.By.{By}
use Rattle.tx_core.specs.declared.entry.Entry.{Entry}
use Rattle.tx_core.specs.Locks.{subtrans_lock}
use Rattle.tx_events.specs.PageOrder.{Ids, is_cut}
use Rattle.engine_parts.specs.Parts.{IsSubtransOf}
use Rattle.engine_parts.specs.Sessions.{by_at, look_by}
use Rattle.engine_parts.specs.Faults.{fault_by, look_of}
use Rattle.bank_sections.proofs.Refusing.{subtrans_looked}
use Rattle.bank_sections.proofs.Sameness.{subtrans_same}
use Rattle.bank_sections.proofs.ParentSeen.{parent_seen}
use Rattle.bank_sections.proofs.Visiting.{fault_met, is_subtrans_lock, list_left, not_true, visited, visited_refused, subtrans_refused_at}
use Rattle.engine_parts.proofs.Sectioning.{same_command, section_of}
use Rattle.tx_core.specs.FaultsRise.{faults_told}
use Rattle.tx_core.proofs.FaultCounts.{risen_past}
use Rattle.bank_sections.proofs.parents.read_parent.Goals as goal

pub leave_looked-requires-clause-stands : goal.leave_looked-requires-clause-stands
leave_looked-requires-clause-stands g c =
    let start = start_of c.args.hall.now in
    let r = c.parent.ensures in
    let es = at (view c.enter_subtrans-held.new.caller.pass).seen (subtrans_lock c.args.bank) in (
      c.args.bank,
      refl,
      subtrans_looked start c.args.bank c.parent.new.bank (by_at c.enter_subtrans-held.new.caller.number c.enter_subtrans-held.new.caller.session.levels.commands) es
          (subtrans_same start c.args.bank c.deref_mut-store.result.now c.parent.new.bank es (record { last = r.bank.last; cutoff = r.bank.calls.cutoff; count = r.bank.calls.count; pages = r.same }) r.bank.calls.crash (subst (λ l. IsSubtransOf (start_of c.args.hall.now) c.args.bank l (at (view c.enter_subtrans-held.new.caller.pass).seen (subtrans_lock c.args.bank))) (sym c.deref_mut-store.ensures.value) c.enter_subtrans-held.ensures.stands)),
    )

pub leave_refused-requires-clause-lock : goal.leave_refused-requires-clause-lock
leave_refused-requires-clause-lock g c = is_subtrans_lock (start_of c.args.hall.now) c.args.bank c.requires.bank.0

pub leave_refused-requires-clause-fault : goal.leave_refused-requires-clause-fault
leave_refused-requires-clause-fault g c = c.fault_note-fault.ensures ∙ ap (λ (b : By). fault_by b (faults_of c.parent.new.bank)) c.command_of-by.ensures

pub leave_refused-requires-clause-stands : goal.leave_refused-requires-clause-stands
leave_refused-requires-clause-stands g c =
    let r = c.parent.ensures in (
      c.args.bank,
      refl,
      subtrans_same (start_of c.args.hall.now) c.args.bank c.deref_mut-store.result.now c.parent.new.bank (at (view c.enter_subtrans-held.new.caller.pass).seen (subtrans_lock c.args.bank))
          (record { last = r.bank.last; cutoff = r.bank.calls.cutoff; count = r.bank.calls.count; pages = r.same }) r.bank.calls.crash (subst (λ l. IsSubtransOf (start_of c.args.hall.now) c.args.bank l (at (view c.enter_subtrans-held.new.caller.pass).seen (subtrans_lock c.args.bank))) (sym c.deref_mut-store.ensures.value) c.enter_subtrans-held.ensures.stands),
    )

pub returns-in-Ok-clause-went : goal.returns-in-Ok-clause-went
returns-in-Ok-clause-went g c =
    visited (start_of c.args.hall.now) (view c.args.caller.now.pass) (view c.enter_subtrans-held.new.caller.pass) (view c.leave_looked.new.caller.pass) c.args.caller.now.number (subtrans_lock c.args.bank) c.args.caller.now.session _
    c.requires.ready.at (is_subtrans_lock (start_of c.args.hall.now) c.args.bank c.requires.bank.0) c.enter_subtrans-held.ensures.entered refl refl refl c.leave_looked.ensures.left

pub returns-in-Ok-clause-parent : goal.returns-in-Ok-clause-parent
returns-in-Ok-clause-parent g c told =
    let start = start_of c.args.hall.now in
    let r = c.in-Ok.ensures in
    let es = at (view c.enter_subtrans-held.new.caller.pass).seen (subtrans_lock c.args.bank) in
    let pages = is_subtrans_lock start c.args.bank c.requires.bank.0 in
    let looked = subtrans_looked start c.args.bank c.parent.new.bank (by_at c.enter_subtrans-held.new.caller.number c.enter_subtrans-held.new.caller.session.levels.commands) es
    (subtrans_same start c.args.bank c.deref_mut-store.result.now c.parent.new.bank es (record { last = r.bank.last; cutoff = r.bank.calls.cutoff; count = r.bank.calls.count; pages = r.same }) r.bank.calls.crash (subst (λ l. IsSubtransOf (start_of c.args.hall.now) c.args.bank l (at (view c.enter_subtrans-held.new.caller.pass).seen (subtrans_lock c.args.bank))) (sym c.deref_mut-store.ensures.value) c.enter_subtrans-held.ensures.stands)) in
    let left = list_left start (view c.args.caller.now.pass) (view c.enter_subtrans-held.new.caller.pass) (view c.leave_looked.new.caller.pass) c.args.caller.now.number (subtrans_lock c.args.bank) c.args.caller.now.session (look_by c.enter_subtrans-held.new.caller.number c.enter_subtrans-held.new.caller.session) c.requires.ready.at pages c.enter_subtrans-held.ensures.entered c.leave_looked.ensures.left in
    parent_seen start (view c.leave_looked.new.caller.pass).seen c.args.bank c.parent.new.bank c.args.x c.in-Ok.found c.parent_near.result c.requires.ready.at.base c.leave_looked.ensures.ready.at.kept
    (subst (λ (t : List Entry). IsSubtransOf start c.args.bank c.parent.new.bank t) (sym left) looked) c.requires.here
    (subst (λ (z : ℕ × ℕ). is_cut Ids 2048 z.0 (z.1 / 2048) ≡ false) (λ j. (sym r.bank.calls.cutoff j, c.low.ensures j)) (not_true _ (λ t. (let f = r.bank.calls.cut t in cc)))) told
    (subst (λ (z : ℕ). c.in-Ok.found ≡ parent_of (number_in (pages_of c.deref_mut-store.result.now (z / 2048)) (4 * (z % 2048)))) c.low.ensures (r.is told) ∙ ap (λ (t : List ℕ). parent_of (number_in t (word_place_of c.args.x))) (sym (r.same told (word_page_of c.args.x)))) c.parent_near.ensures

pub returns-in-Err-clause-went : goal.returns-in-Err-clause-went
returns-in-Err-clause-went g c =
    visited_refused (start_of c.args.hall.now) (view c.args.caller.now.pass) (view c.enter_subtrans-held.new.caller.pass) (view c.leave_refused.new.caller.pass) c.args.caller.now.number (subtrans_lock c.args.bank) c.args.caller.now.session _ _ c.in-Err.refusal
    c.requires.ready.at (is_subtrans_lock (start_of c.args.hall.now) c.args.bank c.requires.bank.0) c.enter_subtrans-held.ensures.entered c.leave_refused.ensures.left

pub returns-in-Err-clause-fault : goal.returns-in-Err-clause-fault
returns-in-Err-clause-fault g c is =
    let e = c.enter_subtrans-held.ensures in
    fault_met (start_of c.args.hall.now) (view c.args.caller.now.pass) (view c.enter_subtrans-held.new.caller.pass) (view c.leave_refused.new.caller.pass) c.args.caller.now.number c.enter_subtrans-held.new.caller.number (subtrans_lock c.args.bank) c.args.caller.now.session c.enter_subtrans-held.new.caller.session _ c.in-Err.refusal
    c.requires.ready.at (is_subtrans_lock (start_of c.args.hall.now) c.args.bank c.requires.bank.0) e.entered e.same.1 e.same.0 c.leave_refused.ensures.left cc

pub returns-in-Ok-clause-section : goal.returns-in-Ok-clause-section
returns-in-Ok-clause-section g c =
    let start = start_of c.args.hall.now in
    let e = c.enter_subtrans-held.ensures in
    let v = view c.args.caller.now.pass in
    let u = view c.enter_subtrans-held.new.caller.pass in
    let w = view c.leave_looked.new.caller.pass in
    let t = c.enter_subtrans-held.new.caller in
    let s = c.args.caller.now.session in
    let n = c.args.caller.now.number in
    section_of start v u w (subtrans_lock c.args.bank) (look_by t.number t.session) (look_by n s) e.entered (ap look_of (same_command n t.number s t.session e.same.1 e.same.0)) c.leave_looked.ensures.left

pub returns-in-Err-clause-section : goal.returns-in-Err-clause-section
returns-in-Err-clause-section g c =
    let start = start_of c.args.hall.now in
    let e = c.enter_subtrans-held.ensures in
    let v = view c.args.caller.now.pass in
    let u = view c.enter_subtrans-held.new.caller.pass in
    let w = view c.leave_refused.new.caller.pass in
    let t = c.enter_subtrans-held.new.caller in
    let s = c.args.caller.now.session in
    let n = c.args.caller.now.number in
    subtrans_refused_at start v u w n t.number c.args.bank s t.session _ (word_page_of c.args.x) _ (cutoff_of c.deref_mut-store.result.now) c.in-Err.refusal c.requires.ready.at c.requires.bank.0 e.same.1 e.same.0
    (ap (λ (z : ℕ). z / 2048) c.low.ensures) e.entered c.leave_refused.ensures.left (subst (λ l. IsSubtransOf (start_of c.args.hall.now) c.args.bank l (at (view c.enter_subtrans-held.new.caller.pass).seen (subtrans_lock c.args.bank))) (sym c.deref_mut-store.ensures.value) c.enter_subtrans-held.ensures.stands).cutoff_is (λ cutoff is. c.in-Err.ensures.bank.calls.only_cut cutoff (ap Err is))

pub leave_refused-requires-clause-risen : goal.leave_refused-requires-clause-risen
leave_refused-requires-clause-risen g c is = let e = c.enter_subtrans-held.ensures in risen_past (faults_told (start_of c.args.hall.now) (subtrans_lock c.args.bank) (at (view c.enter_subtrans-held.new.caller.pass).seen (subtrans_lock c.args.bank))) (faults_of c.deref_mut-store.result.now) _ (subst (λ l. IsSubtransOf (start_of c.args.hall.now) c.args.bank l (at (view c.enter_subtrans-held.new.caller.pass).seen (subtrans_lock c.args.bank))) (sym c.deref_mut-store.ensures.value) c.enter_subtrans-held.ensures.stands).count (c.in-Err.ensures.bank.calls.fault (ap Err is))
