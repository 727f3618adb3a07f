use Rattle.std.proofs.Common.{ℕ, ◌/◌, ◌%◌, IsTrue, refl, sym, ap, subst, ◌∙◌, arith, Err}
use Rattle.hall.specs.Calls.{view, start_of}
use Rattle.notes.specs.Lists.{at}
use Rattle.slru_bank.specs.ByteRange.{SetsEntry}
use Rattle.slru_bank.specs.Calls.{cutoff_of, faults_of, pages_of}
use Rattle.tx_events.specs.declared.event.By.{By}
use Rattle.tx_core.specs.declared.entry.Entry.{Entry}
use Rattle.tx_core.specs.Entries.{appended, asks_in, event_of}
use Rattle.tx_core.specs.MultiEntries.{multi_of}
use Rattle.tx_core.specs.Locks.{subtrans_lock}
use Rattle.tx_core.specs.ParentsFollow.{IsGivenBelow}
use Rattle.tx_events.specs.PageOrder.{Ids, is_cut}
use Rattle.engine_parts.specs.Sessions.{by_at}
use Rattle.engine_parts.proofs.Going.{below_later}
use Rattle.engine_parts.specs.Faults.{fault_by}
use Rattle.bank_sections.proofs.Given.{below_made}
use Rattle.bank_sections.proofs.Linking.{linked_entry, linked_stands, may_link, stands_linked}
use Rattle.bank_sections.proofs.ParentSeen.{given_below_is}
use Rattle.bank_sections.proofs.Refusing.{refused_quiet}
use Rattle.bank_sections.proofs.Sameness.{subtrans_same}
use Rattle.bank_sections.proofs.Uncut.{cut_refused, near_before, parent_uncut, still_open}
use Rattle.bank_sections.proofs.Visiting.{below_locks, fault_met, is_subtrans_lock, list_left, visited, visited_refused, subtrans_refused_at}
use Rattle.engine_parts.proofs.Sectioning.{same_command, section_of}
use Rattle.store_pages.specs.Layouts.{word_page_of}
use Rattle.bank_sections.proofs.Nearing.{ids_near}
use Rattle.tx_core.specs.FaultsRise.{faults_told}
use Rattle.tx_core.proofs.FaultCounts.{risen_past}
use Rattle.engine_parts.specs.Parts.{IsSubtransOf}
use Rattle.bank_sections.proofs.parents.link_parent.Goals as goal

pub leave_quiet-requires-clause-by : goal.leave_quiet-requires-clause-by
leave_quiet-requires-clause-by g c = ap (λ (e : Entry). e.by) c.linked_note-entry.ensures ∙ c.command_of-by.ensures

pub leave_quiet-requires-clause-quiet : goal.leave_quiet-requires-clause-quiet
leave_quiet-requires-clause-quiet g c = (ap event_of c.linked_note-entry.ensures, ap appended c.linked_note-entry.ensures, ap multi_of c.linked_note-entry.ensures)

pub leave_quiet-requires-clause-may : goal.leave_quiet-requires-clause-may
leave_quiet-requires-clause-may g c =
    let start = start_of c.args.hall.now in
    let e = c.enter_subtrans-held.ensures in
    let v = view c.args.caller.now.pass in
    let u = view c.enter_subtrans-held.new.caller.pass in
    let below = below_later v.seen u.seen c.args.caller.now.number c.args.parent c.args.id e.entered.learns.knows.grows c.requires.below in
    may_link start u.seen c.args.bank c.args.id c.args.parent (by_at c.enter_subtrans-held.new.caller.number c.enter_subtrans-held.new.caller.session.levels.commands) c.linked_note-entry.result.value c.requires.bank.0
    (c.linked_note-entry.ensures ∙ ap (λ (b : By). linked_entry b c.args.id c.args.parent) c.command_of-by.ensures) c.requires.here
    (below_made start u.seen c.args.caller.now.number c.args.bank c.args.parent c.args.id e.entered.kept below c.requires.here)
    (subst (λ z. IsGivenBelow u.seen z c.args.parent c.args.id) (sym e.same.1) below)
    (e.at.turns (subtrans_lock c.args.bank))

pub leave_quiet-requires-clause-stands : goal.leave_quiet-requires-clause-stands
leave_quiet-requires-clause-stands g c =
    let start = start_of c.args.hall.now in
    let r = c.in-Ok.ensures in
    let v = view c.args.caller.now.pass in
    let u = view c.enter_subtrans-held.new.caller.pass in
    let e = c.enter_subtrans-held.ensures in
    let given = below_later v.seen u.seen c.args.caller.now.number c.args.parent c.args.id e.entered.learns.knows.grows c.requires.below in
    let below = given_below_is start u.seen c.args.caller.now.number c.args.parent c.args.id c.requires.ready.at.base e.entered.kept given in
    let from = below.from in
    let under = below.below in (
      c.args.bank,
      refl,
      stands_linked start c.args.bank c.deref_mut-store.result.now c.set_parent.new.bank (at u.seen (subtrans_lock c.args.bank)) c.command_of-by.result c.args.id c.args.parent c.linked_note-entry.result.value
          c.requires.ready.at.base c.linked_note-entry.ensures below.full (omega arith) (below_made start u.seen c.args.caller.now.number c.args.bank c.args.parent c.args.id e.entered.kept given c.requires.here)
          r.bank.last r.bank.calls.cutoff r.bank.calls.count
          (λ told. subst (λ (z : ℕ × ℕ). SetsEntry (z.0 / 2048) (z.0 % 2048) z.1 (pages_of c.deref_mut-store.result.now) (pages_of c.set_parent.new.bank)) (λ j. (c.low.ensures j, c.low-2.ensures j)) (r.ok told))
          r.bank.calls.crash
          (subst (λ l. IsSubtransOf (start_of c.args.hall.now) c.args.bank l (at (view c.enter_subtrans-held.new.caller.pass).seen (subtrans_lock c.args.bank))) (sym c.deref_mut-store.ensures.value) c.enter_subtrans-held.ensures.stands),
    )

pub leave_refused-requires-clause-lock : goal.leave_refused-requires-clause-lock
leave_refused-requires-clause-lock g c = is_subtrans_lock (start_of c.args.hall.now) c.args.bank c.requires.bank.0

pub leave_refused-requires-clause-fault : goal.leave_refused-requires-clause-fault
leave_refused-requires-clause-fault g c = c.fault_note-fault.ensures ∙ ap (λ (b : By). fault_by b (faults_of c.set_parent.new.bank)) c.command_of-by.ensures

pub leave_refused-requires-clause-stands : goal.leave_refused-requires-clause-stands
leave_refused-requires-clause-stands g c =
    let r = c.in-Err.ensures in (
      c.args.bank,
      refl,
      subtrans_same (start_of c.args.hall.now) c.args.bank c.deref_mut-store.result.now c.set_parent.new.bank (at (view c.enter_subtrans-held.new.caller.pass).seen (subtrans_lock c.args.bank))
          (record { last = r.bank.last; cutoff = r.bank.calls.cutoff; count = r.bank.calls.count; pages = r.err }) r.bank.calls.crash (subst (λ l. IsSubtransOf (start_of c.args.hall.now) c.args.bank l (at (view c.enter_subtrans-held.new.caller.pass).seen (subtrans_lock c.args.bank))) (sym c.deref_mut-store.ensures.value) c.enter_subtrans-held.ensures.stands),
    )

pub returns-in-Ok-clause-went : goal.returns-in-Ok-clause-went
returns-in-Ok-clause-went g c =
    visited (start_of c.args.hall.now) (view c.args.caller.now.pass) (view c.enter_subtrans-held.new.caller.pass) (view c.leave_quiet.new.caller.pass) c.args.caller.now.number (subtrans_lock c.args.bank) c.args.caller.now.session c.linked_note-entry.result.value
    c.requires.ready.at (is_subtrans_lock (start_of c.args.hall.now) c.args.bank c.requires.bank.0) c.enter_subtrans-held.ensures.entered (ap event_of c.linked_note-entry.ensures) (ap multi_of c.linked_note-entry.ensures) (ap asks_in c.linked_note-entry.ensures) c.leave_quiet.ensures.left

pub returns-in-Ok-clause-linked : goal.returns-in-Ok-clause-linked
returns-in-Ok-clause-linked g c =
    let start = start_of c.args.hall.now in
    let u = view c.enter_subtrans-held.new.caller.pass in
    let w = view c.leave_quiet.new.caller.pass in
    linked_stands start u.seen w.seen c.args.bank c.args.id c.args.parent c.command_of-by.result c.linked_note-entry.result.value c.linked_note-entry.ensures c.requires.here
    (list_left start (view c.args.caller.now.pass) u w c.args.caller.now.number (subtrans_lock c.args.bank) c.args.caller.now.session c.linked_note-entry.result.value c.requires.ready.at (is_subtrans_lock start c.args.bank c.requires.bank.0) c.enter_subtrans-held.ensures.entered c.leave_quiet.ensures.left)

pub returns-in-Err-clause-went : goal.returns-in-Err-clause-went
returns-in-Err-clause-went g c =
    visited_refused (start_of c.args.hall.now) (view c.args.caller.now.pass) (view c.enter_subtrans-held.new.caller.pass) (view c.leave_refused.new.caller.pass) c.args.caller.now.number (subtrans_lock c.args.bank) c.args.caller.now.session _ _ c.in-Err.refusal
    c.requires.ready.at (is_subtrans_lock (start_of c.args.hall.now) c.args.bank c.requires.bank.0) c.enter_subtrans-held.ensures.entered c.leave_refused.ensures.left

pub returns-in-Err-clause-fault : goal.returns-in-Err-clause-fault
returns-in-Err-clause-fault g c is =
    let e = c.enter_subtrans-held.ensures in
    fault_met (start_of c.args.hall.now) (view c.args.caller.now.pass) (view c.enter_subtrans-held.new.caller.pass) (view c.leave_refused.new.caller.pass) c.args.caller.now.number c.enter_subtrans-held.new.caller.number (subtrans_lock c.args.bank) c.args.caller.now.session c.enter_subtrans-held.new.caller.session _ c.in-Err.refusal
    c.requires.ready.at (is_subtrans_lock (start_of c.args.hall.now) c.args.bank c.requires.bank.0) e.entered e.same.1 e.same.0 c.leave_refused.ensures.left cc

pub returns-in-Err-clause-uncut : goal.returns-in-Err-clause-uncut
returns-in-Err-clause-uncut g c opened few cutoff is =
    let start = start_of c.args.hall.now in
    let e = c.enter_subtrans-held.ensures in
    let v = view c.args.caller.now.pass in
    let u = view c.enter_subtrans-held.new.caller.pass in
    let w = view c.leave_refused.new.caller.pass in
    let n = c.args.caller.now.number in
    let long = e.entered.learns.long in
    let below = below_locks start v n (subtrans_lock c.args.bank) c.args.caller.now.session c.requires.ready.at (is_subtrans_lock start c.args.bank c.requires.bank.0) in
    let before = near_before start u w (subtrans_lock c.args.bank) _ (refused_quiet _ _ c.in-Err.refusal).event (omega arith) c.leave_refused.ensures.left (ids_near start w.seen c.requires.ready.at.base few) in
    let mine = still_open start u n c.enter_subtrans-held.new.caller.number c.args.id c.args.caller.now.session c.enter_subtrans-held.new.caller.session e.at e.same.0 e.same.1 opened in
    cut_refused _ (parent_uncut start u.seen n c.args.bank c.args.id (cutoff_of c.deref_mut-store.result.now) c.requires.ready.at.base e.entered.kept (subst (λ l. IsSubtransOf (start_of c.args.hall.now) c.args.bank l (at (view c.enter_subtrans-held.new.caller.pass).seen (subtrans_lock c.args.bank))) (sym c.deref_mut-store.ensures.value) c.enter_subtrans-held.ensures.stands).cutoff_is mine before)
    (subst (λ z. IsTrue (is_cut Ids 2048 (cutoff_of c.deref_mut-store.result.now) (z / 2048))) c.low.ensures (c.in-Err.ensures.bank.calls.only_cut cutoff is).1)

pub returns-in-Ok-clause-section : goal.returns-in-Ok-clause-section
returns-in-Ok-clause-section g c =
    let start = start_of c.args.hall.now in
    let e = c.enter_subtrans-held.ensures in
    let v = view c.args.caller.now.pass in
    let u = view c.enter_subtrans-held.new.caller.pass in
    let w = view c.leave_quiet.new.caller.pass in
    let t = c.enter_subtrans-held.new.caller in
    let s = c.args.caller.now.session in
    let n = c.args.caller.now.number in
    let mine = c.command_of-by.ensures ∙ same_command n t.number s t.session e.same.1 e.same.0 in
    section_of start v u w (subtrans_lock c.args.bank) c.linked_note-entry.result.value (linked_entry (by_at n s.levels.commands) c.args.id c.args.parent) e.entered
    (c.linked_note-entry.ensures ∙ ap (λ (b : By). linked_entry b c.args.id c.args.parent) mine) c.leave_quiet.ensures.left

pub returns-in-Err-clause-section : goal.returns-in-Err-clause-section
returns-in-Err-clause-section g c =
    let start = start_of c.args.hall.now in
    let e = c.enter_subtrans-held.ensures in
    let v = view c.args.caller.now.pass in
    let u = view c.enter_subtrans-held.new.caller.pass in
    let w = view c.leave_refused.new.caller.pass in
    let t = c.enter_subtrans-held.new.caller in
    let s = c.args.caller.now.session in
    let n = c.args.caller.now.number in
    subtrans_refused_at start v u w n t.number c.args.bank s t.session _ (word_page_of c.args.id) _ (cutoff_of c.deref_mut-store.result.now) c.in-Err.refusal c.requires.ready.at c.requires.bank.0 e.same.1 e.same.0
    (ap (λ (z : ℕ). z / 2048) c.low.ensures) e.entered c.leave_refused.ensures.left (subst (λ l. IsSubtransOf (start_of c.args.hall.now) c.args.bank l (at (view c.enter_subtrans-held.new.caller.pass).seen (subtrans_lock c.args.bank))) (sym c.deref_mut-store.ensures.value) c.enter_subtrans-held.ensures.stands).cutoff_is (λ cutoff is. c.in-Err.ensures.bank.calls.only_cut cutoff (ap Err is))

pub leave_refused-requires-clause-risen : goal.leave_refused-requires-clause-risen
leave_refused-requires-clause-risen g c is = let e = c.enter_subtrans-held.ensures in risen_past (faults_told (start_of c.args.hall.now) (subtrans_lock c.args.bank) (at (view c.enter_subtrans-held.new.caller.pass).seen (subtrans_lock c.args.bank))) (faults_of c.deref_mut-store.result.now) _ (subst (λ l. IsSubtransOf (start_of c.args.hall.now) c.args.bank l (at (view c.enter_subtrans-held.new.caller.pass).seen (subtrans_lock c.args.bank))) (sym c.deref_mut-store.ensures.value) c.enter_subtrans-held.ensures.stands).count (c.in-Err.ensures.bank.calls.fault (ap Err is))
