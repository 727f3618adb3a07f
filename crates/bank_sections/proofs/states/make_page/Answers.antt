use Rattle.std.proofs.Common.{◌/◌, refl, ap, ◌∙◌, Err, IsTrue, List, ◌≤◌, arith, subst, sym}
use Rattle.hall.specs.Calls.{view, start_of}
use Rattle.notes.specs.Lists.{at}
use Rattle.slru_bank.specs.Calls.{faults_of, cutoff_of}
use Rattle.tx_events.specs.declared.event.By.{By}
use Rattle.tx_core.specs.declared.entry.Entry.{Entry}
use Rattle.tx_core.specs.Entries.{appended, asks_in, event_of}
use Rattle.tx_core.specs.MultiEntries.{multi_of}
use Rattle.tx_core.specs.Locks.{xact_lock, xact_page}
use Rattle.tx_core.proofs.Lasting.{wanted_grows}
use Rattle.engine_parts.specs.Sessions.{by_at}
use Rattle.engine_parts.proofs.May.{may_make}
use Rattle.engine_parts.specs.Faults.{fault_by}
use Rattle.bank_sections.proofs.Making.{made_entry, xact_stands_made}
use Rattle.bank_sections.proofs.Sameness.{xact_same}
use Rattle.bank_sections.proofs.Visiting.{fault_met, is_xact_lock, made_stands, visited, visited_refused, xact_wanted, below_locks, xact_refused_at}
use Rattle.engine_parts.proofs.Sectioning.{same_command, section_of}
use Rattle.tx_events.specs.declared.event.Event.{Event}
use Rattle.tx_events.specs.Horizon.{oldest_id}
use Rattle.tx_events.specs.PageOrder.{Ids, is_cut}
use Rattle.store_pages.specs.Layouts.{xact_page_of}
use Rattle.engine_parts.proofs.Leaving.{history_same}
use Rattle.bank_sections.proofs.Refusing.{refused_quiet}
use Rattle.bank_sections.proofs.Uncut.{cut_refused, id_later, near_before, xact_uncut}
use Rattle.bank_sections.proofs.Nearing.{ids_near}
use Rattle.tx_core.specs.FaultsRise.{faults_told}
use Rattle.tx_core.proofs.FaultCounts.{risen_past}
use Rattle.engine_parts.specs.Parts.{IsXactOf}
use Rattle.bank_sections.proofs.states.make_page.Goals as goal

pub leave_quiet-requires-clause-by : goal.leave_quiet-requires-clause-by
leave_quiet-requires-clause-by g c = ap (λ (e : Entry). e.by) c.zeroed_note-entry.ensures ∙ c.command_of-by.ensures

pub leave_quiet-requires-clause-quiet : goal.leave_quiet-requires-clause-quiet
leave_quiet-requires-clause-quiet g c = (ap event_of c.zeroed_note-entry.ensures, ap appended c.zeroed_note-entry.ensures, ap multi_of c.zeroed_note-entry.ensures)

pub leave_quiet-requires-clause-may : goal.leave_quiet-requires-clause-may
leave_quiet-requires-clause-may g c =
    let start = start_of c.args.hall.now in
    let e = c.enter_xact-held.ensures in
    let u = view c.enter_xact-held.new.caller.pass in
    may_make start u.seen (xact_lock c.args.bank) (xact_page c.args.id) (by_at c.enter_xact-held.new.caller.number c.enter_xact-held.new.caller.session.levels.commands) c.zeroed_note-entry.result.value (is_xact_lock start c.args.bank c.requires.bank.0)
    (wanted_grows start (view c.args.caller.now.pass).seen u.seen (xact_lock c.args.bank) (xact_page c.args.id) e.entered.learns.knows.grows (xact_wanted start (view c.args.caller.now.pass).seen c.args.bank c.args.id c.requires.wanted))
    (c.zeroed_note-entry.ensures ∙ (λ j. made_entry (c.command_of-by.ensures j) (c.xact_page_in_full.ensures.page j))) (e.at.turns (xact_lock c.args.bank))

pub leave_quiet-requires-clause-stands : goal.leave_quiet-requires-clause-stands
leave_quiet-requires-clause-stands g c =
    let r = c.in-Ok.ensures in (
      c.args.bank,
      refl,
      xact_stands_made (start_of c.args.hall.now) c.args.bank c.deref_mut-store.result.now c.zero.new.self (at (view c.enter_xact-held.new.caller.pass).seen (xact_lock c.args.bank)) c.command_of-by.result c.args.id c.xact_page_in_full.result c.xact_page.result c.zeroed_note-entry.result.value
          c.requires.ready.at.base c.requires.wanted.0 c.zeroed_note-entry.ensures c.xact_page_in_full.ensures.page (c.xact_page.ensures.page ∙ ap (λ z. z / 32768) c.low.ensures)
          (record { last = r.last; cutoff = r.calls.cutoff; count = r.calls.count; pages = r.ok }) r.calls.crash (subst (λ l. IsXactOf (start_of c.args.hall.now) c.args.bank l (at (view c.enter_xact-held.new.caller.pass).seen (xact_lock c.args.bank))) (sym c.deref_mut-store.ensures.value) c.enter_xact-held.ensures.stands),
    )

pub leave_refused-requires-clause-lock : goal.leave_refused-requires-clause-lock
leave_refused-requires-clause-lock g c = is_xact_lock (start_of c.args.hall.now) c.args.bank c.requires.bank.0

pub leave_refused-requires-clause-fault : goal.leave_refused-requires-clause-fault
leave_refused-requires-clause-fault g c = c.fault_note-fault.ensures ∙ ap (λ (b : By). fault_by b (faults_of c.zero.new.self)) c.command_of-by.ensures

pub leave_refused-requires-clause-stands : goal.leave_refused-requires-clause-stands
leave_refused-requires-clause-stands g c =
    let r = c.in-Err.ensures in (
      c.args.bank,
      refl,
      xact_same (start_of c.args.hall.now) c.args.bank c.deref_mut-store.result.now c.zero.new.self (at (view c.enter_xact-held.new.caller.pass).seen (xact_lock c.args.bank))
          (record { last = r.last; cutoff = r.calls.cutoff; count = r.calls.count; pages = r.err }) r.calls.crash (subst (λ l. IsXactOf (start_of c.args.hall.now) c.args.bank l (at (view c.enter_xact-held.new.caller.pass).seen (xact_lock c.args.bank))) (sym c.deref_mut-store.ensures.value) c.enter_xact-held.ensures.stands),
    )

pub returns-in-Ok-clause-went : goal.returns-in-Ok-clause-went
returns-in-Ok-clause-went g c =
    visited (start_of c.args.hall.now) (view c.args.caller.now.pass) (view c.enter_xact-held.new.caller.pass) (view c.leave_quiet.new.caller.pass) c.args.caller.now.number (xact_lock c.args.bank) c.args.caller.now.session c.zeroed_note-entry.result.value
    c.requires.ready.at (is_xact_lock (start_of c.args.hall.now) c.args.bank c.requires.bank.0) c.enter_xact-held.ensures.entered (ap event_of c.zeroed_note-entry.ensures) (ap multi_of c.zeroed_note-entry.ensures) (ap asks_in c.zeroed_note-entry.ensures) c.leave_quiet.ensures.left

pub returns-in-Ok-clause-made : goal.returns-in-Ok-clause-made
returns-in-Ok-clause-made g c =
    made_stands (start_of c.args.hall.now) (view c.args.caller.now.pass) (view c.enter_xact-held.new.caller.pass) (view c.leave_quiet.new.caller.pass) c.args.caller.now.number (xact_lock c.args.bank) (xact_page c.args.id) c.args.caller.now.session c.command_of-by.result c.zeroed_note-entry.result.value
    c.requires.ready.at (is_xact_lock (start_of c.args.hall.now) c.args.bank c.requires.bank.0) c.enter_xact-held.ensures.entered (c.zeroed_note-entry.ensures ∙ ap (made_entry c.command_of-by.result) c.xact_page_in_full.ensures.page) c.leave_quiet.ensures.left

pub returns-in-Err-clause-went : goal.returns-in-Err-clause-went
returns-in-Err-clause-went g c =
    visited_refused (start_of c.args.hall.now) (view c.args.caller.now.pass) (view c.enter_xact-held.new.caller.pass) (view c.leave_refused.new.caller.pass) c.args.caller.now.number (xact_lock c.args.bank) c.args.caller.now.session _ _ c.in-Err.refusal
    c.requires.ready.at (is_xact_lock (start_of c.args.hall.now) c.args.bank c.requires.bank.0) c.enter_xact-held.ensures.entered c.leave_refused.ensures.left

pub returns-in-Err-clause-fault : goal.returns-in-Err-clause-fault
returns-in-Err-clause-fault g c is =
    let e = c.enter_xact-held.ensures in
    fault_met (start_of c.args.hall.now) (view c.args.caller.now.pass) (view c.enter_xact-held.new.caller.pass) (view c.leave_refused.new.caller.pass) c.args.caller.now.number c.enter_xact-held.new.caller.number (xact_lock c.args.bank) c.args.caller.now.session c.enter_xact-held.new.caller.session _ c.in-Err.refusal
    c.requires.ready.at (is_xact_lock (start_of c.args.hall.now) c.args.bank c.requires.bank.0) e.entered e.same.1 e.same.0 c.leave_refused.ensures.left cc

pub returns-in-Ok-clause-section : goal.returns-in-Ok-clause-section
returns-in-Ok-clause-section g c =
    let start = start_of c.args.hall.now in
    let e = c.enter_xact-held.ensures in
    let v = view c.args.caller.now.pass in
    let u = view c.enter_xact-held.new.caller.pass in
    let w = view c.leave_quiet.new.caller.pass in
    let t = c.enter_xact-held.new.caller in
    let s = c.args.caller.now.session in
    let n = c.args.caller.now.number in
    let mine = c.command_of-by.ensures ∙ same_command n t.number s t.session e.same.1 e.same.0 in
    section_of start v u w (xact_lock c.args.bank) c.zeroed_note-entry.result.value (made_entry (by_at n s.levels.commands) (xact_page c.args.id)) e.entered
    (c.zeroed_note-entry.ensures ∙ (λ j. made_entry (mine j) (c.xact_page_in_full.ensures.page j))) c.leave_quiet.ensures.left

pub returns-in-Err-clause-section : goal.returns-in-Err-clause-section
returns-in-Err-clause-section g c =
    let start = start_of c.args.hall.now in
    let e = c.enter_xact-held.ensures in
    let v = view c.args.caller.now.pass in
    let u = view c.enter_xact-held.new.caller.pass in
    let w = view c.leave_refused.new.caller.pass in
    let t = c.enter_xact-held.new.caller in
    let s = c.args.caller.now.session in
    let n = c.args.caller.now.number in
    xact_refused_at start v u w n t.number c.args.bank s t.session _ (xact_page_of c.args.id) c.xact_page.result (cutoff_of c.deref_mut-store.result.now) c.in-Err.refusal c.requires.ready.at c.requires.bank.0 e.same.1 e.same.0
    (c.xact_page.ensures.page ∙ ap (λ z. z / 32768) c.low.ensures) e.entered c.leave_refused.ensures.left (subst (λ l. IsXactOf (start_of c.args.hall.now) c.args.bank l (at (view c.enter_xact-held.new.caller.pass).seen (xact_lock c.args.bank))) (sym c.deref_mut-store.ensures.value) c.enter_xact-held.ensures.stands).cutoff_is (λ cutoff is. c.in-Err.ensures.calls.only_cut cutoff (ap Err is))

pub returns-in-Err-clause-uncut : goal.returns-in-Err-clause-uncut
returns-in-Err-clause-uncut g c few kept cutoff is =
    let start = start_of c.args.hall.now in
    let e = c.enter_xact-held.ensures in
    let v = view c.args.caller.now.pass in
    let u = view c.enter_xact-held.new.caller.pass in
    let w = view c.leave_refused.new.caller.pass in
    let t = c.enter_xact-held.new.caller in
    let s = c.args.caller.now.session in
    let n = c.args.caller.now.number in
    let long = e.entered.learns.long in
    let below = below_locks start v n (xact_lock c.args.bank) s c.requires.ready.at (is_xact_lock start c.args.bank c.requires.bank.0) in
    let quiet = (refused_quiet _ _ c.in-Err.refusal).event in
    let before = near_before start u w (xact_lock c.args.bank) _ quiet (omega arith) c.leave_refused.ensures.left (ids_near start w.seen c.requires.ready.at.base few) in
    let held = subst (λ (h : List Event). oldest_id (start_of c.args.hall.now).base.oldest h ≤ c.args.id) (history_same start u w (xact_lock c.args.bank) _ quiet (omega arith) c.leave_refused.ensures.left) kept in
    let wanted = id_later start v.seen u.seen c.args.id e.entered.learns.knows.grows c.requires.wanted in
    cut_refused _ (xact_uncut start u.seen c.args.bank c.args.id (cutoff_of c.deref_mut-store.result.now) c.requires.ready.at.base e.entered.kept (subst (λ l. IsXactOf (start_of c.args.hall.now) c.args.bank l (at (view c.enter_xact-held.new.caller.pass).seen (xact_lock c.args.bank))) (sym c.deref_mut-store.ensures.value) c.enter_xact-held.ensures.stands).cutoff_is wanted.0 wanted.1 held before)
    (subst (λ z. IsTrue (is_cut Ids 32768 (cutoff_of c.deref_mut-store.result.now) z)) (c.xact_page.ensures.page ∙ ap (λ z. z / 32768) c.low.ensures) (c.in-Err.ensures.calls.only_cut cutoff is).1)

pub leave_refused-requires-clause-risen : goal.leave_refused-requires-clause-risen
leave_refused-requires-clause-risen g c is = let e = c.enter_xact-held.ensures in risen_past (faults_told (start_of c.args.hall.now) (xact_lock c.args.bank) (at (view c.enter_xact-held.new.caller.pass).seen (xact_lock c.args.bank))) (faults_of c.deref_mut-store.result.now) _ (subst (λ l. IsXactOf (start_of c.args.hall.now) c.args.bank l (at (view c.enter_xact-held.new.caller.pass).seen (xact_lock c.args.bank))) (sym c.deref_mut-store.ensures.value) c.enter_xact-held.ensures.stands).count (c.in-Err.ensures.calls.fault (ap Err is))
