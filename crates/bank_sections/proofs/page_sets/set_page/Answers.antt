use Rattle.std.proofs.Common.{ℕ, ◌<◌, List, Contains, inl, length, slice_index, refl, sym, ap, subst, ◌∙◌, arith, Err}
use Rattle.std.specs.List.{slice_range}
use Rattle.hall.specs.Calls.{view, start_of}
use Rattle.notes.specs.Lists.{at}
use Rattle.slru_bank.specs.Calls.{faults_of, cutoff_of}
use Rattle.tx_events.specs.declared.event.By.{By}
use Rattle.tx_core.specs.declared.entry.Entry.{Entry}
use Rattle.tx_core.specs.Entries.{IsMarked, appended, event_of}
use Rattle.tx_core.specs.MultiEntries.{multi_of}
use Rattle.tx_core.specs.Locks.{xact_lock}
use Rattle.tx_core.specs.ProgramOrder.{IsInTurn}
use Rattle.engine_parts.specs.Sessions.{by_at}
use Rattle.engine_parts.proofs.Stepping.{goes_quiet}
use Rattle.engine_parts.specs.Faults.{fault_by}
use Rattle.bank_sections.specs.Sets.{AsksOnly}
use Rattle.bank_sections.proofs.Refusing.{refused_quiet}
use Rattle.bank_sections.proofs.Sameness.{xact_same}
use Rattle.bank_sections.proofs.StateSetting.{asks_only, index_in, may_set, range_some, set_entry, set_stands, settable, share_stored, stands_set}
use Rattle.bank_sections.proofs.Uncut.{cut_refused, near_before, state_uncut}
use Rattle.bank_sections.proofs.Visiting.{below_locks, fault_met, is_xact_lock, list_left, visited_refused, xact_refused_at}
use Rattle.engine_parts.proofs.Sectioning.{same_command, section_of}
use Rattle.store_pages.specs.Layouts.{xact_page_of}
use Rattle.bank_sections.proofs.Nearing.{ids_near}
use Rattle.tx_core.specs.FaultsRise.{faults_told}
use Rattle.tx_core.proofs.FaultCounts.{risen_past}
use Rattle.engine_parts.specs.Parts.{IsXactOf}
use Rattle.bank_sections.proofs.page_sets.set_page.Goals as goal

pub set_states-requires-clause-one_page : goal.set_states-requires-clause-one_page
set_states-requires-clause-one_page g c =
    let e = c.enter_xact-held.ensures in
    let m = settable (start_of c.args.hall.now) (view c.args.caller.now.pass) (view c.enter_xact-held.new.caller.pass) c.args.caller.now.number c.enter_xact-held.new.caller.number (xact_lock c.args.bank) c.args.bank c.args.first c.args.past c.args.caller.now.session c.enter_xact-held.new.caller.session (slice_range c.deref.result.now c.args.first c.args.past) c.args.state
    c.requires.ready.at.name e.entered e.at e.same.0 e.same.1 (ap (λ (xs : List ℕ). slice_range xs c.args.first c.args.past) c.deref.ensures.value) c.requires.may in
    share_stored (slice_range c.deref.result.now c.args.first c.args.past) m.may.page m.may.share

pub leave_quiet-requires-clause-by : goal.leave_quiet-requires-clause-by
leave_quiet-requires-clause-by g c = ap (λ (e : Entry). e.by) c.set_note-entry.ensures ∙ c.command_of-by.ensures

pub leave_quiet-requires-clause-quiet : goal.leave_quiet-requires-clause-quiet
leave_quiet-requires-clause-quiet g c = (ap event_of c.set_note-entry.ensures, ap appended c.set_note-entry.ensures, ap multi_of c.set_note-entry.ensures)

pub leave_quiet-requires-clause-may : goal.leave_quiet-requires-clause-may
leave_quiet-requires-clause-may g c =
    let start = start_of c.args.hall.now in
    let e = c.enter_xact-held.ensures in
    let u = view c.enter_xact-held.new.caller.pass in
    let t = c.enter_xact-held.new.caller in
    let part = slice_range c.deref.result.now c.args.first c.args.past in
    let m = settable start (view c.args.caller.now.pass) u c.args.caller.now.number t.number (xact_lock c.args.bank) c.args.bank c.args.first c.args.past c.args.caller.now.session t.session part c.args.state
    c.requires.ready.at.name e.entered e.at e.same.0 e.same.1 (ap (λ (xs : List ℕ). slice_range xs c.args.first c.args.past) c.deref.ensures.value) c.requires.may in
    may_set start u.seen c.args.caller.now.number t.session.levels.commands c.args.bank part c.args.state c.set_note-entry.result.value
    (c.set_note-entry.ensures ∙ ap (λ (b : By). set_entry b c.args.state part) (c.command_of-by.ensures ∙ ap (λ z. by_at z t.session.levels.commands) e.same.1)) c.requires.bank.0 e.entered.kept m.opened m.may
    (subst (λ z. IsInTurn start (at u.seen (xact_lock c.args.bank)) (by_at z t.session.levels.commands)) e.same.1 (e.at.turns (xact_lock c.args.bank)))

pub leave_quiet-requires-clause-stands : goal.leave_quiet-requires-clause-stands
leave_quiet-requires-clause-stands g c =
    let start = start_of c.args.hall.now in
    let e = c.enter_xact-held.ensures in
    let u = view c.enter_xact-held.new.caller.pass in
    let t = c.enter_xact-held.new.caller in
    let r = c.in-Ok.ensures in
    let part = slice_range c.deref.result.now c.args.first c.args.past in
    let m = settable start (view c.args.caller.now.pass) u c.args.caller.now.number t.number (xact_lock c.args.bank) c.args.bank c.args.first c.args.past c.args.caller.now.session t.session part c.args.state
    c.requires.ready.at.name e.entered e.at e.same.0 e.same.1 (ap (λ (xs : List ℕ). slice_range xs c.args.first c.args.past) c.deref.ensures.value) c.requires.may in
    let some : 0 < length part = subst (λ (xs : List ℕ). 0 < length xs) (sym m.is) (range_some c.args.caller.now.session.levels.open_ids.items c.args.first c.args.past c.requires.some c.requires.among) in (
      c.args.bank,
      refl,
      stands_set start u.seen c.args.caller.now.number c.args.bank c.deref_mut-store.result.now c.set_states.new.bank c.command_of-by.result part c.args.state _ c.set_note-entry.result.value c.requires.ready.at.base e.entered.kept c.set_note-entry.ensures (omega (arith, some)) m.opened m.may
          c.stored.ensures r.bank.last r.bank.calls.cutoff r.bank.calls.count r.ok r.bank.calls.crash (subst (λ l. IsXactOf (start_of c.args.hall.now) c.args.bank l (at (view c.enter_xact-held.new.caller.pass).seen (xact_lock c.args.bank))) (sym c.deref_mut-store.ensures.value) c.enter_xact-held.ensures.stands),
    )

pub leave_refused-requires-clause-lock : goal.leave_refused-requires-clause-lock
leave_refused-requires-clause-lock g c = is_xact_lock (start_of c.args.hall.now) c.args.bank c.requires.bank.0

pub leave_refused-requires-clause-fault : goal.leave_refused-requires-clause-fault
leave_refused-requires-clause-fault g c = c.fault_note-fault.ensures ∙ ap (λ (b : By). fault_by b (faults_of c.set_states.new.bank)) c.command_of-by.ensures

pub leave_refused-requires-clause-stands : goal.leave_refused-requires-clause-stands
leave_refused-requires-clause-stands g c =
    let r = c.in-Err.ensures in (
      c.args.bank,
      refl,
      xact_same (start_of c.args.hall.now) c.args.bank c.deref_mut-store.result.now c.set_states.new.bank (at (view c.enter_xact-held.new.caller.pass).seen (xact_lock c.args.bank))
          (record { last = r.bank.last; cutoff = r.bank.calls.cutoff; count = r.bank.calls.count; pages = r.err }) r.bank.calls.crash (subst (λ l. IsXactOf (start_of c.args.hall.now) c.args.bank l (at (view c.enter_xact-held.new.caller.pass).seen (xact_lock c.args.bank))) (sym c.deref_mut-store.ensures.value) c.enter_xact-held.ensures.stands),
    )

pub returns-in-Ok-clause-goes : goal.returns-in-Ok-clause-goes
returns-in-Ok-clause-goes g c =
    let start = start_of c.args.hall.now in
    let e = c.enter_xact-held.ensures in
    let v = view c.args.caller.now.pass in
    goes_quiet start v (view c.enter_xact-held.new.caller.pass) (view c.leave_quiet.new.caller.pass) c.args.caller.now.number (xact_lock c.args.bank) c.args.caller.now.session c.set_note-entry.result.value
    c.requires.ready.at e.entered.kept e.entered.learns (below_locks start v c.args.caller.now.number (xact_lock c.args.bank) c.args.caller.now.session c.requires.ready.at (is_xact_lock start c.args.bank c.requires.bank.0)) (ap event_of c.set_note-entry.ensures) (ap multi_of c.set_note-entry.ensures) c.leave_quiet.ensures.left

pub returns-in-Ok-clause-asks : goal.returns-in-Ok-clause-asks
returns-in-Ok-clause-asks g c =
    let start = start_of c.args.hall.now in
    let e = c.enter_xact-held.ensures in
    let v = view c.args.caller.now.pass in
    let u = view c.enter_xact-held.new.caller.pass in
    let w = view c.leave_quiet.new.caller.pass in
    let t = c.enter_xact-held.new.caller in
    let n = c.args.caller.now.number in
    let part = slice_range c.deref.result.now c.args.first c.args.past in
    let m = settable start v u n t.number (xact_lock c.args.bank) c.args.bank c.args.first c.args.past c.args.caller.now.session t.session part c.args.state
    c.requires.ready.at.name e.entered e.at e.same.0 e.same.1 (ap (λ (xs : List ℕ). slice_range xs c.args.first c.args.past) c.deref.ensures.value) c.requires.may in
    subst (λ (xs : List ℕ). AsksOnly n xs c.args.state v.seen w.seen) m.is
    (asks_only start v u w n (xact_lock c.args.bank) c.command_of-by.result part c.args.state c.set_note-entry.result.value c.requires.ready.at.name e.entered (below_locks start v n (xact_lock c.args.bank) c.args.caller.now.session c.requires.ready.at (is_xact_lock start c.args.bank c.requires.bank.0)) c.set_note-entry.ensures c.leave_quiet.ensures.left)

pub returns-in-Ok-clause-set : goal.returns-in-Ok-clause-set
returns-in-Ok-clause-set g c =
    let start = start_of c.args.hall.now in
    let e = c.enter_xact-held.ensures in
    let v = view c.args.caller.now.pass in
    let u = view c.enter_xact-held.new.caller.pass in
    let w = view c.leave_quiet.new.caller.pass in
    let t = c.enter_xact-held.new.caller in
    let n = c.args.caller.now.number in
    let part = slice_range c.deref.result.now c.args.first c.args.past in
    let m = settable start v u n t.number (xact_lock c.args.bank) c.args.bank c.args.first c.args.past c.args.caller.now.session t.session part c.args.state
    c.requires.ready.at.name e.entered e.at e.same.0 e.same.1 (ap (λ (xs : List ℕ). slice_range xs c.args.first c.args.past) c.deref.ensures.value) c.requires.may in
    let left = list_left start v u w n (xact_lock c.args.bank) c.args.caller.now.session c.set_note-entry.result.value c.requires.ready.at (is_xact_lock start c.args.bank c.requires.bank.0) e.entered c.leave_quiet.ensures.left in
    subst (λ (xs : List ℕ). (id : ℕ) → Contains xs id → IsMarked start w.seen id c.args.state) m.is (set_stands start u.seen w.seen c.args.bank c.command_of-by.result part c.args.state c.set_note-entry.result.value c.set_note-entry.ensures left m.may.here)

pub returns-in-Err-clause-goes : goal.returns-in-Err-clause-goes
returns-in-Err-clause-goes g c =
    (visited_refused (start_of c.args.hall.now) (view c.args.caller.now.pass) (view c.enter_xact-held.new.caller.pass) (view c.leave_refused.new.caller.pass) c.args.caller.now.number (xact_lock c.args.bank) c.args.caller.now.session _ _ c.in-Err.refusal
    c.requires.ready.at (is_xact_lock (start_of c.args.hall.now) c.args.bank c.requires.bank.0) c.enter_xact-held.ensures.entered c.leave_refused.ensures.left).on

pub returns-in-Err-clause-asks : goal.returns-in-Err-clause-asks
returns-in-Err-clause-asks g c id asked a =
    inl ((visited_refused (start_of c.args.hall.now) (view c.args.caller.now.pass) (view c.enter_xact-held.new.caller.pass) (view c.leave_refused.new.caller.pass) c.args.caller.now.number (xact_lock c.args.bank) c.args.caller.now.session _ _ c.in-Err.refusal
    c.requires.ready.at (is_xact_lock (start_of c.args.hall.now) c.args.bank c.requires.bank.0) c.enter_xact-held.ensures.entered c.leave_refused.ensures.left).asks id asked a)

pub returns-in-Err-clause-unasked : goal.returns-in-Err-clause-unasked
returns-in-Err-clause-unasked g c =
    (visited_refused (start_of c.args.hall.now) (view c.args.caller.now.pass) (view c.enter_xact-held.new.caller.pass) (view c.leave_refused.new.caller.pass) c.args.caller.now.number (xact_lock c.args.bank) c.args.caller.now.session _ _ c.in-Err.refusal
    c.requires.ready.at (is_xact_lock (start_of c.args.hall.now) c.args.bank c.requires.bank.0) c.enter_xact-held.ensures.entered c.leave_refused.ensures.left).asks

pub returns-in-Err-clause-fault : goal.returns-in-Err-clause-fault
returns-in-Err-clause-fault g c is =
    let e = c.enter_xact-held.ensures in
    fault_met (start_of c.args.hall.now) (view c.args.caller.now.pass) (view c.enter_xact-held.new.caller.pass) (view c.leave_refused.new.caller.pass) c.args.caller.now.number c.enter_xact-held.new.caller.number (xact_lock c.args.bank) c.args.caller.now.session c.enter_xact-held.new.caller.session _ c.in-Err.refusal
    c.requires.ready.at (is_xact_lock (start_of c.args.hall.now) c.args.bank c.requires.bank.0) e.entered e.same.1 e.same.0 c.leave_refused.ensures.left cc

pub returns-in-Err-clause-uncut : goal.returns-in-Err-clause-uncut
returns-in-Err-clause-uncut g c few cutoff is =
    let start = start_of c.args.hall.now in
    let e = c.enter_xact-held.ensures in
    let v = view c.args.caller.now.pass in
    let u = view c.enter_xact-held.new.caller.pass in
    let w = view c.leave_refused.new.caller.pass in
    let t = c.enter_xact-held.new.caller in
    let n = c.args.caller.now.number in
    let part = slice_range c.deref.result.now c.args.first c.args.past in
    let m = settable start v u n t.number (xact_lock c.args.bank) c.args.bank c.args.first c.args.past c.args.caller.now.session t.session part c.args.state
    c.requires.ready.at.name e.entered e.at e.same.0 e.same.1 (ap (λ (xs : List ℕ). slice_range xs c.args.first c.args.past) c.deref.ensures.value) c.requires.may in
    let long = e.entered.learns.long in
    let below = below_locks start v n (xact_lock c.args.bank) c.args.caller.now.session c.requires.ready.at (is_xact_lock start c.args.bank c.requires.bank.0) in
    let before = near_before start u w (xact_lock c.args.bank) _ (refused_quiet _ _ c.in-Err.refusal).event (omega arith) c.leave_refused.ensures.left (ids_near start w.seen c.requires.ready.at.base few) in
    let some : 0 < length part = subst (λ (xs : List ℕ). 0 < length xs) (sym m.is) (range_some c.args.caller.now.session.levels.open_ids.items c.args.first c.args.past c.requires.some c.requires.among) in
    cut_refused _ (state_uncut start u.seen n c.args.bank (slice_index part 0) _ c.requires.ready.at.base e.entered.kept (subst (λ l. IsXactOf (start_of c.args.hall.now) c.args.bank l (at (view c.enter_xact-held.new.caller.pass).seen (xact_lock c.args.bank))) (sym c.deref_mut-store.ensures.value) c.enter_xact-held.ensures.stands).cutoff_is (m.opened (slice_index part 0) (index_in part 0 some)) before) (c.in-Err.ensures.bank.calls.only_cut cutoff is).1

pub returns-in-Ok-clause-section : goal.returns-in-Ok-clause-section
returns-in-Ok-clause-section g c =
    let start = start_of c.args.hall.now in
    let e = c.enter_xact-held.ensures in
    let v = view c.args.caller.now.pass in
    let u = view c.enter_xact-held.new.caller.pass in
    let w = view c.leave_quiet.new.caller.pass in
    let t = c.enter_xact-held.new.caller in
    let s = c.args.caller.now.session in
    let n = c.args.caller.now.number in
    let part = slice_range c.deref.result.now c.args.first c.args.past in
    let m = settable start v u n t.number (xact_lock c.args.bank) c.args.bank c.args.first c.args.past s t.session part c.args.state
    c.requires.ready.at.name e.entered e.at e.same.0 e.same.1 (ap (λ (xs : List ℕ). slice_range xs c.args.first c.args.past) c.deref.ensures.value) c.requires.may in
    let mine = c.command_of-by.ensures ∙ same_command n t.number s t.session e.same.1 e.same.0 in
    section_of start v u w (xact_lock c.args.bank) c.set_note-entry.result.value (set_entry (by_at n s.levels.commands) c.args.state (slice_range s.levels.open_ids.items c.args.first c.args.past)) e.entered
    (c.set_note-entry.ensures ∙ (λ j. set_entry (mine j) c.args.state (m.is j))) c.leave_quiet.ensures.left

pub returns-in-Err-clause-section : goal.returns-in-Err-clause-section
returns-in-Err-clause-section g c =
    let start = start_of c.args.hall.now in
    let e = c.enter_xact-held.ensures in
    let v = view c.args.caller.now.pass in
    let u = view c.enter_xact-held.new.caller.pass in
    let w = view c.leave_refused.new.caller.pass in
    let t = c.enter_xact-held.new.caller in
    let s = c.args.caller.now.session in
    let n = c.args.caller.now.number in
    let part = slice_range c.deref.result.now c.args.first c.args.past in
    let m = settable start v u n t.number (xact_lock c.args.bank) c.args.bank c.args.first c.args.past s t.session part c.args.state
    c.requires.ready.at.name e.entered e.at e.same.0 e.same.1 (ap (λ (xs : List ℕ). slice_range xs c.args.first c.args.past) c.deref.ensures.value) c.requires.may in
    xact_refused_at start v u w n t.number c.args.bank s t.session _ (xact_page_of (slice_index (slice_range s.levels.open_ids.items c.args.first c.args.past) 0)) _ (cutoff_of c.deref_mut-store.result.now) c.in-Err.refusal c.requires.ready.at c.requires.bank.0 e.same.1 e.same.0
    (ap (λ (xs : List ℕ). xact_page_of (slice_index xs 0)) m.is) e.entered c.leave_refused.ensures.left (subst (λ l. IsXactOf (start_of c.args.hall.now) c.args.bank l (at (view c.enter_xact-held.new.caller.pass).seen (xact_lock c.args.bank))) (sym c.deref_mut-store.ensures.value) c.enter_xact-held.ensures.stands).cutoff_is (λ cutoff is. c.in-Err.ensures.bank.calls.only_cut cutoff (ap Err is))

pub leave_refused-requires-clause-risen : goal.leave_refused-requires-clause-risen
leave_refused-requires-clause-risen g c is = let e = c.enter_xact-held.ensures in risen_past (faults_told (start_of c.args.hall.now) (xact_lock c.args.bank) (at (view c.enter_xact-held.new.caller.pass).seen (xact_lock c.args.bank))) (faults_of c.deref_mut-store.result.now) _ (subst (λ l. IsXactOf (start_of c.args.hall.now) c.args.bank l (at (view c.enter_xact-held.new.caller.pass).seen (xact_lock c.args.bank))) (sym c.deref_mut-store.ensures.value) c.enter_xact-held.ensures.stands).count (c.in-Err.ensures.bank.calls.fault (ap Err is))
