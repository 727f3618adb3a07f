use Rattle.std.proofs.Common.{refl, sym, ap, subst, Err, ◌∙◌, ◌/◌}
use Rattle.tx_core.specs.declared.entry.Kind.TheVariants as kinds
use Rattle.engine_parts.proofs.May.{may_make}
use Rattle.engine_parts.specs.Parts.{IsOffsetsOf}
use Rattle.engine_parts.specs.Sessions.{by_at}
use Rattle.hall.specs.Calls.{start_of, view}
use Rattle.multi_banks.proofs.Adding.{offsets_wanted}
use Rattle.multi_banks.proofs.Cutting.{offset_cut}
use Rattle.multi_banks.proofs.Later.{multi_later}
use Rattle.multi_banks.proofs.Offsetting.{offsets_made, offsets_same}
use Rattle.multi_banks.proofs.Uncut.{offset_gone}
use Rattle.multi_banks.proofs.Visiting.{bank_refused, fault_met, is_offsets_lock, list_left, made_stands, visited, visited_refused}
use Rattle.multi_banks.specs.Sections.{IsOffsetCut}
use Rattle.notes.specs.Lists.{at}
use Rattle.slru_bank.specs.Calls.{cutoff_of, faults_of}
use Rattle.store_pages.specs.Layouts.{word_page_of}
use Rattle.tx_core.proofs.FaultCounts.{risen_past}
use Rattle.tx_core.proofs.Lasting.{wanted_grows}
use Rattle.tx_core.specs.Entries.{asks_in, event_of}
use Rattle.tx_core.specs.FaultsRise.{faults_told}
use Rattle.tx_core.specs.Locks.{offset_page, offsets_lock}
use Rattle.tx_core.specs.MultiEntries.{multi_of}
use Rattle.multi_banks.proofs.offsets.make_offset_page.Goals as goal

pub leave_quiet-requires-clause-may : goal.leave_quiet-requires-clause-may
leave_quiet-requires-clause-may g c =
    let start = start_of c.args.hall.now in
    let e = c.enter_offsets-held.ensures in
    let v = view c.args.caller.now.pass in
    let u = view c.enter_offsets-held.new.caller.pass in
    let t = c.enter_offsets-held.new.caller in
    let pages = is_offsets_lock start c.args.bank c.requires.bank.0 in
    may_make start u.seen (offsets_lock c.args.bank) (offset_page c.args.multi) (by_at t.number t.session.levels.commands) c.zeroed_note-entry.result.value pages
    (wanted_grows start v.seen u.seen (offsets_lock c.args.bank) (offset_page c.args.multi) e.entered.learns.knows.grows (offsets_wanted start v.seen c.args.bank c.args.multi c.requires.wanted))
    (c.zeroed_note-entry.ensures ∙ (λ j. record { by = c.command_of-by.ensures j; kind = kinds.Zero (c.offset_page_in_full.ensures.page j) })) (e.at.turns (offsets_lock c.args.bank))

pub leave_quiet-requires-clause-stands : goal.leave_quiet-requires-clause-stands
leave_quiet-requires-clause-stands g c =
    let r = c.in-Ok.ensures in (
      c.args.bank,
      refl,
      offsets_made (start_of c.args.hall.now) c.args.bank c.requires.ready.at.base c.deref_mut-store.result.now c.zero.new.self (at (view c.enter_offsets-held.new.caller.pass).seen (offsets_lock c.args.bank)) c.command_of-by.result c.args.multi c.offset_page_in_full.result c.offset_page.result c.zeroed_note-entry.result.value
          c.requires.wanted.0 c.zeroed_note-entry.ensures (c.offset_page_in_full.ensures.page) (c.offset_page.ensures.page ∙ ap (λ z. z / 2048) c.low.ensures) (record { last = r.last; cutoff = r.calls.cutoff; count = r.calls.count; pages = r.ok; crash = r.calls.crash }) (subst (λ l. IsOffsetsOf (start_of c.args.hall.now) c.args.bank l (at (view c.enter_offsets-held.new.caller.pass).seen (offsets_lock c.args.bank))) (sym c.deref_mut-store.ensures.value) c.enter_offsets-held.ensures.stands),
    )

pub returns-in-Ok-clause-went : goal.returns-in-Ok-clause-went
returns-in-Ok-clause-went g c =
    let start = start_of c.args.hall.now in
    let e = c.enter_offsets-held.ensures in
    let v = view c.args.caller.now.pass in
    let u = view c.enter_offsets-held.new.caller.pass in
    let w = view c.leave_quiet.new.caller.pass in
    let s = c.args.caller.now.session in
    let n = c.args.caller.now.number in
    let pages = is_offsets_lock start c.args.bank c.requires.bank.0 in
    let q = c.zeroed_note-entry.ensures in
    visited start v u w n (offsets_lock c.args.bank) s c.requires.ready.at pages e.entered c.zeroed_note-entry.result.value (ap event_of q) (ap multi_of q) (ap asks_in q) c.leave_quiet.ensures.left

pub returns-in-Ok-clause-made : goal.returns-in-Ok-clause-made
returns-in-Ok-clause-made g c =
    let start = start_of c.args.hall.now in
    let e = c.enter_offsets-held.ensures in
    let v = view c.args.caller.now.pass in
    let u = view c.enter_offsets-held.new.caller.pass in
    let w = view c.leave_quiet.new.caller.pass in
    let s = c.args.caller.now.session in
    let n = c.args.caller.now.number in
    let pages = is_offsets_lock start c.args.bank c.requires.bank.0 in
    made_stands start v u w n (offsets_lock c.args.bank) s c.requires.ready.at pages e.entered (offset_page c.args.multi) c.command_of-by.result c.zeroed_note-entry.result.value
    (c.zeroed_note-entry.ensures ∙ (λ j. record { by = c.command_of-by.result; kind = kinds.Zero (c.offset_page_in_full.ensures.page j) })) c.leave_quiet.ensures.left

pub leave_refused-requires-clause-stands : goal.leave_refused-requires-clause-stands
leave_refused-requires-clause-stands g c =
    (c.args.bank, refl, offsets_same (start_of c.args.hall.now) c.args.bank c.requires.ready.at.base c.deref_mut-store.result.now c.zero.new.self (at (view c.enter_offsets-held.new.caller.pass).seen (offsets_lock c.args.bank)) (record { last = c.in-Err.ensures.last; cutoff = c.in-Err.ensures.calls.cutoff; count = c.in-Err.ensures.calls.count; pages = c.in-Err.ensures.err; crash = c.in-Err.ensures.calls.crash }) (subst (λ l. IsOffsetsOf (start_of c.args.hall.now) c.args.bank l (at (view c.enter_offsets-held.new.caller.pass).seen (offsets_lock c.args.bank))) (sym c.deref_mut-store.ensures.value) c.enter_offsets-held.ensures.stands))

pub leave_refused-requires-clause-risen : goal.leave_refused-requires-clause-risen
leave_refused-requires-clause-risen g c is =
    risen_past (faults_told (start_of c.args.hall.now) (offsets_lock c.args.bank) (at (view c.enter_offsets-held.new.caller.pass).seen (offsets_lock c.args.bank))) (faults_of c.deref_mut-store.result.now) _ (subst (λ l. IsOffsetsOf (start_of c.args.hall.now) c.args.bank l (at (view c.enter_offsets-held.new.caller.pass).seen (offsets_lock c.args.bank))) (sym c.deref_mut-store.ensures.value) c.enter_offsets-held.ensures.stands).stands.count (c.in-Err.ensures.calls.fault (ap Err is))

pub returns-in-Err-clause-section : goal.returns-in-Err-clause-section
returns-in-Err-clause-section g c =
    let start = start_of c.args.hall.now in
    let e = c.enter_offsets-held.ensures in
    let v = view c.args.caller.now.pass in
    let u = view c.enter_offsets-held.new.caller.pass in
    let w = view c.leave_refused.new.caller.pass in
    let t = c.enter_offsets-held.new.caller in
    let s = c.args.caller.now.session in
    let n = c.args.caller.now.number in
    let pages = is_offsets_lock start c.args.bank c.requires.bank.0 in
    bank_refused start v u w n (offsets_lock c.args.bank) s c.requires.ready.at pages e.entered t.number t.session e.same.1 e.same.0 _ (IsOffsetCut start w.seen c.args.bank (word_page_of c.args.multi)) c.in-Err.refusal c.leave_refused.ensures.left
    (λ cutoff is. offset_cut start u.seen w.seen c.args.bank c.args.multi cutoff (cutoff_of c.deref_mut-store.result.now) c.offset_page.result _ (list_left start v u w n (offsets_lock c.args.bank) s c.requires.ready.at pages e.entered _ c.leave_refused.ensures.left) (subst (λ l. IsOffsetsOf (start_of c.args.hall.now) c.args.bank l (at (view c.enter_offsets-held.new.caller.pass).seen (offsets_lock c.args.bank))) (sym c.deref_mut-store.ensures.value) c.enter_offsets-held.ensures.stands).stands.cutoff_is (c.offset_page.ensures.page ∙ ap (λ z. z / 2048) c.low.ensures) (c.in-Err.ensures.calls.only_cut cutoff (ap Err is)))

pub returns-in-Err-clause-went : goal.returns-in-Err-clause-went
returns-in-Err-clause-went g c =
    let start = start_of c.args.hall.now in
    let e = c.enter_offsets-held.ensures in
    let v = view c.args.caller.now.pass in
    let u = view c.enter_offsets-held.new.caller.pass in
    let w = view c.leave_refused.new.caller.pass in
    let s = c.args.caller.now.session in
    let n = c.args.caller.now.number in
    let pages = is_offsets_lock start c.args.bank c.requires.bank.0 in
    visited_refused start v u w n (offsets_lock c.args.bank) s c.requires.ready.at pages e.entered _ _ c.in-Err.refusal c.leave_refused.ensures.left

pub returns-in-Err-clause-fault : goal.returns-in-Err-clause-fault
returns-in-Err-clause-fault g c is =
    let start = start_of c.args.hall.now in
    let e = c.enter_offsets-held.ensures in
    let v = view c.args.caller.now.pass in
    let u = view c.enter_offsets-held.new.caller.pass in
    let w = view c.leave_refused.new.caller.pass in
    let t = c.enter_offsets-held.new.caller in
    let s = c.args.caller.now.session in
    let n = c.args.caller.now.number in
    let pages = is_offsets_lock start c.args.bank c.requires.bank.0 in
    fault_met start v u w n (offsets_lock c.args.bank) s c.requires.ready.at pages e.entered t.number t.session e.same.1 e.same.0 _ c.in-Err.refusal c.leave_refused.ensures.left cc

pub returns-in-Err-clause-gone : goal.returns-in-Err-clause-gone
returns-in-Err-clause-gone g c few cutoff is =
    let start = start_of c.args.hall.now in
    let e = c.enter_offsets-held.ensures in
    let v = view c.args.caller.now.pass in
    let u = view c.enter_offsets-held.new.caller.pass in
    let w = view c.leave_refused.new.caller.pass in
    let s = c.args.caller.now.session in
    let n = c.args.caller.now.number in
    let pages = is_offsets_lock start c.args.bank c.requires.bank.0 in
    let went = visited_refused start v u w n (offsets_lock c.args.bank) s c.requires.ready.at pages e.entered _ _ c.in-Err.refusal c.leave_refused.ensures.left in
    let near = multi_later start v.seen w.seen c.args.multi c.requires.ready.at.base went.grows c.requires.wanted in
    offset_gone start w.seen c.args.bank c.leave_refused.ensures.ready.at.kept c.requires.ready.at.base few c.args.multi cutoff near.0 near.1
    (offset_cut start u.seen w.seen c.args.bank c.args.multi cutoff (cutoff_of c.deref_mut-store.result.now) c.offset_page.result _ (list_left start v u w n (offsets_lock c.args.bank) s c.requires.ready.at pages e.entered _ c.leave_refused.ensures.left) (subst (λ l. IsOffsetsOf (start_of c.args.hall.now) c.args.bank l (at (view c.enter_offsets-held.new.caller.pass).seen (offsets_lock c.args.bank))) (sym c.deref_mut-store.ensures.value) c.enter_offsets-held.ensures.stands).stands.cutoff_is (c.offset_page.ensures.page ∙ ap (λ z. z / 2048) c.low.ensures) (c.in-Err.ensures.calls.only_cut cutoff is))
