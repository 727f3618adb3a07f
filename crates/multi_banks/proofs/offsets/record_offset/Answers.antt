use Rattle.std.proofs.Common.{refl, sym, ap, subst, Err, ℕ, ◌∙◌, ◌/◌, ◌%◌}
use Rattle.engine_parts.proofs.Sectioning.{same_command}
use Rattle.engine_parts.specs.Parts.{IsOffsetsOf}
use Rattle.engine_parts.specs.Sessions.{by_at}
use Rattle.hall.specs.Calls.{start_of, view}
use Rattle.multi_banks.proofs.Adding.{may_set_offset, offset_entry, offset_later}
use Rattle.multi_banks.proofs.Cutting.{offset_cut}
use Rattle.multi_banks.proofs.Later.{given_multi, made_later, set_stands}
use Rattle.multi_banks.proofs.Offsetting.{offsets_same, offsets_set}
use Rattle.multi_banks.proofs.Uncut.{offset_gone}
use Rattle.multi_banks.proofs.Visiting.{bank_refused, fault_met, is_offsets_lock, list_left, visited, visited_refused}
use Rattle.multi_banks.specs.Sections.{IsOffsetCut}
use Rattle.notes.specs.Lists.{at}
use Rattle.recoverable.proofs.Offsets.{given_from}
use Rattle.slru_bank.specs.ByteRange.{SetsEntry}
use Rattle.slru_bank.specs.Calls.{cutoff_of, faults_of, pages_of}
use Rattle.store_pages.specs.Layouts.{word_page_of}
use Rattle.tx_core.proofs.FaultCounts.{risen_past}
use Rattle.tx_core.specs.Entries.{asks_in, event_of}
use Rattle.tx_core.specs.FaultsRise.{faults_told}
use Rattle.tx_core.specs.Locks.{offsets_lock}
use Rattle.tx_core.specs.MembersBeforeOffset.{OffsetOf}
use Rattle.tx_core.specs.MultiEntries.{multi_of}
use Rattle.tx_events.specs.declared.event.By.{By}
use Rattle.multi_banks.proofs.offsets.record_offset.Goals as goal

pub leave_quiet-requires-clause-may : goal.leave_quiet-requires-clause-may
leave_quiet-requires-clause-may g c =
    let start = start_of c.args.hall.now in
    let e = c.enter_offsets-held.ensures in
    let v = view c.args.caller.now.pass in
    let u = view c.enter_offsets-held.new.caller.pass in
    let t = c.enter_offsets-held.new.caller in
    let s = c.args.caller.now.session in
    let n = c.args.caller.now.number in
    may_set_offset start u.seen c.args.bank c.args.multi c.args.offset (by_at t.number t.session.levels.commands) c.set_note-entry.result.value c.requires.bank.0
    (c.set_note-entry.ensures ∙ ap (λ (b : By). offset_entry b c.args.multi c.args.offset) c.command_of-by.ensures) c.requires.here
    (made_later v.seen u.seen (offsets_lock c.args.bank) _ _ e.entered.learns.knows.grows c.requires.made)
    (subst (λ (b : By). OffsetOf start u.seen (record { caller = b; multi = c.args.multi; offset = c.args.offset })) (sym (same_command n t.number s t.session e.same.1 e.same.0)) (offset_later start v.seen u.seen _ e.entered.learns.knows.grows c.requires.may))
    (e.at.turns (offsets_lock c.args.bank))

pub leave_quiet-requires-clause-stands : goal.leave_quiet-requires-clause-stands
leave_quiet-requires-clause-stands g c =
    let r = c.in-Ok.ensures in
    let e = c.enter_offsets-held.ensures in
    let given = c.requires.may.recorded in (
      c.args.bank,
      refl,
      offsets_set (start_of c.args.hall.now) c.args.bank c.requires.ready.at.base c.deref_mut-store.result.now c.set_offset.new.bank (at (view c.enter_offsets-held.new.caller.pass).seen (offsets_lock c.args.bank)) c.command_of-by.result c.args.multi c.args.offset c.set_note-entry.result.value c.set_note-entry.ensures
          (given_from (start_of c.args.hall.now) (view c.args.caller.now.pass).seen given.by c.args.multi c.args.offset c.requires.may.members c.requires.ready.at.kept given.given)
          (made_later (view c.args.caller.now.pass).seen (view c.enter_offsets-held.new.caller.pass).seen (offsets_lock c.args.bank) _ _ e.entered.learns.knows.grows c.requires.made)
          r.bank.last r.bank.calls.cutoff r.bank.calls.count
          (λ told. subst (λ (z : ℕ × ℕ). SetsEntry (z.0 / 2048) (z.0 % 2048) z.1 (pages_of c.deref_mut-store.result.now) (pages_of c.set_offset.new.bank)) (λ j. (c.low.ensures j, c.low_offset.ensures j)) (r.ok told))
          r.bank.calls.crash (subst (λ l. IsOffsetsOf (start_of c.args.hall.now) c.args.bank l (at (view c.enter_offsets-held.new.caller.pass).seen (offsets_lock c.args.bank))) (sym c.deref_mut-store.ensures.value) c.enter_offsets-held.ensures.stands),
    )

pub returns-in-Ok-clause-went : goal.returns-in-Ok-clause-went
returns-in-Ok-clause-went g c =
    let start = start_of c.args.hall.now in
    let e = c.enter_offsets-held.ensures in
    let v = view c.args.caller.now.pass in
    let u = view c.enter_offsets-held.new.caller.pass in
    let w = view c.leave_quiet.new.caller.pass in
    let s = c.args.caller.now.session in
    let n = c.args.caller.now.number in
    let pages = is_offsets_lock start c.args.bank c.requires.bank.0 in
    let q = c.set_note-entry.ensures in
    visited start v u w n (offsets_lock c.args.bank) s c.requires.ready.at pages e.entered c.set_note-entry.result.value (ap event_of q) (ap multi_of q) (ap asks_in q) c.leave_quiet.ensures.left

pub returns-in-Ok-clause-set : goal.returns-in-Ok-clause-set
returns-in-Ok-clause-set g c =
    let start = start_of c.args.hall.now in
    let e = c.enter_offsets-held.ensures in
    let v = view c.args.caller.now.pass in
    let u = view c.enter_offsets-held.new.caller.pass in
    let w = view c.leave_quiet.new.caller.pass in
    let s = c.args.caller.now.session in
    let n = c.args.caller.now.number in
    let pages = is_offsets_lock start c.args.bank c.requires.bank.0 in
    set_stands start u.seen w.seen c.args.bank c.args.multi c.args.offset c.command_of-by.result c.set_note-entry.result.value c.set_note-entry.ensures c.requires.here (list_left start v u w n (offsets_lock c.args.bank) s c.requires.ready.at pages e.entered _ c.leave_quiet.ensures.left)

pub leave_refused-requires-clause-stands : goal.leave_refused-requires-clause-stands
leave_refused-requires-clause-stands g c =
    (c.args.bank, refl, offsets_same (start_of c.args.hall.now) c.args.bank c.requires.ready.at.base c.deref_mut-store.result.now c.set_offset.new.bank (at (view c.enter_offsets-held.new.caller.pass).seen (offsets_lock c.args.bank)) (record { last = c.in-Err.ensures.bank.last; cutoff = c.in-Err.ensures.bank.calls.cutoff; count = c.in-Err.ensures.bank.calls.count; pages = c.in-Err.ensures.err; crash = c.in-Err.ensures.bank.calls.crash }) (subst (λ l. IsOffsetsOf (start_of c.args.hall.now) c.args.bank l (at (view c.enter_offsets-held.new.caller.pass).seen (offsets_lock c.args.bank))) (sym c.deref_mut-store.ensures.value) c.enter_offsets-held.ensures.stands))

pub leave_refused-requires-clause-risen : goal.leave_refused-requires-clause-risen
leave_refused-requires-clause-risen g c is =
    risen_past (faults_told (start_of c.args.hall.now) (offsets_lock c.args.bank) (at (view c.enter_offsets-held.new.caller.pass).seen (offsets_lock c.args.bank))) (faults_of c.deref_mut-store.result.now) _ (subst (λ l. IsOffsetsOf (start_of c.args.hall.now) c.args.bank l (at (view c.enter_offsets-held.new.caller.pass).seen (offsets_lock c.args.bank))) (sym c.deref_mut-store.ensures.value) c.enter_offsets-held.ensures.stands).stands.count (c.in-Err.ensures.bank.calls.fault (ap Err is))

pub returns-in-Err-clause-section : goal.returns-in-Err-clause-section
returns-in-Err-clause-section g c =
    let start = start_of c.args.hall.now in
    let e = c.enter_offsets-held.ensures in
    let v = view c.args.caller.now.pass in
    let u = view c.enter_offsets-held.new.caller.pass in
    let w = view c.leave_refused.new.caller.pass in
    let t = c.enter_offsets-held.new.caller in
    let s = c.args.caller.now.session in
    let n = c.args.caller.now.number in
    let pages = is_offsets_lock start c.args.bank c.requires.bank.0 in
    bank_refused start v u w n (offsets_lock c.args.bank) s c.requires.ready.at pages e.entered t.number t.session e.same.1 e.same.0 _ (IsOffsetCut start w.seen c.args.bank (word_page_of c.args.multi)) c.in-Err.refusal c.leave_refused.ensures.left
    (λ cutoff is. offset_cut start u.seen w.seen c.args.bank c.args.multi cutoff (cutoff_of c.deref_mut-store.result.now) _ _ (list_left start v u w n (offsets_lock c.args.bank) s c.requires.ready.at pages e.entered _ c.leave_refused.ensures.left) (subst (λ l. IsOffsetsOf (start_of c.args.hall.now) c.args.bank l (at (view c.enter_offsets-held.new.caller.pass).seen (offsets_lock c.args.bank))) (sym c.deref_mut-store.ensures.value) c.enter_offsets-held.ensures.stands).stands.cutoff_is (ap (λ z. z / 2048) c.low.ensures) (c.in-Err.ensures.bank.calls.only_cut cutoff (ap Err is)))

pub returns-in-Err-clause-went : goal.returns-in-Err-clause-went
returns-in-Err-clause-went g c =
    let start = start_of c.args.hall.now in
    let e = c.enter_offsets-held.ensures in
    let v = view c.args.caller.now.pass in
    let u = view c.enter_offsets-held.new.caller.pass in
    let w = view c.leave_refused.new.caller.pass in
    let s = c.args.caller.now.session in
    let n = c.args.caller.now.number in
    let pages = is_offsets_lock start c.args.bank c.requires.bank.0 in
    visited_refused start v u w n (offsets_lock c.args.bank) s c.requires.ready.at pages e.entered _ _ c.in-Err.refusal c.leave_refused.ensures.left

pub returns-in-Err-clause-fault : goal.returns-in-Err-clause-fault
returns-in-Err-clause-fault g c is =
    let start = start_of c.args.hall.now in
    let e = c.enter_offsets-held.ensures in
    let v = view c.args.caller.now.pass in
    let u = view c.enter_offsets-held.new.caller.pass in
    let w = view c.leave_refused.new.caller.pass in
    let t = c.enter_offsets-held.new.caller in
    let s = c.args.caller.now.session in
    let n = c.args.caller.now.number in
    let pages = is_offsets_lock start c.args.bank c.requires.bank.0 in
    fault_met start v u w n (offsets_lock c.args.bank) s c.requires.ready.at pages e.entered t.number t.session e.same.1 e.same.0 _ c.in-Err.refusal c.leave_refused.ensures.left cc

pub returns-in-Err-clause-gone : goal.returns-in-Err-clause-gone
returns-in-Err-clause-gone g c few cutoff is =
    let start = start_of c.args.hall.now in
    let e = c.enter_offsets-held.ensures in
    let v = view c.args.caller.now.pass in
    let u = view c.enter_offsets-held.new.caller.pass in
    let w = view c.leave_refused.new.caller.pass in
    let s = c.args.caller.now.session in
    let n = c.args.caller.now.number in
    let pages = is_offsets_lock start c.args.bank c.requires.bank.0 in
    let went = visited_refused start v u w n (offsets_lock c.args.bank) s c.requires.ready.at pages e.entered _ _ c.in-Err.refusal c.leave_refused.ensures.left in
    let near = given_multi start v.seen w.seen c.args.multi c.args.offset c.requires.may.members c.requires.may.recorded.by c.requires.ready.at.base c.leave_refused.ensures.ready.at.kept went.grows c.requires.may.recorded.given in
    offset_gone start w.seen c.args.bank c.leave_refused.ensures.ready.at.kept c.requires.ready.at.base few c.args.multi cutoff near.0 near.1
    (offset_cut start u.seen w.seen c.args.bank c.args.multi cutoff (cutoff_of c.deref_mut-store.result.now) _ _ (list_left start v u w n (offsets_lock c.args.bank) s c.requires.ready.at pages e.entered _ c.leave_refused.ensures.left) (subst (λ l. IsOffsetsOf (start_of c.args.hall.now) c.args.bank l (at (view c.enter_offsets-held.new.caller.pass).seen (offsets_lock c.args.bank))) (sym c.deref_mut-store.ensures.value) c.enter_offsets-held.ensures.stands).stands.cutoff_is (ap (λ z. z / 2048) c.low.ensures) (c.in-Err.ensures.bank.calls.only_cut cutoff is))
