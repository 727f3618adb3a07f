use Rattle.std.proofs.Common.{refl, sym, ap, subst, Err, ℕ, length, ◌∙◌, ◌+◌, ◌/◌, ◌%◌, ◌≤◌, ◌^◌}
use Rattle.engine_parts.proofs.Sectioning.{same_command}
use Rattle.engine_parts.specs.Parts.{IsMembersOf}
use Rattle.engine_parts.specs.Sessions.{by_at}
use Rattle.hall.specs.Calls.{start_of, view}
use Rattle.multi_banks.proofs.Adding.{may_set_slots, slot_later, slots_entry}
use Rattle.multi_banks.proofs.Cutting.{member_cut}
use Rattle.multi_banks.proofs.Later.{given_offset, grows_same, made_later, no_asks, old_offset, share_fits, slots_stand}
use Rattle.multi_banks.proofs.Membering.{members_put, members_same}
use Rattle.multi_banks.proofs.Uncut.{member_gone}
use Rattle.multi_banks.proofs.Visiting.{bank_refused, fault_met, is_members_lock, list_left, visited, visited_refused}
use Rattle.multi_banks.specs.Sections.{IsMemberCut}
use Rattle.bank_stores.specs.Runs.{SetsMembers}
use Rattle.notes.specs.Lists.{at}
use Rattle.slru_bank.specs.Calls.{cutoff_of, faults_of, pages_of}
use Rattle.store_pages.specs.Layouts.{member_page_of}
use Rattle.tx_core.proofs.FaultCounts.{risen_past}
use Rattle.tx_core.specs.Entries.{asks_in, event_of}
use Rattle.tx_core.specs.FaultsRise.{faults_told}
use Rattle.tx_core.specs.Locks.{members_lock}
use Rattle.tx_core.specs.MembersBeforeOffset.{SlotOf}
use Rattle.tx_core.specs.MultiEntries.{multi_of}
use Rattle.tx_events.specs.declared.event.By.{By}
use Rattle.multi_banks.proofs.members.record_members.Goals as goal

pub write_members-requires-clause-one_page : goal.write_members-requires-clause-one_page
write_members-requires-clause-one_page g c =
    (share_fits c.args.offset (length c.args.members.now) c.low_offset.result c.low_offset.ensures c.requires.some c.requires.share).0

pub write_members-requires-clause-lap : goal.write_members-requires-clause-lap
write_members-requires-clause-lap g c =
    (share_fits c.args.offset (length c.args.members.now) c.low_offset.result c.low_offset.ensures c.requires.some c.requires.share).1

pub leave_quiet-requires-clause-may : goal.leave_quiet-requires-clause-may
leave_quiet-requires-clause-may g c =
    let start = start_of c.args.hall.now in
    let e = c.enter_members-held.ensures in
    let v = view c.args.caller.now.pass in
    let u = view c.enter_members-held.new.caller.pass in
    let t = c.enter_members-held.new.caller in
    let s = c.args.caller.now.session in
    let n = c.args.caller.now.number in
    may_set_slots start u.seen c.args.bank c.args.offset c.args.members.now (by_at t.number t.session.levels.commands) c.set_note-entry.result.value c.requires.bank.0
    (c.set_note-entry.ensures ∙ ap (λ (b : By). slots_entry b c.args.offset c.args.members.now) c.command_of-by.ensures) c.requires.here c.requires.share
    (made_later v.seen u.seen (members_lock c.args.bank) _ _ e.entered.learns.knows.grows c.requires.made)
    (λ k member is. subst (λ (b : By). SlotOf u.seen (record { caller = b; offset = c.args.offset + k; member = member })) (sym (same_command n t.number s t.session e.same.1 e.same.0)) (slot_later v.seen u.seen _ e.entered.learns.knows.grows (c.requires.may k member is)))
    (e.at.turns (members_lock c.args.bank))

pub leave_quiet-requires-clause-stands : goal.leave_quiet-requires-clause-stands
leave_quiet-requires-clause-stands g c =
    let r = c.in-Ok.ensures in
    let e = c.enter_members-held.ensures in
    let fits = share_fits c.args.offset (length c.args.members.now) c.low_offset.result c.low_offset.ensures c.requires.some c.requires.share in (
      c.args.bank,
      refl,
      members_put (start_of c.args.hall.now) c.args.bank c.requires.ready.at.base c.deref_mut-store.result.now c.write_members.new.bank (at (view c.enter_members-held.new.caller.pass).seen (members_lock c.args.bank)) c.command_of-by.result c.args.offset c.args.members.now c.set_note-entry.result.value c.set_note-entry.ensures
          (given_offset (start_of c.args.hall.now) (view c.args.caller.now.pass).seen (view c.args.caller.now.pass).seen c.args.offset c.args.members.now _ c.requires.ready.at.base c.requires.ready.at.kept (grows_same _) c.requires.some c.requires.may).0 c.requires.some c.requires.share
          (subst (λ z. z % 1636 + length c.args.members.now ≤ 1636) c.low_offset.ensures fits.0) (subst (λ z. z + length c.args.members.now ≤ 2 ^ 32) c.low_offset.ensures fits.1)
          (made_later (view c.args.caller.now.pass).seen (view c.enter_members-held.new.caller.pass).seen (members_lock c.args.bank) _ _ e.entered.learns.knows.grows c.requires.made)
          r.bank.last r.bank.calls.cutoff r.bank.calls.count
          (λ told. subst (λ (z : ℕ). SetsMembers (z / 1636) (z % 1636) c.args.members.now (length c.args.members.now) (pages_of c.deref_mut-store.result.now) (pages_of c.write_members.new.bank)) c.low_offset.ensures (r.ok told))
          r.bank.calls.crash (subst (λ l. IsMembersOf (start_of c.args.hall.now) c.args.bank l (at (view c.enter_members-held.new.caller.pass).seen (members_lock c.args.bank))) (sym c.deref_mut-store.ensures.value) c.enter_members-held.ensures.stands),
    )

pub returns-in-Ok-clause-went : goal.returns-in-Ok-clause-went
returns-in-Ok-clause-went g c =
    let start = start_of c.args.hall.now in
    let e = c.enter_members-held.ensures in
    let v = view c.args.caller.now.pass in
    let u = view c.enter_members-held.new.caller.pass in
    let w = view c.leave_quiet.new.caller.pass in
    let s = c.args.caller.now.session in
    let n = c.args.caller.now.number in
    let pages = is_members_lock start c.args.bank c.requires.bank.0 in
    let q = c.set_note-entry.ensures in
    visited start v u w n (members_lock c.args.bank) s c.requires.ready.at pages e.entered c.set_note-entry.result.value (ap event_of q) (ap multi_of q) (ap asks_in q ∙ no_asks c.command_of-by.result c.args.offset c.args.members.now) c.leave_quiet.ensures.left

pub returns-in-Ok-clause-set : goal.returns-in-Ok-clause-set
returns-in-Ok-clause-set g c k member is =
    let start = start_of c.args.hall.now in
    let e = c.enter_members-held.ensures in
    let v = view c.args.caller.now.pass in
    let u = view c.enter_members-held.new.caller.pass in
    let w = view c.leave_quiet.new.caller.pass in
    let s = c.args.caller.now.session in
    let n = c.args.caller.now.number in
    let pages = is_members_lock start c.args.bank c.requires.bank.0 in
    slots_stand start u.seen w.seen c.args.bank c.args.offset c.args.members.now c.command_of-by.result c.set_note-entry.result.value c.set_note-entry.ensures c.requires.here c.requires.share (list_left start v u w n (members_lock c.args.bank) s c.requires.ready.at pages e.entered _ c.leave_quiet.ensures.left) k member is

pub leave_refused-requires-clause-stands : goal.leave_refused-requires-clause-stands
leave_refused-requires-clause-stands g c =
    (c.args.bank, refl, members_same (start_of c.args.hall.now) c.args.bank c.requires.ready.at.base c.deref_mut-store.result.now c.write_members.new.bank (at (view c.enter_members-held.new.caller.pass).seen (members_lock c.args.bank)) (record { last = c.in-Err.ensures.bank.last; cutoff = c.in-Err.ensures.bank.calls.cutoff; count = c.in-Err.ensures.bank.calls.count; pages = c.in-Err.ensures.err; crash = c.in-Err.ensures.bank.calls.crash }) (subst (λ l. IsMembersOf (start_of c.args.hall.now) c.args.bank l (at (view c.enter_members-held.new.caller.pass).seen (members_lock c.args.bank))) (sym c.deref_mut-store.ensures.value) c.enter_members-held.ensures.stands))

pub leave_refused-requires-clause-risen : goal.leave_refused-requires-clause-risen
leave_refused-requires-clause-risen g c is =
    risen_past (faults_told (start_of c.args.hall.now) (members_lock c.args.bank) (at (view c.enter_members-held.new.caller.pass).seen (members_lock c.args.bank))) (faults_of c.deref_mut-store.result.now) _ (subst (λ l. IsMembersOf (start_of c.args.hall.now) c.args.bank l (at (view c.enter_members-held.new.caller.pass).seen (members_lock c.args.bank))) (sym c.deref_mut-store.ensures.value) c.enter_members-held.ensures.stands).stands.count (c.in-Err.ensures.bank.calls.fault (ap Err is))

pub returns-in-Err-clause-section : goal.returns-in-Err-clause-section
returns-in-Err-clause-section g c =
    let start = start_of c.args.hall.now in
    let e = c.enter_members-held.ensures in
    let v = view c.args.caller.now.pass in
    let u = view c.enter_members-held.new.caller.pass in
    let w = view c.leave_refused.new.caller.pass in
    let t = c.enter_members-held.new.caller in
    let s = c.args.caller.now.session in
    let n = c.args.caller.now.number in
    let pages = is_members_lock start c.args.bank c.requires.bank.0 in
    bank_refused start v u w n (members_lock c.args.bank) s c.requires.ready.at pages e.entered t.number t.session e.same.1 e.same.0 _ (IsMemberCut start w.seen c.args.bank (member_page_of c.args.offset)) c.in-Err.refusal c.leave_refused.ensures.left
    (λ cutoff is. member_cut start u.seen w.seen c.args.bank c.args.offset cutoff (cutoff_of c.deref_mut-store.result.now) _ _ (list_left start v u w n (members_lock c.args.bank) s c.requires.ready.at pages e.entered _ c.leave_refused.ensures.left) (subst (λ l. IsMembersOf (start_of c.args.hall.now) c.args.bank l (at (view c.enter_members-held.new.caller.pass).seen (members_lock c.args.bank))) (sym c.deref_mut-store.ensures.value) c.enter_members-held.ensures.stands).stands.cutoff_is (ap (λ z. z / 1636) c.low_offset.ensures) (c.in-Err.ensures.bank.calls.only_cut cutoff (ap Err is)))

pub returns-in-Err-clause-went : goal.returns-in-Err-clause-went
returns-in-Err-clause-went g c =
    let start = start_of c.args.hall.now in
    let e = c.enter_members-held.ensures in
    let v = view c.args.caller.now.pass in
    let u = view c.enter_members-held.new.caller.pass in
    let w = view c.leave_refused.new.caller.pass in
    let s = c.args.caller.now.session in
    let n = c.args.caller.now.number in
    let pages = is_members_lock start c.args.bank c.requires.bank.0 in
    visited_refused start v u w n (members_lock c.args.bank) s c.requires.ready.at pages e.entered _ _ c.in-Err.refusal c.leave_refused.ensures.left

pub returns-in-Err-clause-fault : goal.returns-in-Err-clause-fault
returns-in-Err-clause-fault g c is =
    let start = start_of c.args.hall.now in
    let e = c.enter_members-held.ensures in
    let v = view c.args.caller.now.pass in
    let u = view c.enter_members-held.new.caller.pass in
    let w = view c.leave_refused.new.caller.pass in
    let t = c.enter_members-held.new.caller in
    let s = c.args.caller.now.session in
    let n = c.args.caller.now.number in
    let pages = is_members_lock start c.args.bank c.requires.bank.0 in
    fault_met start v u w n (members_lock c.args.bank) s c.requires.ready.at pages e.entered t.number t.session e.same.1 e.same.0 _ c.in-Err.refusal c.leave_refused.ensures.left cc

pub returns-in-Err-clause-gone : goal.returns-in-Err-clause-gone
returns-in-Err-clause-gone g c few cutoff is =
    let start = start_of c.args.hall.now in
    let e = c.enter_members-held.ensures in
    let v = view c.args.caller.now.pass in
    let u = view c.enter_members-held.new.caller.pass in
    let w = view c.leave_refused.new.caller.pass in
    let s = c.args.caller.now.session in
    let n = c.args.caller.now.number in
    let pages = is_members_lock start c.args.bank c.requires.bank.0 in
    let went = visited_refused start v u w n (members_lock c.args.bank) s c.requires.ready.at pages e.entered _ _ c.in-Err.refusal c.leave_refused.ensures.left in
    let mine = given_offset start v.seen w.seen c.args.offset c.args.members.now _ c.requires.ready.at.base c.leave_refused.ensures.ready.at.kept went.grows c.requires.some c.requires.may in
    member_gone start w.seen c.args.bank c.leave_refused.ensures.ready.at.kept c.requires.ready.at.base few c.args.offset cutoff (old_offset start c.args.offset c.requires.ready.at.base mine.0) mine.1
    (member_cut start u.seen w.seen c.args.bank c.args.offset cutoff (cutoff_of c.deref_mut-store.result.now) _ _ (list_left start v u w n (members_lock c.args.bank) s c.requires.ready.at pages e.entered _ c.leave_refused.ensures.left) (subst (λ l. IsMembersOf (start_of c.args.hall.now) c.args.bank l (at (view c.enter_members-held.new.caller.pass).seen (members_lock c.args.bank))) (sym c.deref_mut-store.ensures.value) c.enter_members-held.ensures.stands).stands.cutoff_is (ap (λ z. z / 1636) c.low_offset.ensures) (c.in-Err.ensures.bank.calls.only_cut cutoff is))
