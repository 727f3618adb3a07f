use Rattle.std.proofs.Common.{refl, sym, ap, subst, Err, ◌∙◌, ◌/◌}
use Rattle.tx_core.specs.declared.entry.Kind.TheVariants as kinds
use Rattle.engine_parts.proofs.May.{may_make}
use Rattle.engine_parts.specs.Parts.{IsMembersOf}
use Rattle.engine_parts.specs.Sessions.{by_at}
use Rattle.hall.specs.Calls.{start_of, view}
use Rattle.multi_banks.proofs.Adding.{members_wanted}
use Rattle.multi_banks.proofs.Cutting.{member_cut}
use Rattle.multi_banks.proofs.Later.{offset_at_later}
use Rattle.multi_banks.proofs.Membering.{members_made, members_same}
use Rattle.multi_banks.proofs.Uncut.{member_gone}
use Rattle.multi_banks.proofs.Visiting.{bank_refused, fault_met, is_members_lock, list_left, made_stands, visited, visited_refused}
use Rattle.multi_banks.specs.Sections.{IsMemberCut}
use Rattle.notes.specs.Lists.{at}
use Rattle.slru_bank.specs.Calls.{cutoff_of, faults_of}
use Rattle.store_pages.specs.Layouts.{member_page_of}
use Rattle.tx_core.proofs.FaultCounts.{risen_past}
use Rattle.tx_core.proofs.Lasting.{wanted_grows}
use Rattle.tx_core.specs.Entries.{asks_in, event_of}
use Rattle.tx_core.specs.FaultsRise.{faults_told}
use Rattle.tx_core.specs.Locks.{member_page_in_full, members_lock}
use Rattle.tx_core.specs.MultiEntries.{multi_of}
use Rattle.multi_banks.proofs.members.make_member_page.Goals as goal

pub leave_quiet-requires-clause-may : goal.leave_quiet-requires-clause-may
leave_quiet-requires-clause-may g c =
    let start = start_of c.args.hall.now in
    let e = c.enter_members-held.ensures in
    let v = view c.args.caller.now.pass in
    let u = view c.enter_members-held.new.caller.pass in
    let t = c.enter_members-held.new.caller in
    let pages = is_members_lock start c.args.bank c.requires.bank.0 in
    may_make start u.seen (members_lock c.args.bank) (member_page_in_full c.args.offset) (by_at t.number t.session.levels.commands) c.zeroed_note-entry.result.value pages
    (wanted_grows start v.seen u.seen (members_lock c.args.bank) (member_page_in_full c.args.offset) e.entered.learns.knows.grows (members_wanted start v.seen c.args.bank c.args.offset c.requires.wanted))
    (c.zeroed_note-entry.ensures ∙ (λ j. record { by = c.command_of-by.ensures j; kind = kinds.Zero (c.member_page_in_full.ensures.page j) })) (e.at.turns (members_lock c.args.bank))

pub leave_quiet-requires-clause-stands : goal.leave_quiet-requires-clause-stands
leave_quiet-requires-clause-stands g c =
    let r = c.in-Ok.ensures in (
      c.args.bank,
      refl,
      members_made (start_of c.args.hall.now) c.args.bank c.requires.ready.at.base c.deref_mut-store.result.now c.zero.new.self (at (view c.enter_members-held.new.caller.pass).seen (members_lock c.args.bank)) c.command_of-by.result c.args.offset c.member_page_in_full.result c.member_page.result c.zeroed_note-entry.result.value
          c.requires.wanted.0 c.zeroed_note-entry.ensures (c.member_page_in_full.ensures.page) (c.member_page.ensures.page ∙ ap (λ z. z / 1636) c.low_offset.ensures) (record { last = r.last; cutoff = r.calls.cutoff; count = r.calls.count; pages = r.ok; crash = r.calls.crash }) (subst (λ l. IsMembersOf (start_of c.args.hall.now) c.args.bank l (at (view c.enter_members-held.new.caller.pass).seen (members_lock c.args.bank))) (sym c.deref_mut-store.ensures.value) c.enter_members-held.ensures.stands),
    )

pub returns-in-Ok-clause-went : goal.returns-in-Ok-clause-went
returns-in-Ok-clause-went g c =
    let start = start_of c.args.hall.now in
    let e = c.enter_members-held.ensures in
    let v = view c.args.caller.now.pass in
    let u = view c.enter_members-held.new.caller.pass in
    let w = view c.leave_quiet.new.caller.pass in
    let s = c.args.caller.now.session in
    let n = c.args.caller.now.number in
    let pages = is_members_lock start c.args.bank c.requires.bank.0 in
    let q = c.zeroed_note-entry.ensures in
    visited start v u w n (members_lock c.args.bank) s c.requires.ready.at pages e.entered c.zeroed_note-entry.result.value (ap event_of q) (ap multi_of q) (ap asks_in q) c.leave_quiet.ensures.left

pub returns-in-Ok-clause-made : goal.returns-in-Ok-clause-made
returns-in-Ok-clause-made g c =
    let start = start_of c.args.hall.now in
    let e = c.enter_members-held.ensures in
    let v = view c.args.caller.now.pass in
    let u = view c.enter_members-held.new.caller.pass in
    let w = view c.leave_quiet.new.caller.pass in
    let s = c.args.caller.now.session in
    let n = c.args.caller.now.number in
    let pages = is_members_lock start c.args.bank c.requires.bank.0 in
    made_stands start v u w n (members_lock c.args.bank) s c.requires.ready.at pages e.entered (member_page_in_full c.args.offset) c.command_of-by.result c.zeroed_note-entry.result.value
    (c.zeroed_note-entry.ensures ∙ (λ j. record { by = c.command_of-by.result; kind = kinds.Zero (c.member_page_in_full.ensures.page j) })) c.leave_quiet.ensures.left

pub leave_refused-requires-clause-stands : goal.leave_refused-requires-clause-stands
leave_refused-requires-clause-stands g c =
    (c.args.bank, refl, members_same (start_of c.args.hall.now) c.args.bank c.requires.ready.at.base c.deref_mut-store.result.now c.zero.new.self (at (view c.enter_members-held.new.caller.pass).seen (members_lock c.args.bank)) (record { last = c.in-Err.ensures.last; cutoff = c.in-Err.ensures.calls.cutoff; count = c.in-Err.ensures.calls.count; pages = c.in-Err.ensures.err; crash = c.in-Err.ensures.calls.crash }) (subst (λ l. IsMembersOf (start_of c.args.hall.now) c.args.bank l (at (view c.enter_members-held.new.caller.pass).seen (members_lock c.args.bank))) (sym c.deref_mut-store.ensures.value) c.enter_members-held.ensures.stands))

pub leave_refused-requires-clause-risen : goal.leave_refused-requires-clause-risen
leave_refused-requires-clause-risen g c is =
    risen_past (faults_told (start_of c.args.hall.now) (members_lock c.args.bank) (at (view c.enter_members-held.new.caller.pass).seen (members_lock c.args.bank))) (faults_of c.deref_mut-store.result.now) _ (subst (λ l. IsMembersOf (start_of c.args.hall.now) c.args.bank l (at (view c.enter_members-held.new.caller.pass).seen (members_lock c.args.bank))) (sym c.deref_mut-store.ensures.value) c.enter_members-held.ensures.stands).stands.count (c.in-Err.ensures.calls.fault (ap Err is))

pub returns-in-Err-clause-section : goal.returns-in-Err-clause-section
returns-in-Err-clause-section g c =
    let start = start_of c.args.hall.now in
    let e = c.enter_members-held.ensures in
    let v = view c.args.caller.now.pass in
    let u = view c.enter_members-held.new.caller.pass in
    let w = view c.leave_refused.new.caller.pass in
    let t = c.enter_members-held.new.caller in
    let s = c.args.caller.now.session in
    let n = c.args.caller.now.number in
    let pages = is_members_lock start c.args.bank c.requires.bank.0 in
    bank_refused start v u w n (members_lock c.args.bank) s c.requires.ready.at pages e.entered t.number t.session e.same.1 e.same.0 _ (IsMemberCut start w.seen c.args.bank (member_page_of c.args.offset)) c.in-Err.refusal c.leave_refused.ensures.left
    (λ cutoff is. member_cut start u.seen w.seen c.args.bank c.args.offset cutoff (cutoff_of c.deref_mut-store.result.now) c.member_page.result _ (list_left start v u w n (members_lock c.args.bank) s c.requires.ready.at pages e.entered _ c.leave_refused.ensures.left) (subst (λ l. IsMembersOf (start_of c.args.hall.now) c.args.bank l (at (view c.enter_members-held.new.caller.pass).seen (members_lock c.args.bank))) (sym c.deref_mut-store.ensures.value) c.enter_members-held.ensures.stands).stands.cutoff_is (c.member_page.ensures.page ∙ ap (λ z. z / 1636) c.low_offset.ensures) (c.in-Err.ensures.calls.only_cut cutoff (ap Err is)))

pub returns-in-Err-clause-went : goal.returns-in-Err-clause-went
returns-in-Err-clause-went g c =
    let start = start_of c.args.hall.now in
    let e = c.enter_members-held.ensures in
    let v = view c.args.caller.now.pass in
    let u = view c.enter_members-held.new.caller.pass in
    let w = view c.leave_refused.new.caller.pass in
    let s = c.args.caller.now.session in
    let n = c.args.caller.now.number in
    let pages = is_members_lock start c.args.bank c.requires.bank.0 in
    visited_refused start v u w n (members_lock c.args.bank) s c.requires.ready.at pages e.entered _ _ c.in-Err.refusal c.leave_refused.ensures.left

pub returns-in-Err-clause-fault : goal.returns-in-Err-clause-fault
returns-in-Err-clause-fault g c is =
    let start = start_of c.args.hall.now in
    let e = c.enter_members-held.ensures in
    let v = view c.args.caller.now.pass in
    let u = view c.enter_members-held.new.caller.pass in
    let w = view c.leave_refused.new.caller.pass in
    let t = c.enter_members-held.new.caller in
    let s = c.args.caller.now.session in
    let n = c.args.caller.now.number in
    let pages = is_members_lock start c.args.bank c.requires.bank.0 in
    fault_met start v u w n (members_lock c.args.bank) s c.requires.ready.at pages e.entered t.number t.session e.same.1 e.same.0 _ c.in-Err.refusal c.leave_refused.ensures.left cc

pub returns-in-Err-clause-gone : goal.returns-in-Err-clause-gone
returns-in-Err-clause-gone g c few cutoff is =
    let start = start_of c.args.hall.now in
    let e = c.enter_members-held.ensures in
    let v = view c.args.caller.now.pass in
    let u = view c.enter_members-held.new.caller.pass in
    let w = view c.leave_refused.new.caller.pass in
    let s = c.args.caller.now.session in
    let n = c.args.caller.now.number in
    let pages = is_members_lock start c.args.bank c.requires.bank.0 in
    let went = visited_refused start v u w n (members_lock c.args.bank) s c.requires.ready.at pages e.entered _ _ c.in-Err.refusal c.leave_refused.ensures.left in
    let near = offset_at_later start v.seen w.seen c.args.offset c.requires.ready.at.base c.leave_refused.ensures.ready.at.kept went.grows c.requires.wanted in
    member_gone start w.seen c.args.bank c.leave_refused.ensures.ready.at.kept c.requires.ready.at.base few c.args.offset cutoff near.0 near.1
    (member_cut start u.seen w.seen c.args.bank c.args.offset cutoff (cutoff_of c.deref_mut-store.result.now) c.member_page.result _ (list_left start v u w n (members_lock c.args.bank) s c.requires.ready.at pages e.entered _ c.leave_refused.ensures.left) (subst (λ l. IsMembersOf (start_of c.args.hall.now) c.args.bank l (at (view c.enter_members-held.new.caller.pass).seen (members_lock c.args.bank))) (sym c.deref_mut-store.ensures.value) c.enter_members-held.ensures.stands).stands.cutoff_is (c.member_page.ensures.page ∙ ap (λ z. z / 1636) c.low_offset.ensures) (c.in-Err.ensures.calls.only_cut cutoff is))
