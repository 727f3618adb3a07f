use Rattle.std.proofs.Common.{refl, sym, ap, subst, List, Err, ℕ, Some, ◌≡◌, ◌++◌, ◌/◌, ◌%◌}
use Rattle.engine_parts.specs.Parts.{IsMembersOf}
use Rattle.engine_parts.specs.Sessions.{by_at}
use Rattle.hall.specs.Calls.{start_of, view}
use Rattle.multi_banks.proofs.Cutting.{member_cut}
use Rattle.multi_banks.proofs.Later.{share_fits}
use Rattle.multi_banks.proofs.MemberSeen.{slots_long, slots_seen}
use Rattle.multi_banks.proofs.Membering.{members_looked, members_same}
use Rattle.multi_banks.proofs.Uncut.{member_uncut}
use Rattle.multi_banks.proofs.Visiting.{bank_refused, fault_met, is_members_lock, list_left, visited, visited_refused}
use Rattle.multi_banks.specs.Sections.{IsMemberCut}
use Rattle.bank_stores.specs.Runs.{slots_on}
use Rattle.notes.specs.Lists.{at}
use Rattle.slru_bank.specs.Calls.{cutoff_of, faults_of, pages_of}
use Rattle.std.specs.List.{slice_get}
use Rattle.store_pages.specs.Layouts.{member_page_of}
use Rattle.tx_core.proofs.FaultCounts.{risen_past}
use Rattle.tx_core.specs.FaultsRise.{faults_told}
use Rattle.tx_core.specs.Locks.{members_lock}
use Rattle.tx_core.specs.declared.entry.Entry.{Entry}
use Rattle.tx_events.specs.Ids.{low_half}
use Rattle.multi_banks.proofs.members.read_members.Goals as goal

pub read_members-requires-clause-one_page : goal.read_members-requires-clause-one_page
read_members-requires-clause-one_page g c =
    (share_fits c.args.offset c.args.count c.low_offset.result c.low_offset.ensures c.requires.some c.requires.share).0

pub read_members-requires-clause-lap : goal.read_members-requires-clause-lap
read_members-requires-clause-lap g c =
    (share_fits c.args.offset c.args.count c.low_offset.result c.low_offset.ensures c.requires.some c.requires.share).1

pub leave_looked-requires-clause-stands : goal.leave_looked-requires-clause-stands
leave_looked-requires-clause-stands g c = (
  c.args.bank,
  refl,
  members_looked (start_of c.args.hall.now) c.args.bank c.requires.ready.at.base c.read_members.new.bank (by_at c.enter_members-held.new.caller.number c.enter_members-held.new.caller.session.levels.commands) (at (view c.enter_members-held.new.caller.pass).seen (members_lock c.args.bank))
      (members_same (start_of c.args.hall.now) c.args.bank c.requires.ready.at.base c.deref_mut-store.result.now c.read_members.new.bank (at (view c.enter_members-held.new.caller.pass).seen (members_lock c.args.bank)) (record { last = c.read_members.ensures.bank.last; cutoff = c.read_members.ensures.bank.calls.cutoff; count = c.read_members.ensures.bank.calls.count; pages = c.read_members.ensures.same; crash = c.read_members.ensures.bank.calls.crash }) (subst (λ l. IsMembersOf (start_of c.args.hall.now) c.args.bank l (at (view c.enter_members-held.new.caller.pass).seen (members_lock c.args.bank))) (sym c.deref_mut-store.ensures.value) c.enter_members-held.ensures.stands)),
)

pub returns-in-Ok-clause-went : goal.returns-in-Ok-clause-went
returns-in-Ok-clause-went g c =
    let start = start_of c.args.hall.now in
    let e = c.enter_members-held.ensures in
    let v = view c.args.caller.now.pass in
    let u = view c.enter_members-held.new.caller.pass in
    let w = view c.leave_looked.new.caller.pass in
    let s = c.args.caller.now.session in
    let n = c.args.caller.now.number in
    let pages = is_members_lock start c.args.bank c.requires.bank.0 in
    visited start v u w n (members_lock c.args.bank) s c.requires.ready.at pages e.entered _ refl refl refl c.leave_looked.ensures.left

pub returns-in-Ok-clause-slots : goal.returns-in-Ok-clause-slots
returns-in-Ok-clause-slots g c told from =
    let start = start_of c.args.hall.now in
    let e = c.enter_members-held.ensures in
    let v = view c.args.caller.now.pass in
    let u = view c.enter_members-held.new.caller.pass in
    let w = view c.leave_looked.new.caller.pass in
    let t = c.enter_members-held.new.caller in
    let s = c.args.caller.now.session in
    let n = c.args.caller.now.number in
    let pages = is_members_lock start c.args.bank c.requires.bank.0 in
    let r = c.read_members.ensures in
    let looked = members_looked start c.args.bank c.requires.ready.at.base c.read_members.new.bank (by_at t.number t.session.levels.commands) (at (view c.enter_members-held.new.caller.pass).seen (members_lock c.args.bank))
    (members_same start c.args.bank c.requires.ready.at.base c.deref_mut-store.result.now c.read_members.new.bank (at (view c.enter_members-held.new.caller.pass).seen (members_lock c.args.bank)) (record { last = c.read_members.ensures.bank.last; cutoff = c.read_members.ensures.bank.calls.cutoff; count = c.read_members.ensures.bank.calls.count; pages = c.read_members.ensures.same; crash = c.read_members.ensures.bank.calls.crash }) (subst (λ l. IsMembersOf (start_of c.args.hall.now) c.args.bank l (at (view c.enter_members-held.new.caller.pass).seen (members_lock c.args.bank))) (sym c.deref_mut-store.ensures.value) c.enter_members-held.ensures.stands)) in
    let left = list_left start v u w n (members_lock c.args.bank) s c.requires.ready.at pages e.entered _ c.leave_looked.ensures.left in
    let slots = slots_on (pages_of c.deref_mut-store.result.now (member_page_of c.args.offset)) (low_half c.args.offset % 1636) c.args.count in (
      slots,
      subst (λ z. c.read_members.new.into.items ≡ c.args.into.now.items ++ slots_on (pages_of c.deref_mut-store.result.now (z / 1636)) (z % 1636) c.args.count) c.low_offset.ensures (c.in-Ok.ensures.slots told),
      slots_long (pages_of c.deref_mut-store.result.now (member_page_of c.args.offset)) (low_half c.args.offset % 1636) c.args.count,
      (λ few k slot is.
          slots_seen start w.seen c.args.bank c.read_members.new.bank c.args.offset c.args.count c.requires.ready.at.base c.leave_looked.ensures.ready.at.kept (subst (λ (l : List Entry). IsMembersOf start c.args.bank c.read_members.new.bank l) (sym left) looked) c.requires.here c.requires.some c.requires.share told from few k slot
          (subst (λ (l : List ℕ). slice_get (slots_on l (low_half c.args.offset % 1636) c.args.count) k ≡ Some slot) (sym (r.same told (member_page_of c.args.offset))) is)),
    )

pub leave_refused-requires-clause-stands : goal.leave_refused-requires-clause-stands
leave_refused-requires-clause-stands g c =
    (c.args.bank, refl, members_same (start_of c.args.hall.now) c.args.bank c.requires.ready.at.base c.deref_mut-store.result.now c.read_members.new.bank (at (view c.enter_members-held.new.caller.pass).seen (members_lock c.args.bank)) (record { last = c.in-Err.ensures.bank.last; cutoff = c.in-Err.ensures.bank.calls.cutoff; count = c.in-Err.ensures.bank.calls.count; pages = c.in-Err.ensures.same; crash = c.in-Err.ensures.bank.calls.crash }) (subst (λ l. IsMembersOf (start_of c.args.hall.now) c.args.bank l (at (view c.enter_members-held.new.caller.pass).seen (members_lock c.args.bank))) (sym c.deref_mut-store.ensures.value) c.enter_members-held.ensures.stands))

pub leave_refused-requires-clause-risen : goal.leave_refused-requires-clause-risen
leave_refused-requires-clause-risen g c is =
    risen_past (faults_told (start_of c.args.hall.now) (members_lock c.args.bank) (at (view c.enter_members-held.new.caller.pass).seen (members_lock c.args.bank))) (faults_of c.deref_mut-store.result.now) _ (subst (λ l. IsMembersOf (start_of c.args.hall.now) c.args.bank l (at (view c.enter_members-held.new.caller.pass).seen (members_lock c.args.bank))) (sym c.deref_mut-store.ensures.value) c.enter_members-held.ensures.stands).stands.count (c.in-Err.ensures.bank.calls.fault (ap Err is))

pub returns-in-Err-clause-section : goal.returns-in-Err-clause-section
returns-in-Err-clause-section g c =
    let start = start_of c.args.hall.now in
    let e = c.enter_members-held.ensures in
    let v = view c.args.caller.now.pass in
    let u = view c.enter_members-held.new.caller.pass in
    let w = view c.leave_refused.new.caller.pass in
    let t = c.enter_members-held.new.caller in
    let s = c.args.caller.now.session in
    let n = c.args.caller.now.number in
    let pages = is_members_lock start c.args.bank c.requires.bank.0 in
    bank_refused start v u w n (members_lock c.args.bank) s c.requires.ready.at pages e.entered t.number t.session e.same.1 e.same.0 _ (IsMemberCut start w.seen c.args.bank (member_page_of c.args.offset)) c.in-Err.refusal c.leave_refused.ensures.left
    (λ cutoff is. member_cut start u.seen w.seen c.args.bank c.args.offset cutoff (cutoff_of c.deref_mut-store.result.now) _ _ (list_left start v u w n (members_lock c.args.bank) s c.requires.ready.at pages e.entered _ c.leave_refused.ensures.left) (subst (λ l. IsMembersOf (start_of c.args.hall.now) c.args.bank l (at (view c.enter_members-held.new.caller.pass).seen (members_lock c.args.bank))) (sym c.deref_mut-store.ensures.value) c.enter_members-held.ensures.stands).stands.cutoff_is (ap (λ z. z / 1636) c.low_offset.ensures) (c.in-Err.ensures.bank.calls.only_cut cutoff (ap Err is)))

pub returns-in-Err-clause-went : goal.returns-in-Err-clause-went
returns-in-Err-clause-went g c =
    let start = start_of c.args.hall.now in
    let e = c.enter_members-held.ensures in
    let v = view c.args.caller.now.pass in
    let u = view c.enter_members-held.new.caller.pass in
    let w = view c.leave_refused.new.caller.pass in
    let s = c.args.caller.now.session in
    let n = c.args.caller.now.number in
    let pages = is_members_lock start c.args.bank c.requires.bank.0 in
    visited_refused start v u w n (members_lock c.args.bank) s c.requires.ready.at pages e.entered _ _ c.in-Err.refusal c.leave_refused.ensures.left

pub returns-in-Err-clause-fault : goal.returns-in-Err-clause-fault
returns-in-Err-clause-fault g c is =
    let start = start_of c.args.hall.now in
    let e = c.enter_members-held.ensures in
    let v = view c.args.caller.now.pass in
    let u = view c.enter_members-held.new.caller.pass in
    let w = view c.leave_refused.new.caller.pass in
    let t = c.enter_members-held.new.caller in
    let s = c.args.caller.now.session in
    let n = c.args.caller.now.number in
    let pages = is_members_lock start c.args.bank c.requires.bank.0 in
    fault_met start v u w n (members_lock c.args.bank) s c.requires.ready.at pages e.entered t.number t.session e.same.1 e.same.0 _ c.in-Err.refusal c.leave_refused.ensures.left cc

pub returns-in-Err-clause-uncut : goal.returns-in-Err-clause-uncut
returns-in-Err-clause-uncut g c few from to cutoff is =
    let start = start_of c.args.hall.now in
    let e = c.enter_members-held.ensures in
    let v = view c.args.caller.now.pass in
    let u = view c.enter_members-held.new.caller.pass in
    let w = view c.leave_refused.new.caller.pass in
    let s = c.args.caller.now.session in
    let n = c.args.caller.now.number in
    let pages = is_members_lock start c.args.bank c.requires.bank.0 in
    member_uncut start w.seen c.args.bank c.leave_refused.ensures.ready.at.kept c.requires.ready.at.base few c.args.offset cutoff from to
    (member_cut start u.seen w.seen c.args.bank c.args.offset cutoff (cutoff_of c.deref_mut-store.result.now) _ _ (list_left start v u w n (members_lock c.args.bank) s c.requires.ready.at pages e.entered _ c.leave_refused.ensures.left) (subst (λ l. IsMembersOf (start_of c.args.hall.now) c.args.bank l (at (view c.enter_members-held.new.caller.pass).seen (members_lock c.args.bank))) (sym c.deref_mut-store.ensures.value) c.enter_members-held.ensures.stands).stands.cutoff_is (ap (λ z. z / 1636) c.low_offset.ensures) (c.in-Err.ensures.bank.calls.only_cut cutoff is))
