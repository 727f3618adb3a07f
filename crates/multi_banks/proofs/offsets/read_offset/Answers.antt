use Rattle.std.proofs.Common.{refl, sym, ap, subst, List, Err, ℕ, ◌∙◌, ◌≡◌, ◌*◌, ◌/◌, ◌%◌}
use Rattle.engine_parts.specs.Parts.{IsOffsetsOf}
use Rattle.engine_parts.specs.Sessions.{by_at}
use Rattle.hall.specs.Calls.{start_of, view}
use Rattle.multi_banks.proofs.Cutting.{offset_cut}
use Rattle.multi_banks.proofs.OffsetSeen.{offset_seen, begun_seen}
use Rattle.multi_banks.proofs.Offsetting.{offsets_looked, offsets_same}
use Rattle.multi_banks.proofs.Uncut.{offset_uncut}
use Rattle.multi_banks.proofs.Visiting.{bank_refused, fault_met, is_offsets_lock, list_left, visited, visited_refused}
use Rattle.multi_banks.specs.Sections.{IsOffsetCut}
use Rattle.bank_stores.specs.Offsets.{offset_of}
use Rattle.notes.specs.Lists.{at}
use Rattle.slru_bank.specs.Calls.{cutoff_of, faults_of, pages_of}
use Rattle.store_pages.specs.Layouts.{number_in, word_page_of, word_place_of}
use Rattle.tx_core.proofs.FaultCounts.{risen_past}
use Rattle.tx_core.specs.FaultsRise.{faults_told}
use Rattle.tx_core.specs.Locks.{offsets_lock}
use Rattle.tx_core.specs.declared.entry.Entry.{Entry}
use Rattle.multi_banks.proofs.offsets.read_offset.Goals as goal

pub leave_looked-requires-clause-stands : goal.leave_looked-requires-clause-stands
leave_looked-requires-clause-stands g c = (
  c.args.bank,
  refl,
  offsets_looked (start_of c.args.hall.now) c.args.bank c.requires.ready.at.base c.offset.new.bank (by_at c.enter_offsets-held.new.caller.number c.enter_offsets-held.new.caller.session.levels.commands) (at (view c.enter_offsets-held.new.caller.pass).seen (offsets_lock c.args.bank))
      (offsets_same (start_of c.args.hall.now) c.args.bank c.requires.ready.at.base c.deref_mut-store.result.now c.offset.new.bank (at (view c.enter_offsets-held.new.caller.pass).seen (offsets_lock c.args.bank)) (record { last = c.offset.ensures.bank.last; cutoff = c.offset.ensures.bank.calls.cutoff; count = c.offset.ensures.bank.calls.count; pages = c.offset.ensures.same; crash = c.offset.ensures.bank.calls.crash }) (subst (λ l. IsOffsetsOf (start_of c.args.hall.now) c.args.bank l (at (view c.enter_offsets-held.new.caller.pass).seen (offsets_lock c.args.bank))) (sym c.deref_mut-store.ensures.value) c.enter_offsets-held.ensures.stands)),
)

pub returns-in-Ok-clause-went : goal.returns-in-Ok-clause-went
returns-in-Ok-clause-went g c =
    let start = start_of c.args.hall.now in
    let e = c.enter_offsets-held.ensures in
    let v = view c.args.caller.now.pass in
    let u = view c.enter_offsets-held.new.caller.pass in
    let w = view c.leave_looked.new.caller.pass in
    let s = c.args.caller.now.session in
    let n = c.args.caller.now.number in
    let pages = is_offsets_lock start c.args.bank c.requires.bank.0 in
    visited start v u w n (offsets_lock c.args.bank) s c.requires.ready.at pages e.entered _ refl refl refl c.leave_looked.ensures.left

pub returns-in-Ok-clause-offset : goal.returns-in-Ok-clause-offset
returns-in-Ok-clause-offset g c told from =
    let start = start_of c.args.hall.now in
    let e = c.enter_offsets-held.ensures in
    let v = view c.args.caller.now.pass in
    let u = view c.enter_offsets-held.new.caller.pass in
    let w = view c.leave_looked.new.caller.pass in
    let t = c.enter_offsets-held.new.caller in
    let s = c.args.caller.now.session in
    let n = c.args.caller.now.number in
    let pages = is_offsets_lock start c.args.bank c.requires.bank.0 in
    let r = c.offset.ensures in
    let looked = offsets_looked start c.args.bank c.requires.ready.at.base c.offset.new.bank (by_at t.number t.session.levels.commands) (at (view c.enter_offsets-held.new.caller.pass).seen (offsets_lock c.args.bank))
    (offsets_same start c.args.bank c.requires.ready.at.base c.deref_mut-store.result.now c.offset.new.bank (at (view c.enter_offsets-held.new.caller.pass).seen (offsets_lock c.args.bank)) (record { last = r.bank.last; cutoff = r.bank.calls.cutoff; count = r.bank.calls.count; pages = r.same; crash = r.bank.calls.crash }) (subst (λ l. IsOffsetsOf (start_of c.args.hall.now) c.args.bank l (at (view c.enter_offsets-held.new.caller.pass).seen (offsets_lock c.args.bank))) (sym c.deref_mut-store.ensures.value) c.enter_offsets-held.ensures.stands)) in
    let left = list_left start v u w n (offsets_lock c.args.bank) s c.requires.ready.at pages e.entered _ c.leave_looked.ensures.left in
    offset_seen start w.seen c.args.bank c.offset.new.bank c.args.multi c.in-Ok.found c.requires.ready.at.base c.leave_looked.ensures.ready.at.kept (subst (λ (l : List Entry). IsOffsetsOf start c.args.bank c.offset.new.bank l) (sym left) looked) c.requires.here told
    (subst (λ (z : ℕ). c.in-Ok.found ≡ offset_of (number_in (pages_of c.deref_mut-store.result.now (z / 2048)) (4 * (z % 2048)))) c.low.ensures (c.in-Ok.ensures.is told) ∙ ap (λ (l : List ℕ). offset_of (number_in l (word_place_of c.args.multi))) (sym (r.same told (word_page_of c.args.multi)))) from

pub returns-in-Ok-clause-begun : goal.returns-in-Ok-clause-begun
returns-in-Ok-clause-begun g c told few =
    let start = start_of c.args.hall.now in
    let e = c.enter_offsets-held.ensures in
    let v = view c.args.caller.now.pass in
    let u = view c.enter_offsets-held.new.caller.pass in
    let w = view c.leave_looked.new.caller.pass in
    let t = c.enter_offsets-held.new.caller in
    let s = c.args.caller.now.session in
    let n = c.args.caller.now.number in
    let pages = is_offsets_lock start c.args.bank c.requires.bank.0 in
    let r = c.offset.ensures in
    let looked = offsets_looked start c.args.bank c.requires.ready.at.base c.offset.new.bank (by_at t.number t.session.levels.commands) (at (view c.enter_offsets-held.new.caller.pass).seen (offsets_lock c.args.bank))
    (offsets_same start c.args.bank c.requires.ready.at.base c.deref_mut-store.result.now c.offset.new.bank (at (view c.enter_offsets-held.new.caller.pass).seen (offsets_lock c.args.bank)) (record { last = r.bank.last; cutoff = r.bank.calls.cutoff; count = r.bank.calls.count; pages = r.same; crash = r.bank.calls.crash }) (subst (λ l. IsOffsetsOf (start_of c.args.hall.now) c.args.bank l (at (view c.enter_offsets-held.new.caller.pass).seen (offsets_lock c.args.bank))) (sym c.deref_mut-store.ensures.value) c.enter_offsets-held.ensures.stands)) in
    let left = list_left start v u w n (offsets_lock c.args.bank) s c.requires.ready.at pages e.entered _ c.leave_looked.ensures.left in
    begun_seen start w.seen c.args.bank c.offset.new.bank c.leave_looked.ensures.ready.at.kept (subst (λ (l : List Entry). IsOffsetsOf start c.args.bank c.offset.new.bank l) (sym left) looked) told few

pub leave_refused-requires-clause-stands : goal.leave_refused-requires-clause-stands
leave_refused-requires-clause-stands g c =
    (c.args.bank, refl, offsets_same (start_of c.args.hall.now) c.args.bank c.requires.ready.at.base c.deref_mut-store.result.now c.offset.new.bank (at (view c.enter_offsets-held.new.caller.pass).seen (offsets_lock c.args.bank)) (record { last = c.in-Err.ensures.bank.last; cutoff = c.in-Err.ensures.bank.calls.cutoff; count = c.in-Err.ensures.bank.calls.count; pages = c.in-Err.ensures.same; crash = c.in-Err.ensures.bank.calls.crash }) (subst (λ l. IsOffsetsOf (start_of c.args.hall.now) c.args.bank l (at (view c.enter_offsets-held.new.caller.pass).seen (offsets_lock c.args.bank))) (sym c.deref_mut-store.ensures.value) c.enter_offsets-held.ensures.stands))

pub leave_refused-requires-clause-risen : goal.leave_refused-requires-clause-risen
leave_refused-requires-clause-risen g c is =
    risen_past (faults_told (start_of c.args.hall.now) (offsets_lock c.args.bank) (at (view c.enter_offsets-held.new.caller.pass).seen (offsets_lock c.args.bank))) (faults_of c.deref_mut-store.result.now) _ (subst (λ l. IsOffsetsOf (start_of c.args.hall.now) c.args.bank l (at (view c.enter_offsets-held.new.caller.pass).seen (offsets_lock c.args.bank))) (sym c.deref_mut-store.ensures.value) c.enter_offsets-held.ensures.stands).stands.count (c.in-Err.ensures.bank.calls.fault (ap Err is))

pub returns-in-Err-clause-section : goal.returns-in-Err-clause-section
returns-in-Err-clause-section g c =
    let start = start_of c.args.hall.now in
    let e = c.enter_offsets-held.ensures in
    let v = view c.args.caller.now.pass in
    let u = view c.enter_offsets-held.new.caller.pass in
    let w = view c.leave_refused.new.caller.pass in
    let t = c.enter_offsets-held.new.caller in
    let s = c.args.caller.now.session in
    let n = c.args.caller.now.number in
    let pages = is_offsets_lock start c.args.bank c.requires.bank.0 in
    bank_refused start v u w n (offsets_lock c.args.bank) s c.requires.ready.at pages e.entered t.number t.session e.same.1 e.same.0 _ (IsOffsetCut start w.seen c.args.bank (word_page_of c.args.multi)) c.in-Err.refusal c.leave_refused.ensures.left
    (λ cutoff is. offset_cut start u.seen w.seen c.args.bank c.args.multi cutoff (cutoff_of c.deref_mut-store.result.now) _ _ (list_left start v u w n (offsets_lock c.args.bank) s c.requires.ready.at pages e.entered _ c.leave_refused.ensures.left) (subst (λ l. IsOffsetsOf (start_of c.args.hall.now) c.args.bank l (at (view c.enter_offsets-held.new.caller.pass).seen (offsets_lock c.args.bank))) (sym c.deref_mut-store.ensures.value) c.enter_offsets-held.ensures.stands).stands.cutoff_is (ap (λ z. z / 2048) c.low.ensures) (c.in-Err.ensures.bank.calls.only_cut cutoff (ap Err is)))

pub returns-in-Err-clause-went : goal.returns-in-Err-clause-went
returns-in-Err-clause-went g c =
    let start = start_of c.args.hall.now in
    let e = c.enter_offsets-held.ensures in
    let v = view c.args.caller.now.pass in
    let u = view c.enter_offsets-held.new.caller.pass in
    let w = view c.leave_refused.new.caller.pass in
    let s = c.args.caller.now.session in
    let n = c.args.caller.now.number in
    let pages = is_offsets_lock start c.args.bank c.requires.bank.0 in
    visited_refused start v u w n (offsets_lock c.args.bank) s c.requires.ready.at pages e.entered _ _ c.in-Err.refusal c.leave_refused.ensures.left

pub returns-in-Err-clause-fault : goal.returns-in-Err-clause-fault
returns-in-Err-clause-fault g c is =
    let start = start_of c.args.hall.now in
    let e = c.enter_offsets-held.ensures in
    let v = view c.args.caller.now.pass in
    let u = view c.enter_offsets-held.new.caller.pass in
    let w = view c.leave_refused.new.caller.pass in
    let t = c.enter_offsets-held.new.caller in
    let s = c.args.caller.now.session in
    let n = c.args.caller.now.number in
    let pages = is_offsets_lock start c.args.bank c.requires.bank.0 in
    fault_met start v u w n (offsets_lock c.args.bank) s c.requires.ready.at pages e.entered t.number t.session e.same.1 e.same.0 _ c.in-Err.refusal c.leave_refused.ensures.left cc

pub returns-in-Err-clause-uncut : goal.returns-in-Err-clause-uncut
returns-in-Err-clause-uncut g c few from to cutoff is =
    let start = start_of c.args.hall.now in
    let e = c.enter_offsets-held.ensures in
    let v = view c.args.caller.now.pass in
    let u = view c.enter_offsets-held.new.caller.pass in
    let w = view c.leave_refused.new.caller.pass in
    let s = c.args.caller.now.session in
    let n = c.args.caller.now.number in
    let pages = is_offsets_lock start c.args.bank c.requires.bank.0 in
    offset_uncut start w.seen c.args.bank c.leave_refused.ensures.ready.at.kept c.requires.ready.at.base few c.args.multi cutoff from to
    (offset_cut start u.seen w.seen c.args.bank c.args.multi cutoff (cutoff_of c.deref_mut-store.result.now) _ _ (list_left start v u w n (offsets_lock c.args.bank) s c.requires.ready.at pages e.entered _ c.leave_refused.ensures.left) (subst (λ l. IsOffsetsOf (start_of c.args.hall.now) c.args.bank l (at (view c.enter_offsets-held.new.caller.pass).seen (offsets_lock c.args.bank))) (sym c.deref_mut-store.ensures.value) c.enter_offsets-held.ensures.stands).stands.cutoff_is (ap (λ z. z / 2048) c.low.ensures) (c.in-Err.ensures.bank.calls.only_cut cutoff is))
