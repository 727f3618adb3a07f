use Rattle.std.proofs.Common.{[], refl, subst, ◌<◌, arith}
use Rattle.hall.specs.Calls.{view, start_of}
use Rattle.tx_events.specs.Ids.{IsFullMulti}
use Rattle.tx_events.specs.declared.refusal.Lock.TheVariants as locks
use Rattle.tx_events.specs.declared.refusal.Refusal.TheVariants as refusals
use Rattle.tx_core.specs.declared.entry.Kind.TheVariants as kinds
use Rattle.tx_core.specs.Locks.{offsets_lock}
use Rattle.tx_core.specs.MultiEntries.{multi_history}
use Rattle.tx_core.proofs.OwnMultis.{pins_hold}
use Rattle.tx_core.proofs.Room.{multis_have_room}
use Rattle.engine_parts.specs.Adding.{IsPlain, MayMeet}
use Rattle.engine_parts.specs.Faults.{fault_by}
use Rattle.engine_parts.specs.Sessions.{by_at}
use Rattle.store_pages.specs.Layouts.{word_page_of}
use Rattle.multi_banks.specs.Sections.{BankRefused, IsOffsetCut}
use Rattle.xact_freezes.proofs.Going.{visited_now}
use Rattle.xact_freezes.proofs.Pinning.{keeps_none, pins_kept}
use Rattle.xact_freezes.proofs.Raising.{bank_adds, is_offsets_lock, pinned_from}
use Rattle.xact_freezes.proofs.freezing.read_start.Goals as goal

pub returns-in-Ok-clause-visited : goal.returns-in-Ok-clause-visited
returns-in-Ok-clause-visited g c =
    let start = start_of c.args.hall.now in
    let old = c.args.caller.now in
    let w = c.read_offset.new.caller in
    let e = c.in-Ok.ensures in
    let bank = c.offsets_bank-bank.result in
    let by = by_at old.number old.session.levels.commands in
    let inside : bank < start.banks = subst (λ z. bank < z) c.requires.step.each.0 c.offsets_bank-bank.ensures.within in
    visited_now c.args.hall.now c.args.banks IsPlain [] old w c.requires.step e.own e.ready e.went e.same
    (bank_adds start (view old.pass) (view w.pass) (offsets_lock bank) (record { by = by; kind = kinds.Look }) by old.session IsPlain (is_offsets_lock start bank inside) c.requires.step.may.ready.at e.section refl tt)

pub returns-in-Ok-clause-read : goal.returns-in-Ok-clause-read
returns-in-Ok-clause-read g c =
    let start = start_of c.args.hall.now in
    let old = c.args.caller.now in
    let w = c.read_offset.new.caller in
    let e = c.in-Ok.ensures in
    let multi = c.args.multi in
    let more = (view w.pass).seen in
    let k = e.ready.at.kept in
    let pins = pins_kept old.number multi [] (view old.pass).seen more e.went keeps_none c.requires.pinned in
    let held = pins_hold start more old.number multi k pins in
    let full = subst IsFullMulti c.number-multi.ensures.value c.number-multi.ensures.form in record {
      stands = λ told few.
          let room = (multis_have_room start.base (multi_history more) e.ready.at.base few).1 in
          let upto = held.1 in
          e.offset told held.0 full (pinned_from start more old.number multi k pins) (omega arith) few;
      told = λ told few. let was = e.begun told few in (was.told, was.in_order);
    }

pub returns-in-Err-DiskFault-clause-visited : goal.returns-in-Err-DiskFault-clause-visited
returns-in-Err-DiskFault-clause-visited g c =
    let start = start_of c.args.hall.now in
    let old = c.args.caller.now in
    let w = c.read_offset.new.caller in
    let e = c.in-Err-DiskFault.ensures in
    let bank = c.offsets_bank-bank.result in
    let by = by_at old.number old.session.levels.commands in
    let told = refusals.DiskFault (locks.Offsets bank) in
    let inside : bank < start.banks = subst (λ z. bank < z) c.requires.step.each.0 c.offsets_bank-bank.ensures.within in
    let section = subst (λ z. BankRefused start (offsets_lock bank) by (IsOffsetCut start (view w.pass).seen bank (word_page_of c.args.multi)) (view old.pass) (view w.pass) z) c.in-Err-DiskFault.field-0-is e.section in
    visited_now c.args.hall.now c.args.banks (MayMeet told) [] old w c.requires.step e.own e.ready e.went e.same
    (bank_adds start (view old.pass) (view w.pass) (offsets_lock bank) (fault_by by section.0) by old.session (MayMeet told) (is_offsets_lock start bank inside) c.requires.step.may.ready.at section.1 refl (locks.Offsets bank, refl, refl, refl))
