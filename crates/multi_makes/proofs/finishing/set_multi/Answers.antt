use Rattle.std.proofs.Common.{ℕ, List, OnOk, Result, Ok, Err, sym, subst}
use Rattle.hall.specs.Calls.{view, start_of}
use Rattle.tx_events.specs.declared.multi.Member.{Member}
use Rattle.tx_events.specs.declared.record.Rec.TheVariants as records
use Rattle.tx_events.specs.declared.refusal.Refusal.{Refusal}
use Rattle.tx_core.specs.declared.entry.Entry.{Entry}
use Rattle.tx_core.specs.declared.entry.Start.{Start}
use Rattle.tx_core.specs.Entries.{IsAppended}
use Rattle.tx_core.specs.MembersBeforeOffset.{IsRecorded}
use Rattle.tx_core.specs.OwnMultis.{IsMultiDone}
use Rattle.tx_core.proofs.Lasting.{appended_grows}
use Rattle.engine_parts.specs.Adding.{IsPlain, MayFault}
use Rattle.engine_parts.proofs.Adding.{plain_faults}
use Rattle.engine_parts.proofs.Leaving.{grows_then}
use Rattle.multi_makes.specs.Pending.{AreSlotsDone}
use Rattle.multi_makes.specs.Slots.{HasBegun}
use Rattle.multi_makes.proofs.Going.{same_making, visited_then}
use Rattle.multi_makes.proofs.Setting.{recorded_below, recorded_later, slots_later, whole_part}
use Rattle.multi_makes.proofs.finishing.set_multi.Goals as goal

done_of : (start : Start) (lists : List (List Entry)) (n multi offset : ℕ) (members : List Member) → IsAppended lists n (records.Multi multi offset members) → AreSlotsDone start lists offset members → (r : Result (Unit {0}) Refusal) → OnOk r (HasBegun start lists multi offset) → OnOk r (IsMultiDone start lists n multi offset members)
done_of start lists n multi offset members a s (Ok x) b = record { appended = a; slots = s; begins = b }
done_of start lists n multi offset members a s (Err e) b = tt

pub set_members-requires-clause-recorded : goal.set_members-requires-clause-recorded
set_members-requires-clause-recorded g c = let old = c.args.caller.now in whole_part (view old.pass).seen old.number c.args.multi c.args.offset c.args.members.now c.requires.recorded

pub set_members-requires-clause-small : goal.set_members-requires-clause-small
set_members-requires-clause-small g c = let old = c.args.caller.now in recorded_below (start_of c.args.hall.now) (view old.pass).seen old.number c.args.multi c.args.offset c.args.members.now c.requires.step.may.ready.at.kept c.requires.recorded

pub make_begin-requires-clause-may : goal.make_begin-requires-clause-may
make_begin-requires-clause-may g c =
    let old = c.args.caller.now in
    let w = c.set_members.new.caller in
    let v = c.in-Ok.ensures.visited in
    record {
      members = c.args.members.now;
      recorded = subst (λ z. IsRecorded (view w.pass).seen z c.args.multi c.args.offset c.args.members.now) (sym v.number) (recorded_later (view old.pass).seen (view w.pass).seen old.number c.args.multi c.args.offset c.args.members.now v.went.grows c.requires.recorded);
      slots = c.in-Ok.ensures.slots;
    }

pub returns-in-Ok-clause-visited : goal.returns-in-Ok-clause-visited
returns-in-Ok-clause-visited g c =
    let old = c.args.caller.now in
    let w = c.set_members.new.caller in
    let x = c.make_begin.new.caller in
    let r = c.make_begin.result in
    visited_then c.args.hall.now c.args.banks IsPlain (MayFault r) (MayFault r) old w x (same_making old.session w.session c.set_members.ensures.session) (plain_faults r) (λ lock kind m. m) c.in-Ok.ensures.visited c.make_begin.ensures.visited

pub returns-in-Ok-clause-done : goal.returns-in-Ok-clause-done
returns-in-Ok-clause-done g c =
    let start = start_of c.args.hall.now in
    let old = c.args.caller.now in
    let w = c.set_members.new.caller in
    let x = c.make_begin.new.caller in
    let more = c.make_begin.ensures.visited.went.grows in
    done_of start (view x.pass).seen old.number c.args.multi c.args.offset c.args.members.now
    (appended_grows (view old.pass).seen (view x.pass).seen old.number _ (grows_then (view old.pass).seen (view w.pass).seen (view x.pass).seen c.in-Ok.ensures.visited.went.grows more) c.requires.recorded.appended)
    (slots_later start (view w.pass).seen (view x.pass).seen c.args.offset c.args.members.now more c.in-Ok.ensures.slots)
    c.make_begin.result c.make_begin.ensures.begins
