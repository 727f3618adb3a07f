-- The pages of one store after another.
use Rattle.std.proofs.Common.{Err, Global, IfErr, IsTrue, List, Ok, OnOk, Result, Vec, inl, inr, length, refl, ℕ}
use Rattle.disk_core.specs.Pages.{Pages}
use Rattle.disk_core.specs.declared.page_disk.PageDisk as disks
use Rattle.tx_events.specs.declared.record.Counters.{Counters}
use Rattle.tx_events.specs.declared.record.Rec.{Rec}
use Rattle.tx_events.specs.declared.refusal.Lock.TheVariants as locks
use Rattle.tx_events.specs.LifeBase.{committed_in}
use Rattle.replay_multis.specs.declared.offsets.OffsetSpan.{OffsetSpan}
use Rattle.replay_multis.specs.declared.redo_members.MemberSpan.{MemberSpan}
use Rattle.replay_core.specs.Banks.{EmptiesBanks, IsStoreRefusal, RestoresBanks, members_become, members_leave, offsets_become, offsets_leave, states_become, states_leave}
use Rattle.replay_core.specs.Begun.{AreEmpty}
use Rattle.replay_core.specs.PageVolumes.{ArePagesRestored, IsPagesRefusal, RestoresPages}
use Rattle.replay_core.specs.Redo.{IsNamed}
use Rattle.replay_core.specs.Spans.{member_span, offset_span}
use Rattle.replay_core.specs.declared.refusal.RecoverRefusal.{RecoverRefusal}
use Rattle.replay_core.specs.declared.volumes.PageVolumes.{PageVolumes}
use Rattle.replay_core.proofs.BankRows.{OnlyNow, left_same, same_volumes}
use Rattle.replay_core.proofs.Restoring.{may_same}

pub same_states : (banks : ℕ) (recs : List Rec) (base : Counters) (bank : ℕ) (m : ℕ → List ℕ) (c : Pages) → states_leave banks recs base bank m c c
same_states banks recs base bank m c = may_same (IsNamed (record { banks = banks; bank = bank }) base.oldest (committed_in recs)) base.next m c

pub same_offsets : (banks : ℕ) (recs : List Rec) (span : OffsetSpan) (bank : ℕ) (m : ℕ → List ℕ) (c : Pages) → offsets_leave banks recs span bank m c c
same_offsets banks recs span bank m c = record { each = λ q i lt. inl refl }

pub same_members : (banks : ℕ) (recs : List Rec) (span : MemberSpan) (bank : ℕ) (m : ℕ → List ℕ) (c : Pages) → members_leave banks recs span bank m c c
same_members banks recs span bank m c = record { each = λ q i lt. inl refl }

module _ {P : Type 0} (p : disks.Ghosts P) (recs : List Rec) (base : Counters) (old : PageVolumes P) (only_now : OnlyNow p) where
  abbrev States : List P → Result (Unit {0}) RecoverRefusal → Type 0
  States new result = RestoresBanks p (λ bank. locks.Xact bank) (states_leave (length old.xact.items) recs base) (states_become (length old.xact.items) recs base) old.xact.items new result

  abbrev Offsets : List P → Result (Unit {0}) RecoverRefusal → Type 0
  Offsets new result = RestoresBanks p (λ bank. locks.Offsets bank) (offsets_leave (length old.offsets.items) recs (offset_span recs base)) (offsets_become (length old.offsets.items) recs (offset_span recs base)) old.offsets.items new result

  abbrev Members : List P → Result (Unit {0}) RecoverRefusal → Type 0
  Members new result = RestoresBanks p (λ bank. locks.Members bank) (members_leave (length old.members.items) recs (member_span recs base)) (members_become (length old.members.items) recs (member_span recs base)) old.members.items new result

  pub states_failed : (xact : Vec P Global) (e : RecoverRefusal) → States xact.items (Err e) → RestoresPages p recs base old (record old { xact = xact }) (Err e)
  states_failed xact e one = record {
    count = record { xact = one.count; subtrans = refl; offsets = refl; members = refl };
    moments = λ told. record {
      xact = one.moments told;
      offsets = left_same p (offsets_leave (length old.offsets.items) recs (offset_span recs base)) (same_offsets (length old.offsets.items) recs (offset_span recs base)) only_now told old.offsets.items;
      members = left_same p (members_leave (length old.members.items) recs (member_span recs base)) (same_members (length old.members.items) recs (member_span recs base)) only_now told old.members.items;
    };
    restored = λ told. tt;
    refused = inl one.refused;
    counted = record { xact = one.counted; subtrans = same_volumes p old.subtrans.items; offsets = same_volumes p old.offsets.items; members = same_volumes p old.members.items };
  }

  pub offsets_failed : (xact offsets : Vec P Global) (e : RecoverRefusal) → States xact.items (Ok (tt {0})) → Offsets offsets.items (Err e)
      → RestoresPages p recs base old (record { xact = xact; subtrans = old.subtrans; offsets = offsets; members = old.members }) (Err e)
  offsets_failed xact offsets e one two = record {
    count = record { xact = one.count; subtrans = refl; offsets = two.count; members = refl };
    moments = λ told. record {
      xact = one.moments told;
      offsets = two.moments told;
      members = left_same p (members_leave (length old.members.items) recs (member_span recs base)) (same_members (length old.members.items) recs (member_span recs base)) only_now told old.members.items;
    };
    restored = λ told. tt;
    refused = inr (inl two.refused);
    counted = record { xact = one.counted; subtrans = same_volumes p old.subtrans.items; offsets = two.counted; members = same_volumes p old.members.items };
  }

  pub members_failed : (xact offsets members : Vec P Global) (e : RecoverRefusal) → States xact.items (Ok (tt {0})) → Offsets offsets.items (Ok (tt {0})) → Members members.items (Err e)
      → RestoresPages p recs base old (record { xact = xact; subtrans = old.subtrans; offsets = offsets; members = members }) (Err e)
  members_failed xact offsets members e one two three = record {
    count = record { xact = one.count; subtrans = refl; offsets = two.count; members = three.count };
    moments = λ told. record { xact = one.moments told; offsets = two.moments told; members = three.moments told };
    restored = λ told. tt;
    refused = inr (inr (inl three.refused));
    counted = record { xact = one.counted; subtrans = same_volumes p old.subtrans.items; offsets = two.counted; members = three.counted };
  }

  pub with_parents : (xact offsets members subtrans : Vec P Global) (result : Result (Unit {0}) RecoverRefusal) → States xact.items (Ok (tt {0})) → Offsets offsets.items (Ok (tt {0})) → Members members.items (Ok (tt {0}))
      → EmptiesBanks p (λ bank. locks.Subtrans bank) old.subtrans.items subtrans.items result
      → RestoresPages p recs base old (record { xact = xact; subtrans = subtrans; offsets = offsets; members = members }) result
  with_parents xact offsets members subtrans result one two three four = record {
    count = record { xact = one.count; subtrans = four.count; offsets = two.count; members = three.count };
    moments = λ told. record { xact = one.moments told; offsets = two.moments told; members = three.moments told };
    restored = λ told. all_four result told (four.empty told);
    refused = last_failed result four.refused;
    counted = record { xact = one.counted; subtrans = four.counted; offsets = two.counted; members = three.counted };
  }
    where
      all_four : (result : Result (Unit {0}) RecoverRefusal) → IsTrue p.tells → OnOk result (AreEmpty p subtrans.items) → OnOk result (ArePagesRestored p recs base old (record { xact = xact; subtrans = subtrans; offsets = offsets; members = members }))
      all_four (Ok u) told empty = record { xact = one.restored told; offsets = two.restored told; members = three.restored told; subtrans = empty }
      all_four (Err e) told empty = tt

      last_failed : (result : Result (Unit {0}) RecoverRefusal) → IfErr result (IsStoreRefusal p (λ bank. locks.Subtrans bank) old.subtrans.items subtrans.items) → IfErr result (IsPagesRefusal p old (record { xact = xact; subtrans = subtrans; offsets = offsets; members = members }))
      last_failed (Ok u) c = tt
      last_failed (Err e) c = inr (inr (inr c))
