use Rattle.std.proofs.Common.{None, ◌∷◌, ◌∙◌, ◌+◌, ◌++◌, ◌≡◌, ◌≤◌, ap, arith, length, vec_capacity}
use Rattle.std.specs.Prelude.{reverse}
use Rattle.slru_bank.specs.Calls.{volume_of}
use Rattle.engine_host.specs.Stores.{Store, disk_in, disks_in, of_members, of_offsets, of_subtrans, of_xact, volumes_in}
use Rattle.engine_host.proofs.Refusing.{all_left, each_store, moved, moved_length, passed, still_left, still_room}
use Rattle.engine_host.proofs.volumes.bank_volumes.Goals as goal

pub put_behind-requires : goal.put_behind-requires
put_behind-requires g c =
    let full = moved_length (disk_in of_xact) c.parts.locks.items c.pop.new.self.items c.in-Some.part (volume_of c.in-Xact.store.value) c.in-Some.ensures.items (ap (disk_in of_xact) c.in-Xact.is) in
    let room = c.parts.invariant.room of_xact in
    record { room = omega (arith, room, full) }

pub parts-preserved-in-Xact : goal.parts-preserved-in-Xact
parts-preserved-in-Xact g c =
    let e = c.in-Some.ensures.items in
    let old = c.parts.locks.items in
    let new = c.pop.new.self.items in
    let part = c.in-Some.part in
    let disk = volume_of c.in-Xact.store.value in
    let put = c.put_behind.ensures.items ∙ ap (λ d. d ∷ reverse c.parts.volumes.xact.items) (c.keep.ensures ∙ ap volume_of c.into_inner.ensures) in
    let held = c.parts.invariant.volumes in
    let room = c.parts.invariant.room in
    let whole = λ (k : Store). disks_in k c.args.locks.now.items ++ (volumes_in k c.args.volumes).items in
    let none = λ (k : Store) (is : disk_in k part ≡ None). passed (disk_in k) old new part (reverse (volumes_in k c.parts.volumes).items) (whole k) e is (held k) in
    let same = λ (k : Store) (is : disk_in k part ≡ None). still_room (disk_in k) old new part (length (volumes_in k c.parts.volumes).items) (vec_capacity (volumes_in k c.parts.volumes)) e is (room k) in
    let more = moved_length (disk_in of_xact) old new part disk e (ap (disk_in of_xact) c.in-Xact.is) in
    let longer = c.put_behind.ensures.count in
    let up = c.put_behind.ensures.capacity in
    let before = room of_xact in
    record {
      left = still_left c.args.first old new c.args.locks.now.items part e (let t = c.parts-test.true in omega arith) c.parts.invariant.left;
      volumes = each_store (λ k. disks_in k new ++ reverse (volumes_in k (record c.parts.volumes { xact = c.put_behind.new.volumes })).items ≡ whole k)
          (moved (disk_in of_xact) old new part disk (reverse c.parts.volumes.xact.items) (reverse c.put_behind.new.volumes.items) (whole of_xact) e (ap (disk_in of_xact) c.in-Xact.is) put (held of_xact)) (none of_subtrans (ap (disk_in of_subtrans) c.in-Xact.is)) (none of_offsets (ap (disk_in of_offsets) c.in-Xact.is)) (none of_members (ap (disk_in of_members) c.in-Xact.is));
      room = each_store (λ k. length (disks_in k new) + length (volumes_in k (record c.parts.volumes { xact = c.put_behind.new.volumes })).items ≤ vec_capacity (volumes_in k (record c.parts.volumes { xact = c.put_behind.new.volumes })))
          (omega (arith, before, more, longer, up)) (same of_subtrans (ap (disk_in of_subtrans) c.in-Xact.is)) (same of_offsets (ap (disk_in of_offsets) c.in-Xact.is)) (same of_members (ap (disk_in of_members) c.in-Xact.is));
    }

pub put_behind-requires-in-Subtrans : goal.put_behind-requires-in-Subtrans
put_behind-requires-in-Subtrans g c =
    let full = moved_length (disk_in of_subtrans) c.parts.locks.items c.pop.new.self.items c.in-Some.part (volume_of c.in-Subtrans.store.value) c.in-Some.ensures.items (ap (disk_in of_subtrans) c.in-Subtrans.is) in
    let room = c.parts.invariant.room of_subtrans in
    record { room = omega (arith, room, full) }

pub parts-preserved-in-Subtrans : goal.parts-preserved-in-Subtrans
parts-preserved-in-Subtrans g c =
    let e = c.in-Some.ensures.items in
    let old = c.parts.locks.items in
    let new = c.pop.new.self.items in
    let part = c.in-Some.part in
    let disk = volume_of c.in-Subtrans.store.value in
    let put = c.put_behind-in-Subtrans.ensures.items ∙ ap (λ d. d ∷ reverse c.parts.volumes.subtrans.items) (c.keep-in-Subtrans.ensures ∙ ap volume_of c.into_inner-in-Subtrans.ensures) in
    let held = c.parts.invariant.volumes in
    let room = c.parts.invariant.room in
    let whole = λ (k : Store). disks_in k c.args.locks.now.items ++ (volumes_in k c.args.volumes).items in
    let none = λ (k : Store) (is : disk_in k part ≡ None). passed (disk_in k) old new part (reverse (volumes_in k c.parts.volumes).items) (whole k) e is (held k) in
    let same = λ (k : Store) (is : disk_in k part ≡ None). still_room (disk_in k) old new part (length (volumes_in k c.parts.volumes).items) (vec_capacity (volumes_in k c.parts.volumes)) e is (room k) in
    let more = moved_length (disk_in of_subtrans) old new part disk e (ap (disk_in of_subtrans) c.in-Subtrans.is) in
    let longer = c.put_behind-in-Subtrans.ensures.count in
    let up = c.put_behind-in-Subtrans.ensures.capacity in
    let before = room of_subtrans in
    record {
      left = still_left c.args.first old new c.args.locks.now.items part e (let t = c.parts-test.true in omega arith) c.parts.invariant.left;
      volumes = each_store (λ k. disks_in k new ++ reverse (volumes_in k (record c.parts.volumes { subtrans = c.put_behind-in-Subtrans.new.volumes })).items ≡ whole k)
          (none of_xact (ap (disk_in of_xact) c.in-Subtrans.is)) (moved (disk_in of_subtrans) old new part disk (reverse c.parts.volumes.subtrans.items) (reverse c.put_behind-in-Subtrans.new.volumes.items) (whole of_subtrans) e (ap (disk_in of_subtrans) c.in-Subtrans.is) put (held of_subtrans)) (none of_offsets (ap (disk_in of_offsets) c.in-Subtrans.is)) (none of_members (ap (disk_in of_members) c.in-Subtrans.is));
      room = each_store (λ k. length (disks_in k new) + length (volumes_in k (record c.parts.volumes { subtrans = c.put_behind-in-Subtrans.new.volumes })).items ≤ vec_capacity (volumes_in k (record c.parts.volumes { subtrans = c.put_behind-in-Subtrans.new.volumes })))
          (same of_xact (ap (disk_in of_xact) c.in-Subtrans.is)) (omega (arith, before, more, longer, up)) (same of_offsets (ap (disk_in of_offsets) c.in-Subtrans.is)) (same of_members (ap (disk_in of_members) c.in-Subtrans.is));
    }

pub put_behind-requires-in-Offsets : goal.put_behind-requires-in-Offsets
put_behind-requires-in-Offsets g c =
    let full = moved_length (disk_in of_offsets) c.parts.locks.items c.pop.new.self.items c.in-Some.part (volume_of c.in-Offsets.store.value) c.in-Some.ensures.items (ap (disk_in of_offsets) c.in-Offsets.is) in
    let room = c.parts.invariant.room of_offsets in
    record { room = omega (arith, room, full) }

pub parts-preserved-in-Offsets : goal.parts-preserved-in-Offsets
parts-preserved-in-Offsets g c =
    let e = c.in-Some.ensures.items in
    let old = c.parts.locks.items in
    let new = c.pop.new.self.items in
    let part = c.in-Some.part in
    let disk = volume_of c.in-Offsets.store.value in
    let put = c.put_behind-in-Offsets.ensures.items ∙ ap (λ d. d ∷ reverse c.parts.volumes.offsets.items) (c.keep-in-Offsets.ensures ∙ ap volume_of c.into_inner-in-Offsets.ensures) in
    let held = c.parts.invariant.volumes in
    let room = c.parts.invariant.room in
    let whole = λ (k : Store). disks_in k c.args.locks.now.items ++ (volumes_in k c.args.volumes).items in
    let none = λ (k : Store) (is : disk_in k part ≡ None). passed (disk_in k) old new part (reverse (volumes_in k c.parts.volumes).items) (whole k) e is (held k) in
    let same = λ (k : Store) (is : disk_in k part ≡ None). still_room (disk_in k) old new part (length (volumes_in k c.parts.volumes).items) (vec_capacity (volumes_in k c.parts.volumes)) e is (room k) in
    let more = moved_length (disk_in of_offsets) old new part disk e (ap (disk_in of_offsets) c.in-Offsets.is) in
    let longer = c.put_behind-in-Offsets.ensures.count in
    let up = c.put_behind-in-Offsets.ensures.capacity in
    let before = room of_offsets in
    record {
      left = still_left c.args.first old new c.args.locks.now.items part e (let t = c.parts-test.true in omega arith) c.parts.invariant.left;
      volumes = each_store (λ k. disks_in k new ++ reverse (volumes_in k (record c.parts.volumes { offsets = c.put_behind-in-Offsets.new.volumes })).items ≡ whole k)
          (none of_xact (ap (disk_in of_xact) c.in-Offsets.is)) (none of_subtrans (ap (disk_in of_subtrans) c.in-Offsets.is)) (moved (disk_in of_offsets) old new part disk (reverse c.parts.volumes.offsets.items) (reverse c.put_behind-in-Offsets.new.volumes.items) (whole of_offsets) e (ap (disk_in of_offsets) c.in-Offsets.is) put (held of_offsets)) (none of_members (ap (disk_in of_members) c.in-Offsets.is));
      room = each_store (λ k. length (disks_in k new) + length (volumes_in k (record c.parts.volumes { offsets = c.put_behind-in-Offsets.new.volumes })).items ≤ vec_capacity (volumes_in k (record c.parts.volumes { offsets = c.put_behind-in-Offsets.new.volumes })))
          (same of_xact (ap (disk_in of_xact) c.in-Offsets.is)) (same of_subtrans (ap (disk_in of_subtrans) c.in-Offsets.is)) (omega (arith, before, more, longer, up)) (same of_members (ap (disk_in of_members) c.in-Offsets.is));
    }

pub put_behind-requires-in-Members : goal.put_behind-requires-in-Members
put_behind-requires-in-Members g c =
    let full = moved_length (disk_in of_members) c.parts.locks.items c.pop.new.self.items c.in-Some.part (volume_of c.in-Members.store.value) c.in-Some.ensures.items (ap (disk_in of_members) c.in-Members.is) in
    let room = c.parts.invariant.room of_members in
    record { room = omega (arith, room, full) }

pub parts-preserved-in-Members : goal.parts-preserved-in-Members
parts-preserved-in-Members g c =
    let e = c.in-Some.ensures.items in
    let old = c.parts.locks.items in
    let new = c.pop.new.self.items in
    let part = c.in-Some.part in
    let disk = volume_of c.in-Members.store.value in
    let put = c.put_behind-in-Members.ensures.items ∙ ap (λ d. d ∷ reverse c.parts.volumes.members.items) (c.keep-in-Members.ensures ∙ ap volume_of c.into_inner-in-Members.ensures) in
    let held = c.parts.invariant.volumes in
    let room = c.parts.invariant.room in
    let whole = λ (k : Store). disks_in k c.args.locks.now.items ++ (volumes_in k c.args.volumes).items in
    let none = λ (k : Store) (is : disk_in k part ≡ None). passed (disk_in k) old new part (reverse (volumes_in k c.parts.volumes).items) (whole k) e is (held k) in
    let same = λ (k : Store) (is : disk_in k part ≡ None). still_room (disk_in k) old new part (length (volumes_in k c.parts.volumes).items) (vec_capacity (volumes_in k c.parts.volumes)) e is (room k) in
    let more = moved_length (disk_in of_members) old new part disk e (ap (disk_in of_members) c.in-Members.is) in
    let longer = c.put_behind-in-Members.ensures.count in
    let up = c.put_behind-in-Members.ensures.capacity in
    let before = room of_members in
    record {
      left = still_left c.args.first old new c.args.locks.now.items part e (let t = c.parts-test.true in omega arith) c.parts.invariant.left;
      volumes = each_store (λ k. disks_in k new ++ reverse (volumes_in k (record c.parts.volumes { members = c.put_behind-in-Members.new.volumes })).items ≡ whole k)
          (none of_xact (ap (disk_in of_xact) c.in-Members.is)) (none of_subtrans (ap (disk_in of_subtrans) c.in-Members.is)) (none of_offsets (ap (disk_in of_offsets) c.in-Members.is)) (moved (disk_in of_members) old new part disk (reverse c.parts.volumes.members.items) (reverse c.put_behind-in-Members.new.volumes.items) (whole of_members) e (ap (disk_in of_members) c.in-Members.is) put (held of_members));
      room = each_store (λ k. length (disks_in k new) + length (volumes_in k (record c.parts.volumes { members = c.put_behind-in-Members.new.volumes })).items ≤ vec_capacity (volumes_in k (record c.parts.volumes { members = c.put_behind-in-Members.new.volumes })))
          (same of_xact (ap (disk_in of_xact) c.in-Members.is)) (same of_subtrans (ap (disk_in of_subtrans) c.in-Members.is)) (same of_offsets (ap (disk_in of_offsets) c.in-Members.is)) (omega (arith, before, more, longer, up));
    }

pub parts-preserved-in-Log : goal.parts-preserved-in-Log
parts-preserved-in-Log g c =
    let e = c.in-Some.ensures.items in
    let old = c.parts.locks.items in
    let new = c.pop.new.self.items in
    let part = c.in-Some.part in
    let held = c.parts.invariant.volumes in
    let room = c.parts.invariant.room in
    let none = λ (k : Store) (is : disk_in k part ≡ None). passed (disk_in k) old new part (reverse (volumes_in k c.parts.volumes).items) (disks_in k c.args.locks.now.items ++ (volumes_in k c.args.volumes).items) e is (held k) in
    let same = λ (k : Store) (is : disk_in k part ≡ None). still_room (disk_in k) old new part (length (volumes_in k c.parts.volumes).items) (vec_capacity (volumes_in k c.parts.volumes)) e is (room k) in
    record {
      left = still_left c.args.first old new c.args.locks.now.items part e (let t = c.parts-test.true in omega arith) c.parts.invariant.left;
      volumes = each_store (λ k. disks_in k new ++ reverse (volumes_in k c.parts.volumes).items ≡ disks_in k c.args.locks.now.items ++ (volumes_in k c.args.volumes).items)
          (none of_xact (ap (disk_in of_xact) c.in-Log.is)) (none of_subtrans (ap (disk_in of_subtrans) c.in-Log.is)) (none of_offsets (ap (disk_in of_offsets) c.in-Log.is)) (none of_members (ap (disk_in of_members) c.in-Log.is));
      room = each_store (λ k. length (disks_in k new) + length (volumes_in k c.parts.volumes).items ≤ vec_capacity (volumes_in k c.parts.volumes))
          (same of_xact (ap (disk_in of_xact) c.in-Log.is)) (same of_subtrans (ap (disk_in of_subtrans) c.in-Log.is)) (same of_offsets (ap (disk_in of_offsets) c.in-Log.is)) (same of_members (ap (disk_in of_members) c.in-Log.is));
    }

pub parts-preserved-in-Proc : goal.parts-preserved-in-Proc
parts-preserved-in-Proc g c =
    let e = c.in-Some.ensures.items in
    let old = c.parts.locks.items in
    let new = c.pop.new.self.items in
    let part = c.in-Some.part in
    let held = c.parts.invariant.volumes in
    let room = c.parts.invariant.room in
    let none = λ (k : Store) (is : disk_in k part ≡ None). passed (disk_in k) old new part (reverse (volumes_in k c.parts.volumes).items) (disks_in k c.args.locks.now.items ++ (volumes_in k c.args.volumes).items) e is (held k) in
    let same = λ (k : Store) (is : disk_in k part ≡ None). still_room (disk_in k) old new part (length (volumes_in k c.parts.volumes).items) (vec_capacity (volumes_in k c.parts.volumes)) e is (room k) in
    record {
      left = still_left c.args.first old new c.args.locks.now.items part e (let t = c.parts-test.true in omega arith) c.parts.invariant.left;
      volumes = each_store (λ k. disks_in k new ++ reverse (volumes_in k c.parts.volumes).items ≡ disks_in k c.args.locks.now.items ++ (volumes_in k c.args.volumes).items)
          (none of_xact (ap (disk_in of_xact) c.in-Proc.is)) (none of_subtrans (ap (disk_in of_subtrans) c.in-Proc.is)) (none of_offsets (ap (disk_in of_offsets) c.in-Proc.is)) (none of_members (ap (disk_in of_members) c.in-Proc.is));
      room = each_store (λ k. length (disks_in k new) + length (volumes_in k c.parts.volumes).items ≤ vec_capacity (volumes_in k c.parts.volumes))
          (same of_xact (ap (disk_in of_xact) c.in-Proc.is)) (same of_subtrans (ap (disk_in of_subtrans) c.in-Proc.is)) (same of_offsets (ap (disk_in of_offsets) c.in-Proc.is)) (same of_members (ap (disk_in of_members) c.in-Proc.is));
    }

pub parts-preserved : goal.parts-preserved
parts-preserved g c =
    let e = c.in-Some.ensures.items in
    let old = c.parts.locks.items in
    let new = c.pop.new.self.items in
    let part = c.in-Some.part in
    let held = c.parts.invariant.volumes in
    let room = c.parts.invariant.room in
    let none = λ (k : Store) (is : disk_in k part ≡ None). passed (disk_in k) old new part (reverse (volumes_in k c.parts.volumes).items) (disks_in k c.args.locks.now.items ++ (volumes_in k c.args.volumes).items) e is (held k) in
    let same = λ (k : Store) (is : disk_in k part ≡ None). still_room (disk_in k) old new part (length (volumes_in k c.parts.volumes).items) (vec_capacity (volumes_in k c.parts.volumes)) e is (room k) in
    record {
      left = still_left c.args.first old new c.args.locks.now.items part e (let t = c.parts-test.true in omega arith) c.parts.invariant.left;
      volumes = each_store (λ k. disks_in k new ++ reverse (volumes_in k c.parts.volumes).items ≡ disks_in k c.args.locks.now.items ++ (volumes_in k c.args.volumes).items)
          (none of_xact (ap (disk_in of_xact) c.in-Multi.is)) (none of_subtrans (ap (disk_in of_subtrans) c.in-Multi.is)) (none of_offsets (ap (disk_in of_offsets) c.in-Multi.is)) (none of_members (ap (disk_in of_members) c.in-Multi.is));
      room = each_store (λ k. length (disks_in k new) + length (volumes_in k c.parts.volumes).items ≤ vec_capacity (volumes_in k c.parts.volumes))
          (same of_xact (ap (disk_in of_xact) c.in-Multi.is)) (same of_subtrans (ap (disk_in of_subtrans) c.in-Multi.is)) (same of_offsets (ap (disk_in of_offsets) c.in-Multi.is)) (same of_members (ap (disk_in of_members) c.in-Multi.is));
    }

pub returns-clause-left : goal.returns-clause-left
returns-clause-left g c = all_left c.args.first c.parts.locks.items c.args.locks.now.items (let t = c.parts-test.false in omega arith) c.parts.invariant.left

pub returns-clause-volumes : goal.returns-clause-volumes
returns-clause-volumes g c k = ap (λ l. disks_in k c.parts.locks.items ++ l) (c.turn_round-2.ensures.items k) ∙ c.parts.invariant.volumes k
