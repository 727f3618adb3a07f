-- A slot that was read of a bank holds the member that stands there.
use Rattle.std.proofs.Common.{inr, ◌⊎◌, ◌≡◌, ⊎_elim, inl, ℕ, zero, suc, ◌+◌, ◌-◌, ◌%◌, ◌^◌, ◌≤◌, ◌<◌, ◌==◌, Bool, false, cond, IsTrue, List, [], ◌∷◌, slice_index, Option, None, Some, Contains, length, refl, sym, ap, subst, ◌∙◌, arith}
use Rattle.std.proofs.Math.Seq.{take-length}
use Rattle.std.proofs.lemmas.Bool.Decides.{nat_tests}
use Rattle.std.specs.List.{filter_map, flat_map, last_or, slice_get}
use Rattle.disk_core.specs.declared.page_disk.PageDisk as disks
use Rattle.notes.specs.Lists.{at}
use Rattle.store_pages.specs.declared.page_rule.PageRule as rules
use Rattle.store_pages.specs.Layouts.{member_page_of, member_place_of, mode_place_of, number_in}
use Rattle.tx_events.specs.Pages.{id_at, member_page_in_full, mode_at}
use Rattle.slru_bank.specs.declared.bank.SlruBank.{SlruBank}
use Rattle.slru_bank.specs.Calls.{pages_of}
use Rattle.bank_stores.specs.declared.slot.Slot.{Slot}
use Rattle.bank_stores.specs.declared.slot.Slot.TheVariants as found
use Rattle.bank_stores.specs.Runs.{slots_on}
use Rattle.bank_stores.specs.Slots.{slot_of, used_slot}
use Rattle.tx_events.proofs.Membership.{Has, all_at, contains_has, has_contains, has_filter_map, has_flat_map, place_has}
use Rattle.tx_events.specs.After.{ids_of}
use Rattle.tx_events.specs.Base.{IsBase}
use Rattle.tx_events.specs.Ids.{low_half}
use Rattle.tx_events.specs.Modes.{mode_number, mode_of}
use Rattle.tx_events.specs.Multis.{free_offset, oldest_offset}
use Rattle.tx_events.specs.declared.multi.Member.{Member}
use Rattle.tx_events.specs.declared.multi.Mode.{Mode}
use Rattle.tx_events.specs.declared.multi.Mode.TheVariants as modes
use Rattle.tx_events.specs.declared.multi.MultiEvent.TheVariants as multis
use Rattle.tx_events.specs.declared.event.By.{By}
use Rattle.tx_events.specs.declared.record.Rec.TheVariants as records
use Rattle.tx_core.specs.declared.entry.Entry.{Entry}
use Rattle.tx_core.specs.declared.entry.Kind.TheVariants as kinds
use Rattle.tx_core.specs.declared.entry.Start.{Start}
use Rattle.tx_core.specs.CleanMultis.{CleanMembers}
use Rattle.tx_core.specs.EngineInvariant.{EngineInvariant}
use Rattle.tx_core.specs.Locks.{log_lock, members_lock, members_lock_of}
use Rattle.tx_core.specs.MembersBeforeOffset.{NeedsSlots, SlotOf}
use Rattle.tx_core.specs.MultiEntries.{AreFewMultis, IsSlotSet, SetSlot, multi_history, slots_in}
use Rattle.tx_core.specs.Pages.{member_store, pages_after}
use Rattle.tx_core.specs.StoredBytes.{StoredBytes, byte_held, byte_of, slot_bytes, slot_bytes_for, stored_members}
use Rattle.tx_core.specs.RecordsFollow.{NeedsNamed}
use Rattle.tx_core.proofs.Asking.{upheld_has}
use Rattle.tx_core.proofs.MultiOrder.{ordered}
use Rattle.tx_core.proofs.Nearness.{free_upto, made_near, multis_are_legal}
use Rattle.recoverable.proofs.BytesShow.{in_id, last_some, member_bytes_show, slot_at, slot_to}
use Rattle.engine_parts.specs.Parts.{IsMembersOf}
use Rattle.engine_parts.specs.Shelf.{ArePagesNear, IsReadNow, shows_on}
use Rattle.engine_parts.specs.Shelves.{member_shelf, slot_held, word_held}
use Rattle.multi_banks.specs.Members.{IsGap, IsRecordedMember, IsSlotRead, SharePage}
use Rattle.multi_banks.proofs.Adding.{place_within, share_lock, share_stored}
use Rattle.multi_banks.proofs.Coursing.{same_last}
use Rattle.multi_banks.proofs.Later.{share_fits}
use Rattle.multi_banks.proofs.OffsetSeen.{word_of_bytes, word_zero}
use Rattle.multi_banks.proofs.Seeing.{filter_map_has}
use Rattle.multi_banks.proofs.Uncut.{member_held}

-- ---- members and their slots

ids_has : (members : List Member) (member : Member) → Has members member → Has (ids_of members) member.id
ids_has [] member k = absurd k
ids_has (m ∷ ms) member k = ⊎_elim (λ (q : m ≡ member). inl (ap (λ (z : Member). z.id) q)) (λ t. inr (ids_has ms member t)) k

pub slots_long : (bytes : List ℕ) (place count : ℕ) → length (slots_on bytes place count) ≡ count
slots_long bytes place zero = refl
slots_long bytes place (suc n) = ap (λ z. suc z) (slots_long bytes (place + 1) n)

record IsAt (bytes : List ℕ) (place count k : ℕ) (slot : Slot) : Type 0 where
  inside : k < count
  is : slot ≡ slot_of (slice_index bytes (mode_at (place + k))) (number_in bytes (id_at (place + k)))

slot_there : (bytes : List ℕ) (place count k : ℕ) (slot : Slot) → slice_get (slots_on bytes place count) k ≡ Some slot → IsAt bytes place count k slot
slot_there bytes place zero k slot e = absurd cc
slot_there bytes place (suc n) zero slot e =
    let p : place ≡ place + 0 = omega arith in
    let same : slot_of (slice_index bytes (mode_at place)) (number_in bytes (id_at place)) ≡ slot = cc in
    record { inside = omega arith; is = sym same ∙ ap (λ z. slot_of (slice_index bytes (mode_at z)) (number_in bytes (id_at z))) p }
slot_there bytes place (suc n) (suc k) slot e =
    let r = slot_there bytes (place + 1) n k slot e in
    let inside = r.inside in
    let p : place + 1 + k ≡ place + suc k = omega arith in
    record { inside = omega arith; is = r.is ∙ ap (λ z. slot_of (slice_index bytes (mode_at z)) (number_in bytes (id_at z))) p }

mode_back : (m : Mode) → mode_of (mode_number m) ≡ Some m
mode_back modes.KeySh = refl
mode_back modes.Sh = refl
mode_back modes.ForNoKeyUpd = refl
mode_back modes.ForUpd = refl
mode_back modes.NoKeyUpd = refl
mode_back modes.Upd = refl

-- the mode and the id of a member make it
slot_made : (m : Mode) (id : ℕ) → 1 ≤ id → slot_of (mode_number m) id ≡ found.Is (record { number = id }) m
slot_made m id some =
    let test : (id == 0) ≡ false = grind (arith, nat_tests) in
    ap (λ (b : Bool). cond b found.Unused (used_slot (mode_number m) id (mode_of (mode_number m)))) test ∙ ap (used_slot (mode_number m) id) (mode_back m)

-- a slot's bytes read as its mode and its id
slot_of_bytes : (o : Option StoredBytes) (member : Member) → ((i : ℕ) → i < 5 → byte_held o i ≡ slot_bytes member i) → slot_held o ≡ (mode_number member.mode, low_half member.id)
slot_of_bytes o member each =
    let mode : byte_held o 4 ≡ mode_number member.mode = each 4 (omega arith) in
    let word : word_held o ≡ low_half member.id = word_of_bytes o member.id (λ i lt. each i (omega arith) ∙ ap (λ (b : Bool). cond b (mode_number member.mode) (byte_of member.id i)) (in_id i lt)) in
    (λ j. (mode j, word j))

rises : (a b : ℕ) → a ≤ b → member_page_in_full a ≤ member_page_in_full b
rises a b le = omega arith

-- the pages that were made are near
members_near : (start : Start) (lists : List (List Entry)) (bank : ℕ) → EngineInvariant start lists → AreFewMultis lists → ArePagesNear (member_shelf start) (at lists (members_lock bank))
members_near start lists bank k few =
    let es = at lists (members_lock bank) in
    let last = ((made_near start lists bank k).members few).last (λ x. None) in
    let to = last.to in
    let same : (pages_after stored_members start.base.offset (λ x. None) es).last ≡ (pages_after member_store start.base.offset (λ x. None) es).last = same_last stored_members member_store (λ x. refl) start.base.offset es in
    subst (λ z. z ≤ member_page_in_full (start.base.offset + 2 ^ 29)) (sym (same ∙ last.on)) (rises last.number (start.base.offset + 2 ^ 29) (omega arith))

module _ (start : Start) (lists : List (List Entry)) (x bank : ℕ) (base : IsBase start.base) (k : EngineInvariant start lists) (here : members_lock_of start x ≡ members_lock bank) where
  abbrev slots : List SetSlot
  slots = flat_map slots_in (at lists (members_lock bank))

  slot_given : (slot : SetSlot) → Has slots slot → SlotOf lists slot
  slot_given slot there =
      let found = has_flat_map slots_in (at lists (members_lock bank)) slot there in
      let need = upheld_has NeedsSlots lists (members_lock bank) found.0 k.members.slots found.1 in
      all_at (SlotOf lists) (slots_in found.0) slot need.1 found.2

  -- where its multixact lies
  record Lies (slot : SetSlot) (s : SlotOf lists slot) : Type 0 where
    from : start.base.offset ≤ s.first
    to : s.first + length s.members ≤ free_offset start.base.offset (multi_history lists)
    inside : slot.offset < s.first + length s.members

  lies : (slot : SetSlot) (s : SlotOf lists slot) → Lies slot s
  lies slot s =
      let r = s.recorded in
      let o = (ordered start.base base (multi_history lists) (multis_are_legal start lists k)).given r.by s.multi s.first s.members (contains_has (multi_history lists) _ r.given) in
      let in_run = place_within s.members (slot.offset - s.first) slot.member s.member in
      let behind = s.behind in
      record { from = o.0; to = o.1; inside = omega arith }

  -- one offset is of one multixact, so it has one member
  one_slot : (a b : SetSlot) → Has slots a → Has slots b → a.offset ≡ x → b.offset ≡ x → a.member ≡ b.member
  one_slot a b ha hb ax bx =
      let s = slot_given a ha in
      let t = slot_given b hb in
      let p = lies a s in
      let q = lies b t in
      let pi = p.inside in
      let qi = q.inside in
      let sb = s.behind in
      let tb = t.behind in
      let o = ordered start.base base (multi_history lists) (multis_are_legal start lists k) in
      ⊎_elim
      (λ (l : (s.multi < t.multi) × (s.first + length s.members ≤ t.first)). absurd (let z = l.1 in omega (arith, ax, bx, pi, tb, z)))
      (λ rest. ⊎_elim
      (λ (l : (t.multi < s.multi) × (t.first + length t.members ≤ s.first)). absurd (let z = l.1 in omega (arith, ax, bx, qi, sb, z)))
      (λ (e : (s.multi ≡ t.multi) × (s.first ≡ t.first) × (s.members ≡ t.members)).
      let at_a : slice_get s.members (x - s.first) ≡ Some a.member = subst (λ z. slice_get s.members (z - s.first) ≡ Some a.member) ax s.member in
      let at_b : slice_get t.members (x - t.first) ≡ Some b.member = subst (λ z. slice_get t.members (z - t.first) ≡ Some b.member) bx t.member in
      let both : slice_get s.members (x - s.first) ≡ slice_get t.members (x - t.first) = λ j. slice_get (e.2 j) (x - e.1 j) in
      some_same (sym at_a ∙ (both ∙ at_b)))
      rest)
      (o.apart s.recorded.by t.recorded.by s.multi t.multi s.first t.first s.members t.members (contains_has (multi_history lists) _ s.recorded.given) (contains_has (multi_history lists) _ t.recorded.given))
    where
      some_same : {a b : Member} → Some a ≡ Some b → a ≡ b
      some_same e = cc

  slot_here : (member : Member) → IsSlotSet start lists x member → (slot : SetSlot) × Has slots slot × (slot.offset ≡ x) × (slot.member ≡ member)
  slot_here member s =
      let slot : SetSlot = record { caller = s.0; offset = x; member = member } in
      (slot, contains_has slots slot (subst (λ z. Contains (flat_map slots_in (at lists z)) slot) here s.1), refl, refl)

  -- where a member was set the value is its
  held_set : (o : Option StoredBytes) (slot : SetSlot) → Has slots slot → slot.offset ≡ x → slot_held (last_or o (filter_map (slot_bytes_for x) slots)) ≡ (mode_number slot.member.mode, low_half slot.member.id)
  held_set o slot there same =
      let bytes : StoredBytes = λ i. slot_bytes slot.member i in
      let value : last_or o (filter_map (slot_bytes_for x) slots) ≡ Some bytes = last_some o (filter_map (slot_bytes_for x) slots) bytes (filter_map_has (slot_bytes_for x) slots slot bytes there (slot_to x slot same)) (λ y q.
      let r = has_filter_map (slot_bytes_for x) slots y q in
      let z = slot_at x y r.0 r.2 in
      let e = one_slot r.0 slot r.1 there z.0 same in
      let f : Member → StoredBytes = λ m i. slot_bytes m i in
      sym z.1 ∙ ap f e) in
      slot_of_bytes (last_or o (filter_map (slot_bytes_for x) slots)) slot.member (λ i lt. ap (λ z. byte_held z i) value)

  -- and of one that is recorded it is that of the start, as none was set there
  held_start : (before : ℕ → Option StoredBytes) (member : Member) → CleanMembers start before → IsRecordedMember start x member → slot_held (last_or (before x) (filter_map (slot_bytes_for x) slots)) ≡ (mode_number member.mode, low_half member.id)
  held_start before member clean m = by_said (filter_map (slot_bytes_for x) slots) refl
    where
      below : x < start.base.offset
      below =
          let w = clean.in_order.within m.multi m.first m.members m.stands m.kept in
          let to = w.1 in
          let inside = place_within m.members m.place member m.among in
          let at_x = m.at in
          omega arith

      by_said : (xs : List StoredBytes) → filter_map (slot_bytes_for x) slots ≡ xs → slot_held (last_or (before x) (filter_map (slot_bytes_for x) slots)) ≡ (mode_number member.mode, low_half member.id)
      by_said [] q = ap (λ (xs : List StoredBytes). slot_held (last_or (before x) xs)) q ∙ slot_of_bytes (before x) member (λ i lt. ap (λ z. byte_held (before z) i) (sym m.at) ∙ clean.recorded m.multi m.first m.place m.members member m.stands m.kept m.among i lt)
      by_said (y ∷ ys) q =
          let r = has_filter_map (slot_bytes_for x) slots y (subst (λ (xs : List StoredBytes). Has xs y) (sym q) (inl refl)) in
          let z = (slot_at x y r.0 r.2).0 in
          let s = slot_given r.0 r.1 in
          let l = lies r.0 s in
          let from = l.from in
          let behind = s.behind in
          absurd (let b = below in omega (arith, z, from, behind, b))

  abbrev HasMember : Member → Type 0
  HasMember member = IsSlotSet start lists x member ⊎ IsRecordedMember start x member

  -- the id of a member that was set is a full one
  set_full : (member : Member) → IsSlotSet start lists x member → 1 ≤ low_half member.id
  set_full member set =
      let t = slot_here member set in
      let s = slot_given t.0 t.1 in
      let a = s.recorded.appended in
      let e : Entry = record { by = a.0; kind = kinds.Append (records.Multi s.multi s.first s.members) } in
      let named = (upheld_has (NeedsNamed start) lists log_lock e k.log.named (contains_has (at lists log_lock) e a.2)).1 in
      let full : 3 ≤ low_half t.0.member.id = named.2 t.0.member.id (has_contains (ids_of s.members) t.0.member.id (ids_has s.members t.0.member (place_has s.members (t.0.offset - s.first) t.0.member s.member))) in
      subst (λ (m : Member). 1 ≤ low_half m.id) t.3 (omega (arith, full))

  -- the offset of a member that stands is one in use
  record InUse : Type 0 where
    from : start.base.oldest_offset ≤ x
    to : x ≤ free_offset start.base.offset (multi_history lists)

  in_use : (before : ℕ → Option StoredBytes) (member : Member) → CleanMembers start before → HasMember member → InUse
  in_use before member clean has = ⊎_elim
      (λ (set : IsSlotSet start lists x member).
      let t = slot_here member set in
      let s = slot_given t.0 t.1 in
      let l = lies t.0 s in
      let from = l.from in let to = l.to in let inside = l.inside in
      let behind = s.behind in let same = t.2 in let low = base.oldest_offset in
      record { from = omega arith; to = omega arith })
      (λ (m : IsRecordedMember start x member).
      let w = clean.in_order.within m.multi m.first m.members m.stands m.kept in
      let from = w.0 in let to = w.1 in let at_x = m.at in
      let inside = place_within m.members m.place member m.among in
      let free = (ordered start.base base (multi_history lists) (multis_are_legal start lists k)).from in
      record { from = omega arith; to = omega arith })
      has

  -- the id of one that stands is a full one
  member_full : (before : ℕ → Option StoredBytes) (member : Member) → CleanMembers start before → HasMember member → 1 ≤ low_half member.id
  member_full before member clean has = ⊎_elim
      (λ (set : IsSlotSet start lists x member). set_full member set)
      (λ (m : IsRecordedMember start x member).
      let full : 3 ≤ low_half member.id = (clean.in_order.fit m.multi m.first m.members m.stands m.kept).1 member.id (has_contains (ids_of m.members) member.id (ids_has m.members member (place_has m.members m.place member m.among))) in
      omega (arith, full))
      has

  -- ---- where a multixact's members end at an offset of low half 0

  record GapAt (before : ℕ → Option StoredBytes) : Type 0 where
    from : start.base.oldest_offset ≤ x
    near : x < start.base.offset + 2 ^ 30
    unset : (slot : SetSlot) → Has slots slot → slot.offset ≡ x → ⊥
    zero_bytes : (i : ℕ) → i < 4 → byte_held (before x) i ≡ 0

  -- one that begins there would begin at a low half 0
  begins_there : (slot : SetSlot) (s : SlotOf lists slot) → low_half x ≡ 0 → s.first ≡ x → ⊥
  begins_there slot s low same =
      let r = s.recorded in
      let stored = ((ordered start.base base (multi_history lists) (multis_are_legal start lists k)).given r.by s.multi s.first s.members (contains_has (multi_history lists) _ r.given)).2 in
      let here : 1 ≤ low_half x = subst (λ z. 1 ≤ low_half z) same stored in
      omega (arith, here, low)

  gap_at : (before : ℕ → Option StoredBytes) → CleanMembers start before → AreFewMultis lists → IsGap start lists x → GapAt before
  gap_at before clean few gap = ⊎_elim given recorded gap.before
    where
      low_base : start.base.oldest_offset ≤ start.base.offset
      low_base = base.oldest_offset

      given : (by : By) × (multi : ℕ) × Contains (multi_history lists) (multis.Gen by multi gap.first gap.members) → GapAt before
      given g =
          let o = ordered start.base base (multi_history lists) (multis_are_legal start lists k) in
          let there = contains_has (multi_history lists) _ g.2 in
          let w = o.given g.0 g.1 gap.first gap.members there in
          let w0 = w.0 in let w1 = w.1 in let end = gap.end in let low = low_base in
          let past : start.base.offset ≤ x = omega arith in
          let upto = free_upto start.base (multi_history lists) (multis_are_legal start lists k) in
          let near : x < start.base.offset + 2 ^ 30 = omega arith in
          record {
            from = omega arith;
            near = near;
            unset = λ slot has same.
                let s = slot_given slot has in
                let l = lies slot s in
                let inside = l.inside in let behind = s.behind in let r = s.recorded in
                ⊎_elim
                (λ (q : (s.multi < g.1) × (s.first + length s.members ≤ gap.first)). let z = q.1 in omega (arith, inside, same, end, z))
                (λ rest. ⊎_elim
                (λ (q : (g.1 < s.multi) × (gap.first + length gap.members ≤ s.first)). let z = q.1 in begins_there slot s gap.low (let here : s.first ≡ x = omega (arith, behind, same, end, z) in here))
                (λ (q : (s.multi ≡ g.1) × (s.first ≡ gap.first) × (s.members ≡ gap.members)).
                let long : length s.members ≡ length gap.members = ap (λ (t : List Member). length t) q.2 in
                let first = q.1 in omega (arith, inside, same, end, long, first))
                rest)
                (o.apart r.by g.0 s.multi g.1 s.first gap.first s.members gap.members (contains_has (multi_history lists) _ r.given) there);
            zero_bytes = λ i lt. clean.clean x i past near lt;
          }

      recorded : (multi : ℕ) × (start.base.oldest_multi ≤ multi) × Contains start.recorded (records.Multi multi gap.first gap.members) → GapAt before
      recorded g =
          let w = clean.in_order.within g.0 gap.first gap.members g.2 g.1 in
          let w0 = w.0 in let w1 = w.1 in let end = gap.end in
          record {
            from = omega arith;
            near = omega arith;
            unset = λ slot has same.
                let s = slot_given slot has in
                let l = lies slot s in
                let from = l.from in let behind = s.behind in
                begins_there slot s gap.low (let here : s.first ≡ x = omega (arith, from, behind, same, end, w1) in here);
            zero_bytes = λ i lt. subst (λ z. byte_held (before z) i ≡ 0) end (clean.gap g.0 gap.first gap.members g.2 g.1 (subst (λ z. low_half z ≡ 0) (sym end) gap.low) i lt);
          }

  gap_word : (before : ℕ → Option StoredBytes) → GapAt before → word_held (last_or (before x) (filter_map (slot_bytes_for x) slots)) ≡ 0
  gap_word before g = by_said (filter_map (slot_bytes_for x) slots) refl
    where
      by_said : (xs : List StoredBytes) → filter_map (slot_bytes_for x) slots ≡ xs → word_held (last_or (before x) (filter_map (slot_bytes_for x) slots)) ≡ 0
      by_said [] q = ap (λ (xs : List StoredBytes). word_held (last_or (before x) xs)) q ∙ word_zero (before x) g.zero_bytes
      by_said (y ∷ ys) q =
          let r = has_filter_map (slot_bytes_for x) slots y (subst (λ (xs : List StoredBytes). Has xs y) (sym q) (inl refl)) in
          absurd (g.unset r.0 r.1 (slot_at x y r.0 r.2).0)

  held : (before : ℕ → Option StoredBytes) (member : Member) → CleanMembers start before → HasMember member → slot_held (last_or (before x) (filter_map (slot_bytes_for x) slots)) ≡ (mode_number member.mode, low_half member.id)
  held before member clean has = ⊎_elim
      (λ (set : IsSlotSet start lists x member).
      let t = slot_here member set in
      held_set (before x) t.0 t.1 t.2 ∙ ap (λ (m : Member). (mode_number m.mode, low_half m.id)) t.3)
      (λ (m : IsRecordedMember start x member). held_start before member clean m)
      has

bank_at : (start : Start) (x bank : ℕ) → members_lock_of start x ≡ members_lock bank → member_page_of x % start.banks ≡ bank
bank_at start x bank q = omega arith

module _ {P O : Type 0} {g : disks.Ghosts P} {r : rules.Ghosts O} where
  member_seen : (start : Start) (lists : List (List Entry)) (bank : ℕ) (store : SlruBank P O g r) (x : ℕ) (slot : Slot) → IsBase start.base → EngineInvariant start lists → IsMembersOf start bank store (at lists (members_lock bank)) → members_lock_of start x ≡ members_lock bank → IsTrue g.tells → AreFewMultis lists
      → oldest_offset start.base.oldest_offset (multi_history lists) ≤ x → slot ≡ slot_of (slice_index (pages_of store (member_page_of x)) (mode_place_of x)) (number_in (pages_of store (member_page_of x)) (member_place_of x)) → (member : Member) → IsSlotSet start lists x member ⊎ IsRecordedMember start x member → slot ≡ found.Is (record { number = low_half member.id }) member.mode
  member_seen start lists bank store x slot base k s here told few announced is member has =
      let es = at lists (members_lock bank) in
      let old = s.stands.shown told (members_near start lists bank k few) in
      let bounds = in_use start lists x bank base k here old.0 member old.1 has in
      let from = bounds.from in
      let to = bounds.to in
      let upto = free_upto start.base (multi_history lists) (multis_are_legal start lists k) in
      let near : x < start.base.offset + 2 ^ 30 = omega arith in
      let full = member_full start lists x bank base k here old.0 member old.1 has in
      let now : IsReadNow (member_shelf start) es (pages_of store) (shows_on (member_shelf start) old.0 es x) x = old.2.each x (record { from = from; to = near }) (bank_at start x bank here) in
      let shows : shows_on (member_shelf start) old.0 es x ≡ last_or (old.0 x) (filter_map (slot_bytes_for x) (flat_map slots_in es)) =
      subst (λ (t : List Entry). (pages_after stored_members start.base.offset old.0 t).shows x ≡ last_or (old.0 x) (filter_map (slot_bytes_for x) (flat_map slots_in t))) (take-length es) (member_bytes_show start lists old.0 (members_lock bank) (length es) x k old.1.behind near) in
      ⊎_elim
      (λ (e : (slice_index (pages_of store (member_page_of x)) (mode_place_of x), number_in (pages_of store (member_page_of x)) (member_place_of x)) ≡ slot_held (shows_on (member_shelf start) old.0 es x)).
      let both = e ∙ (ap slot_held shows ∙ held start lists x bank base k here old.0 member old.1 has) in
      is ∙ (ap (λ (z : ℕ × ℕ). slot_of z.0 z.1) both ∙ slot_made member.mode (low_half member.id) full))
      (λ gone. absurd (member_held start lists bank k base few x announced to gone.1))
      now

  -- a slot that is skipped holds none, also where its page may be gone
  gap_seen : (start : Start) (lists : List (List Entry)) (bank : ℕ) (store : SlruBank P O g r) (x : ℕ) (slot : Slot) → IsBase start.base → EngineInvariant start lists → IsMembersOf start bank store (at lists (members_lock bank)) → members_lock_of start x ≡ members_lock bank → IsTrue g.tells → AreFewMultis lists
      → slot ≡ slot_of (slice_index (pages_of store (member_page_of x)) (mode_place_of x)) (number_in (pages_of store (member_page_of x)) (member_place_of x)) → IsGap start lists x → slot ≡ found.Unused
  gap_seen start lists bank store x slot base k s here told few is gap =
      let es = at lists (members_lock bank) in
      let old = s.stands.shown told (members_near start lists bank k few) in
      let bounds = gap_at start lists x bank base k here old.0 old.1 few gap in
      let near = bounds.near in
      let now : IsReadNow (member_shelf start) es (pages_of store) (shows_on (member_shelf start) old.0 es x) x = old.2.each x (record { from = bounds.from; to = near }) (bank_at start x bank here) in
      let shows : shows_on (member_shelf start) old.0 es x ≡ last_or (old.0 x) (filter_map (slot_bytes_for x) (flat_map slots_in es)) =
      subst (λ (t : List Entry). (pages_after stored_members start.base.offset old.0 t).shows x ≡ last_or (old.0 x) (filter_map (slot_bytes_for x) (flat_map slots_in t))) (take-length es) (member_bytes_show start lists old.0 (members_lock bank) (length es) x k old.1.behind near) in
      let mode = slice_index (pages_of store (member_page_of x)) (mode_place_of x) in
      let number = number_in (pages_of store (member_page_of x)) (member_place_of x) in
      let unused : number ≡ 0 → slot ≡ found.Unused = λ zero. is ∙ ap (λ z. slot_of mode z) zero in
      ⊎_elim
      (λ (e : (mode, number) ≡ slot_held (shows_on (member_shelf start) old.0 es x)).
      unused (ap (λ (z : ℕ × ℕ). z.1) e ∙ (ap word_held shows ∙ gap_word start lists x bank base k here old.0 bounds)))
      (λ gone. unused (ap (λ (z : ℕ × ℕ). z.1) gone.0))
      now

  slot_seen : (start : Start) (lists : List (List Entry)) (bank : ℕ) (store : SlruBank P O g r) (x : ℕ) (slot : Slot) → IsBase start.base → EngineInvariant start lists → IsMembersOf start bank store (at lists (members_lock bank)) → members_lock_of start x ≡ members_lock bank → IsTrue g.tells → AreFewMultis lists
      → oldest_offset start.base.oldest_offset (multi_history lists) ≤ x → slot ≡ slot_of (slice_index (pages_of store (member_page_of x)) (mode_place_of x)) (number_in (pages_of store (member_page_of x)) (member_place_of x)) → IsSlotRead start lists x slot
  slot_seen start lists bank store x slot base k s here told few announced is =
      let seen = member_seen start lists bank store x slot base k s here told few announced is in
      record {
        set = λ member set. seen member (inl set);
        recorded = λ member m. seen member (inr m);
        gap = λ gap. gap_seen start lists bank store x slot base k s here told few is gap;
      }

  pub slots_seen : (start : Start) (lists : List (List Entry)) (bank : ℕ) (store : SlruBank P O g r) (offset count : ℕ) → IsBase start.base → EngineInvariant start lists → IsMembersOf start bank store (at lists (members_lock bank)) → members_lock_of start offset ≡ members_lock bank → 1 ≤ count → SharePage offset count → IsTrue g.tells
      → oldest_offset start.base.oldest_offset (multi_history lists) ≤ offset → AreFewMultis lists → (k : ℕ) (slot : Slot) → slice_get (slots_on (pages_of store (member_page_of offset)) (low_half offset % 1636) count) k ≡ Some slot → IsSlotRead start lists (offset + k) slot
  slots_seen start lists bank store offset count base inv s here some share told announced few k slot is =
      let there = slot_there (pages_of store (member_page_of offset)) (low_half offset % 1636) count k slot is in
      let fits = share_fits offset count (low_half offset) refl some share in
      let place = run_place offset k count there.inside fits.0 fits.1 in
      let page = share_stored offset count k share there.inside in
      slot_seen start lists bank store (offset + k) slot base inv s (share_lock start offset count k (members_lock bank) share there.inside here) told few (let a = announced in omega arith)
      (there.is ∙ (λ j. slot_of (slice_index (pages_of store (sym page j)) (mode_at (sym place j))) (number_in (pages_of store (sym page j)) (id_at (sym place j)))))
    where
      run_place : (offset k count : ℕ) → k < count → low_half offset % 1636 + count ≤ 1636 → low_half offset + count ≤ 2 ^ 32 → low_half (offset + k) % 1636 ≡ low_half offset % 1636 + k
      run_place offset k count lt page lap = omega arith
