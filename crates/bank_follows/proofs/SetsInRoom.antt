-- The numbers that a life sets aren't below the oldest ones with which it began.
use Rattle.std.proofs.Common.{Contains, List, None, Option, Some, [], arith, inl, inr, ℕ, ⊎_elim, ◌∷◌, ◌≡◌, ◌≤◌, ◌⊎◌}
use Rattle.std.proofs.lemmas.Option.{same_Some}
use Rattle.std.specs.List.{filter_map, last_or}
use Rattle.notes.specs.Lists.{at}
use Rattle.tx_events.proofs.Membership.{Has, all_at, contains_has, has_filter_map}
use Rattle.tx_events.specs.Base.{IsBase}
use Rattle.tx_events.specs.declared.multi.MultiEvent.TheVariants as multis
use Rattle.tx_core.specs.declared.entry.Entry.{Entry}
use Rattle.tx_core.specs.declared.entry.Start.{Start}
use Rattle.tx_core.specs.EngineInvariant.{EngineInvariant}
use Rattle.tx_core.specs.MembersBeforeOffset.{NeedsOffsets, NeedsSlots, OffsetOf, SlotOf}
use Rattle.tx_core.specs.MultiEntries.{multi_history, offsets_in, slots_in}
use Rattle.tx_core.specs.StoredBytes.{StoredBytes, offset_bytes_for, slot_bytes_for}
use Rattle.tx_core.proofs.Asking.{upheld_has}
use Rattle.tx_core.proofs.MultiOrder.{ordered}
use Rattle.tx_core.proofs.Nearness.{multis_are_legal}
use Rattle.recoverable.proofs.BytesShow.{offset_at, slot_at}
use Rattle.recoverable.proofs.Offsets.{given_from}

module _ {A : Type 0} where
  last_from : (o : Option A) (xs : List A) (v : A) → last_or o xs ≡ Some v → (o ≡ Some v) ⊎ Has xs v
  last_from o [] v e = inl e
  last_from o (x ∷ xs) v e = ⊎_elim (λ (here : Some x ≡ Some v). inr (inl (same_Some x v here))) (λ (later : Has xs v). inr (inr later)) (last_from (Some x) xs v e)

  last_has : (xs : List A) (v : A) → last_or None xs ≡ Some v → Has xs v
  last_has xs v e = ⊎_elim (λ (none : None ≡ Some v). absurd cc) (λ (among : Has xs v). among) (last_from None xs v e)

module _ (start : Start) (lists : List (List Entry)) (lock : ℕ) (k : EngineInvariant start lists) (base : IsBase start.base) (e : Entry) (among : Contains (at lists lock) e) where
  pub offsets_in_room : (x : ℕ) (v : StoredBytes) → last_or None (filter_map (offset_bytes_for x) (offsets_in e)) ≡ Some v → start.base.oldest_multi ≤ x
  offsets_in_room x v is =
      let set = has_filter_map (offset_bytes_for x) (offsets_in e) v (last_has (filter_map (offset_bytes_for x) (offsets_in e)) v is) in
      let need = upheld_has (NeedsOffsets start) lists lock e k.members.offsets (contains_has (at lists lock) e among) in
      let o : OffsetOf start lists set.0 = all_at (OffsetOf start lists) (offsets_in e) set.0 need.1 set.1 in
      let same = (offset_at x v set.0 set.2).0 in
      let low : start.base.multi ≤ set.0.multi = given_from start lists o.recorded.by set.0.multi set.0.offset o.members k o.recorded.given in
      let old = base.oldest_multi in
      omega (arith, same, low, old)

  pub slots_in_room : (x : ℕ) (v : StoredBytes) → last_or None (filter_map (slot_bytes_for x) (slots_in e)) ≡ Some v → start.base.oldest_offset ≤ x
  slots_in_room x v is =
      let slot = has_filter_map (slot_bytes_for x) (slots_in e) v (last_has (filter_map (slot_bytes_for x) (slots_in e)) v is) in
      let need = upheld_has NeedsSlots lists lock e k.members.slots (contains_has (at lists lock) e among) in
      let o : SlotOf lists slot.0 = all_at (SlotOf lists) (slots_in e) slot.0 need.1 slot.1 in
      let same = (slot_at x v slot.0 slot.2).0 in
      let order = ordered start.base base (multi_history lists) (multis_are_legal start lists k) in
      let given = order.given o.recorded.by o.multi o.first o.members (contains_has (multi_history lists) (multis.Gen o.recorded.by o.multi o.first o.members) o.recorded.given) in
      let low = given.0 in
      let behind = o.behind in
      let old = base.oldest_offset in
      omega (arith, same, low, behind, old)
