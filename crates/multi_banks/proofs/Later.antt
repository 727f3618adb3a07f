-- Numbers of multixacts and of members while others go on, and what was set of them.
use Rattle.std.proofs.Common.{◌≡◌, ⊎_elim, inl, inr, ℕ, zero, suc, ◌+◌, ◌-◌, ◌%◌, ◌^◌, ◌≤◌, List, [], ◌∷◌, ◌++◌, Some, Contains, length, take, take-append-drop, drop, append-nil, append_assoc, refl, sym, ap, subst, ◌∙◌, arith}
use Rattle.std.specs.List.{flat_map, slice_get}
use Rattle.std.proofs.lemmas.Grind.{flat_map-append}
use Rattle.std.proofs.lemmas.List.Elements.{Contains-append_left}
use Rattle.std.proofs.lemmas.List.Sums.{fold_push}
use Rattle.notes.specs.Lists.{Grows, at}
use Rattle.notes.proofs.Growing.{begins_same}
use Rattle.tx_events.proofs.Membership.{Has, by_end, contains_has, has_contains, has_left, has_right}
use Rattle.tx_events.proofs.PlaceLemmas.{each_place_last, each_place_start}
use Rattle.tx_events.specs.Base.{IsBase}
use Rattle.tx_events.specs.Ids.{low_half}
use Rattle.tx_events.specs.Multis.{AreLegalMultis, InBase, MultiMayCome, first_member, free_after, free_offset, next_made}
use Rattle.tx_events.specs.declared.event.By.{By}
use Rattle.tx_events.specs.declared.multi.Member.{Member}
use Rattle.tx_events.specs.declared.multi.MultiEvent.{MultiEvent}
use Rattle.tx_events.specs.declared.multi.MultiEvent.TheVariants as multis
use Rattle.tx_events.specs.declared.record.Counters.{Counters}
use Rattle.tx_core.specs.declared.entry.Entry.{Entry}
use Rattle.tx_core.specs.declared.entry.Kind.TheVariants as kinds
use Rattle.tx_core.specs.declared.entry.Start.{Start}
use Rattle.tx_core.specs.EngineInvariant.{EngineInvariant}
use Rattle.tx_core.specs.Entries.{asks_in}
use Rattle.tx_core.specs.Locks.{member_page_in_full, members_lock, members_lock_of, offsets_lock, offsets_lock_of}
use Rattle.tx_core.specs.MembersBeforeOffset.{SlotOf}
use Rattle.tx_core.specs.MultiEntries.{IsOffsetSet, IsSlotSet, SetOffset, SetSlot, multi_history, offsets_in, slots_in}
use Rattle.tx_core.specs.PagesBeforeIds.{IsMultiOf, IsOffsetOf, WasMade}
use Rattle.tx_core.proofs.MultiGiven.{gen_below}
use Rattle.tx_core.proofs.MultiOrder.{ordered}
use Rattle.tx_core.proofs.MultiRaised.{first_past}
use Rattle.tx_core.proofs.Nearness.{multis_are_legal}
use Rattle.tx_core.proofs.Rising.{made_more, multis_grow, taken_begins}
use Rattle.recoverable.proofs.Offsets.{given_from}
use Rattle.multi_banks.specs.Members.{SharePage}
use Rattle.multi_banks.proofs.Adding.{offset_entry, place_within, share_lock, slots_entry}

-- a page that was made stays made
pub made_later : (lists more : List (List Entry)) (lock first page : ℕ) → Grows lists more → WasMade (at lists lock) first page → WasMade (at more lock) first page
made_later lists more lock first page g made = ⊎_elim inl (λ (m : (by : By) × Contains (at lists lock) (record { by = by; kind = kinds.Zero page })). let b = g.begins lock in inr (m.0, subst (λ l. Contains l (record { by = m.0; kind = kinds.Zero page })) b.1 (Contains-append_left (at lists lock) b.0 _ m.1))) made

pub grows_same : (lists : List (List Entry)) → Grows lists lists
grows_same lists = record { begins = λ q. begins_same (at lists q) }

-- what a list has, it has later
contains_later : (lists more : List (List Entry)) (e : MultiEvent) → Grows lists more → Contains (multi_history lists) e → Contains (multi_history more) e
contains_later lists more e g c = let b = multis_grow lists more g in subst (λ h. Contains h e) b.1 (Contains-append_left (multi_history lists) b.0 e c)

-- a multixact that was given or comes next is from the base's oldest one on
pub multi_later : (start : Start) (lists more : List (List Entry)) (multi : ℕ) → IsBase start.base → Grows lists more → IsMultiOf start lists multi → (start.base.oldest_multi ≤ multi) × (multi ≤ next_made start.base.multi (multi_history more))
multi_later start lists more multi base g is =
    let rises = made_more start.base.multi (multi_history lists) (multi_history more) (multis_grow lists more g) in
    let from = is.0 in
    let to = is.1 in
    let low = base.oldest_multi in
    (omega arith, omega arith)

pub given_multi : (start : Start) (lists more : List (List Entry)) (multi offset : ℕ) (members : List Member) (by : By) → IsBase start.base → EngineInvariant start more → Grows lists more → Contains (multi_history lists) (multis.Gen by multi offset members) → (start.base.oldest_multi ≤ multi) × (multi ≤ next_made start.base.multi (multi_history more))
given_multi start lists more multi offset members by base k g c =
    let there = contains_later lists more (multis.Gen by multi offset members) g c in
    let from = given_from start more by multi offset members k there in
    let below = gen_below start.base by multi offset members (multi_history more) (multis_are_legal start more k) (contains_has (multi_history more) (multis.Gen by multi offset members) there) in
    let low = base.oldest_multi in
    (omega arith, omega arith)

-- an offset at some place of the history is not past the free one
free_step : (base : Counters) (h : List MultiEvent) (e : MultiEvent) → MultiMayCome base (InBase base) h e → free_offset base.offset h ≤ free_after (free_offset base.offset h) e
free_step base h (multis.Gen by multi offset members) rule = let first : offset ≡ first_member (free_offset base.offset h) = rule.first in let up = first_past (free_offset base.offset h) in omega arith
free_step base h _ rule = omega arith

free_more : (base : Counters) (h rest : List MultiEvent) → AreLegalMultis base (InBase base) (h ++ rest) → free_offset base.offset h ≤ free_offset base.offset (h ++ rest)
free_more base h = by_end (λ rest. AreLegalMultis base (InBase base) (h ++ rest) → free_offset base.offset h ≤ free_offset base.offset (h ++ rest))
    (λ legal. subst (λ t. free_offset base.offset h ≤ free_offset base.offset t) (sym (append-nil h)) (omega arith))
    (λ rest e before legal.
    let split : h ++ (rest ++ e ∷ []) ≡ (h ++ rest) ++ e ∷ [] = sym (append_assoc h rest (e ∷ [])) in
    let all : AreLegalMultis base (InBase base) ((h ++ rest) ++ e ∷ []) = subst (AreLegalMultis base (InBase base)) split legal in
    let low = before (each_place_start (MultiMayCome base (InBase base)) (h ++ rest) (e ∷ []) all) in
    let step = free_step base (h ++ rest) e (each_place_last (MultiMayCome base (InBase base)) (h ++ rest) e all) in
    let now : free_offset base.offset ((h ++ rest) ++ e ∷ []) ≡ free_after (free_offset base.offset (h ++ rest)) e = fold_push free_after base.offset (h ++ rest) e in
    subst (λ t. free_offset base.offset h ≤ free_offset base.offset t) (sym split) (omega arith))

free_rises : (start : Start) (lists more : List (List Entry)) (offset : ℕ) → IsBase start.base → EngineInvariant start more → Grows lists more → IsOffsetOf start lists offset → offset ≤ free_offset start.base.offset (multi_history more)
free_rises start lists more offset base k g is =
    let h = multi_history more in
    let split = take-append-drop is.1 h in
    let same = taken_begins (multi_history lists) h is.1 (multis_grow lists more g) is.2 in
    let to : offset ≤ free_offset start.base.offset (take is.1 h) = subst (λ (t : List MultiEvent). offset ≤ free_offset start.base.offset t) (sym same.1) is.3 in
    let up : free_offset start.base.offset (take is.1 h) ≤ free_offset start.base.offset h = subst (λ t. free_offset start.base.offset (take is.1 h) ≤ free_offset start.base.offset t) split (free_more start.base (take is.1 h) (drop is.1 h) (subst (AreLegalMultis start.base (InBase start.base)) (sym split) (multis_are_legal start more k))) in
    omega arith

pub offset_at_later : (start : Start) (lists more : List (List Entry)) (offset : ℕ) → IsBase start.base → EngineInvariant start more → Grows lists more → IsOffsetOf start lists offset → (start.base.oldest_offset ≤ offset) × (offset ≤ free_offset start.base.offset (multi_history more))
offset_at_later start lists more offset base k g is =
    let up = free_rises start lists more offset base k g is in
    let from = is.0 in
    let low = base.oldest_offset in
    (omega arith, up)

-- so the first of members that may be set
pub given_offset : (start : Start) (lists more : List (List Entry)) (offset : ℕ) (members : List Member) (by : By) → IsBase start.base → EngineInvariant start more → Grows lists more → 1 ≤ length members
    → ((k : ℕ) (member : Member) → slice_get members k ≡ Some member → SlotOf lists (record { caller = by; offset = offset + k; member = member })) → (start.base.offset ≤ offset) × (offset ≤ free_offset start.base.offset (multi_history more))
given_offset start lists more offset members by base k g some may = of_first members some may
  where
    of_slot : (member : Member) → SlotOf lists (record { caller = by; offset = offset + 0; member = member }) → (start.base.offset ≤ offset) × (offset ≤ free_offset start.base.offset (multi_history more))
    of_slot member s =
        let r = s.recorded in
        let there = contains_later lists more (multis.Gen r.by s.multi s.first s.members) g r.given in
        let o = (ordered start.base base (multi_history more) (multis_are_legal start more k)).given r.by s.multi s.first s.members (contains_has (multi_history more) (multis.Gen r.by s.multi s.first s.members) there) in
        let inside = place_within s.members (offset + 0 - s.first) member s.member in
        let behind = s.behind in
        let from = o.0 in
        let to = o.1 in
        (omega arith, omega arith)

    of_first : (members : List Member) → 1 ≤ length members → ((k : ℕ) (member : Member) → slice_get members k ≡ Some member → SlotOf lists (record { caller = by; offset = offset + k; member = member })) → (start.base.offset ≤ offset) × (offset ≤ free_offset start.base.offset (multi_history more))
    of_first [] some may = absurd (omega arith)
    of_first (member ∷ members) some may = of_slot member (may 0 member refl)

pub old_offset : (start : Start) (offset : ℕ) → IsBase start.base → start.base.offset ≤ offset → start.base.oldest_offset ≤ offset
old_offset start offset base from = let low = base.oldest_offset in omega arith

-- so many offsets that share a page lie on it one behind another, without a new lap
pub share_fits : (offset count low : ℕ) → low ≡ low_half offset → 1 ≤ count → SharePage offset count → (low % 1636 + count ≤ 1636) × (low + count ≤ 2 ^ 32)
share_fits offset count low is some share = of_last offset count low is some (share (count - 1) (omega arith))
  where
    of_last : (offset count low : ℕ) → low ≡ low_half offset → 1 ≤ count → member_page_in_full (offset + (count - 1)) ≡ member_page_in_full offset → (low % 1636 + count ≤ 1636) × (low + count ≤ 2 ^ 32)
    of_last offset count low is some same = (omega arith, omega arith)

-- ---- what was set stands

pub set_stands : (start : Start) (before after : List (List Entry)) (bank multi offset : ℕ) (by : By) (e : Entry) → e ≡ offset_entry by multi offset → offsets_lock_of start multi ≡ offsets_lock bank → at after (offsets_lock bank) ≡ at before (offsets_lock bank) ++ e ∷ [] → IsOffsetSet start after multi offset
set_stands start before after bank multi offset by e is here left =
    let set : SetOffset = record { caller = by; multi = multi; offset = offset } in
    let es : List Entry = at before (offsets_lock bank) in
    let grown : at after (offsets_lock bank) ≡ es ++ offset_entry by multi offset ∷ [] = left ∙ ap (λ (f : Entry). es ++ f ∷ []) is in (
      by,
      subst (λ z. Contains (flat_map offsets_in (at after z)) set) (sym here)
          (subst (λ (t : List Entry). Contains (flat_map offsets_in t) set) (sym grown)
          (has_contains (flat_map offsets_in (es ++ offset_entry by multi offset ∷ [])) set
          (subst (λ (t : List SetOffset). Has t set) (sym (flat_map-append offsets_in es (offset_entry by multi offset ∷ []))) (has_right (flat_map offsets_in es) (set ∷ []) set (inl refl))))),
    )

-- each member that is set is among what is set
set_has : (by : By) (offset : ℕ) (members : List Member) (k : ℕ) (member : Member) → slice_get members k ≡ Some member → Has (slots_in (slots_entry by offset members)) (record { caller = by; offset = offset + k; member = member })
set_has by offset [] k member e = absurd cc
set_has by offset (m ∷ ms) zero member e = inl (let same : m ≡ member = cc in let z : offset ≡ offset + 0 = omega arith in λ j. record { caller = by; offset = z j; member = same j })
set_has by offset (m ∷ ms) (suc k) member e = let z : offset + 1 + k ≡ offset + suc k = omega arith in inr (subst (λ x. Has (slots_in (slots_entry by (offset + 1) ms)) (record { caller = by; offset = x; member = member })) z (set_has by (offset + 1) ms k member e))

pub slots_stand : (start : Start) (before after : List (List Entry)) (bank offset : ℕ) (members : List Member) (by : By) (e : Entry) → e ≡ slots_entry by offset members → members_lock_of start offset ≡ members_lock bank → SharePage offset (length members) → at after (members_lock bank) ≡ at before (members_lock bank) ++ e ∷ []
    → (k : ℕ) (member : Member) → slice_get members k ≡ Some member → IsSlotSet start after (offset + k) member
slots_stand start before after bank offset members by e is here share left k member among =
    let slot : SetSlot = record { caller = by; offset = offset + k; member = member } in
    let es : List Entry = at before (members_lock bank) in
    let last : Entry = slots_entry by offset members in
    let grown : at after (members_lock bank) ≡ es ++ last ∷ [] = left ∙ ap (λ (f : Entry). es ++ f ∷ []) is in
    let one : Has (flat_map slots_in (last ∷ [])) slot = has_left (slots_in last) [] slot (set_has by offset members k member among) in (
      by,
      subst (λ z. Contains (flat_map slots_in (at after z)) slot) (sym (share_lock start offset (length members) k (members_lock bank) share (place_within members k member among) here))
          (subst (λ (t : List Entry). Contains (flat_map slots_in t) slot) (sym grown)
          (has_contains (flat_map slots_in (es ++ last ∷ [])) slot
          (subst (λ (t : List SetSlot). Has t slot) (sym (flat_map-append slots_in es (last ∷ []))) (has_right (flat_map slots_in es) (flat_map slots_in (last ∷ [])) slot one)))),
    )

-- a session that sets members asks for no state
pub no_asks : (by : By) (offset : ℕ) (members : List Member) → asks_in (slots_entry by offset members) ≡ []
no_asks by offset [] = refl
no_asks by offset (member ∷ members) = no_asks by (offset + 1) members
