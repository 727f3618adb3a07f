-- Members of a multixact that a session recorded, and its offset: they may be set, and stand then.
use Rattle.std.proofs.Common.{◌≡◌, ⊎_elim, inl, inr, ℕ, ◌+◌, ◌-◌, ◌<◌, ◌≤◌, ◌%◌, ◌^◌, List, [], ◌∷◌, Some, length, take, true, refl, sym, ap, subst, ◌∙◌, arith}
use Rattle.std.specs.List.{flat_map, slice_get, slice_range}
use Rattle.notes.specs.Lists.{Grows, at}
use Rattle.tx_events.specs.Base.{IsBase}
use Rattle.tx_events.specs.Ids.{low_half}
use Rattle.tx_events.specs.Limits.{member_stop}
use Rattle.tx_events.specs.Multis.{AreLegalMultis, InBase, IsNextMade, MultiMayCome, free_offset, oldest_offset}
use Rattle.tx_events.specs.declared.event.By.{By}
use Rattle.tx_events.specs.declared.multi.Member.{Member}
use Rattle.tx_events.specs.declared.multi.MultiEvent.{MultiEvent}
use Rattle.tx_events.specs.declared.multi.MultiEvent.TheVariants as multis
use Rattle.tx_events.specs.declared.record.Rec.TheVariants as records
use Rattle.tx_events.specs.PageOrder.{Offsets, is_cut}
use Rattle.tx_core.specs.declared.entry.Entry.{Entry}
use Rattle.tx_core.specs.declared.entry.Kind.TheVariants as kinds
use Rattle.tx_core.specs.declared.entry.Start.{Start}
use Rattle.tx_core.specs.CutsFollow.{IsMemberGone, IsOffsetGone}
use Rattle.tx_core.specs.EngineInvariant.{EngineInvariant}
use Rattle.tx_core.specs.Entries.{Stands}
use Rattle.tx_core.specs.Locks.{member_page, member_page_in_full, members_lock, members_lock_of, offset_page, offsets_lock, offsets_lock_of}
use Rattle.tx_core.specs.MembersBeforeOffset.{IsRecorded, OffsetOf, SlotOf}
use Rattle.tx_core.specs.MultiEntries.{IsSlotSet, multi_history, slots_in}
use Rattle.tx_core.specs.OwnMultis.{IsSlotDone}
use Rattle.tx_core.specs.PagesBeforeIds.{IsMultiOf, IsOffsetOf, WasMade}
use Rattle.tx_core.proofs.Growing.{begins_flat_map, contains_begins}
use Rattle.tx_core.proofs.Lasting.{appended_grows}
use Rattle.tx_core.proofs.MultiGiven.{gen_below}
use Rattle.tx_core.proofs.Nearness.{multis_are_legal}
use Rattle.tx_core.proofs.Rising.{multis_grow}
use Rattle.tx_events.proofs.ListSteps.{le_or_over}
use Rattle.tx_events.proofs.Membership.{Has, by_end, contains_has}
use Rattle.tx_events.proofs.PlaceLemmas.{each_place_last, each_place_start}
use Rattle.tx_events.specs.declared.record.Counters.{Counters}
use Rattle.tx_core.proofs.MultiOrder.{last_cases}
use Rattle.recoverable.proofs.Offsets.{given_from}
use Rattle.multi_banks.specs.Members.{SharePage}
use Rattle.multi_banks.proofs.Adding.{place_within, share_lock, share_stored}
use Rattle.multi_banks.proofs.Later.{given_offset, grows_same}
use Rattle.multi_makes.proofs.Slicing.{get_range, range_get}
use Rattle.multi_makes.specs.Pending.{AreSlotsDone}
use Rattle.multi_makes.specs.Slots.{AreRecordedAt, HasBegun, IsOffsetPageMade, IsPageMade, MayBegin}

-- ---- locks

-- the bank that is asked is that of the member's page
pub members_here : (start : Start) (offset bank banks : ℕ) → bank ≡ member_page (low_half offset) % banks → banks ≡ start.banks → members_lock_of start offset ≡ members_lock bank
members_here start offset bank banks is same = sym (ap members_lock (is ∙ ap (λ z. member_page (low_half offset) % z) same))

pub offsets_here : (start : Start) (multi bank banks : ℕ) → bank ≡ offset_page (low_half multi) % banks → banks ≡ start.banks → offsets_lock_of start multi ≡ offsets_lock bank
offsets_here start multi bank banks is same = sym (ap offsets_lock (is ∙ ap (λ z. offset_page (low_half multi) % z) same))

-- ---- while others go on

pub recorded_later : (lists more : List (List Entry)) (n multi first : ℕ) (all : List Member) → Grows lists more → IsRecorded lists n multi first all → IsRecorded more n multi first all
recorded_later lists more n multi first all g r = record {
  by = r.by;
  own = r.own;
  given = contains_begins (multi_history lists) (multi_history more) _ (multis_grow lists more g) r.given;
  appended = appended_grows lists more n (records.Multi multi first all) g r.appended;
}

pub parts_later : (lists more : List (List Entry)) (n offset : ℕ) (members : List Member) → Grows lists more → AreRecordedAt lists n offset members → AreRecordedAt more n offset members
parts_later lists more n offset members g r = record {
  multi = r.multi;
  first = r.first;
  all = r.all;
  recorded = recorded_later lists more n r.multi r.first r.all g r.recorded;
  skip = r.skip;
  behind = r.behind;
  among = r.among;
}

slot_later : (start : Start) (lists more : List (List Entry)) (offset : ℕ) (member : Member) → Grows lists more → IsSlotDone start lists offset member → IsSlotDone start more offset member
slot_later start lists more offset member g done =
    let lock = members_lock_of start offset in
    ⊎_elim
    (λ (s : IsSlotSet start lists offset member). inl (s.0, contains_begins (flat_map slots_in (at lists lock)) (flat_map slots_in (at more lock)) _ (begins_flat_map slots_in (at lists lock) (at more lock) (g.begins lock)) s.1))
    (λ (c : IsMemberGone (at lists lock) offset). inr (c.0, c.1, contains_begins (at lists lock) (at more lock) _ (g.begins lock) c.2, c.3, c.4))
    done

pub slots_later : (start : Start) (lists more : List (List Entry)) (offset : ℕ) (members : List Member) → Grows lists more → AreSlotsDone start lists offset members → AreSlotsDone start more offset members
slots_later start lists more offset members g done k member among = slot_later start lists more (offset + k) member g (done k member among)

-- the first ones and then those behind them
abbrev pub AreDoneUpto : Start → List (List Entry) → ℕ → List Member → ℕ → Type 0
AreDoneUpto start lists offset members upto = (k : ℕ) (member : Member) → k < upto → slice_get members k ≡ Some member → IsSlotDone start lists (offset + k) member

pub upto_later : (start : Start) (lists more : List (List Entry)) (offset : ℕ) (members : List Member) (upto : ℕ) → Grows lists more → AreDoneUpto start lists offset members upto → AreDoneUpto start more offset members upto
upto_later start lists more offset members upto g done k member lt among = slot_later start lists more (offset + k) member g (done k member lt among)

-- ---- members

pub slot_of_part : (lists : List (List Entry)) (n offset : ℕ) (members : List Member) (by : By) → by.session ≡ n → AreRecordedAt lists n offset members
    → (k : ℕ) (member : Member) → slice_get members k ≡ Some member → SlotOf lists (record { caller = by; offset = offset + k; member = member })
slot_of_part lists n offset members by own r k member among =
    let b = r.behind in
    let place : r.skip + k ≡ offset + k - r.first = omega arith in
    record {
      multi = r.multi;
      first = r.first;
      members = r.all;
      recorded = subst (λ z. IsRecorded lists z r.multi r.first r.all) (sym own) r.recorded;
      behind = omega arith;
      member = subst (λ z. slice_get r.all z ≡ Some member) place (r.among k member among);
    }

-- the page of the first one is wanted
pub part_wanted : (start : Start) (lists : List (List Entry)) (n offset : ℕ) (members : List Member) (by : By) → by.session ≡ n → IsBase start.base → EngineInvariant start lists → 1 ≤ length members → AreRecordedAt lists n offset members → IsOffsetOf start lists offset
part_wanted start lists n offset members by own base k some r =
    let h = multi_history lists in
    let o = given_offset start lists lists offset members by base k (grows_same lists) some (slot_of_part lists n offset members by own r) in
    (o.0, length h, omega arith, subst (λ (t : List MultiEvent). offset ≤ free_offset start.base.offset t) (sym (take_all h)) o.1)
  where
    take_all : (h : List MultiEvent) → take (length h) h ≡ h
    take_all [] = refl
    take_all (x ∷ h) = ap (λ (t : List MultiEvent). x ∷ t) (take_all h)

pub page_stands : (start : Start) (lists : List (List Entry)) (offset bank : ℕ) → members_lock_of start offset ≡ members_lock bank → Stands lists (members_lock bank) (kinds.Zero (member_page_in_full offset)) → IsPageMade start lists offset
page_stands start lists offset bank here s = inr (subst (λ z. Stands lists z (kinds.Zero (member_page_in_full offset))) (sym here) s)

pub page_at : (start : Start) (lists : List (List Entry)) (offset bank : ℕ) → members_lock_of start offset ≡ members_lock bank → IsPageMade start lists offset → WasMade (at lists (members_lock bank)) (member_page_in_full start.base.offset) (member_page_in_full offset)
page_at start lists offset bank here made = subst (λ z. WasMade (at lists z) (member_page_in_full start.base.offset) (member_page_in_full offset)) here made

-- where the page of the first was cut, so was that of all that share it
pub slots_gone : (start : Start) (lists : List (List Entry)) (offset bank : ℕ) (members : List Member) → members_lock_of start offset ≡ members_lock bank → SharePage offset (length members) → IsMemberGone (at lists (members_lock bank)) offset → AreSlotsDone start lists offset members
slots_gone start lists offset bank members here share gone k member among =
    let within = place_within members k member among in
    let lock = share_lock start offset (length members) k (members_lock bank) share within here in
    let page = share_stored offset (length members) k share within in
    inr (subst (λ z. IsMemberGone (at lists z) (offset + k)) (sym lock)
    (gone.0, gone.1, gone.2, gone.3, subst (λ z. is_cut Offsets 1636 (gone.1 % 2625286) z ≡ true) (sym page) gone.4))

-- ---- the offset

pub offset_may : (start : Start) (lists : List (List Entry)) (n multi offset : ℕ) (by : By) → by.session ≡ n → MayBegin start lists n multi offset → OffsetOf start lists (record { caller = by; multi = multi; offset = offset })
offset_may start lists n multi offset by own m = record {
  members = m.members;
  recorded = subst (λ z. IsRecorded lists z multi offset m.members) (sym own) m.recorded;
  each = m.slots;
}

pub begin_later : (start : Start) (lists more : List (List Entry)) (n multi offset : ℕ) → Grows lists more → MayBegin start lists n multi offset → MayBegin start more n multi offset
begin_later start lists more n multi offset g m = record {
  members = m.members;
  recorded = recorded_later lists more n multi offset m.members g m.recorded;
  slots = slots_later start lists more offset m.members g m.slots;
}

pub multi_wanted : (start : Start) (lists : List (List Entry)) (n multi offset : ℕ) → EngineInvariant start lists → MayBegin start lists n multi offset → IsMultiOf start lists multi
multi_wanted start lists n multi offset k m =
    let r = m.recorded in
    let from = given_from start lists r.by multi offset m.members k r.given in
    let below = gen_below start.base r.by multi offset m.members (multi_history lists) (multis_are_legal start lists k) (contains_has (multi_history lists) (multis.Gen r.by multi offset m.members) r.given) in
    (from, omega arith)

pub offset_page_stands : (start : Start) (lists : List (List Entry)) (multi bank : ℕ) → offsets_lock_of start multi ≡ offsets_lock bank → Stands lists (offsets_lock bank) (kinds.Zero (offset_page multi)) → IsOffsetPageMade start lists multi
offset_page_stands start lists multi bank here s = inr (subst (λ z. Stands lists z (kinds.Zero (offset_page multi))) (sym here) s)

pub offset_page_at : (start : Start) (lists : List (List Entry)) (multi bank : ℕ) → offsets_lock_of start multi ≡ offsets_lock bank → IsOffsetPageMade start lists multi → WasMade (at lists (offsets_lock bank)) (offset_page start.base.multi) (offset_page multi)
offset_page_at start lists multi bank here made = subst (λ z. WasMade (at lists z) (offset_page start.base.multi) (offset_page multi)) here made

pub begin_gone : (start : Start) (lists more : List (List Entry)) (multi offset bank : ℕ) → offsets_lock_of start multi ≡ offsets_lock bank → Grows lists more → IsOffsetGone (at lists (offsets_lock bank)) multi → HasBegun start more multi offset
begin_gone start lists more multi offset bank here g c =
    inr (subst (λ z. IsOffsetGone (at more z) multi) (sym here) (c.0, c.1, contains_begins (at lists (offsets_lock bank)) (at more (offsets_lock bank)) _ (g.begins (offsets_lock bank)) c.2, c.3, c.4))

-- ---- parts

-- a part of them stands behind its first one
pub part_of : (lists : List (List Entry)) (n offset : ℕ) (members : List Member) (a b : ℕ) → AreRecordedAt lists n offset members → AreRecordedAt lists n (offset + a) (slice_range members a b)
part_of lists n offset members a b r =
    let behind = r.behind in
    record {
      multi = r.multi;
      first = r.first;
      all = r.all;
      recorded = r.recorded;
      skip = r.skip + a;
      behind = omega arith;
      among = λ k member q.
          let place : r.skip + (a + k) ≡ r.skip + a + k = omega arith in
          subst (λ z. slice_get r.all z ≡ Some member) place (r.among (a + k) member (range_get members a b k member q).1);
    }

-- all of them are a part
pub whole_part : (lists : List (List Entry)) (n multi offset : ℕ) (members : List Member) → IsRecorded lists n multi offset members → AreRecordedAt lists n offset members
whole_part lists n multi offset members r = record {
  multi = multi;
  first = offset;
  all = members;
  recorded = r;
  skip = 0;
  behind = omega arith;
  among = λ k member q. let place : k ≡ 0 + k = omega arith in subst (λ z. slice_get members z ≡ Some member) place q;
}

-- a part more is done
pub upto_more : (start : Start) (lists : List (List Entry)) (offset : ℕ) (members : List Member) (a b : ℕ) → AreDoneUpto start lists offset members a → AreSlotsDone start lists (offset + a) (slice_range members a b) → AreDoneUpto start lists offset members b
upto_more start lists offset members a b first part k member lt among =
    ⊎_elim
    (λ (le : a ≤ k).
    let j : a + (k - a) ≡ k = omega arith in
    let there : offset + a + (k - a) ≡ offset + k = omega arith in
    subst (λ z. IsSlotDone start lists z member) there (part (k - a) member (get_range members a b (k - a) member (omega arith) (subst (λ z. slice_get members z ≡ Some member) (sym j) among))))
    (λ (l : k < a). first k member l among)
    (le_or_over a k)

pub all_done : (start : Start) (lists : List (List Entry)) (offset : ℕ) (members : List Member) (upto : ℕ) → length members ≤ upto → AreDoneUpto start lists offset members upto → AreSlotsDone start lists offset members
all_done start lists offset members upto le done k member among = let within = place_within members k member among in done k member (omega arith) among

-- members that were given end below 2^63
pub ends_below : (base : Counters) (h : List MultiEvent) → AreLegalMultis base (InBase base) h → (by : By) (multi offset : ℕ) (members : List Member) → Has h (multis.Gen by multi offset members) → offset + length members < 2 ^ 63
ends_below base = by_end (λ h. AreLegalMultis base (InBase base) h → (by : By) (multi offset : ℕ) (members : List Member) → Has h (multis.Gen by multi offset members) → offset + length members < 2 ^ 63)
    (λ legal by multi offset members k. absurd k)
    (λ h e before legal by multi offset members k.
    ⊎_elim
    (λ old. before (each_place_start (MultiMayCome base (InBase base)) h (e ∷ []) legal) by multi offset members old)
    (λ (new : e ≡ multis.Gen by multi offset members).
    let rule : IsNextMade base h multi offset members = subst (MultiMayCome base (InBase base) h) new (each_place_last (MultiMayCome base (InBase base)) h e legal) in
    let stop = below (oldest_offset base.oldest_offset h) in
    let end = rule.below_member_stop in
    omega arith)
    (last_cases h e (multis.Gen by multi offset members) k))
  where
    below : (o : ℕ) → member_stop o ≤ 2 ^ 63 - 1
    below o = omega arith

pub recorded_below : (start : Start) (lists : List (List Entry)) (n multi offset : ℕ) (members : List Member) → EngineInvariant start lists → IsRecorded lists n multi offset members → offset + length members < 2 ^ 64
recorded_below start lists n multi offset members k r =
    let b = ends_below start.base (multi_history lists) (multis_are_legal start lists k) r.by multi offset members (contains_has (multi_history lists) (multis.Gen r.by multi offset members) r.given) in
    omega arith
