-- The slots that were read hold the members of the multixact, in order.
use Rattle.std.proofs.Common.{Contains, List, None, Option, Some, [], ap, arith, inl, inr, length, map, refl, subst, suc, sym, zero, ℕ, ⊎_elim, ◌++◌, ◌+◌, ◌∙◌, ◌∷◌, ◌≡◌, ◌≤◌, ◌⊎◌, append_assoc, length-append}
use Rattle.std.specs.Prelude.{MatchOption}
use Rattle.std.specs.List.{filter_map, slice_get}
use Rattle.notes.specs.Lists.{Grows}
use Rattle.tx_events.specs.Base.{IsBase}
use Rattle.tx_events.specs.Ids.{low_half}
use Rattle.tx_events.specs.Multis.{free_offset, oldest_multi, oldest_offset}
use Rattle.tx_events.specs.declared.event.By.{By}
use Rattle.tx_events.specs.declared.multi.Member.{Member}
use Rattle.tx_events.specs.declared.multi.MultiEvent.{MultiEvent}
use Rattle.tx_events.specs.declared.multi.MultiEvent.TheVariants as multis
use Rattle.tx_events.specs.declared.record.Rec.TheVariants as records
use Rattle.tx_events.proofs.Membership.{Has, contains_has, has_contains, has_left}
use Rattle.tx_core.specs.declared.entry.Entry.{Entry}
use Rattle.tx_core.specs.declared.entry.Start.{Start}
use Rattle.tx_core.specs.EngineInvariant.{EngineInvariant}
use Rattle.tx_core.specs.MultiEntries.{AreFewMultis, IsSlotSet, multi_history}
use Rattle.tx_core.proofs.Rising.{multis_grow}
use Rattle.bank_stores.specs.declared.slot.Slot.{Slot}
use Rattle.bank_stores.specs.declared.slot.Slot.TheVariants as found
use Rattle.multi_store.specs.declared.answers.Held.{Held}
use Rattle.multi_banks.specs.Members.{AreSlotsRead, HasMembersFrom, IsGap, IsRecordedMember, IsSlotRead}
use Rattle.multi_banks.specs.Offsets.{WasTold}
use Rattle.recoverable.proofs.Stretches.{get_inside}
use Rattle.xact_reads.specs.declared.spans.Ends.{Ends}
use Rattle.xact_reads.specs.Multis.{AreItsSlots, AreReadFrom, HasMembersIn, full_upto, pair_in, slots_between, stored_member}
use Rattle.xact_reads.proofs.Spanning.{Spanned}
use Rattle.xact_reads.proofs.Standings.{from_oldest, slot_later, whose_later}

-- ---- what was read by longer lists

from_later : (start : Start) (since lists : List (List Entry)) (first : ℕ) (members : List Member) → Grows since lists → HasMembersFrom start since first members → HasMembersFrom start lists first members
from_later start since lists first members g has = ⊎_elim
    (λ (w : (by : By) × (multi : ℕ) × Contains (multi_history since) (multis.Gen by multi first members)).
    let b = multis_grow since lists g in
    inl (w.0, w.1, has_contains (multi_history lists) _ (subst (λ (t : List MultiEvent). Has t (multis.Gen w.0 w.1 first members)) b.1 (has_left (multi_history since) b.0 _ (contains_has (multi_history since) _ w.2)))))
    inr
    has

slot_since : (start : Start) (since lists : List (List Entry)) (x : ℕ) (slot : Slot) → Grows since lists → IsSlotRead start lists x slot → IsSlotRead start since x slot
slot_since start since lists x slot g r = record {
  set = λ member s. r.set member (slot_later start since lists x member g s);
  recorded = r.recorded;
  gap = λ q. r.gap (record { low = q.low; first = q.first; members = q.members; before = from_later start since lists q.first q.members g q.before; end = q.end });
}

-- in a life that is of few later
pub slots_since : (start : Start) (since lists : List (List Entry)) (offset : ℕ) (slots : List Slot) → Grows since lists → AreFewMultis lists → AreSlotsRead start lists offset slots → AreSlotsRead start since offset slots
slots_since start since lists offset slots g few read before j slot is = slot_since start since lists (offset + j) slot g (read few j slot is)

pub read_since : (start : Start) (since lists : List (List Entry)) (offset count : ℕ) (old new : List Slot) → Grows since lists → AreFewMultis lists → AreReadFrom start lists offset count old new → AreReadFrom start since offset count old new
read_since start since lists offset count old new g few r = record { slots = r.slots; behind = r.behind; long = r.long; read = slots_since start since lists offset r.slots g few r.read }

-- ---- one page behind another

get_cases : (xs ys : List Slot) (j : ℕ) (slot : Slot) → slice_get (xs ++ ys) j ≡ Some slot → (slice_get xs j ≡ Some slot) ⊎ ((i : ℕ) × (j ≡ length xs + i) × (slice_get ys i ≡ Some slot))
get_cases [] ys j slot e = inr (j, (let z : j ≡ 0 + j = omega arith in z), e)
get_cases (x ∷ xs) ys zero slot e = inl e
get_cases (x ∷ xs) ys (suc j) slot e = ⊎_elim inl (λ (r : (i : ℕ) × (j ≡ length xs + i) × (slice_get ys i ≡ Some slot)). let q = r.1 in inr (r.0, (let z : suc j ≡ suc (length xs) + r.0 = omega (arith, q) in z), r.2)) (get_cases xs ys j slot e)

pub read_joined : (start : Start) (lists : List (List Entry)) (offset here count : ℕ) (old mid new : List Slot) → AreReadFrom start lists offset here old mid → AreReadFrom start lists (offset + here) count mid new → AreReadFrom start lists offset (here + count) old new
read_joined start lists offset here count old mid new a b = record {
  slots = a.slots ++ b.slots;
  behind = b.behind ∙ (ap (λ (t : List Slot). t ++ b.slots) a.behind ∙ append_assoc old a.slots b.slots);
  long = length-append a.slots b.slots ∙ (λ j. a.long j + b.long j);
  read = λ few j slot is. ⊎_elim
      (λ first. a.read few j slot first)
      (λ (r : (i : ℕ) × (j ≡ length a.slots + i) × (slice_get b.slots i ≡ Some slot)).
      let long = a.long in
      let at = r.1 in
      let same : offset + here + r.0 ≡ offset + j = omega (arith, long, at) in
      subst (λ z. IsSlotRead start lists z slot) same (b.read few r.0 slot r.2))
      (get_cases a.slots b.slots j slot is);
}

-- ---- the members

abbrev At : List Member → ℕ → Slot → Type 0
At members j slot = MatchOption (slice_get members j) (slot ≡ found.Unused) (λ (m : Member). slot ≡ found.Is (record { number = low_half m.id }) m.mode)

shown : (slots : List Slot) (members : List Member) → ((j : ℕ) (slot : Slot) → slice_get slots j ≡ Some slot → At members j slot) → (length slots ≡ length members) ⊎ (length slots ≡ length members + 1) → filter_map pair_in slots ≡ map stored_member members
shown [] [] each long = refl
shown [] (m ∷ members) each long = absurd (⊎_elim (λ q. omega (arith, q)) (λ q. omega (arith, q)) long)
shown (s ∷ []) [] each long = ap (λ (x : Slot). filter_map pair_in (x ∷ [])) (each 0 s refl)
shown (s ∷ t ∷ slots) [] each long = absurd (⊎_elim (λ q. omega (arith, q)) (λ q. omega (arith, q)) long)
shown (s ∷ slots) (m ∷ members) each long =
    let rest = shown slots members (λ j slot is. each (suc j) slot is) (⊎_elim (λ q. inl (omega (arith, q))) (λ q. inr (omega (arith, q))) long) in
    ap (λ (x : Slot). filter_map pair_in (x ∷ slots)) (each 0 s refl) ∙ ap (λ t. stored_member m ∷ t) rest

past_end : (members : List Member) (j : ℕ) → slice_get members j ≡ None → length members ≤ j
past_end [] j e = omega arith
past_end (m ∷ members) zero e = absurd cc
past_end (m ∷ members) (suc j) e = let up = past_end members j e in omega (arith, up)

pub its_slots : (start : Start) (since lists : List (List Entry)) (held : Held) (ends : Ends) (slots : List Slot) → Grows since lists → AreFewMultis since → (s : Spanned start since held ends) → length slots ≡ slots_between ends → AreSlotsRead start since s.offset slots → AreItsSlots start lists held.multi slots
its_slots start since lists held ends slots g few s long reads = record {
  members = s.members;
  has = has;
  full = s.stood.full;
  shown = shown slots s.members each (⊎_elim
      (λ q. inl (long ∙ q))
      (λ (q : (slots_between ends ≡ length s.members + 1) × IsGap start since (s.offset + length s.members)). inr (long ∙ q.0))
      s.counts);
  most = s.stood.fit.most;
}
  where
    has : HasMembersIn start lists held.multi s.members
    has = ⊎_elim
        (λ (w : (by : By) × Has (multi_history lists) (multis.Gen by held.multi s.offset s.members)). inl (w.0, s.offset, has_contains (multi_history lists) _ w.1))
        (λ (c : Contains start.recorded (records.Multi held.multi s.offset s.members)). inr (s.offset, c))
        (whose_later start since lists held.multi s.offset s.members g s.stood.whose)

    each : (j : ℕ) (slot : Slot) → slice_get slots j ≡ Some slot → At s.members j slot
    each j slot is = by_get (slice_get s.members j) refl
      where
        read : IsSlotRead start since (s.offset + j) slot
        read = reads few j slot is

        by_get : (o : Option Member) → slice_get s.members j ≡ o → MatchOption o (slot ≡ found.Unused) (λ (m : Member). slot ≡ found.Is (record { number = low_half m.id }) m.mode)
        by_get (Some m) q = ⊎_elim
            (λ (set : IsSlotSet start since (s.offset + j) m). read.set m set)
            (λ (old : IsRecordedMember start (s.offset + j) m). read.recorded m old)
            (s.stood.each j m q)
        by_get None q =
            let past = past_end s.members j q in
            let inside = get_inside slots j slot is in
            ⊎_elim
            (λ (c : slots_between ends ≡ length s.members). absurd (omega (arith, c, past, inside, long)))
            (λ (c : (slots_between ends ≡ length s.members + 1) × IsGap start since (s.offset + length s.members)).
            let count = c.0 in
            let at : j ≡ length s.members = omega (arith, count, past, inside, long) in
            read.gap (subst (λ z. IsGap start since (s.offset + z)) (sym at) c.1))
            s.counts

-- a multixact has a member
pub none_between : (start : Start) (lists : List (List Entry)) (held : Held) (ends : Ends) → Spanned start lists held ends → slots_between ends ≡ 0 → ⊥
none_between start lists held ends s nothing =
    let some = s.stood.fit.some in
    ⊎_elim
    (λ (c : slots_between ends ≡ length s.members). omega (arith, some, c, nothing))
    (λ (c : (slots_between ends ≡ length s.members + 1) × IsGap start lists (s.offset + length s.members)). let q = c.0 in omega (arith, q, nothing))
    s.counts

-- the slots that were read from the offset on are its members'
pub gathered : (start : Start) (since lists : List (List Entry)) → EngineInvariant start lists → IsBase start.base → (held : Held) (ends : Ends) (offset count : ℕ) (old new : List Slot) → Grows since lists → AreFewMultis since → WasTold start → (s : Spanned start since held ends) → oldest_multi start.base.oldest_multi (multi_history lists) ≤ held.multi
    → old ≡ [] → offset ≡ full_upto held.end ends.begin → count ≡ slots_between ends
    → (oldest_offset start.base.oldest_offset (multi_history lists) ≤ offset → offset + count ≤ free_offset start.base.offset (multi_history since) → AreReadFrom start since offset count old new) → AreItsSlots start lists held.multi new
gathered start since lists k base held ends offset count old new g few t s later none at many read =
    let same : offset ≡ s.offset = at ∙ s.full in
    let from = from_oldest start lists k base held.multi s.offset s.members t (whose_later start since lists held.multi s.offset s.members g s.stood.whose) later in
    let to = s.to in
    let r = read (omega (arith, from, same)) (omega (arith, to, same, many)) in
    let all : new ≡ r.slots = r.behind ∙ ap (λ (z : List Slot). z ++ r.slots) none in
    subst (AreItsSlots start lists held.multi) (sym all)
    (its_slots start since lists held ends r.slots g few s (r.long ∙ many) (subst (λ z. AreSlotsRead start since z r.slots) same r.read))

-- what they are they stay
pub its_later : (start : Start) (lists more : List (List Entry)) (multi : ℕ) (slots : List Slot) → Grows lists more → AreItsSlots start lists multi slots → AreItsSlots start more multi slots
its_later start lists more multi slots g i = record {
  members = i.members;
  has = ⊎_elim
      (λ (w : (by : By) × (offset : ℕ) × Contains (multi_history lists) (multis.Gen by multi offset i.members)).
      let b = multis_grow lists more g in
      inl (w.0, w.1, has_contains (multi_history more) _ (subst (λ (t : List MultiEvent). Has t (multis.Gen w.0 multi w.1 i.members)) b.1 (has_left (multi_history lists) b.0 _ (contains_has (multi_history lists) _ w.2)))))
      inr
      i.has;
  full = i.full;
  shown = i.shown;
  most = i.most;
}
