-- A stored id that was asked for is one of a slot, and so of a member.
use Rattle.std.proofs.Common.{◌≡◌, ◌⊎◌, ◌<◌, ◌∙◌, ℕ, List, [], ◌∷◌, Contains, Ok, ap, inl, inr, length, map, refl, slice_index_or, subst, sym, ⊎_elim}
use Rattle.std.proofs.lemmas.List.Elements.{Contains-get_or, Contains-push, Contains-push_cases}
use Rattle.std.specs.List.{filter_map}
use Rattle.notes.specs.Lists.{Grows}
use Rattle.tx_events.specs.declared.event.By.{By}
use Rattle.tx_events.specs.declared.multi.Member.{Member}
use Rattle.tx_events.specs.declared.multi.Mode.{Mode}
use Rattle.tx_events.specs.declared.order.Xid.{Xid}
use Rattle.tx_events.specs.Ids.{low_half}
use Rattle.tx_events.proofs.Membership.{Has, contains_has, has_contains}
use Rattle.tx_model.specs.declared.command.Pair.{Pair}
use Rattle.tx_core.specs.declared.entry.Entry.{Entry}
use Rattle.tx_core.specs.declared.entry.Start.{Start}
use Rattle.bank_stores.specs.declared.slot.Slot.{Slot}
use Rattle.bank_stores.specs.declared.slot.Slot.TheVariants as found
use Rattle.multi_banks.proofs.Seeing.{filter_map_has}
use Rattle.session_levels.specs.declared.session.Session as plain
use Rattle.engine_parts.specs.declared.session.Session.{Session}
use Rattle.engine_parts.specs.Holds.{Knowledge}
use Rattle.engine_parts.specs.Sessions.{by_at}
use Rattle.engine_parts.specs.Steps.{WentMulti}
use Rattle.xact_reads.specs.Apart.{ApartOrMet, StaysApart}
use Rattle.xact_reads.specs.Multis.{AreItsSlots, IsAskedMember, IsStoredIn, PinsOnce, ReadsMulti, pair_in, stored_member}
use Rattle.xact_reads.proofs.Aparting.{counted_met, met_wider}
use Rattle.xact_reads.proofs.Gathering.{its_later}
use Rattle.xact_reads.proofs.MultiReplying.{once_later}
use Rattle.xact_reads.proofs.Once.{few_multis_before}

-- the slot that is judged has the stored id that it tells
pub stored_here : (slot : Slot) (id : Xid) (mode : Mode) → slot ≡ found.Is id mode → (x : ℕ) → x ≡ id.number → IsStoredIn (slot ∷ []) x
stored_here slot id mode is x number = subst (λ z. IsStoredIn (slot ∷ []) z) (sym number) (id, mode, refl, subst (Contains (slot ∷ [])) is (Contains-push [] slot))

-- and so one of the slots has it
pub stored_at : (slots : List Slot) (place : ℕ) (d : Slot) → place < length slots → (x : ℕ) → IsStoredIn (slice_index_or slots place d ∷ []) x → IsStoredIn slots x
stored_at slots place d inside x s = (s.0, s.1, s.2, subst (Contains slots) (last (Contains-push_cases [] (slice_index_or slots place d) (found.Is s.0 s.1) s.3)) (Contains-get_or slots place d inside))
  where
    last : Contains [] (found.Is s.0 s.1) ⊎ (slice_index_or slots place d ≡ found.Is s.0 s.1) → slice_index_or slots place d ≡ found.Is s.0 s.1
    last has = ⊎_elim (λ (none : Contains [] (found.Is s.0 s.1)). absurd (contains_has [] _ none)) (λ e. e) has

-- the stored id is that of one of these members
stored_of : (members : List Member) (pair : Pair) → Has (map stored_member members) pair → (member : Member) × Has members member × (stored_member member ≡ pair)
stored_of [] pair h = absurd h
stored_of (m ∷ ms) pair h = ⊎_elim
    (λ (e : stored_member m ≡ pair). (m, inl refl, e))
    (λ (t : Has (map stored_member ms) pair). let one = stored_of ms pair t in (one.0, inr one.1, one.2))
    h

member_of : (slots : List Slot) (members : List Member) → filter_map pair_in slots ≡ map stored_member members → (x : ℕ) → IsStoredIn slots x → (member : Member) × Contains members member × (low_half member.id ≡ x)
member_of slots members shown x s =
    let pair : Pair = record { x = s.0; mode = s.1 } in
    let has : Has (filter_map pair_in slots) pair = filter_map_has pair_in slots (found.Is s.0 s.1) pair (contains_has slots _ s.3) refl in
    let one = stored_of members pair (subst (λ (t : List Pair). Has t pair) shown has) in
    (one.0, has_contains members one.0 one.1, ap (λ (p : Pair). p.x.number) one.2 ∙ s.2)

-- the slots that were read are those of the multixact's members
pub asked_member : (start : Start) (told : Type 0) (n : ℕ) (s : Session) (m : ℕ) (lists mid more : List (List Entry)) (slots : List Slot) → Grows mid more → ReadsMulti start told n s m lists mid slots (Ok (tt {0})) → WentMulti n [] mid more
    → (x : ℕ) → IsStoredIn slots x → IsAskedMember start told (by_at n s.levels.commands) m more x
asked_member start told n s m lists mid more slots g reads went x stored so few =
    let p : PinsOnce start n s m lists more reads.0 = once_later start n s m lists mid more reads.0 reads.1 went in
    let its : AreItsSlots start more reads.0 slots = its_later start mid more reads.0 slots g (reads.2 so (few_multis_before mid more g few)) in
    let one = member_of slots its.members its.shown x stored in record {
      multi = reads.0;
      place = p.place;
      pin = p.stands;
      near = p.near;
      members = its.members;
      has = its.has;
      member = one.0;
      one = one.1;
      stored = one.2;
    }

-- so a cut page that was met then was met for one of them
pub met_asked : (start : Start) (told : Type 0) (n m' k : ℕ) (s mid : Session) (name : List ℕ) (m : ℕ) (v u a b : Knowledge) (commands : ℕ) (levels : plain.Session) (slots : List Slot) → u ≡ v → m' ≡ n → k ≡ m' → mid ≡ s → s.levels ≡ record levels { commands = commands }
    → ReadsMulti start told m' s m u.seen a.seen slots (Ok (tt {0})) → WentMulti m' [] a.seen b.seen → StaysApart m' u.seen a.seen → ApartOrMet start (by_at k mid.levels.commands) mid.levels name (IsStoredIn slots) a.seen b.seen
    → ApartOrMet start (by_at n commands) levels name (IsAskedMember start told (by_at n commands) m b.seen) v.seen b.seen
met_asked start told n m' k s mid name m v u a b commands levels slots pass number kept same is reads went apart met =
    let by : By = by_at n commands in
    let own : by_at m' s.levels.commands ≡ by = λ j. by_at (number j) (is j).commands in
    let wider : (x : ℕ) → IsStoredIn slots x → IsAskedMember start told by m b.seen x = λ x stored.
    subst (λ (z : By). IsAskedMember start told z m b.seen x) own (asked_member start told m' s m u.seen a.seen b.seen slots went.grows reads went x stored) in
    counted_met start n m' k mid name (IsAskedMember start told by m b.seen) v u a b commands levels pass number kept (ap (λ (z : Session). z.levels) same ∙ is) reads.1.went.grows apart
    (met_wider start (by_at k mid.levels.commands) mid.levels name (IsStoredIn slots) (IsAskedMember start told by m b.seen) a.seen b.seen wider met)
