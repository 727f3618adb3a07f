-- What the pages of offsets and members hold is what was set last of a number.
use Rattle.std.proofs.Common.{List, None, Option, Some, [], ap, arith, cond, eq-eqb, false, inl, inr, refl, ℕ, ◌+◌, ◌<◌, ◌==◌, ◌^◌, ◌∷◌, ◌≡◌}
use Rattle.std.proofs.lemmas.Bool.Decides.{nat_tests}
use Rattle.std.specs.List.{last_or}
use Rattle.tx_events.proofs.Membership.{Has}
use Rattle.tx_core.specs.declared.entry.Entry.{Entry}
use Rattle.tx_core.specs.declared.entry.Start.{Start}
use Rattle.tx_core.proofs.PageShowing.{ArePlaced, members_placed, of_number, offsets_placed, show_front, zero_sets_none}
use Rattle.tx_core.specs.EngineInvariant.{EngineInvariant}
use Rattle.notes.specs.Lists.{at}
use Rattle.tx_core.specs.MultiEntries.{SetOffset, SetSlot, offset_of, slot_of}
use Rattle.recoverable.specs.Bytes.{StoredBytes, byte_of, slot_bytes}
use Rattle.recoverable.specs.Stored.{MemberBytesShow, OffsetBytesShow, offset_bytes_for, slot_bytes_for, stored_members, stored_offsets}

-- an item that says something of a number is of that number
pub offset_at : (multi : ℕ) (v : StoredBytes) (set : SetOffset) → offset_bytes_for multi set ≡ Some v → (set.multi ≡ multi) × ((λ i. byte_of set.offset i) ≡ v)
offset_at multi v set e = of_number set.multi multi (λ i. byte_of set.offset i) v e

pub slot_at : (offset : ℕ) (v : StoredBytes) (slot : SetSlot) → slot_bytes_for offset slot ≡ Some v → (slot.offset ≡ offset) × ((λ i. slot_bytes slot.member i) ≡ v)
slot_at offset v slot e = of_number slot.offset offset (λ i. slot_bytes slot.member i) v e

pub offset_to : (multi : ℕ) (set : SetOffset) → set.multi ≡ multi → offset_bytes_for multi set ≡ Some (λ i. byte_of set.offset i)
offset_to multi set q = ap (λ b. cond b (Some (λ i. byte_of set.offset i)) None) (eq-eqb set.multi multi q)

pub slot_to : (offset : ℕ) (slot : SetSlot) → slot.offset ≡ offset → slot_bytes_for offset slot ≡ Some (λ i. slot_bytes slot.member i)
slot_to offset slot q = ap (λ b. cond b (Some (λ i. slot_bytes slot.member i)) None) (eq-eqb slot.offset offset q)

-- the first four bytes of a slot are those of its id
pub in_id : (i : ℕ) → i < 4 → (i == 4) ≡ false
in_id i lt = grind (arith, nat_tests)

module _ {A : Type 0} where
  -- the last of no items, and of items that are all one
  pub last_none : (o : Option A) (xs : List A) → ((y : A) → Has xs y → ⊥) → last_or o xs ≡ o
  last_none o [] never = refl
  last_none o (x ∷ xs) never = absurd (never x (inl refl))

  pub last_all : (o : Option A) (xs : List A) (v : A) → o ≡ Some v → ((y : A) → Has xs y → y ≡ v) → last_or o xs ≡ Some v
  last_all o [] v e each = e
  last_all o (x ∷ xs) v e each = last_all (Some x) xs v (ap (λ z. Some z) (each x (inl refl))) (λ y k. each y (inr k))

  pub last_some : (o : Option A) (xs : List A) (v : A) → Has xs v → ((y : A) → Has xs y → y ≡ v) → last_or o xs ≡ Some v
  last_some o [] v h each = absurd h
  last_some o (x ∷ xs) v h each = last_all (Some x) xs v (ap (λ z. Some z) (each x (inl refl))) (λ y k. each y (inr k))

stored_offsets_placed : (start : Start) (lists : List (List Entry)) (lock : ℕ) → EngineInvariant start lists → ArePlaced stored_offsets start.base.multi (at lists lock)
stored_offsets_placed start lists lock k p e set x v g h read =
    offsets_placed start lists lock k p e set x set.offset g h (ap (λ b. cond b (Some set.offset) None) (eq-eqb set.multi x (offset_at x v set read).0))

stored_members_placed : (start : Start) (lists : List (List Entry)) (lock : ℕ) → EngineInvariant start lists → ArePlaced stored_members start.base.offset (at lists lock)
stored_members_placed start lists lock k p e slot x v g h read =
    members_placed start lists lock k p e slot x slot.member g h (ap (λ b. cond b (Some slot.member) None) (eq-eqb slot.offset x (slot_at x v slot read).0))

pub offset_bytes_show : OffsetBytesShow
offset_bytes_show start lists shown lock n multi k is near =
    show_front stored_offsets start.base.multi shown (λ x. x < start.base.multi + 2 ^ 30)
    (record { clean = λ x close past. is x (omega arith) close; apart = λ e page g. zero_sets_none offset_of e page g })
    (at lists lock) (stored_offsets_placed start lists lock k) n multi near

pub member_bytes_show : MemberBytesShow
member_bytes_show start lists shown lock n offset k is near =
    show_front stored_members start.base.offset shown (λ x. x < start.base.offset + 2 ^ 30)
    (record { clean = λ x close past. is x past close; apart = λ e page g. zero_sets_none slot_of e page g })
    (at lists lock) (stored_members_placed start lists lock k) n offset near
