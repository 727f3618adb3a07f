-- An offset that was read of a bank is the one that stands.
use Rattle.std.proofs.Common.{◌≡◌, ◌≢◌, ⊎_elim, inl, inr, ℕ, ◌+◌, ◌*◌, ◌%◌, ◌^◌, ◌≤◌, ◌<◌, ◌==◌, Bool, true, false, cond, IsTrue, List, [], ◌∷◌, Option, None, Some, Contains, length, refl, sym, ap, subst, ◌∙◌, arith, eqb-true, eq-eqb}
use Rattle.std.proofs.Math.Seq.{take-length}
use Rattle.std.proofs.lemmas.Bool.{false≢true}
use Rattle.std.specs.List.{filter_map, flat_map, last_or}
use Rattle.disk_core.specs.declared.page_disk.PageDisk as disks
use Rattle.notes.specs.Lists.{at}
use Rattle.store_pages.specs.declared.page_rule.PageRule as rules
use Rattle.store_pages.specs.Layouts.{number_in, word_page_of, word_place_of}
use Rattle.slru_bank.specs.declared.bank.SlruBank.{SlruBank}
use Rattle.slru_bank.specs.Calls.{pages_of}
use Rattle.bank_stores.specs.Offsets.{offset_of}
use Rattle.tx_events.proofs.ListSteps.{le_or_over}
use Rattle.tx_events.proofs.Membership.{Has, all_at, contains_has, has_contains, has_filter_map, has_flat_map}
use Rattle.tx_events.specs.Base.{IsBase}
use Rattle.tx_events.specs.Ids.{IsFullMulti, low_half}
use Rattle.tx_events.specs.Multis.{next_made, oldest_multi}
use Rattle.tx_events.specs.declared.multi.Member.{Member}
use Rattle.tx_events.specs.declared.multi.MultiEvent.TheVariants as multis
use Rattle.tx_events.specs.declared.record.Rec.TheVariants as records
use Rattle.tx_core.specs.declared.entry.Entry.{Entry}
use Rattle.tx_core.specs.declared.entry.Start.{Start}
use Rattle.tx_core.specs.CleanMultis.{CleanOffsets}
use Rattle.tx_core.specs.EngineInvariant.{EngineInvariant}
use Rattle.tx_core.specs.Locks.{offset_page, offsets_lock, offsets_lock_of}
use Rattle.tx_core.specs.MembersBeforeOffset.{NeedsOffsets, OffsetOf}
use Rattle.tx_core.specs.MultiEntries.{AreFewMultis, IsOffsetSet, SetOffset, multi_history, offsets_in}
use Rattle.tx_core.specs.Pages.{offset_store, pages_after}
use Rattle.tx_core.specs.StoredBytes.{StoredBytes, byte_held, byte_of, offset_bytes_for, stored_offsets}
use Rattle.tx_core.proofs.Asking.{upheld_has}
use Rattle.tx_core.proofs.MultiGiven.{gen_below, one_offset}
use Rattle.tx_core.proofs.MultiOrder.{ordered}
use Rattle.tx_core.proofs.Nearness.{made_near, multis_are_legal}
use Rattle.tx_core.proofs.Rising.{made_more}
use Rattle.recoverable.proofs.BytesShow.{last_some, offset_at, offset_bytes_show, offset_to}
use Rattle.engine_parts.specs.Parts.{IsOffsetsOf}
use Rattle.engine_parts.specs.Shelf.{ArePagesNear, IsReadNow, shows_on}
use Rattle.engine_parts.specs.Shelves.{offset_shelf, word_held}
use Rattle.engine_parts.proofs.OffsetShelf.{word_made}
use Rattle.multi_banks.specs.Offsets.{HasNoOffset, HasOffset, IsOffsetFound, IsOffsetRead, WasTold}
use Rattle.multi_banks.proofs.Coursing.{same_last}
use Rattle.multi_banks.proofs.Seeing.{filter_map_has, recorded_or_not}
use Rattle.multi_banks.proofs.Uncut.{offset_held}

-- a number is made of the four bytes that are held of it
word_bytes : (o : Option StoredBytes) → word_held o ≡ byte_held o 0 + 256 * (byte_held o 1 + 256 * (byte_held o 2 + 256 * byte_held o 3))
word_bytes None = refl
word_bytes (Some b) = refl

pub word_of_bytes : (o : Option StoredBytes) (n : ℕ) → ((i : ℕ) → i < 4 → byte_held o i ≡ byte_of n i) → word_held o ≡ low_half n
word_of_bytes o n each =
    let b0 = each 0 (omega arith) in
    let b1 = each 1 (omega arith) in
    let b2 = each 2 (omega arith) in
    let b3 = each 3 (omega arith) in
    word_bytes o ∙ ((λ j. b0 j + 256 * (b1 j + 256 * (b2 j + 256 * b3 j))) ∙ sym (word_made n))

pub word_zero : (o : Option StoredBytes) → ((i : ℕ) → i < 4 → byte_held o i ≡ 0) → word_held o ≡ 0
word_zero o each =
    let b0 = each 0 (omega arith) in
    let b1 = each 1 (omega arith) in
    let b2 = each 2 (omega arith) in
    let b3 = each 3 (omega arith) in
    word_bytes o ∙ (λ j. b0 j + 256 * (b1 j + 256 * (b2 j + 256 * b3 j)))

-- what a value says of a multixact: where it is 0 no offset stands, and else one of this low half
record Says (start : Start) (lists : List (List Entry)) (multi number : ℕ) : Type 0 where
  none : number ≡ 0 → HasNoOffset start lists multi
  some : number ≢ 0 → (offset : ℕ) × (number ≡ low_half offset) × HasOffset start lists multi offset

module _ (start : Start) (lists : List (List Entry)) (multi bank : ℕ) (base : IsBase start.base) (k : EngineInvariant start lists) (here : offsets_lock_of start multi ≡ offsets_lock bank) where
  abbrev sets : List SetOffset
  sets = flat_map offsets_in (at lists (offsets_lock bank))

  -- an offset that was set, with what is known of it
  set_given : (set : SetOffset) → Has sets set → OffsetOf start lists set
  set_given set there =
      let found = has_flat_map offsets_in (at lists (offsets_lock bank)) set there in
      let need = upheld_has (NeedsOffsets start) lists (offsets_lock bank) found.0 k.members.offsets found.1 in
      all_at (OffsetOf start lists) (offsets_in found.0) set need.1 found.2

  set_here : (offset : ℕ) → IsOffsetSet start lists multi offset → (set : SetOffset) × Has sets set × (set.multi ≡ multi) × (set.offset ≡ offset)
  set_here offset s =
      let set : SetOffset = record { caller = s.0; multi = multi; offset = offset } in
      (set, contains_has sets set (subst (λ z. Contains (flat_map offsets_in (at lists z)) set) here s.1), refl, refl)

  is_set : (set : SetOffset) → Has sets set → set.multi ≡ multi → IsOffsetSet start lists multi set.offset
  is_set set there same = (set.caller, subst (λ z. Contains (flat_map offsets_in (at lists z)) (record { caller = set.caller; multi = multi; offset = set.offset })) (sym here) (has_contains sets _ (subst (λ (z : ℕ). Has sets (record { caller = set.caller; multi = z; offset = set.offset })) same there)))

  one_set : (a b : SetOffset) → Has sets a → Has sets b → a.multi ≡ multi → b.multi ≡ multi → a.offset ≡ b.offset
  one_set a b ha hb am bm =
      let x = (set_given a ha).recorded in
      let y = (set_given b hb).recorded in
      let h = multi_history lists in
      one_offset start.base x.by y.by multi a.offset b.offset (set_given a ha).members (set_given b hb).members h (multis_are_legal start lists k)
      (subst (λ z. Has h (multis.Gen x.by z a.offset (set_given a ha).members)) am (contains_has h _ x.given))
      (subst (λ z. Has h (multis.Gen y.by z b.offset (set_given b hb).members)) bm (contains_has h _ y.given))

  set_below : (offset : ℕ) → IsOffsetSet start lists multi offset → multi < next_made start.base.multi (multi_history lists)
  set_below offset s =
      let t = set_here offset s in
      let r = (set_given t.0 t.1).recorded in
      subst (λ z. z < next_made start.base.multi (multi_history lists)) t.2 (gen_below start.base r.by t.0.multi t.0.offset (set_given t.0 t.1).members (multi_history lists) (multis_are_legal start lists k) (contains_has (multi_history lists) _ r.given))

  -- where one was set the value is its
  said_set : (o : Option StoredBytes) (set : SetOffset) → Has sets set → set.multi ≡ multi → Says start lists multi (word_held (last_or o (filter_map (offset_bytes_for multi) sets)))
  said_set o set there same =
      let bytes : StoredBytes = λ i. byte_of set.offset i in
      let value : last_or o (filter_map (offset_bytes_for multi) sets) ≡ Some bytes = last_some o (filter_map (offset_bytes_for multi) sets) bytes (filter_map_has (offset_bytes_for multi) sets set bytes there (offset_to multi set same)) (λ y q.
      let r = has_filter_map (offset_bytes_for multi) sets y q in
      let z = offset_at multi y r.0 r.2 in
      let e = one_set r.0 set r.1 there z.0 same in
      let f : ℕ → StoredBytes = λ n i. byte_of n i in
      sym z.1 ∙ ap f e) in
      let number : word_held (last_or o (filter_map (offset_bytes_for multi) sets)) ≡ low_half set.offset = ap word_held value ∙ sym (word_made set.offset) in
      let r = (set_given set there).recorded in
      let some : 1 ≤ low_half set.offset = ((ordered start.base base (multi_history lists) (multis_are_legal start lists k)).given r.by set.multi set.offset (set_given set there).members (contains_has (multi_history lists) _ r.given)).2 in
      record {
        none = λ zero. absurd (omega (arith, number, some, zero));
        some = λ other. (set.offset, number, inl (is_set set there same));
      }

  -- where none was set it is that of the start
  said_start : (before : ℕ → Option StoredBytes) → CleanOffsets start before → IsFullMulti multi → start.base.oldest_multi ≤ multi → multi < start.base.multi + 2 ^ 30 → ((set : SetOffset) → Has sets set → set.multi ≡ multi → ⊥) → Says start lists multi (word_held (before multi))
  said_start before clean full from to never =
      let unset : (offset : ℕ) → IsOffsetSet start lists multi offset → ⊥ = λ offset s. let t = set_here offset s in never t.0 t.1 t.2 in
      let held : (offset : ℕ) (members : List Member) → Contains start.recorded (records.Multi multi offset members) → word_held (before multi) ≡ low_half offset = λ offset members c. word_of_bytes (before multi) offset (clean.recorded multi offset members c from) in
      record {
        none = λ zero. record { unset = unset; unrecorded = λ offset members c. let z : low_half offset ≡ 0 = sym (held offset members c) ∙ zero in let s = clean.in_order.stored multi offset members c from in omega (arith, z, s) };
        some = λ other. ⊎_elim
            (λ (r : (offset : ℕ) × (members : List Member) × Has start.recorded (records.Multi multi offset members)).
            let c = has_contains start.recorded (records.Multi multi r.0 r.1) r.2 in (r.0, held r.0 r.1 c, inr (r.1, c)))
            (λ (never_there : (offset : ℕ) (members : List Member) → Has start.recorded (records.Multi multi offset members) → ⊥).
            absurd (other (ap word_held (empty never_there))))
            (recorded_or_not multi start.recorded);
      }
    where
      empty : ((offset : ℕ) (members : List Member) → Has start.recorded (records.Multi multi offset members) → ⊥) → before multi ≡ None
      empty never_there = ⊎_elim
          (λ (past : start.base.multi ≤ multi). clean.clean multi past to)
          (λ (old : multi < start.base.multi). clean.other multi full from old (λ offset members c. never_there offset members (contains_has start.recorded (records.Multi multi offset members) c)))
          (le_or_over start.base.multi multi)

  -- so it is in each case
  said : (before : ℕ → Option StoredBytes) → CleanOffsets start before → IsFullMulti multi → start.base.oldest_multi ≤ multi → multi < start.base.multi + 2 ^ 30 → Says start lists multi (word_held (last_or (before multi) (filter_map (offset_bytes_for multi) sets)))
  said before clean full from to = by_said (filter_map (offset_bytes_for multi) sets) refl
    where
      by_said : (xs : List StoredBytes) → filter_map (offset_bytes_for multi) sets ≡ xs → Says start lists multi (word_held (last_or (before multi) (filter_map (offset_bytes_for multi) sets)))
      by_said [] q = subst (λ (xs : List StoredBytes). Says start lists multi (word_held (last_or (before multi) xs))) (sym q) (said_start before clean full from to (λ set there same. subst (λ (xs : List StoredBytes). Has xs (λ i. byte_of set.offset i)) q (filter_map_has (offset_bytes_for multi) sets set (λ i. byte_of set.offset i) there (offset_to multi set same))))
      by_said (y ∷ ys) q =
          let r = has_filter_map (offset_bytes_for multi) sets y (subst (λ (xs : List StoredBytes). Has xs y) (sym q) (inl refl)) in
          said_set (before multi) r.0 r.1 (offset_at multi y r.0 r.2).0

  -- past the next multixact none stands
  none_past : (before : ℕ → Option StoredBytes) → CleanOffsets start before → next_made start.base.multi (multi_history lists) < multi → start.base.multi ≤ next_made start.base.multi (multi_history lists) → HasNoOffset start lists multi
  none_past before clean past low = record {
    unset = λ offset s. let b = set_below offset s in omega (arith, b, past);
    unrecorded = λ offset members c. let b = clean.before multi offset members c in omega (arith, b, past, low);
  }

found_of : (start : Start) (lists : List (List Entry)) (multi number : ℕ) (found : Option ℕ) → found ≡ offset_of number → (number ≡ 0 → HasNoOffset start lists multi) → (number ≢ 0 → (offset : ℕ) × (number ≡ low_half offset) × HasOffset start lists multi offset) → IsOffsetFound start lists multi found
found_of start lists multi number found is none some = subst (IsOffsetFound start lists multi) (sym is) (by_test (number == 0) refl)
  where
    by_test : (b : Bool) → (number == 0) ≡ b → IsOffsetFound start lists multi (cond b None (Some number))
    by_test true q = none (eqb-true number 0 q)
    by_test false q = some (λ zero. false≢true (sym q ∙ eq-eqb number 0 zero))

-- the pages that were made are near
offsets_near : (start : Start) (lists : List (List Entry)) (bank : ℕ) → EngineInvariant start lists → AreFewMultis lists → ArePagesNear (offset_shelf start) (at lists (offsets_lock bank))
offsets_near start lists bank k few =
    let es = at lists (offsets_lock bank) in
    let last = ((made_near start lists bank k).offsets few).last (λ x. None) in
    let to = last.to in
    let on = last.on in
    let same : (pages_after stored_offsets start.base.multi (λ x. None) es).last ≡ (pages_after offset_store start.base.multi (λ x. None) es).last = same_last stored_offsets offset_store (λ x. refl) start.base.multi es in
    let up : (pages_after offset_store start.base.multi (λ x. None) es).last ≤ offset_page (start.base.multi + 2 ^ 29) = omega arith in
    subst (λ z. z ≤ offset_page (start.base.multi + 2 ^ 29)) (sym same) up

module _ {P O : Type 0} {g : disks.Ghosts P} {r : rules.Ghosts O} where
  -- what the pages told of the life's begin
  pub begun_seen : (start : Start) (lists : List (List Entry)) (bank : ℕ) (store : SlruBank P O g r) → EngineInvariant start lists → IsOffsetsOf start bank store (at lists (offsets_lock bank)) → IsTrue g.tells → AreFewMultis lists → WasTold start
  begun_seen start lists bank store k s told few =
      let clean = (s.stands.shown told (offsets_near start lists bank k few)).1 in
      record { told = clean.told; below = clean.before; full = clean.full; in_order = clean.in_order }

  pub offset_seen : (start : Start) (lists : List (List Entry)) (bank : ℕ) (store : SlruBank P O g r) (multi : ℕ) (found : Option ℕ) → IsBase start.base → EngineInvariant start lists → IsOffsetsOf start bank store (at lists (offsets_lock bank)) → offsets_lock_of start multi ≡ offsets_lock bank → IsTrue g.tells
      → found ≡ offset_of (number_in (pages_of store (word_page_of multi)) (word_place_of multi)) → oldest_multi start.base.oldest_multi (multi_history lists) ≤ multi → IsOffsetRead start lists multi found
  offset_seen start lists bank store multi found base k s here told is announced full from to few =
      let es = at lists (offsets_lock bank) in
      let number = number_in (pages_of store (word_page_of multi)) (word_place_of multi) in
      let old = s.stands.shown told (offsets_near start lists bank k few) in
      let now : IsReadNow (offset_shelf start) es (pages_of store) (shows_on (offset_shelf start) old.0 es multi) multi = old.2.each multi (record { from = from; to = to }) (bank_at start multi bank here) in
      let shows : shows_on (offset_shelf start) old.0 es multi ≡ last_or (old.0 multi) (filter_map (offset_bytes_for multi) (flat_map offsets_in es)) =
      subst (λ (t : List Entry). (pages_after stored_offsets start.base.multi old.0 t).shows multi ≡ last_or (old.0 multi) (filter_map (offset_bytes_for multi) (flat_map offsets_in t))) (take-length es) (offset_bytes_show start lists old.0 (offsets_lock bank) (length es) multi k old.1.clean to) in
      let says = said start lists multi bank base k here old.0 old.1 full from to in
      ⊎_elim
      (λ (e : number ≡ word_held (shows_on (offset_shelf start) old.0 es multi)).
      let same = e ∙ ap word_held shows in
      found_of start lists multi number found is (λ zero. says.none (sym same ∙ zero)) (λ other. let r = says.some (λ zero. other (same ∙ zero)) in (r.0, same ∙ r.1, r.2)))
      (λ gone.
      let next = next_made start.base.multi (multi_history lists) in
      ⊎_elim
      (λ (le : multi ≤ next). absurd (offset_held start lists bank k base few multi announced le gone.1))
      (λ (lt : next < multi). found_of start lists multi number found is (λ zero. none_past start lists multi bank base k here old.0 old.1 lt (made_more start.base.multi [] (multi_history lists) (multi_history lists, refl))) (λ other. absurd (other gone.0)))
      (le_or_over multi next))
      now
    where
      bank_at : (start : Start) (x bank : ℕ) → offsets_lock_of start x ≡ offsets_lock bank → word_page_of x % start.banks ≡ bank
      bank_at start x bank q = omega arith
