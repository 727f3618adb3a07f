-- Members that are set on a page, one behind another.
use Rattle.std.proofs.Common.{None, Option, Some, ap, arith, inl, refl, inr, subst, sym, ⊎_elim, Bool, true, false, cond, List, [], ◌∷◌, ◌++◌, length, zero, suc, ℕ, ◌⊎◌, ◌≡◌, ◌≢◌, ◌+◌, ◌%◌, ◌^◌, ◌<◌, ◌≤◌, ◌==◌, ◌∙◌, eqb-true}
use Rattle.std.proofs.lemmas.Bool.Decides.{nat_tests}
use Rattle.std.specs.List.{cons_option, filter_map, last_or, slice_get, slice_index}
use Rattle.disk_core.specs.declared.page_disk.PageDisk as disks
use Rattle.store_pages.specs.declared.page_rule.PageRule as rules
use Rattle.store_pages.specs.Layouts.{member_page_of, member_place_of, mode_place_of, number_in}
use Rattle.tx_events.specs.Pages.{id_at, member_page_in_full, mode_at}
use Rattle.slru_bank.specs.declared.bank.SlruBank.{SlruBank}
use Rattle.slru_bank.specs.Calls.{CrashKeeps, cutoff_of, last_page, pages_of}
use Rattle.bank_stores.specs.Changes.{SameSlot}
use Rattle.bank_stores.specs.Runs.{SetsMembers}
use Rattle.tx_events.specs.Ids.{low_half}
use Rattle.tx_events.specs.Modes.{mode_number}
use Rattle.tx_events.specs.declared.event.By.{By}
use Rattle.tx_events.specs.declared.multi.Member.{Member}
use Rattle.tx_core.specs.declared.entry.Entry.{Entry}
use Rattle.tx_core.specs.declared.entry.Kind.TheVariants as kinds
use Rattle.tx_core.specs.declared.entry.Start.{Start}
use Rattle.tx_core.specs.MultiEntries.{slot_of}
use Rattle.tx_core.specs.PagesBeforeIds.{WasMade}
use Rattle.tx_core.specs.StoredBytes.{HasZeroTails, StoredBytes, byte_of, slot_bytes, slot_bytes_for, slot_place_of}
use Rattle.engine_parts.specs.BankCourse.{IsMemberOn, SetThem, member_rack}
use Rattle.engine_parts.specs.Shelf.{IsRoomFor}
use Rattle.engine_parts.specs.ShelfLaws.{SetsShown}
use Rattle.engine_parts.specs.Shelves.{member_shelf, slot_held}
use Rattle.engine_parts.proofs.OffsetShelf.{same_or_not, word_made}
use Rattle.multi_banks.specs.Members.{SharePage, slots_set}
use Rattle.multi_banks.proofs.Adding.{slots_entry}
use Rattle.multi_banks.proofs.Digits.{bytes_are, bytes_same}

-- what the slots say of an offset
abbrev said : By → ℕ → List Member → ℕ → List StoredBytes
said by offset members x = filter_map (slot_bytes_for x) (filter_map slot_of (slots_set by offset members))

-- it is that of one of the members, and shows it, or of none
record IsSlot (by : By) (offset : ℕ) (members : List Member) (x : ℕ) : Type 0 where
  k : ℕ
  member : Member
  among : slice_get members k ≡ Some member
  at : x ≡ offset + k
  shows : (o : Option StoredBytes) → last_or o (said by offset members x) ≡ Some (λ i. slot_bytes member i)

record IsNoSlot (by : By) (offset : ℕ) (members : List Member) (x : ℕ) : Type 0 where
  none : (j : ℕ) → j < length members → x ≢ offset + j
  unsaid : said by offset members x ≡ []

slot_or_not : (by : By) (offset : ℕ) (members : List Member) (x : ℕ) → IsSlot by offset members x ⊎ IsNoSlot by offset members x
slot_or_not by offset [] x = inr (record { none = λ j within. absurd (omega arith); unsaid = refl })
slot_or_not by offset (member ∷ members) x = step (offset == x) refl (slot_or_not by (offset + 1) members x)
  where
    first : (b : Bool) → (offset == x) ≡ b → said by offset (member ∷ members) x ≡ cons_option (cond b (Some (λ i. slot_bytes member i)) None) (said by (offset + 1) members x)
    first b q = ap (λ z. cons_option (cond z (Some (λ i. slot_bytes member i)) None) (said by (offset + 1) members x)) q

    step : (b : Bool) → (offset == x) ≡ b → IsSlot by (offset + 1) members x ⊎ IsNoSlot by (offset + 1) members x → IsSlot by offset (member ∷ members) x ⊎ IsNoSlot by offset (member ∷ members) x
    step true q rest =
        let is : offset ≡ x = eqb-true offset x q in
        let apart : (j : ℕ) → x ≢ offset + 1 + j = λ j e. omega arith in
        ⊎_elim
        (λ (s : IsSlot by (offset + 1) members x). absurd (apart s.k s.at))
        (λ (n : IsNoSlot by (offset + 1) members x). inl (record {
          k = 0;
          member = member;
          among = refl;
          at = omega arith;
          shows = λ o. ap (λ l. last_or o l) (first true q ∙ ap (λ l. cons_option (Some (λ i. slot_bytes member i)) l) n.unsaid);
        }))
        rest
    step false q rest =
        let differs : offset ≢ x = λ (h : offset ≡ x). let z : (offset == x) ≡ true = same_test offset x h in let bad = sym q ∙ z in absurd cc in
        ⊎_elim
        (λ (s : IsSlot by (offset + 1) members x). inl (record {
          k = suc s.k;
          member = s.member;
          among = s.among;
          at = (let a = s.at in omega arith);
          shows = λ o. ap (λ l. last_or o l) (first false q) ∙ s.shows o;
        }))
        (λ (n : IsNoSlot by (offset + 1) members x). inr (record { none = not_here differs n.none; unsaid = first false q ∙ n.unsaid }))
        rest
      where
        same_test : (a b : ℕ) → a ≡ b → (a == b) ≡ true
        same_test a b e = grind (arith, nat_tests)

        not_here : offset ≢ x → ((j : ℕ) → j < length members → x ≢ offset + 1 + j) → (j : ℕ) → j < length (member ∷ members) → x ≢ offset + j
        not_here d rest zero within e = d (omega arith)
        not_here d rest (suc j) within e = rest j (omega arith) (omega arith)

-- where an offset of one page and place is
one_place : (first oldest a b : ℕ) → first ≤ oldest + 2 ^ 30 → oldest ≤ a → a < first + 2 ^ 30 → oldest ≤ b → b < first + 2 ^ 30 → member_page_of a ≡ member_page_of b → low_half a % 1636 ≡ low_half b % 1636 → a ≡ b
one_place first oldest a b near ao an bo bn p q = omega arith

-- the k-th one of a run on one page
run_page : (offset k count : ℕ) → k < count → low_half offset % 1636 + count ≤ 1636 → low_half offset + count ≤ 2 ^ 32 → (member_page_of (offset + k) ≡ member_page_of offset) × (low_half (offset + k) % 1636 ≡ low_half offset % 1636 + k)
run_page offset k count lt page lap = (omega arith, omega arith)

below : (a : ℕ) → a % 1636 < 1636
below a = omega arith

within : (members : List Member) (k : ℕ) (member : Member) → slice_get members k ≡ Some member → k < length members
within [] k member e = absurd cc
within (m ∷ ms) zero member e = omega arith
within (m ∷ ms) (suc k) member e = let r = within ms k member e in omega arith

-- what is read of an offset's slot on a page
abbrev slot_in : List ℕ → ℕ → ℕ × ℕ
slot_in bytes x = (slice_index bytes (mode_place_of x), number_in bytes (member_place_of x))

abbrev slot_on : (ℕ → List ℕ) → ℕ → ℕ → ℕ × ℕ
slot_on m q x = slot_in (m q) x

abbrev slot_wanted : Member → ℕ × ℕ
slot_wanted member = (mode_number member.mode, low_half member.id)

pub members_set : (start : Start) (by caller : By) (offset : ℕ) (members : List Member) (old new : ℕ → List ℕ) → start.base.offset ≤ start.base.oldest_offset + 2 ^ 30 → start.base.oldest_offset ≤ offset → offset + length members ≤ start.base.offset + 2 ^ 30 → low_half offset % 1636 + length members ≤ 1636 → low_half offset + length members ≤ 2 ^ 32
    → SetsMembers (member_page_of offset) (low_half offset % 1636) members (length members) old new → SetsShown (member_shelf start) (record { by = by; kind = kinds.Set (slots_set caller offset members) }) old new
members_set start by caller offset members old new window from to page lap sets = record {
  makes_none = refl;
  others = λ x used none.
      ⊎_elim
      (λ (s : IsSlot caller offset members x). absurd (let e : last_or None [] ≡ Some (λ i. slot_bytes s.member i) = ap (λ l. last_or None l) (sym none) ∙ s.shows None in cc))
      (λ (n : IsNoSlot caller offset members x). ⊎_elim
      (λ (on : member_page_of x ≡ member_page_of offset).
      let slot = sets.same_page (low_half x % 1636) (below (low_half x)) (λ j lt q. n.none j lt (same_as j lt x used on q)) in
      subst (λ (z : ℕ). slot_on new z x ≡ slot_on old z x) (sym on) (λ j. (slot.mode j, slot.id j)))
      (λ (off : member_page_of x ≢ member_page_of offset). ap (λ (l : List ℕ). slot_in l x) (sets.others (member_page_of x) off))
      (same_or_not (member_page_of x) (member_page_of offset)))
      (slot_or_not caller offset members x);
  set = λ x v used some.
      ⊎_elim
      (λ (s : IsSlot caller offset members x).
      let r = run_page offset s.k (length members) (within members s.k s.member s.among) page lap in
      let value : Some v ≡ Some (λ i. slot_bytes s.member i) = sym some ∙ s.shows None in
      let read : slot_on new (member_page_of x) x ≡ slot_wanted s.member =
      subst (λ (z : ℕ). slot_on new (member_page_of z) z ≡ slot_wanted s.member) (sym s.at)
      (λ j. (
        (subst (λ (z : ℕ × ℕ). slice_index (new z.0) (mode_at z.1) ≡ mode_number s.member.mode) (λ i. (sym r.0 i, sym r.1 i)) (sets.mode s.k s.member (within members s.k s.member s.among) s.among)) j,
        (subst (λ (z : ℕ × ℕ). number_in (new z.0) (id_at z.1) ≡ low_half s.member.id) (λ i. (sym r.0 i, sym r.1 i)) (sets.id s.k s.member (within members s.k s.member s.among) s.among)) j,
      )) in
      read ∙ ((λ j. (mode_number s.member.mode, word_made s.member.id j)) ∙ sym (ap slot_held value)))
      (λ (n : IsNoSlot caller offset members x). absurd (let e : last_or None [] ≡ Some v = ap (λ l. last_or None l) (sym n.unsaid) ∙ some in cc))
      (slot_or_not caller offset members x);
}
  where
    same_as : (j : ℕ) → j < length members → (x : ℕ) → IsRoomFor (member_shelf start) x → member_page_of x ≡ member_page_of offset → low_half x % 1636 ≡ low_half offset % 1636 + j → x ≡ offset + j
    same_as j lt x used on q =
        let r = run_page offset j (length members) lt page lap in
        one_place start.base.offset start.base.oldest_offset x (offset + j) window used.from used.to (omega arith) (omega arith) (on ∙ sym r.0) (q ∙ sym r.1)

-- ---- piece by piece

-- the pieces of a slot that stayed
slot_same : (xs ys : List ℕ) (x i : ℕ) → ((i : ℕ) → slice_index xs i < 256) → ((i : ℕ) → slice_index ys i < 256) → SameSlot (low_half x % 1636) ys xs → i < 5 → slice_index xs (slot_place_of x i) ≡ slice_index ys (slot_place_of x i)
slot_same xs ys x i sx sy same lt = by_test (i == 4) refl
  where
    by_test : (b : Bool) → (i == 4) ≡ b → slice_index xs (cond b (mode_place_of x) (member_place_of x + i)) ≡ slice_index ys (cond b (mode_place_of x) (member_place_of x + i))
    by_test true q = same.mode
    by_test false q = let four : i < 4 = grind (arith, nat_tests) in bytes_same xs ys (member_place_of x) sx sy same.id i four

-- and of one that holds a member
slot_is : (xs : List ℕ) (x i : ℕ) (member : Member) → ((i : ℕ) → slice_index xs i < 256) → slice_index xs (mode_place_of x) ≡ mode_number member.mode → number_in xs (member_place_of x) ≡ low_half member.id → i < 5 → slice_index xs (slot_place_of x i) ≡ slot_bytes member i
slot_is xs x i member small mode id lt = by_test (i == 4) refl
  where
    by_test : (b : Bool) → (i == 4) ≡ b → slice_index xs (cond b (mode_place_of x) (member_place_of x + i)) ≡ cond b (mode_number member.mode) (byte_of member.id i)
    by_test true q = mode
    by_test false q = let four : i < 4 = grind (arith, nat_tests) in bytes_are xs (member_place_of x) member.id small id i four

-- two offsets with one stored page and place are one: the one in room, the other near
near_place : (first oldest a b : ℕ) → first ≤ oldest + 2 ^ 30 → oldest ≤ a → a < first + 2 ^ 30 → first + 2 ^ 30 ≤ b + 2 ^ 32 → b < first + 2 ^ 30 → member_page_of a ≡ member_page_of b → low_half a % 1636 ≡ low_half b % 1636 → b ≡ a
near_place first oldest a b near ao an bo bn p q = omega arith

module _ {P O : Type 0} {g : disks.Ghosts P} {r : rules.Ghosts O} where
  pub set_slots_then : (start : Start) (bank : ℕ) (old new : SlruBank P O g r) (es : List Entry) (by : By) (offset : ℕ) (members : List Member) → start.base.offset ≤ start.base.oldest_offset + 2 ^ 30 → 1 ≤ length members → SharePage offset (length members) → low_half offset % 1636 + length members ≤ 1636 → low_half offset + length members ≤ 2 ^ 32
      → WasMade es (member_page_in_full start.base.offset) (member_page_in_full offset) → SetsMembers (member_page_of offset) (low_half offset % 1636) members (length members) (pages_of old) (pages_of new) → last_page new ≡ last_page old → cutoff_of new ≡ cutoff_of old → CrashKeeps old new
      → SetThem (member_rack start) (IsMemberOn start bank) HasZeroTails old new es (es ++ slots_entry by offset members ∷ [])
  set_slots_then start bank old new es by offset members window some share page lap was put last cutoff crash = record {
    entry = slots_entry by offset members;
    entries = refl;
    makes = refl;
    cuts = refl;
    other = λ q. let apart : kinds.Set (slots_set by offset members) ≡ kinds.Sync = q in absurd cc;
    made = λ x v said_some. ⊎_elim
        (λ (s : IsSlot by offset members x). subst (λ z. WasMade es (member_page_in_full start.base.offset) z) (sym (ap member_page_in_full s.at ∙ share s.k (within members s.k s.member s.among))) was)
        (λ (n : IsNoSlot by offset members x). absurd (none_said x v n said_some))
        (slot_or_not by offset members x);
    kept = λ room x i asked lt none. ⊎_elim
        (λ (s : IsSlot by offset members x). absurd (let e : last_or None [] ≡ Some (λ i. slot_bytes s.member i) = ap (λ l. last_or None l) (sym none) ∙ s.shows None in cc))
        (λ (n : IsNoSlot by offset members x). ⊎_elim
        (λ (on : member_page_of x ≡ member_page_of offset).
        subst (λ z. slice_index (pages_of new z) (slot_place_of x i) ≡ slice_index (pages_of old z) (slot_place_of x i)) (sym on)
        (slot_same (pages_of new (member_page_of offset)) (pages_of old (member_page_of offset)) x i (put.pages some).is.small (put.pages some).was.small
        (put.same_page (low_half x % 1636) (below (low_half x)) (λ j in_run q.
        let r = run_page offset j (length members) in_run page lap in
        let mine = room_of room j in_run in
        n.none j in_run (near_place start.base.offset start.base.oldest_offset (offset + j) x window mine.from mine.to asked.near.from asked.near.to (r.0 ∙ sym on) (r.1 ∙ sym q))))
        lt))
        (λ (off : member_page_of x ≢ member_page_of offset). ap (λ (l : List ℕ). slice_index l (slot_place_of x i)) (put.others (member_page_of x) off))
        (same_or_not (member_page_of x) (member_page_of offset)))
        (slot_or_not by offset members x);
    set = λ x i v asked lt said_some. ⊎_elim
        (λ (s : IsSlot by offset members x).
        let inside = within members s.k s.member s.among in
        let r = run_page offset s.k (length members) inside page lap in
        let value : Some v ≡ Some (λ i. slot_bytes s.member i) = sym said_some ∙ s.shows None in
        let same : v ≡ (λ i. slot_bytes s.member i) = cc in
        let read : slice_index (pages_of new (member_page_of (offset + s.k))) (slot_place_of (offset + s.k) i) ≡ slot_bytes s.member i =
        slot_is (pages_of new (member_page_of (offset + s.k))) (offset + s.k) i s.member
        (subst (λ z. (i : ℕ) → slice_index (pages_of new z) i < 256) (sym r.0) (put.pages some).is.small)
        (subst (λ (z : ℕ × ℕ). slice_index (pages_of new z.0) (mode_at z.1) ≡ mode_number s.member.mode) (λ i. (sym r.0 i, sym r.1 i)) (put.mode s.k s.member inside s.among))
        (subst (λ (z : ℕ × ℕ). number_in (pages_of new z.0) (id_at z.1) ≡ low_half s.member.id) (λ i. (sym r.0 i, sym r.1 i)) (put.id s.k s.member inside s.among)) lt in
        subst (λ z. slice_index (pages_of new (member_page_of z)) (slot_place_of z i) ≡ v i) (sym s.at) (read ∙ sym (ap (λ (b : StoredBytes). b i) same)))
        (λ (n : IsNoSlot by offset members x). absurd (none_said x v n said_some))
        (slot_or_not by offset members x);
    tails = λ zero_tails q i small past. ⊎_elim
        (λ (on : q ≡ member_page_of offset). ap (λ z. slice_index (pages_of new z) i) on ∙ (put.tail i past ∙ (sym (ap (λ z. slice_index (pages_of old z) i) on) ∙ zero_tails q i small past)))
        (λ (off : q ≢ member_page_of offset). ap (λ (l : List ℕ). slice_index l i) (put.others q off) ∙ zero_tails q i small past)
        (same_or_not q (member_page_of offset));
    last = last;
    cutoff = cutoff;
    crash = crash;
  }
    where
      none_said : (x : ℕ) (v : StoredBytes) → IsNoSlot by offset members x → last_or None (said by offset members x) ≡ Some v → ⊥
      none_said x v n some = absurd (let e : last_or None [] ≡ Some v = ap (λ l. last_or None l) (sym n.unsaid) ∙ some in cc)

      room_of : ((x : ℕ) (v : StoredBytes) → last_or None (said by offset members x) ≡ Some v → IsRoomFor (member_shelf start) x) → (j : ℕ) → j < length members → IsRoomFor (member_shelf start) (offset + j)
      room_of room j lt = ⊎_elim
          (λ (s : IsSlot by offset members (offset + j)). room (offset + j) (λ i. slot_bytes s.member i) (s.shows None))
          (λ (n : IsNoSlot by offset members (offset + j)). absurd (n.none j lt refl))
          (slot_or_not by offset members (offset + j))
