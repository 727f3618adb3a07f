-- Each image of a bank of members has the members of recorded multixacts, and none in the gaps behind them.
use Rattle.std.proofs.Common.{Contains, List, None, Option, Some, ap, arith, cond, inl, inr, length, refl, subst, sym, take, true, ℕ, ⊎_elim, ◌+◌, ◌-◌, ◌/◌, ◌%◌, ◌<◌, ◌^◌, ◌∙◌, ◌≡◌, ◌≤◌, ◌⊎◌}
use Rattle.std.specs.List.{filter_map, flat_map, slice_get, slice_index}
use Rattle.tx_events.specs.Ids.{low_half}
use Rattle.tx_events.specs.Limits.{member_stop}
use Rattle.tx_events.specs.PageOrder.{Offsets, is_cut}
use Rattle.tx_events.specs.PageWindow.{member_is_kept}
use Rattle.store_pages.specs.Layouts.{member_page_of, member_place_of, mode_place_of}
use Rattle.disk_core.specs.Pages.{Pages, page_bytes}
use Rattle.tx_events.specs.declared.event.By.{By}
use Rattle.tx_events.specs.declared.multi.Member.{Member}
use Rattle.tx_events.specs.declared.multi.MultiEvent.TheVariants as multis
use Rattle.tx_events.specs.declared.record.Rec.{Rec}
use Rattle.tx_events.specs.declared.record.Rec.TheVariants as records
use Rattle.tx_events.proofs.ListSteps.{not_both}
use Rattle.tx_events.proofs.Membership.{Has, all_at, contains_has, has_contains, has_filter_map, has_flat_map, has_take}
use Rattle.tx_events.specs.Base.{IsBase}
use Rattle.tx_events.specs.Multis.{free_offset, made}
use Rattle.tx_core.specs.declared.entry.Entry.{Entry}
use Rattle.tx_core.specs.declared.entry.Kind.TheVariants as kinds
use Rattle.tx_core.specs.declared.entry.Start.{Start}
use Rattle.tx_core.proofs.Asking.{upheld_has}
use Rattle.tx_core.proofs.Cutting.{cut_says}
use Rattle.tx_core.proofs.Nearness.{free_upto, multis_are_legal, raises_told}
use Rattle.tx_core.specs.CutsFollow.{IsMemberGone, IsTruncated}
use Rattle.tx_core.specs.EngineInvariant.{EngineInvariant}
use Rattle.tx_core.specs.Entries.{cut_in, records_of}
use Rattle.notes.specs.Lists.{Begins, at}
use Rattle.tx_core.specs.Locks.{log_lock, member_page_in_full, members_lock}
use Rattle.tx_core.specs.MembersBeforeOffset.{NeedsSlots, SlotOf}
use Rattle.tx_core.specs.MultiEntries.{SetSlot, multi_history, slots_in}
use Rattle.tx_core.specs.SyncsBeforeForgets.{AreMembersSynced, MayForget}
use Rattle.recoverable.specs.Fit.{KeptLog, base_at, log_end}
use Rattle.recoverable.specs.Bytes.{StoredBytes, byte_held, slot_byte, slot_bytes, wanted_byte}
use Rattle.recoverable.specs.FitMultis.{ShowsMembers, ShowsNoGap, member_at}
use Rattle.recoverable.specs.Images.{MayBeGone, Since, shows_of}
use Rattle.recoverable.specs.MemberImages.{CleanMembers, MembersFollow, SlotSince, member_reading, member_ring}
use Rattle.recoverable.specs.Stored.{slot_bytes_for, stored_members}
use Rattle.recoverable.specs.Laws.{IsBeginning, LogFollows, MembersFitLaw}
use Rattle.recoverable.proofs.Announced.{AreRaisesTold, announced_given, announced_old}
use Rattle.recoverable.proofs.FitsXact.{may_forget}
use Rattle.recoverable.proofs.LogBases.{life_recs}
use Rattle.tx_core.proofs.MultiOrder.{Ordered, ordered}
use Rattle.recoverable.proofs.BytesShow.{in_id, last_none, last_some, member_bytes_show, slot_at, slot_to}
use Rattle.recoverable.proofs.Offsets.{number_zero}
use Rattle.recoverable.proofs.OffsetsFit.{announced_multi, appended_gen, earlier_recorded, life_end, oldest_multi_from, recorded_below, recorded_cases, truncated_multi}
use Rattle.recoverable.proofs.Places.{shows_from}
use Rattle.recoverable.proofs.Stretches.{filter_map_has, flat_map_has, get_inside, has_longer, map_get, taken_place}

module _ (start : Start) (lists : List (List Entry)) (log : KeptLog) (k : EngineInvariant start lists) (is : IsBase start.base) (f : LogFollows start lists log) (few : length (made (multi_history lists)) < 2900000) where
  order : Ordered start.base (multi_history lists)
  order = ordered start.base is (multi_history lists) (multis_are_legal start lists k)

  -- a life of few multixacts has room for their members
  room : (free_offset start.base.offset (multi_history lists) ≤ start.base.offset + 2 ^ 28) × (start.base.offset ≤ start.base.oldest_offset + 2 ^ 30)
  room =
      let r = free_upto start.base (multi_history lists) (multis_are_legal start lists k) in let s : start.base.offset ≤ member_stop start.base.oldest_offset = is.offset in
      let b : member_stop start.base.oldest_offset ≤ start.base.oldest_offset + 2 ^ 30 = below start.base.oldest_offset in (omega arith, omega arith)
    where
      below : (oldest : ℕ) → member_stop oldest ≤ oldest + 2 ^ 30
      below oldest = grind arith

  -- a member that was set is one of a multixact of the life
  slot_given : (bank n : ℕ) (slot : SetSlot) → Has (flat_map slots_in (take n (at lists (members_lock bank)))) slot → SlotOf lists slot
  slot_given bank n slot h =
      let found = has_flat_map slots_in (take n (at lists (members_lock bank))) slot h in
      let need = upheld_has NeedsSlots lists (members_lock bank) found.0 k.members.slots (has_take n (at lists (members_lock bank)) found.0 found.1) in
      all_at (SlotOf lists) (slots_in found.0) slot need.1 found.2

  -- so it lies past the base's next free offset
  slot_from : (slot : SetSlot) → SlotOf lists slot → (start.base.offset ≤ slot.offset) × (1 ≤ low_half slot.offset ⊎ (start.base.offset < slot.offset))
  slot_from slot o =
      let g = order.given o.recorded.by o.multi o.first o.members (contains_has (multi_history lists) (multis.Gen o.recorded.by o.multi o.first o.members) o.recorded.given) in
      let low = g.0 in let full = g.2 in let behind = o.behind in
      (omega arith, ⊎_elim (λ (q : o.first ≡ slot.offset). inl (subst (λ z. 1 ≤ low_half z) q full)) (λ (q : o.first < slot.offset). inr (omega arith)) (way o.first slot.offset behind))
    where
      way : (m n : ℕ) → m ≤ n → (m ≡ n) ⊎ (m < n)
      way m n le = grind arith

  -- where no cut is past it, the page of an offset isn't gone
  abbrev IsKept : ℕ → Type 0
  IsKept x = (oldest multi offset : ℕ) → IsTruncated start lists oldest multi offset → (start.base.oldest_offset ≤ offset) × (offset ≤ x)

  not_gone : (bank x : ℕ) → IsKept x → start.base.oldest_offset ≤ x → x < start.base.offset + 2 ^ 28 → MayBeGone (member_ring start) (at lists (members_lock bank)) (member_page_of x) → ⊥
  not_gone bank x lower from below gone =
      let r = room in let r1 = r.1 in
      ⊎_elim
      (λ (q : gone.0 ≡ member_page_in_full start.base.oldest_offset).
      kept start.base.oldest_offset x gone.0 q from (omega arith) gone.2)
      (λ (h : (e : Entry) × Contains (at lists (members_lock bank)) e × (cut_in e.kind ≡ Some gone.0)).
      let cut = (cut_says start lists (members_lock bank) gone.0 h.0 k h.1 h.2).members bank refl in
      let t = lower cut.0 cut.1 cut.2 cut.3 in let t0 = t.0 in let t1 = t.1 in
      kept cut.2 x gone.0 cut.4 (omega arith) (omega arith) gone.2)
      gone.1
    where
      kept : (o x page : ℕ) → page ≡ member_page_in_full o → o ≤ x → x + 2 ^ 15 < o + 2 ^ 31 → is_cut Offsets 1636 (page % 2625286) (member_page_of x) ≡ true → ⊥
      kept o x page q from near e =
          let same : page % 2625286 ≡ low_half o / 1636 = ap (λ z. z % 2625286) q ∙ (let w : member_page_in_full o % 2625286 ≡ low_half o / 1636 = omega arith in w) in
          not_both (is_cut Offsets 1636 (page % 2625286) (member_page_of x)) e (ap (λ z. is_cut Offsets 1636 z (member_page_of x)) same ∙ member_is_kept o x from near)

  -- a multixact of the life from the oldest one on disk on lies past each cut
  kept_life : (by : By) (multi offset x : ℕ) (members : List Member) → Has (multi_history lists) (multis.Gen by multi offset members) → (base_at log log.flushed).counters.oldest_multi ≤ multi → offset ≤ x → IsKept x
  kept_life by multi offset x members gen from on oldest m o t =
      let up = (truncated_multi start lists log oldest m o k f t).1 in
      let past = announced_given start lists k is by multi offset members gen m o (announced_multi start lists oldest m o k t) (omega arith) in
      let upto = past.1 in (past.0, omega arith)

  -- and so does one of the base, where its announcements were told
  kept_base : (shown : ℕ → Option StoredBytes) (multi offset x : ℕ) (members : List Member) → CleanMembers start shown → AreRaisesTold start lists → Contains start.recorded (records.Multi multi offset members)
      → (base_at log log.flushed).counters.oldest_multi ≤ multi → offset ≤ x → IsKept x
  kept_base shown multi offset x members clean told among from on oldest m o t =
      let both = truncated_multi start lists log oldest m o k f t in let down = both.0 in let up = both.1 in
      let past = announced_old start lists k is multi offset members clean.in_order told among (omega arith) (clean.before multi offset members among) m o (announced_multi start lists oldest m o k t) (omega arith) in
      let upto = past.1 in (past.0, omega arith)

  -- an image shows what each entry list from the last sync on shows
  shows_slot : (shown : ℕ → Option StoredBytes) (bank x : ℕ) (member : Member) (c : Pages) → IsKept x → start.base.oldest_offset ≤ x → x < start.base.offset + 2 ^ 28 → member_page_of x % start.banks ≡ bank
      → MembersFollow start bank shown (at lists (members_lock bank)) c
      → ((n : ℕ) → ((s : ℕ) (by : By) → slice_get (at lists (members_lock bank)) s ≡ Some (record { by = by; kind = kinds.Sync }) → s < n)
      → (i : ℕ) → i < 5 → byte_held (shows_of (member_reading start shown) (take n (at lists (members_lock bank))) x) i ≡ slot_bytes member i)
      → (i : ℕ) → i < 5 → slot_byte c x i ≡ slot_bytes member i
  shows_slot shown bank x member c lower from below on follows each i lt =
      let r = room in let r1 = r.1 in
      let slot : SlotSince start shown (at lists (members_lock bank)) c x = follows x (record { from = omega arith; to = omega arith }) (ap members_lock on) in
      let gone : MayBeGone (member_ring start) (at lists (members_lock bank)) (member_page_of x) → ⊥ = not_gone bank x lower from below in
      let since : Since (member_reading start shown) (wanted_byte i) (at lists (members_lock bank)) x (member_page_of x) (slot_byte c x i) = slot i lt in
      ⊎_elim
      (λ (q : slot_byte c x i ≡ byte_held (shows_of (member_reading start shown) (take since.count (at lists (members_lock bank))) x) i). q ∙ each since.count since.synced i lt)
      (λ (q : (slot_byte c x i ≡ 0) × MayBeGone (member_ring start) (at lists (members_lock bank)) (member_page_of x)). absurd (gone q.1))
      since.shows

  -- a member of a multixact that the life began with
  shows_base : (shown : ℕ → Option StoredBytes) (bank multi offset i : ℕ) (members : List Member) (member : Member) (c : Pages) → CleanMembers start shown → AreRaisesTold start lists → Contains start.recorded (records.Multi multi offset members)
      → (base_at log log.flushed).counters.oldest_multi ≤ multi → slice_get members i ≡ Some member → member_page_of (offset + i) % start.banks ≡ bank → MembersFollow start bank shown (at lists (members_lock bank)) c
      → (j : ℕ) → j < 5 → slot_byte c (offset + i) j ≡ slot_bytes member j
  shows_base shown bank multi offset i members member c clean told among from here on follows =
      let x : ℕ = offset + i in
      let up = oldest_multi_from start lists log f in
      let inside = get_inside members i member here in
      let w = clean.in_order.within multi offset members among (omega arith) in let w0 = w.0 in let w1 = w.1 in
      let es : List Entry = at lists (members_lock bank) in
      shows_slot shown bank (offset + i) member c (kept_base shown multi offset (offset + i) members clean told among from (omega arith)) (omega arith) (omega arith) on follows (λ n synced j lt.
      ap (λ (o : Option StoredBytes). byte_held o j)
      (member_bytes_show start lists shown (members_lock bank) n (offset + i) k clean.behind (omega arith)
      ∙ last_none (shown (offset + i)) (filter_map (slot_bytes_for (offset + i)) (flat_map slots_in (take n es))) (λ y h.
      let r = has_filter_map (slot_bytes_for (offset + i)) (flat_map slots_in (take n es)) y h in
      let low = (slot_from r.0 (slot_given bank n r.0 r.1)).0 in
      let same = (slot_at (offset + i) y r.0 r.2).0 in
      omega arith))
      ∙ clean.recorded multi offset i members member among (omega arith) here j lt)

  -- two members at one offset are one
  one_member : (by : By) (multi offset i : ℕ) (members : List Member) (member : Member) (slot : SetSlot) → Has (multi_history lists) (multis.Gen by multi offset members) → slice_get members i ≡ Some member → SlotOf lists slot → slot.offset ≡ offset + i → slot.member ≡ member
  one_member by multi offset i members member slot gen here o same =
      let behind = o.behind in
      let inside = get_inside members i member here in
      let other = get_inside o.members (slot.offset - o.first) slot.member o.member in
      ⊎_elim
      (λ (q : (multi < o.multi) × (offset + length members ≤ o.first)). let z = q.1 in absurd (omega arith))
      (λ r. ⊎_elim
      (λ (q : (o.multi < multi) × (o.first + length o.members ≤ offset)). let z = q.1 in absurd (omega arith))
      (λ (q : (multi ≡ o.multi) × (offset ≡ o.first) × (members ≡ o.members)).
      let z = q.1 in let place : slot.offset - o.first ≡ i = omega arith in
      let at : slice_get members i ≡ Some slot.member = subst (λ n. slice_get members n ≡ Some slot.member) place (subst (λ (t : List Member). slice_get t (slot.offset - o.first) ≡ Some slot.member) (sym q.2) o.member) in
      let e : Some slot.member ≡ Some member = sym at ∙ here in cc)
      r)
      (order.apart by o.recorded.by multi o.multi offset o.first members o.members gen (contains_has (multi_history lists) (multis.Gen o.recorded.by o.multi o.first o.members) o.recorded.given))

  -- a member of one that was recorded before a checkpoint before which the log was to be forgotten
  shows_synced : (shown : ℕ → Option StoredBytes) (bank number multi offset i : ℕ) (members : List Member) (member : Member) (before : List Entry) (c : Pages) → CleanMembers start shown
      → bank < start.banks → Begins before (at lists log_lock) → MayForget start lists before number → Has (take (number - start.from) (life_recs lists)) (records.Multi multi offset members)
      → (base_at log log.flushed).counters.oldest_multi ≤ multi → slice_get members i ≡ Some member → member_page_of (offset + i) % start.banks ≡ bank → MembersFollow start bank shown (at lists (members_lock bank)) c
      → (j : ℕ) → j < 5 → slot_byte c (offset + i) j ≡ slot_bytes member j
  shows_synced shown bank number multi offset i members member before c clean inside begins may among from here on follows =
      let es : List Entry = at lists (members_lock bank) in
      let found = recorded_below start lists before number multi offset members k begins may among in
      let gen = found.1 in
      let g = order.given gen.0 multi offset members gen.1 in let g0 = g.0 in let g1 = g.1 in
      let within = get_inside members i member here in
      let r = room in let r0 = r.0 in let low = is.oldest_offset in
      let lower : IsKept (offset + i) = kept_life gen.0 multi offset (offset + i) members gen.1 from (omega arith) in
      let synced : AreMembersSynced start es bank _ = may.members bank inside in
      let sync = synced.synced in
      ⊎_elim
      (λ (set : (caller : By) × Contains (flat_map slots_in synced.before) (record { caller = caller; offset = offset + i; member = member })).
      let item : SetSlot = record { caller = set.0; offset = offset + i; member = member } in
      let bytes_for : Member → StoredBytes = λ m i. slot_bytes m i in
      let bytes : StoredBytes = λ i. slot_bytes member i in
      shows_slot shown bank (offset + i) member c lower (omega arith) (omega arith) on follows (λ n since j lt.
      let later : sync.place < n = since sync.place sync.by sync.sync in
      let e = has_flat_map slots_in synced.before item (contains_has (flat_map slots_in synced.before) item set.1) in
      let stood : Has (take sync.place es) e.0 = subst (λ (t : List Entry). Has t e.0) (sym sync.front) e.1 in
      let longer : Has (flat_map slots_in (take n es)) item = flat_map_has slots_in (take n es) e.0 item (has_longer sync.place n es e.0 (omega arith) stood) e.2 in
      let own : slot_bytes_for (offset + i) item ≡ Some bytes = slot_to (offset + i) item refl in
      ap (λ (o : Option StoredBytes). byte_held o j)
      (member_bytes_show start lists shown (members_lock bank) n (offset + i) k clean.behind (omega arith)
      ∙ last_some (shown (offset + i)) (filter_map (slot_bytes_for (offset + i)) (flat_map slots_in (take n es))) bytes (filter_map_has (slot_bytes_for (offset + i)) (flat_map slots_in (take n es)) item bytes longer own) (λ y h.
      let r = has_filter_map (slot_bytes_for (offset + i)) (flat_map slots_in (take n es)) y h in
      let read = slot_at (offset + i) y r.0 r.2 in
      sym read.1 ∙ ap bytes_for (one_member gen.0 multi offset i members member r.0 gen.1 here (slot_given bank n r.0 r.1) read.0)))))
      (λ (gone : IsMemberGone synced.before (offset + i)).
      let entry : Has es gone.0 = has_take sync.place es gone.0 (subst (λ (t : List Entry). Has t gone.0) (sym sync.front) (contains_has synced.before gone.0 gone.2)) in
      absurd (not_gone bank (offset + i) lower (omega arith) (omega arith) (gone.1, inr (gone.0, has_contains es gone.0 entry, gone.3), gone.4)))
      (synced.each multi offset i members member found.0 here (ap members_lock on))

  -- where the start shows no member, and no multixact of the life has one, none shows in any image
  shows_none : (shown : ℕ → Option StoredBytes) (bank x : ℕ) (c : Pages) → ((i : ℕ) → i < 4 → byte_held (shown x) i ≡ 0) → ((slot : SetSlot) → SlotOf lists slot → slot.offset ≡ x → ⊥) → SlotSince start shown (at lists (members_lock bank)) c x
      → member_at c x ≡ 0
  shows_none shown bank x c clear never bytes =
      number_zero (page_bytes (c (member_page_of x))) (member_place_of x) (λ i lt.
      let since : Since (member_reading start shown) (wanted_byte i) (at lists (members_lock bank)) x (member_page_of x) (slot_byte c x i) = bytes i (omega arith) in
      let es : List Entry = take since.count (at lists (members_lock bank)) in
      let none : (o : Option StoredBytes) → shows_of (member_reading start shown) es x ≡ o → byte_held o i ≡ 0 = elim [
        | None ↦ λ q. refl
        | Some v ↦ λ q. ⊎_elim
            (λ (z : shown x ≡ Some v). ap (λ (o : Option StoredBytes). byte_held o i) (sym z) ∙ clear i lt)
            (λ (z : (slot : SetSlot) × Has (flat_map slots_in es) slot × (slot_bytes_for x slot ≡ Some v)). absurd (never z.0 (slot_given bank since.count z.0 z.1) (slot_at x v z.0 z.2).0))
            (shows_from stored_members start.base.offset shown x v es q)
      ] in
      let here : slot_byte c x i ≡ 0 = ⊎_elim
      (λ (q : slot_byte c x i ≡ byte_held (shows_of (member_reading start shown) es x) i). q ∙ none (shows_of (member_reading start shown) es x) refl)
      (λ (q : (slot_byte c x i ≡ 0) × MayBeGone (member_ring start) (at lists (members_lock bank)) (member_page_of x)). q.0)
      since.shows in
      subst (λ b. slice_index (page_bytes (c (member_page_of x))) (cond b (mode_place_of x) (member_place_of x + i)) ≡ 0) (in_id i lt) here)

  -- an offset without a low half right behind the members of a recorded multixact has no member
  no_slot : (x : ℕ) (slot : SetSlot) → low_half x ≡ 0 → x ≤ start.base.offset → SlotOf lists slot → slot.offset ≡ x → ⊥
  no_slot x slot none old o same =
      let s = slot_from slot o in let s0 = s.0 in
      ⊎_elim (λ (q : 1 ≤ low_half slot.offset). let z : low_half slot.offset ≡ 0 = ap low_half same ∙ none in omega arith) (λ (q : start.base.offset < slot.offset). omega arith) s.1

  no_slot_behind : (by : By) (multi offset : ℕ) (members : List Member) (slot : SetSlot) → Has (multi_history lists) (multis.Gen by multi offset members) → low_half (offset + length members) ≡ 0 → SlotOf lists slot → slot.offset ≡ offset + length members → ⊥
  no_slot_behind by multi offset members slot gen none o same =
      let behind = o.behind in
      let given = contains_has (multi_history lists) (multis.Gen o.recorded.by o.multi o.first o.members) o.recorded.given in
      let full = (order.given o.recorded.by o.multi o.first o.members given).2 in
      let other = get_inside o.members (slot.offset - o.first) slot.member o.member in
      ⊎_elim
      (λ (q : (multi < o.multi) × (offset + length members ≤ o.first)).
      let z = q.1 in let e : o.first ≡ offset + length members = omega arith in let w : low_half o.first ≡ 0 = ap low_half e ∙ none in omega arith)
      (λ r. ⊎_elim
      (λ (q : (o.multi < multi) × (o.first + length o.members ≤ offset)). let z = q.1 in omega arith)
      (λ (q : (multi ≡ o.multi) × (offset ≡ o.first) × (members ≡ o.members)). let z = q.1 in let long : length members ≡ length o.members = ap (λ (t : List Member). length t) q.2 in omega arith)
      r)
      (order.apart by o.recorded.by multi o.multi offset o.first members o.members gen given)

  members_shown : (shown : ℕ → Option StoredBytes) (bank n : ℕ) (c : Pages) → CleanMembers start shown → AreRaisesTold start lists → IsBeginning start lists n → bank < start.banks → MembersFollow start bank shown (at lists (members_lock bank)) c
      → ShowsMembers start.banks bank (base_at log n).recorded (base_at log log.flushed).counters.oldest_multi c
  members_shown shown bank n c clean told beginning inside follows multi offset i members member among from here on =
      ⊎_elim
      (λ (lt : n < start.from). shows_base shown bank multi offset i members member c clean told (earlier_recorded start lists log n (records.Multi multi offset members) f (omega arith) among) from here on follows)
      (λ h.
      let may = may_forget start lists n k h in
      let up : start.from ≤ n = may.2.from in
      ⊎_elim
      (λ a. shows_base shown bank multi offset i members member c clean told (has_contains start.recorded (records.Multi multi offset members) a) from here on follows)
      (λ a. shows_synced shown bank n multi offset i members member may.0 c clean inside may.1 may.2 a from here on follows)
      (recorded_cases start lists log n (records.Multi multi offset members) f up among))
      beginning

  no_gap : (shown : ℕ → Option StoredBytes) (bank : ℕ) (c : Pages) → CleanMembers start shown → MembersFollow start bank shown (at lists (members_lock bank)) c
      → ShowsNoGap start.banks bank (base_at log (log_end log)).recorded (base_at log log.flushed).counters.oldest_multi c
  no_gap shown bank c clean follows multi offset members among from none on =
      let up = oldest_multi_from start lists log f in
      let r = room in let r0 = r.0 in let r1 = r.1 in
      let low = is.oldest_offset in
      let ends = f.from in
      let long : start.from ≤ log_end log = life_end start lists log f in
      ⊎_elim
      (λ (a : Has start.recorded (records.Multi multi offset members)).
      let old = has_contains start.recorded (records.Multi multi offset members) a in
      let w = clean.in_order.within multi offset members old (omega arith) in let w0 = w.0 in let w1 = w.1 in
      shows_none shown bank (offset + length members) c (clean.gap multi offset members old (omega arith) none) (λ slot o. no_slot (offset + length members) slot none (omega arith) o)
      (follows (offset + length members) (record { from = omega arith; to = omega arith }) (ap members_lock on)))
      (λ (a : Has (take (log_end log - start.from) (life_recs lists)) (records.Multi multi offset members)).
      let p = taken_place (log_end log - start.from) (life_recs lists) (records.Multi multi offset members) a in
      let g = map_get (λ (t : By × Rec). t.1) (records_of lists) p.0 (records.Multi multi offset members) p.2 in
      let gen = appended_gen start lists p.0 g.0.0 multi offset members k (g.1 ∙ ap (λ (z : Rec). Some (g.0.0, z)) g.2) in
      let w = order.given gen.0 multi offset members gen.1 in let w0 = w.0 in let w1 = w.1 in
      shows_none shown bank (offset + length members) c (λ i lt. clean.clean (offset + length members) i (omega arith) (omega arith) lt) (λ slot o. no_slot_behind gen.0 multi offset members slot gen.1 none o)
      (follows (offset + length members) (record { from = omega arith; to = omega arith }) (ap members_lock on)))
      (recorded_cases start lists log (log_end log) (records.Multi multi offset members) f long among)

pub members_fit : MembersFitLaw
members_fit start lists shown log bank n c k is told clean f beginning few inside follows tails = record {
  recorded = members_shown start lists log k is f few shown bank n c clean (λ rec among by multi offset raised old. raises_told start lists by multi offset k told rec among raised old) beginning inside follows;
  no_gap = no_gap start lists log k is f few shown bank c clean follows;
  tails = tails;
}
