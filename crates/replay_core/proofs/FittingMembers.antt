-- At each moment of a recovery the pages of members fit, and at its end they show the base.
use Rattle.std.proofs.Common.{◌≡◌, ◌⊎◌, ⊎_elim, ℕ, ◌+◌, ◌%◌, ◌<◌, ◌≤◌, ◌^◌, List, length, Option, Some, None, Contains, slice_index, refl, sym, ap, subst, arith, ◌∙◌}
use Rattle.std.specs.List.{slice_get}
use Rattle.tx_events.specs.Ids.{low_half}
use Rattle.tx_events.specs.Limits.{member_stop}
use Rattle.disk_core.specs.Pages.{Pages, page_bytes}
use Rattle.store_pages.specs.Layouts.{member_page_of, member_place_of, mode_place_of}
use Rattle.tx_events.specs.declared.multi.Member.{Member}
use Rattle.tx_events.specs.declared.record.Rec.{Rec}
use Rattle.tx_events.specs.declared.record.Rec.TheVariants as records
use Rattle.tx_events.specs.LifeBase.{LifeBase}
use Rattle.recoverable.specs.Bytes.{ImageHasZeroTails, slot_byte, slot_bytes, slot_place_of}
use Rattle.recoverable.specs.Fit.{KeptLog, base_at, log_end}
use Rattle.recoverable.specs.FitMultis.{MembersFit, member_at}
use Rattle.recoverable.proofs.Offsets.{number_zero}
use Rattle.recoverable.proofs.Stretches.{get_inside}
use Rattle.replay_multis.specs.declared.share.Share.{Share}
use Rattle.replay_multis.specs.Named.{IsMemberByte}
use Rattle.replay_multis.specs.Restore.{IsCleared, IsPastOffset, MayBecome}
use Rattle.replay_core.specs.Laws.{end_base}
use Rattle.replay_core.specs.LawsMultis.{FitsWithinMembers, IsWholeOfMultis, ShowsMemberBase, first_offset}
use Rattle.replay_core.proofs.FittingOffsets.{among_cases, new_among, old_among, same_base, zero_byte_of}
use Rattle.replay_core.proofs.PastMultis.{is_past_id, is_past_page, not_past_slot, one_number, slot_at, slot_halves, slot_inside}

pub small_page : (x : ℕ) → member_page_of x < 2 ^ 32
small_page x = omega arith

stop_near : (oldest : ℕ) → member_stop oldest ≤ oldest + 2 ^ 30
stop_near oldest = grind arith

some_same : {A : Type 0} (x y : A) → Some x ≡ Some y → x ≡ y
some_same {A} x y e = ap (λ (z : Option A). elim z [ None ↦ x | Some v ↦ v ]) e

-- ---- one byte of one slot

record SlotFits (log : KeptLog) (n x i byte : ℕ) : Type 0 where
  recorded : (multi offset k : ℕ) (members : List Member) (member : Member) → Contains (base_at log n).recorded (records.Multi multi offset members) → (base_at log log.flushed).counters.oldest_multi ≤ multi
      → slice_get members k ≡ Some member → x ≡ offset + k → byte ≡ slot_bytes member i
  gap : i < 4 → (multi offset : ℕ) (members : List Member) → Contains (base_at log (log_end log)).recorded (records.Multi multi offset members) → (base_at log log.flushed).counters.oldest_multi ≤ multi
      → low_half x ≡ 0 → x ≡ offset + length members → byte ≡ 0

-- the place of an id's byte
id_byte : (c : Pages) (x i : ℕ) → i < 4 → slot_byte c x i ≡ slice_index (page_bytes (c (member_page_of x))) (member_place_of x + i)
id_byte c x i lt = ⊎_elim
    (λ (s : (i < 4) × (slot_place_of x i ≡ member_place_of x + i)). ap (λ z. slice_index (page_bytes (c (member_page_of x))) z) s.1)
    (λ (s : (i ≡ 4) × (slot_place_of x i ≡ mode_place_of x)). let z = s.0 in absurd (omega (arith, z, lt)))
    (slot_at x i (omega (arith, lt)))

module _ (share : Share) (log : KeptLog) (n : ℕ) where
  slots_of : (c : Pages) → MembersFit share.banks share.bank log n c → (x : ℕ) → member_page_of x % share.banks ≡ share.bank → (i : ℕ) → i < 5 → SlotFits log n x i (slot_byte c x i)
  slots_of c f x on i lt = record {
    recorded = λ multi offset k members member among from at e. subst (λ z. slot_byte c z i ≡ slot_bytes member i) (sym e)
        (f.recorded multi offset k members member among from at (subst (λ z. member_page_of z % share.banks ≡ share.bank) e on) i lt);
    gap = λ id multi offset members among from low e. id_byte c x i id ∙ zero_byte_of (page_bytes (c (member_page_of x))) (member_place_of x) i id
        (subst (λ z. member_at c z ≡ 0) (sym e) (f.no_gap multi offset members among from (subst (λ z. low_half z ≡ 0) e low) (subst (λ z. member_page_of z % share.banks ≡ share.bank) e on)));
  }

  fits_of : (c : Pages) → ((x : ℕ) → member_page_of x % share.banks ≡ share.bank → (i : ℕ) → i < 5 → SlotFits log n x i (slot_byte c x i)) → ImageHasZeroTails c → MembersFit share.banks share.bank log n c
  fits_of c each tails = record {
    recorded = λ multi offset k members member among from at on i lt. (each (offset + k) on i lt).recorded multi offset k members member among from at refl;
    no_gap = λ multi offset members among from low on.
        number_zero (page_bytes (c (member_page_of (offset + length members)))) (member_place_of (offset + length members)) (λ i lt.
        sym (id_byte c (offset + length members) i lt) ∙ (each (offset + length members) on i (omega (arith, lt))).gap lt multi offset members among from low refl);
    tails = tails;
  }

  module _ (recs : List Rec) (w : IsWholeOfMultis log n recs) where
    from_end : (m : ℕ) → (base_at log log.flushed).counters.oldest_multi ≤ m → (end_base log).counters.oldest_multi ≤ m
    from_end m le = subst (λ (b : LifeBase). b.counters.oldest_multi ≤ m) (same_base log n recs w) le

    near_end : (end_base log).counters.offset ≤ (end_base log).counters.oldest_offset + 2 ^ 30
    near_end = let high = w.base.counters.offset in let near = stop_near (end_base log).counters.oldest_offset in omega arith

    first_upto : first_offset log n ≤ (end_base log).counters.offset
    first_upto = let a = w.upto_offset in let b = w.base.counters.oldest_offset in omega arith

    -- the members of a recorded multixact in use lie in the window
    lies : (m o : ℕ) (ms : List Member) → Contains (end_base log).recorded (records.Multi m o ms) → (end_base log).counters.oldest_multi ≤ m → ((end_base log).counters.oldest_offset ≤ o) × (o + length ms ≤ (end_base log).counters.offset)
    lies m o ms among from = w.base.in_order.within m o ms among from

    not_first : (x m o k i : ℕ) (ms : List Member) (member : Member) → i < 5 → Contains (base_at log n).recorded (records.Multi m o ms) → (end_base log).counters.oldest_multi ≤ m → slice_get ms k ≡ Some member → x ≡ o + k
        → IsPastOffset (first_offset log n) (member_page_of x) (slot_place_of x i) → ⊥
    not_first x m o k i ms member lt among from at e past =
        let below = (w.before m o ms among).1 in let up = w.begun_offset in let high = first_upto in let win = near_end in let inside = get_inside ms k member at in
        let low = (lies m o ms (old_among log n recs w (records.Multi m o ms) among) from).0 in
        not_past_slot (first_offset log n) x i lt (omega arith) (omega arith) past

    not_next : (x m o k i : ℕ) (ms : List Member) (member : Member) → i < 5 → Contains (end_base log).recorded (records.Multi m o ms) → (end_base log).counters.oldest_multi ≤ m → slice_get ms k ≡ Some member → x ≡ o + k
        → IsPastOffset (end_base log).counters.offset (member_page_of x) (slot_place_of x i) → ⊥
    not_next x m o k i ms member lt among from at e past =
        let win = near_end in let inside = get_inside ms k member at in let l = lies m o ms among from in let l0 = l.0 in let l1 = l.1 in
        not_past_slot (end_base log).counters.offset x i lt (omega arith) (omega arith) past

    -- a named byte at the place of an offset of the window is of its slot
    named_is : (x i b : ℕ) → i < 5 → (end_base log).counters.oldest_offset ≤ x → x ≤ (end_base log).counters.offset → (h : IsMemberByte share (end_base log).counters.oldest_multi (end_base log).counters.oldest_offset recs (member_page_of x) (slot_place_of x i) b)
        → (x ≡ h.offset + h.run.n) × (i ≡ h.run.slot.k)
    named_is x i b lt from upto h =
        let same = slot_halves x (h.offset + h.run.n) i h.run.slot.k lt h.run.slot.small h.run.slot.page h.run.slot.place in
        let inside = get_inside h.members h.run.n h.run.member h.run.at in
        let below = (lies h.multi h.offset h.members (new_among log n recs w h.multi h.offset h.members h.among) h.from).1 in
        let low = h.run.from in let win = near_end in
        (one_number (end_base log).counters.oldest_offset (end_base log).counters.offset x (h.offset + h.run.n) (omega arith) from upto low (omega arith) same.0, same.1)

    -- what stands there is the member of the recorded multixact
    its_member : (x m o k i b : ℕ) (ms : List Member) (member : Member) → i < 5 → Contains (end_base log).recorded (records.Multi m o ms) → (end_base log).counters.oldest_multi ≤ m → slice_get ms k ≡ Some member → x ≡ o + k
        → IsMemberByte share (end_base log).counters.oldest_multi (end_base log).counters.oldest_offset recs (member_page_of x) (slot_place_of x i) b → b ≡ slot_bytes member i
    its_member x m o k i b ms member lt among from at e h =
        let inside = get_inside ms k member at in let l = lies m o ms among from in let l0 = l.0 in let l1 = l.1 in
        let is = named_is x i b lt (omega arith) (omega arith) h in let is0 = is.0 in
        let other = new_among log n recs w h.multi h.offset h.members h.among in
        let within = get_inside h.members h.run.n h.run.member h.run.at in
        let one : m ≡ h.multi = ⊎_elim (λ (q : m ≡ h.multi). q) (λ z. ⊎_elim
        (λ (q : m < h.multi). let a = w.base.in_order.apart m h.multi o h.offset ms h.members among other from q in absurd (omega arith))
        (λ (q : h.multi < m). let a = w.base.in_order.apart h.multi m h.offset o h.members ms other among h.from q in absurd (omega arith)) z) (three m h.multi) in
        let again = subst (λ z. Contains (end_base log).recorded (records.Multi z h.offset h.members)) (sym one) other in
        let same = w.base.in_order.once m o h.offset ms h.members among again from in let same0 = same.0 in
        let place : k ≡ h.run.n = omega arith in
        let who : member ≡ h.run.member = some_same member h.run.member (sym at ∙ ap (slice_get ms) place ∙ ap (λ (t : List Member). slice_get t h.run.n) same.1 ∙ h.run.at) in
        h.run.slot.byte ∙ ap (λ (z : Member). slot_bytes z h.run.slot.k) (sym who) ∙ ap (slot_bytes member) (sym is.1)
      where
        three : (a b : ℕ) → (a ≡ b) ⊎ ((a < b) ⊎ (b < a))
        three a b = grind arith

    -- no member was recorded behind the last one of a multixact, where that offset has low half 0
    no_slot : (x m o i b : ℕ) (ms : List Member) → i < 5 → Contains (end_base log).recorded (records.Multi m o ms) → (end_base log).counters.oldest_multi ≤ m → low_half x ≡ 0 → x ≡ o + length ms
        → IsMemberByte share (end_base log).counters.oldest_multi (end_base log).counters.oldest_offset recs (member_page_of x) (slot_place_of x i) b → ⊥
    no_slot x m o i b ms lt among from zero e h =
        let l = lies m o ms among from in let l0 = l.0 in let l1 = l.1 in
        let is = named_is x i b lt (omega arith) (omega arith) h in let is0 = is.0 in
        let other = new_among log n recs w h.multi h.offset h.members h.among in
        let within = get_inside h.members h.run.n h.run.member h.run.at in
        ⊎_elim
        (λ (q : m ≡ h.multi).
        let again = subst (λ z. Contains (end_base log).recorded (records.Multi z h.offset h.members)) (sym q) other in
        let same = w.base.in_order.once m o h.offset ms h.members among again from in let same0 = same.0 in
        let long : length ms ≡ length h.members = ap (λ (t : List Member). length t) same.1 in omega arith)
        (λ z. ⊎_elim
        (λ (q : m < h.multi).
        let a = w.base.in_order.apart m h.multi o h.offset ms h.members among other from q in
        let stored = w.base.in_order.stored h.multi h.offset h.members other h.from in
        let first : h.offset ≡ x = omega arith in
        let half : low_half h.offset ≡ 0 = ap low_half first ∙ zero in omega (arith, stored, half))
        (λ (q : h.multi < m). let a = w.base.in_order.apart h.multi m h.offset o h.members ms other among h.from q in omega arith)
        z)
        (three m h.multi)
      where
        three : (a b : ℕ) → (a ≡ b) ⊎ ((a < b) ⊎ (b < a))
        three a b = grind arith

    become_fits : (x i b : ℕ) → i < 5 → MayBecome (IsMemberByte share (end_base log).counters.oldest_multi (end_base log).counters.oldest_offset recs) (IsPastOffset (first_offset log n)) (IsPastOffset (end_base log).counters.offset) (member_page_of x) (slot_place_of x i) b → SlotFits log n x i b
    become_fits x i b lt k = ⊎_elim
        (λ (h : IsMemberByte share (end_base log).counters.oldest_multi (end_base log).counters.oldest_offset recs (member_page_of x) (slot_place_of x i) b). record {
          recorded = λ m o j ms member among old at e. its_member x m o j i b ms member lt (old_among log n recs w (records.Multi m o ms) among) (from_end m old) at e h;
          gap = λ id m o ms among old zero e. absurd (no_slot x m o i b ms lt among (from_end m old) zero e h);
        })
        (λ z. ⊎_elim
        (λ (h : IsCleared (IsPastOffset (first_offset log n)) (member_page_of x) (slot_place_of x i) b). record {
          recorded = λ m o j ms member among old at e. absurd (not_first x m o j i ms member lt among (from_end m old) at e h.1);
          gap = λ id m o ms among old zero e. h.0;
        })
        (λ (h : IsCleared (IsPastOffset (end_base log).counters.offset) (member_page_of x) (slot_place_of x i) b). record {
          recorded = λ m o j ms member among old at e. absurd (not_next x m o j i ms member lt (old_among log n recs w (records.Multi m o ms) among) (from_end m old) at e h.1);
          gap = λ id m o ms among old zero e. h.0;
        })
        z)
        k

    -- no tail is written
    tail_zero : (q i b : ℕ) → 8180 ≤ i → MayBecome (IsMemberByte share (end_base log).counters.oldest_multi (end_base log).counters.oldest_offset recs) (IsPastOffset (first_offset log n)) (IsPastOffset (end_base log).counters.offset) q i b → b ≡ 0
    tail_zero q i b behind k = ⊎_elim
        (λ (h : IsMemberByte share (end_base log).counters.oldest_multi (end_base log).counters.oldest_offset recs q i b). let z = slot_inside (h.offset + h.run.n) h.run.slot.k h.run.slot.small in let p = h.run.slot.place in absurd (omega (arith, z, p, behind)))
        (λ z. ⊎_elim (λ h. h.0) (λ h. h.0) z)
        k

pub fits_within_members : FitsWithinMembers
fits_within_members share log n recs m c d w map fits may = fits_of share log n d (λ x on i lt.
    ⊎_elim
    (λ (e : slot_byte d x i ≡ slot_byte c x i). subst (SlotFits log n x i) (sym e) (slots_of share log n c fits x on i lt))
    (λ h. ⊎_elim
    (λ (e : slot_byte d x i ≡ slice_index (m (member_page_of x)) (slot_place_of x i)). subst (SlotFits log n x i) (sym e) (slots_of share log n (λ q. Some (m q)) map x on i lt))
    (λ k. become_fits share log n recs w x i (slot_byte d x i) lt k)
    h)
    (may.each (member_page_of x) (slot_place_of x i) (small_page x)))
    (λ q i small behind. ⊎_elim
    (λ e. e ∙ fits.tails q i small behind)
    (λ h. ⊎_elim (λ e. e ∙ map.tails q i small behind) (λ k. tail_zero share log n recs w q i _ behind k) h)
    (may.each q i small))

pub shows_member_base : ShowsMemberBase
shows_member_base share log n recs m new c w map all has =
    let here : (x i : ℕ) → slot_byte c x i ≡ slice_index (new (member_page_of x)) (slot_place_of x i) = λ x i. ap (λ (l : List ℕ). slice_index l (slot_place_of x i)) (has (member_page_of x)) in
    let after : (x : ℕ) → member_page_of x % share.banks ≡ share.bank → (i : ℕ) → i < 5 → SlotFits log n x i (slice_index (new (member_page_of x)) (slot_place_of x i)) = λ x on i lt. ⊎_elim
    (λ (e : slice_index (new (member_page_of x)) (slot_place_of x i) ≡ slice_index (m (member_page_of x)) (slot_place_of x i)). subst (SlotFits log n x i) (sym e) (slots_of share log n (λ q. Some (m q)) map x on i lt))
    (λ k. become_fits share log n recs w x i (slice_index (new (member_page_of x)) (slot_place_of x i)) lt k)
    (all.each (member_page_of x) (slot_place_of x i) (small_page x)) in
    let flushed : (y : ℕ) → (end_base log).counters.oldest_multi ≤ y → (base_at log log.flushed).counters.oldest_multi ≤ y = λ y le. subst (λ (b : LifeBase). b.counters.oldest_multi ≤ y) (sym (same_base log n recs w)) le in
    record {
      recorded = λ multi offset k members member among from at on i lt.
          here (offset + k) i ∙ ⊎_elim
          (λ old. (after (offset + k) on i lt).recorded multi offset k members member old (flushed multi from) at refl)
          (λ later.
          let l = (lies share log n recs w multi offset members among from).0 in
          let stands = all.done (member_page_of (offset + k)) (slot_place_of (offset + k) i) (slot_bytes member i) (small_page (offset + k))
          (record { multi = multi; offset = offset; members = members; among = later; from = from; run = record { n = k; member = member; at = at; from = omega (arith, l); on = on; slot = record { k = i; small = lt; page = refl; place = refl; byte = refl } } })
          (not_next share log n recs w (offset + k) multi offset k i members member lt among from at refl) in
          its_member share log n recs w (offset + k) multi offset k i _ members member lt among from at refl stands)
          (among_cases log n recs w multi offset members among);
      no_gap = λ multi offset members among from low on.
          number_zero (page_bytes (c (member_page_of (offset + length members)))) (member_place_of (offset + length members)) (λ i lt.
          sym (id_byte c (offset + length members) i lt) ∙ here (offset + length members) i
          ∙ (after (offset + length members) on i (omega (arith, lt))).gap lt multi offset members among (flushed multi from) low refl);
      tails = λ q i small behind. ap (λ (l : List ℕ). slice_index l i) (has q) ∙ ⊎_elim
          (λ e. e ∙ map.tails q i small behind)
          (λ k. tail_zero share log n recs w q i _ behind k)
          (all.each q i small);
      clean = λ x on next. number_zero (page_bytes (c (member_page_of x))) (member_place_of x) (λ i lt.
          ap (λ (l : List ℕ). slice_index l (member_place_of x + i)) (has (member_page_of x)) ∙ all.cleared (member_page_of x) (member_place_of x + i) (small_page x) (is_past_id (end_base log).counters.offset x i next.0 (omega (arith, next.1))));
      no_mode = λ x on next later. here x 4 ∙ all.cleared (member_page_of x) (slot_place_of x 4) (small_page x) (is_past_page (end_base log).counters.offset x (slot_place_of x 4) next.0 (omega (arith, next.1)) later);
    }
