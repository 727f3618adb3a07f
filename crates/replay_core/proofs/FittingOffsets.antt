-- At each moment of a recovery the pages of offsets fit, and at its end they show the base.
use Rattle.std.proofs.Common.{◌≡◌, ◌⊎◌, inl, inr, ⊎_elim, ℕ, ◌+◌, ◌-◌, ◌*◌, ◌%◌, ◌<◌, ◌≤◌, ◌++◌, ◌^◌, List, Some, Contains, slice_index, refl, sym, ap, subst, arith, ◌∙◌}
use Rattle.std.specs.List.{filter}
use Rattle.tx_events.specs.Ids.{IsFullMulti}
use Rattle.tx_events.specs.Limits.{multi_stop_limit}
use Rattle.disk_core.specs.Pages.{Pages, page_bytes}
use Rattle.store_pages.specs.Layouts.{number_in, word_page_of, word_place_of}
use Rattle.tx_events.specs.declared.multi.Member.{Member}
use Rattle.tx_events.specs.declared.record.Rec.{Rec}
use Rattle.tx_events.specs.declared.record.Rec.TheVariants as records
use Rattle.tx_events.proofs.Membership.{contains_has, filter_has, has_cases, has_contains, has_filter, has_left, has_right}
use Rattle.tx_events.specs.LifeBase.{LifeBase, is_multi}
use Rattle.recoverable.specs.Bytes.{byte_of, offset_byte}
use Rattle.recoverable.specs.Fit.{KeptLog, base_at}
use Rattle.recoverable.specs.FitMultis.{OffsetsFit}
use Rattle.recoverable.proofs.Offsets.{number_zero}
use Rattle.replay_multis.specs.declared.share.Share.{Share}
use Rattle.replay_multis.specs.Named.{IsOffsetByte}
use Rattle.replay_multis.specs.Restore.{IsCleared, IsPastMulti, MayBecome}
use Rattle.replay_core.specs.Laws.{end_base}
use Rattle.replay_core.specs.LawsMultis.{FitsWithinOffsets, IsWholeOfMultis, ShowsOffsetBase, first_multi}
use Rattle.replay_core.proofs.PastMultis.{is_past, not_past, one_number, word_halves}

-- the number is 0 only if each byte is
zero_bytes : (b0 b1 b2 b3 : ℕ) → b0 + 256 * (b1 + 256 * (b2 + 256 * b3)) ≡ 0 → (b0 ≡ 0) × (b1 ≡ 0) × (b2 ≡ 0) × (b3 ≡ 0)
zero_bytes b0 b1 b2 b3 e = (omega arith, omega arith, omega arith, omega arith)

which : (i : ℕ) → i < 4 → (i ≡ 0) ⊎ ((i ≡ 1) ⊎ ((i ≡ 2) ⊎ (i ≡ 3)))
which i lt = grind arith

pub zero_byte_of : (bytes : List ℕ) (place i : ℕ) → i < 4 → number_in bytes place ≡ 0 → slice_index bytes (place + i) ≡ 0
zero_byte_of bytes place i lt e =
    let all = zero_bytes (slice_index bytes place) (slice_index bytes (place + 1)) (slice_index bytes (place + 2)) (slice_index bytes (place + 3)) e in
    let first : slice_index bytes (place + 0) ≡ slice_index bytes place = ap (λ k. slice_index bytes k) (let z : place + 0 ≡ place = omega arith in z) in
    ⊎_elim
    (λ (q : i ≡ 0). ap (λ k. slice_index bytes (place + k)) q ∙ first ∙ all.0)
    (λ h. ⊎_elim
    (λ (q : i ≡ 1). ap (λ k. slice_index bytes (place + k)) q ∙ all.1)
    (λ k. ⊎_elim
    (λ (q : i ≡ 2). ap (λ k. slice_index bytes (place + k)) q ∙ all.2)
    (λ (q : i ≡ 3). ap (λ k. slice_index bytes (place + k)) q ∙ all.3)
    k) h)
    (which i lt)

way : (a b : ℕ) → (a < b) ⊎ (b ≤ a)
way a b = grind arith

-- ---- what a whole log gives

pub small_page : (x : ℕ) → word_page_of x < 2 ^ 32
small_page x = omega arith

stop_near : (oldest : ℕ) → multi_stop_limit oldest ≤ oldest + 2 ^ 31 - 2999000
stop_near oldest = grind arith

module _ (log : KeptLog) (n : ℕ) (recs : List Rec) (w : IsWholeOfMultis log n recs) where
  pub same_base : base_at log log.flushed ≡ end_base log
  same_base = ap (base_at log) w.flushed

  -- all numbers in use lie within nearly half a ring
  pub window : (end_base log).counters.multi + 2 ^ 15 < (end_base log).counters.oldest_multi + 2 ^ 31
  window = let high = w.base.counters.multi in let near = stop_near (end_base log).counters.oldest_multi in omega arith

  pub old_among : (rec : Rec) → Contains (base_at log n).recorded rec → Contains (end_base log).recorded rec
  old_among rec c = subst (λ (t : List Rec). Contains t rec) (sym w.rest)
      (has_contains ((base_at log n).recorded ++ filter is_multi recs) rec (has_left (base_at log n).recorded (filter is_multi recs) rec (contains_has (base_at log n).recorded rec c)))

  pub new_among : (m x : ℕ) (ms : List Member) → Contains recs (records.Multi m x ms) → Contains (end_base log).recorded (records.Multi m x ms)
  new_among m x ms c = subst (λ (t : List Rec). Contains t (records.Multi m x ms)) (sym w.rest)
      (has_contains ((base_at log n).recorded ++ filter is_multi recs) (records.Multi m x ms) (has_right (base_at log n).recorded (filter is_multi recs) (records.Multi m x ms)
      (filter_has is_multi recs (records.Multi m x ms) (contains_has recs (records.Multi m x ms) c) refl)))

  pub among_cases : (m x : ℕ) (ms : List Member) → Contains (end_base log).recorded (records.Multi m x ms) → Contains (base_at log n).recorded (records.Multi m x ms) ⊎ Contains recs (records.Multi m x ms)
  among_cases m x ms c = ⊎_elim
      (λ k. inl (has_contains (base_at log n).recorded (records.Multi m x ms) k))
      (λ k. inr (has_contains recs (records.Multi m x ms) (has_filter is_multi recs (records.Multi m x ms) k).0))
      (has_cases (base_at log n).recorded (filter is_multi recs) (records.Multi m x ms) (contains_has ((base_at log n).recorded ++ filter is_multi recs) (records.Multi m x ms) (subst (λ (t : List Rec). Contains t (records.Multi m x ms)) w.rest c)))

  pub next_upto : first_multi log n ≤ (end_base log).counters.multi
  next_upto = let a = w.upto in let b = w.base.counters.oldest_multi in omega arith

-- ---- one byte of one offset

record WordFits (log : KeptLog) (n x i byte : ℕ) : Type 0 where
  recorded : (offset : ℕ) (members : List Member) → Contains (base_at log n).recorded (records.Multi x offset members) → (base_at log log.flushed).counters.oldest_multi ≤ x → byte ≡ byte_of offset i
  none : IsFullMulti x → (base_at log log.flushed).counters.oldest_multi ≤ x → x < (base_at log (n + 1)).counters.multi
      → ((offset : ℕ) (members : List Member) → Contains (base_at log log.flushed).recorded (records.Multi x offset members) → ⊥) → byte ≡ 0

module _ (share : Share) (log : KeptLog) (n : ℕ) where
  words_of : (c : Pages) → OffsetsFit share.banks share.bank log n c → (x : ℕ) → word_page_of x % share.banks ≡ share.bank → (i : ℕ) → i < 4 → WordFits log n x i (offset_byte c x i)
  words_of c f x on i lt = record {
    recorded = λ offset members among from. f.recorded x offset members among from on i lt;
    none = λ full from to no. zero_byte_of (page_bytes (c (word_page_of x))) (word_place_of x) i lt (f.no_other x full from to no on);
  }

  fits_of : (c : Pages) → ((x : ℕ) → word_page_of x % share.banks ≡ share.bank → (i : ℕ) → i < 4 → WordFits log n x i (offset_byte c x i)) → OffsetsFit share.banks share.bank log n c
  fits_of c each = record {
    recorded = λ x offset members among from on i lt. (each x on i lt).recorded offset members among from;
    no_other = λ x full from to no on. number_zero (page_bytes (c (word_page_of x))) (word_place_of x) (λ i lt. (each x on i lt).none full from to no);
  }

  module _ (recs : List Rec) (w : IsWholeOfMultis log n recs) where
    from_end : (x : ℕ) → (base_at log log.flushed).counters.oldest_multi ≤ x → (end_base log).counters.oldest_multi ≤ x
    from_end x le = subst (λ (b : LifeBase). b.counters.oldest_multi ≤ x) (same_base log n recs w) le

    -- a multixact that was recorded before the log's beginning isn't cleared
    not_first : (x offset : ℕ) (members : List Member) (i : ℕ) → i < 4 → Contains (base_at log n).recorded (records.Multi x offset members) → (end_base log).counters.oldest_multi ≤ x → IsPastMulti (first_multi log n) (word_page_of x) (word_place_of x + i) → ⊥
    not_first x offset members i lt among from past =
        let below = (w.before x offset members among).0 in let up = w.begun in let high = next_upto log n recs w in let win = window log n recs w in
        not_past (first_multi log n) x i lt (omega arith) (omega arith) past

    not_next : (x offset : ℕ) (members : List Member) (i : ℕ) → i < 4 → Contains (end_base log).recorded (records.Multi x offset members) → (end_base log).counters.oldest_multi ≤ x → IsPastMulti (end_base log).counters.multi (word_page_of x) (word_place_of x + i) → ⊥
    not_next x offset members i lt among from past =
        let below = (w.base.multis x offset members among).0 in let win = window log n recs w in
        not_past (end_base log).counters.multi x i lt below (omega arith) past

    -- a named byte at the place of a number of the window is its own
    named_is : (x i b : ℕ) → i < 4 → (end_base log).counters.oldest_multi ≤ x → x ≤ (end_base log).counters.multi → (h : IsOffsetByte share (end_base log).counters.oldest_multi recs (word_page_of x) (word_place_of x + i) b)
        → (x ≡ h.multi) × (i ≡ h.word.k)
    named_is x i b lt from upto h =
        let same = word_halves x h.multi i h.word.k lt h.word.small h.word.page h.word.place in
        let below = (w.base.multis h.multi h.offset h.members (new_among log n recs w h.multi h.offset h.members h.among)).0 in
        let low = h.from in let win = window log n recs w in
        (one_number (end_base log).counters.oldest_multi (end_base log).counters.multi x h.multi (omega arith) from upto low (omega arith) same.0, same.1)

    become_fits : (x i b : ℕ) → i < 4 → MayBecome (IsOffsetByte share (end_base log).counters.oldest_multi recs) (IsPastMulti (first_multi log n)) (IsPastMulti (end_base log).counters.multi) (word_page_of x) (word_place_of x + i) b → WordFits log n x i b
    become_fits x i b lt k = ⊎_elim
        (λ (h : IsOffsetByte share (end_base log).counters.oldest_multi recs (word_page_of x) (word_place_of x + i) b). record {
          recorded = λ offset members among old.
              let from = from_end x old in
              let all = old_among log n recs w (records.Multi x offset members) among in
              let below = (w.base.multis x offset members all).0 in
              let is = named_is x i b lt from (omega arith) h in
              let new = subst (λ z. Contains (end_base log).recorded (records.Multi z h.offset h.members)) (sym is.0) (new_among log n recs w h.multi h.offset h.members h.among) in
              let same = (w.base.in_order.once x h.offset offset h.members members new all from).0 in
              h.word.byte ∙ ap (λ z. byte_of z h.word.k) same ∙ ap (byte_of offset) (sym is.1);
          none = λ full old to no.
              let from = from_end x old in let up = w.upto in
              let is = named_is x i b lt from (omega arith) h in
              absurd (no h.offset h.members (subst (λ (t : LifeBase). Contains t.recorded (records.Multi x h.offset h.members)) (sym (same_base log n recs w))
              (subst (λ z. Contains (end_base log).recorded (records.Multi z h.offset h.members)) (sym is.0) (new_among log n recs w h.multi h.offset h.members h.among))));
        })
        (λ z. ⊎_elim
        (λ (h : IsCleared (IsPastMulti (first_multi log n)) (word_page_of x) (word_place_of x + i) b). record {
          recorded = λ offset members among old. absurd (not_first x offset members i lt among (from_end x old) h.1);
          none = λ full old to no. h.0;
        })
        (λ (h : IsCleared (IsPastMulti (end_base log).counters.multi) (word_page_of x) (word_place_of x + i) b). record {
          recorded = λ offset members among old. absurd (not_next x offset members i lt (old_among log n recs w (records.Multi x offset members) among) (from_end x old) h.1);
          none = λ full old to no. h.0;
        })
        z)
        k

pub fits_within_offsets : FitsWithinOffsets
fits_within_offsets share log n recs m c d w map fits may = fits_of share log n d (λ x on i lt.
    ⊎_elim
    (λ (e : offset_byte d x i ≡ offset_byte c x i). subst (WordFits log n x i) (sym e) (words_of share log n c fits x on i lt))
    (λ h. ⊎_elim
    (λ (e : offset_byte d x i ≡ slice_index (m (word_page_of x)) (word_place_of x + i)). subst (WordFits log n x i) (sym e) (words_of share log n (λ q. Some (m q)) map x on i lt))
    (λ k. become_fits share log n recs w x i (offset_byte d x i) lt k)
    h)
    (may.each (word_page_of x) (word_place_of x + i) (small_page x)))

pub shows_offset_base : ShowsOffsetBase
shows_offset_base share log n recs m new c w map all has =
    let here : (x i : ℕ) → offset_byte c x i ≡ slice_index (new (word_page_of x)) (word_place_of x + i) = λ x i. ap (λ (l : List ℕ). slice_index l (word_place_of x + i)) (has (word_page_of x)) in
    let after : (x : ℕ) → word_page_of x % share.banks ≡ share.bank → (i : ℕ) → i < 4 → WordFits log n x i (slice_index (new (word_page_of x)) (word_place_of x + i)) = λ x on i lt. ⊎_elim
    (λ (e : slice_index (new (word_page_of x)) (word_place_of x + i) ≡ slice_index (m (word_page_of x)) (word_place_of x + i)). subst (WordFits log n x i) (sym e) (words_of share log n (λ q. Some (m q)) map x on i lt))
    (λ k. become_fits share log n recs w x i (slice_index (new (word_page_of x)) (word_place_of x + i)) lt k)
    (all.each (word_page_of x) (word_place_of x + i) (small_page x)) in
    let flushed : (x : ℕ) → (end_base log).counters.oldest_multi ≤ x → (base_at log log.flushed).counters.oldest_multi ≤ x = λ x le. subst (λ (b : LifeBase). b.counters.oldest_multi ≤ x) (sym (same_base log n recs w)) le in
    record {
      recorded = λ x offset members among from on i lt. here x i ∙ ⊎_elim
          (λ old. (after x on i lt).recorded offset members old (flushed x from))
          (λ later.
          let at : IsOffsetByte share (end_base log).counters.oldest_multi recs (word_page_of x) (word_place_of x + i) (byte_of offset i) = record { multi = x; offset = offset; members = members; among = later; from = from; on = on; word = record { k = i; small = lt; page = refl; place = refl; byte = refl } } in
          let stands = all.done (word_page_of x) (word_place_of x + i) (byte_of offset i) (small_page x) at (not_next share log n recs w x offset members i lt among from) in
          let below = (w.base.multis x offset members among).0 in
          let is = named_is share log n recs w x i _ lt from (omega arith) stands in
          let new_one = subst (λ z. Contains (end_base log).recorded (records.Multi z stands.offset stands.members)) (sym is.0) (new_among log n recs w stands.multi stands.offset stands.members stands.among) in
          let same = (w.base.in_order.once x stands.offset offset stands.members members new_one among from).0 in
          stands.word.byte ∙ ap (λ z. byte_of z stands.word.k) same ∙ ap (byte_of offset) (sym is.1))
          (among_cases log n recs w x offset members among);
      other = λ x full from to no on. number_zero _ (word_place_of x) (λ i lt. here x i ∙ ⊎_elim
          (λ (low : x < (base_at log (n + 1)).counters.multi). (after x on i lt).none full (flushed x from) low (λ offset members k. no offset members (subst (λ (b : LifeBase). Contains b.recorded (records.Multi x offset members)) (same_base log n recs w) k)))
          (λ (high : (base_at log (n + 1)).counters.multi ≤ x).
          let win = window log n recs w in
          let past = is_past (first_multi log n) x i (omega arith) (omega arith) in
          ⊎_elim (λ z. z)
          (λ named. let is = named_is share log n recs w x i _ lt from (omega arith) named in
          absurd (no named.offset named.members (subst (λ z. Contains (end_base log).recorded (records.Multi z named.offset named.members)) (sym is.0) (new_among log n recs w named.multi named.offset named.members named.among))))
          (all.fresh (word_page_of x) (word_place_of x + i) (small_page x) past))
          (way x (base_at log (n + 1)).counters.multi));
      clean = λ x on next. number_zero _ (word_place_of x) (λ i lt. here x i ∙ all.cleared (word_page_of x) (word_place_of x + i) (small_page x) (is_past (end_base log).counters.multi x i next.0 (omega (arith, next.1))));
    }
