-- No page is cut that is still asked for, as it is stored.
use Rattle.std.proofs.Common.{Contains, List, [], arith, drop, false, min, refl, subst, sym, take, take-append-drop, ℕ, ⊎_elim, ◌+◌, ◌*◌, ◌%◌, ◌/◌, ◌^◌, ◌<◌, ◌≡◌, ◌≤◌}
use Rattle.tx_events.specs.Ids.{id_before, low_half}
use Rattle.tx_events.specs.Limits.{member_stop}
use Rattle.tx_events.specs.PageOrder.{Ids, Multis, Offsets, is_cut}
use Rattle.tx_events.specs.PageWindow.{id_is_kept, member_is_kept, multi_is_kept, parent_is_kept}
use Rattle.store_pages.specs.Layouts.{multi_before, subtrans_cut_page, xact_cut_page}
use Rattle.tx_events.specs.declared.event.By.{By}
use Rattle.tx_events.specs.declared.event.Event.{Event}
use Rattle.tx_events.specs.declared.event.Event.TheVariants as events
use Rattle.tx_events.specs.declared.multi.MultiEvent.TheVariants as multis
use Rattle.tx_events.specs.declared.record.Rec.TheVariants as records
use Rattle.tx_events.proofs.GivenIds.{legal_take}
use Rattle.tx_events.proofs.Horizons.{xmin_at}
use Rattle.tx_events.proofs.IdOrder.{next_of_before}
use Rattle.tx_events.proofs.Membership.{contains_has, has_place}
use Rattle.tx_events.specs.Base.{IsBase}
use Rattle.tx_events.specs.History.{IsLegal, MayCome, next_given}
use Rattle.tx_events.specs.Horizon.{oldest_id, oldest_xmin}
use Rattle.tx_events.specs.Multis.{free_offset, next_made, oldest_multi, oldest_offset}
use Rattle.tx_core.specs.declared.entry.Entry.{Entry}
use Rattle.tx_core.specs.declared.entry.Kind.TheVariants as kinds
use Rattle.tx_core.specs.declared.entry.Start.{Start}
use Rattle.tx_core.proofs.Asking.{upheld_has}
use Rattle.tx_core.proofs.Cutting.{before_upto, cut_says, oldest_upto, truncated_announced}
use Rattle.tx_core.proofs.HorizonLaws.{positive}
use Rattle.tx_core.proofs.MultiGiven.{oldest_from, raised_from}
use Rattle.tx_core.proofs.MultiOrder.{ordered}
use Rattle.tx_core.proofs.MultiRaised.{last_raised}
use Rattle.tx_core.proofs.Nearness.{free_upto, multis_are_legal}
use Rattle.tx_core.proofs.Posting.{oldest_by_places}
use Rattle.tx_core.proofs.Reading.{flushed_appended}
use Rattle.tx_core.proofs.Room.{has_room, multis_have_room}
use Rattle.tx_core.specs.CutsFollow.{IsTruncated}
use Rattle.tx_core.specs.EngineInvariant.{EngineInvariant}
use Rattle.tx_core.specs.Entries.{AreFewIds, history}
use Rattle.tx_core.specs.Held.{IsHeld, PagesHeld}
use Rattle.tx_core.specs.Locks.{log_lock, member_page, member_page_in_full, members_lock, offset_page, offsets_lock, subtrans_lock, subtrans_page, xact_lock, xact_page}
use Rattle.tx_core.specs.MultiEntries.{AreFewMultis, multi_history}
use Rattle.tx_core.specs.RecordsFollow.{IsMultiAnnounced, IsOldestAnnounced, NeedsCounters}
use Rattle.notes.specs.Lists.{at}

-- numbers from that of the cut on, as pages are stored

xact_kept : (o x : ℕ) → o ≤ x → x + 2 ^ 15 < o + 2 ^ 31 → is_cut Ids 32768 (xact_page o % 2 ^ 17) (xact_page (low_half x)) ≡ false
xact_kept o x from near =
    let same : xact_page o % 2 ^ 17 ≡ low_half o / 32768 = omega arith in subst (λ p. is_cut Ids 32768 p (low_half x / 32768) ≡ false) (sym same) (id_is_kept o x from near)

subtrans_kept : (o x : ℕ) → o ≤ x → x + 2 ^ 15 < o + 2 ^ 31 → is_cut Ids 2048 (subtrans_page o % 2 ^ 21) (subtrans_page (low_half x)) ≡ false
subtrans_kept o x from near =
    let same : subtrans_page o % 2 ^ 21 ≡ low_half o / 2048 = omega arith in subst (λ p. is_cut Ids 2048 p (low_half x / 2048) ≡ false) (sym same) (parent_is_kept o x from near)

-- The cut page is that of a number z that isn't past the oldest one.

pub xact_cut_kept : (first oldest page x : ℕ) → page ≡ xact_cut_page first oldest → first ≤ oldest → oldest ≤ x → x + 2 ^ 15 < first + 2 ^ 31 → is_cut Ids 32768 (page % 2 ^ 17) (xact_page (low_half x)) ≡ false
xact_cut_kept first oldest page x is from to near =
    let z : ℕ = min oldest (page * 32768 + 32767) in
    let on : page ≡ xact_page z = omega arith in
    subst (λ p. is_cut Ids 32768 (p % 2 ^ 17) (xact_page (low_half x)) ≡ false) (sym on) (xact_kept z x (omega arith) (omega arith))

subtrans_cut_kept : (first xmin page x : ℕ) → page ≡ subtrans_cut_page first xmin → xmin ≤ x → x + 2 ^ 15 < first + 2 ^ 31 → x + 2 ^ 15 < id_before xmin + 2 ^ 31 → is_cut Ids 2048 (page % 2 ^ 21) (subtrans_page (low_half x)) ≡ false
subtrans_cut_kept first xmin page x is to near close =
    let below = before_upto xmin in
    let z : ℕ = min (id_before xmin) (page * 2048 + 2047) in
    let on : page ≡ subtrans_page z = omega arith in
    subst (λ p. is_cut Ids 2048 (p % 2 ^ 21) (subtrans_page (low_half x)) ≡ false) (sym on) (subtrans_kept z x (omega arith) (omega arith))

offset_kept : (o x : ℕ) → o ≤ x → x + 2 ^ 15 < o + 2 ^ 31 → is_cut Multis 2048 (offset_page o % 2 ^ 21) (offset_page (low_half x)) ≡ false
offset_kept o x from near =
    let same : offset_page o % 2 ^ 21 ≡ low_half o / 2048 = omega arith in subst (λ p. is_cut Multis 2048 p (low_half x / 2048) ≡ false) (sym same) (multi_is_kept o x from near)

member_kept : (o x : ℕ) → o ≤ x → x + 2 ^ 15 < o + 2 ^ 31 → is_cut Offsets 1636 (member_page_in_full o % 2625286) (member_page (low_half x)) ≡ false
member_kept o x from near =
    let same : member_page_in_full o % 2625286 ≡ low_half o / 1636 = omega arith in subst (λ p. is_cut Offsets 1636 p (low_half x / 1636) ≡ false) (sym same) (member_is_kept o x from near)

before_near : (n : ℕ) → n ≤ id_before n + 4
before_near n = grind arith

multi_back : (n : ℕ) → (multi_before n ≤ n) × (n ≤ multi_before n + 2)
multi_back n = grind arith

member_room : (oldest : ℕ) → member_stop oldest ≤ oldest + 2 ^ 30
member_room oldest = grind arith

module _ (start : Start) (lists : List (List Entry)) (bank : ℕ) (k : EngineInvariant start lists) (is : IsBase start.base) where
  -- what a truncation names as oldest was announced
  truncated_multi : (oldest multi offset : ℕ) → IsTruncated start lists oldest multi offset → IsMultiAnnounced start lists multi offset
  truncated_multi oldest multi offset t =
      let a = flushed_appended start lists t.session (records.Truncate oldest multi offset) t.flushed in
      let e : Entry = record { by = a.0; kind = kinds.Append (records.Truncate oldest multi offset) } in
      (upheld_has (NeedsCounters start) lists log_lock e k.log.counters (contains_has (at lists log_lock) e a.2)).1.1.1

  pub announced_from : (oldest : ℕ) → IsOldestAnnounced start lists oldest → start.base.oldest ≤ oldest
  announced_from oldest a = ⊎_elim
      (λ (q : oldest ≡ start.base.oldest). omega arith)
      (λ (z : (by : By) × Contains (history lists) (events.Oldest by oldest)).
      let h = history lists in
      let p = has_place h (events.Oldest z.0 oldest) (contains_has h (events.Oldest z.0 oldest) z.1) in
      let rule : MayCome start.base (take p.0 h) (events.Oldest z.0 oldest) = k.events.legal.rules p.0 (events.Oldest z.0 oldest) p.1 in
      let up : oldest_id start.base.oldest (take p.0 h) ≤ oldest = rule.0 in
      let low : start.base.oldest ≤ oldest_id start.base.oldest (take p.0 h) = oldest_by_places start.base (take p.0 h) (legal_take start.base h p.0 k.events.legal) 0 in omega arith)
      a

  -- the oldest xmin is never before the base's next id
  pub xmin_from : (h : List Event) → IsLegal start.base h → start.base.next ≤ oldest_xmin start.base.next h
  xmin_from h legal =
      let up = xmin_at start.base [] h legal is.full (positive start.base.next is.full) in
      let a = next_of_before start.base.next is.full in
      let low : start.base.next ≤ oldest_xmin start.base.next [] = omega arith in omega arith

  states : AreFewIds lists → (x : ℕ) → oldest_id start.base.oldest (history lists) ≤ x → x ≤ next_given start.base.next (history lists)
      → IsHeld Ids 32768 (2 ^ 17) (xact_page start.base.oldest) (at lists (xact_lock bank)) (xact_page (low_half x))
  states few x from to =
      let room = (has_room start.base (history lists) is few).0 in
      let low : start.base.oldest ≤ oldest_id start.base.oldest (history lists) = oldest_by_places start.base (history lists) k.events.legal 0 in
      record {
        first = xact_kept start.base.oldest x (omega arith) (omega arith);
        later = λ e page c g.
            let cut = (cut_says start lists (xact_lock bank) page e k c g).xact bank refl in
            let a = truncated_announced start lists cut.0 cut.1 cut.2 cut.3.session k (flushed_appended start lists cut.3.session (records.Truncate cut.0 cut.1 cut.2) cut.3.flushed) in
            let upto = oldest_upto start lists cut.0 k a in
            let past = announced_from cut.0 a in
            xact_cut_kept start.base.oldest cut.0 page x cut.4 past (omega arith) (omega arith);
      }

  parents : AreFewIds lists → (x : ℕ) → oldest_xmin start.base.next (history lists) ≤ x → x ≤ next_given start.base.next (history lists)
      → IsHeld Ids 2048 (2 ^ 21) (subtrans_page (id_before start.base.next)) (at lists (subtrans_lock bank)) (subtrans_page (low_half x))
  parents few x from to =
      let h = history lists in
      let room = (has_room start.base h is few).1 in
      let window = (has_room start.base h is few).0 in
      let low = xmin_from h k.events.legal in
      let under = before_upto start.base.next in
      let near = before_near start.base.next in
      record {
        first = subtrans_kept (id_before start.base.next) x (omega arith) (omega arith);
        later = λ e page c g.
            let cut = (cut_says start lists (subtrans_lock bank) page e k c g).subtrans bank refl in
            let front = take cut.0 h in
            let split = take-append-drop cut.0 h in
            let rises : oldest_xmin start.base.next front ≤ oldest_xmin start.base.next h = subst (λ t. oldest_xmin start.base.next front ≤ oldest_xmin start.base.next t) split (xmin_at start.base front (drop cut.0 h) (subst (IsLegal start.base) (sym split) k.events.legal) is.full (positive start.base.next is.full)) in
            let past = xmin_from front (legal_take start.base h cut.0 k.events.legal) in
            let below = before_upto (oldest_xmin start.base.next front) in
            let close = before_near (oldest_xmin start.base.next front) in
            subtrans_cut_kept start.base.oldest (oldest_xmin start.base.next front) page x cut.2 (omega arith) (omega arith) (omega arith);
      }

  offsets : AreFewMultis lists → (multi : ℕ) → oldest_multi start.base.oldest_multi (multi_history lists) ≤ multi → multi ≤ next_made start.base.multi (multi_history lists)
      → IsHeld Multis 2048 (2 ^ 21) (offset_page (multi_before start.base.oldest_multi)) (at lists (offsets_lock bank)) (offset_page (low_half multi))
  offsets few multi from to =
      let h = multi_history lists in
      let legal = multis_are_legal start lists k in
      let room = (multis_have_room start.base h is few).0 in
      let low : start.base.oldest_multi ≤ oldest_multi start.base.oldest_multi h = oldest_from start.base h legal in
      let back = multi_back start.base.oldest_multi in
      let back0 = back.0 in
      let back1 = back.1 in
      record {
        first = offset_kept (multi_before start.base.oldest_multi) multi (omega arith) (omega arith);
        later = λ e page c g.
            let cut = (cut_says start lists (offsets_lock bank) page e k c g).offsets bank refl in
            let m = multi_back cut.1 in
            let m0 = m.0 in
            let m1 = m.1 in
            let both : (start.base.oldest_multi ≤ cut.1) × (cut.1 ≤ oldest_multi start.base.oldest_multi h) = ⊎_elim
            (λ (q : (cut.1 ≡ start.base.oldest_multi) × (cut.2 ≡ start.base.oldest_offset)). let z = q.0 in (omega arith, omega arith))
            (λ (q : (by : By) × Contains h (multis.Raise by cut.1 cut.2)). (raised_from start.base h q.0 cut.1 cut.2 legal q.1, ((last_raised start.base is h legal).upto q.0 cut.1 cut.2 (contains_has h (multis.Raise q.0 cut.1 cut.2) q.1)).0))
            (truncated_multi cut.0 cut.1 cut.2 cut.3) in
            let past = both.0 in
            let upto = both.1 in
            subst (λ p. is_cut Multis 2048 (p % 2 ^ 21) (offset_page (low_half multi)) ≡ false) (sym cut.4) (offset_kept (multi_before cut.1) multi (omega arith) (omega arith));
      }

  members : AreFewMultis lists → (offset : ℕ) → oldest_offset start.base.oldest_offset (multi_history lists) ≤ offset → offset ≤ free_offset start.base.offset (multi_history lists)
      → IsHeld Offsets 1636 2625286 (member_page_in_full start.base.oldest_offset) (at lists (members_lock bank)) (member_page (low_half offset))
  members few offset from to =
      let h = multi_history lists in
      let legal = multis_are_legal start lists k in
      let o = ordered start.base is h legal in
      let low = o.oldest in
      let free = free_upto start.base h legal in
      let stop = member_room start.base.oldest_offset in
      let begun = is.offset in
      record {
        first = member_kept start.base.oldest_offset offset (omega arith) (omega arith);
        later = λ e page c g.
            let cut = (cut_says start lists (members_lock bank) page e k c g).members bank refl in
            let both : (start.base.oldest_offset ≤ cut.2) × (cut.2 ≤ oldest_offset start.base.oldest_offset h) = ⊎_elim
            (λ (q : (cut.1 ≡ start.base.oldest_multi) × (cut.2 ≡ start.base.oldest_offset)). let z = q.1 in (omega arith, omega arith))
            (λ (q : (by : By) × Contains h (multis.Raise by cut.1 cut.2)).
            let raise = contains_has h (multis.Raise q.0 cut.1 cut.2) q.1 in ((o.raised q.0 cut.1 cut.2 raise).0, ((last_raised start.base is h legal).upto q.0 cut.1 cut.2 raise).1))
            (truncated_multi cut.0 cut.1 cut.2 cut.3) in
            let past = both.0 in
            let upto = both.1 in
            subst (λ p. is_cut Offsets 1636 (p % 2625286) (member_page (low_half offset)) ≡ false) (sym cut.4) (member_kept cut.2 offset (omega arith) (omega arith));
      }

pub pages_held : PagesHeld
pages_held start lists bank k is = record { states = states start lists bank k is; parents = parents start lists bank k is; offsets = offsets start lists bank k is; members = members start lists bank k is }
