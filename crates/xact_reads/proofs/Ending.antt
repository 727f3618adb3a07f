-- What the two reads of offsets tell.
use Rattle.std.proofs.Common.{IsTrue, List, [], None, Option, ap, append-nil, arith, length, length-append, refl, subst, suc, sym, ℕ, ⊎_elim, ◌++◌, ◌∷◌, ◌+◌, ◌<◌, ◌^◌, ◌∙◌, ◌≡◌, ◌≤◌, Contains}
use Rattle.std.proofs.lemmas.Bool.Decides.{nat_tests}
use Rattle.std.proofs.lemmas.List.Elements.{filter_map-append}
use Rattle.std.proofs.lemmas.List.Sums.{fold_push}
use Rattle.tx_events.specs.Base.{IsBase}
use Rattle.tx_events.specs.Ids.{IsFullMulti, next_multi}
use Rattle.tx_events.specs.declared.event.By.{By}
use Rattle.tx_events.specs.declared.multi.MultiEvent.{MultiEvent}
use Rattle.tx_events.specs.declared.multi.MultiEvent.TheVariants as multis
use Rattle.tx_events.specs.declared.record.Counters.{Counters}
use Rattle.tx_events.specs.declared.record.Rec.TheVariants as records
use Rattle.tx_events.specs.Multis.{AreLegalMultis, InBase, IsNextMade, MultiMayCome, free_after, free_offset, made, made_by, next_made, nth_multi, oldest_multi}
use Rattle.tx_events.proofs.ListSteps.{le_or_over}
use Rattle.tx_events.proofs.Membership.{Has, by_end}
use Rattle.tx_events.proofs.PlaceLemmas.{each_place_last, each_place_start}
use Rattle.life_law.specs.MultiReplies.{IsMultiNumber}
use Rattle.tx_core.specs.declared.entry.Entry.{Entry}
use Rattle.tx_core.specs.declared.entry.Start.{Start}
use Rattle.tx_core.specs.EngineInvariant.{EngineInvariant}
use Rattle.tx_core.specs.MultiEntries.{AreFewMultis, multi_history}
use Rattle.tx_core.proofs.MultiGiven.{gen_next, oldest_from}
use Rattle.tx_core.proofs.Nearness.{multis_are_legal}
use Rattle.tx_core.proofs.Rising.{made_more, multi_above}
use Rattle.tx_core.proofs.Room.{multis_have_room}
use Rattle.recoverable.proofs.MultiChain.{next_upto}
use Rattle.multi_store.proofs.Numbers.{next_to_stop}
use Rattle.multi_store.specs.declared.answers.Held.{Held}
use Rattle.multi_banks.specs.Offsets.{HasOffset, IsOffsetFound, IsOffsetRead, WasTold}
use Rattle.xact_reads.specs.Multis.{IsWanting, WasPinned}
use Rattle.xact_reads.proofs.Spanning.{front, given_before}
use Rattle.xact_reads.proofs.Standings.{stood}

module _ (start : Start) (lists : List (List Entry)) (k : EngineInvariant start lists) (base : IsBase start.base) (few : AreFewMultis lists) (held : Held) (p : WasPinned start lists held) where
  next_full : (n : ℕ) → IsFullMulti (next_multi n)
  next_full n = grind arith

  -- what was read of one that was given when it was pinned
  found_of : (multi : ℕ) (o : Option ℕ) → IsFullMulti multi → oldest_multi start.base.oldest_multi (multi_history lists) ≤ multi → multi < next_made start.base.multi p.before → IsOffsetRead start lists multi o → IsOffsetFound start lists multi o
  found_of multi o full from below read =
      let low = oldest_from start.base (multi_history lists) (multis_are_legal start lists k) in
      let up = made_more start.base.multi p.before (multi_history lists) p.begins in
      let room = (multis_have_room start.base (multi_history lists) base few).1 in
      read full (omega (arith, low, from)) (omega (arith, below, up, room)) few

  pub first_found : (o : Option ℕ) → oldest_multi start.base.oldest_multi (multi_history lists) ≤ held.multi → IsOffsetRead start lists held.multi o → IsOffsetFound start lists held.multi o
  first_found o from read = found_of held.multi o p.full from p.pinned.known.given read

  pub first_wanting : oldest_multi start.base.oldest_multi (multi_history lists) ≤ held.multi → IsOffsetRead start lists held.multi None → IsWanting start lists held held.multi
  first_wanting from read = record { from = omega arith; below = λ q. q.pinned.known.given; none = first_found None from read }

  -- where it wasn't the last one, the one behind it was given too, if its own offset stands
  next_below : (t : WasTold start) (offset : ℕ) → oldest_multi start.base.oldest_multi (multi_history lists) ≤ held.multi → HasOffset start lists held.multi offset → (IsTrue held.last → ⊥) → (q : WasPinned start lists held) → next_multi held.multi < next_made start.base.multi q.before
  next_below t offset from has not_last q =
      let s = stood start lists k base held.multi offset few t from has in
      let upto : next_multi held.multi ≤ next_made start.base.multi q.before = ⊎_elim
      (λ (w : (by : By) × Has (multi_history lists) (multis.Gen by held.multi offset s.0)).
      gen_next start.base w.0 held.multi offset s.0 q.before (front start lists k base few t q.before q.begins) (given_before start.base q.before (multi_history lists) w.0 held.multi offset s.0 q.begins (multis_are_legal start lists k) q.pinned.known.given w.1))
      (λ (c : Contains start.recorded (records.Multi held.multi offset s.0)).
      let next = next_upto held.multi start.base.multi (t.below held.multi offset s.0 c) (t.full held.multi offset s.0 c) in
      let up = made_more start.base.multi [] q.before (q.before, refl) in
      omega (arith, next, up))
      s.1.whose in
      ⊎_elim
      (λ (same : next_made start.base.multi q.before ≤ next_multi held.multi). absurd (not_last (q.pinned.last.1 (let e : next_multi held.multi ≡ next_made start.base.multi q.before = omega (arith, upto, same) in e))))
      (λ lt. lt)
      (le_or_over (next_made start.base.multi q.before) (next_multi held.multi))

  pub next_found : (t : WasTold start) (offset : ℕ) (o : Option ℕ) → oldest_multi start.base.oldest_multi (multi_history lists) ≤ held.multi → HasOffset start lists held.multi offset → (IsTrue held.last → ⊥) → IsOffsetRead start lists (next_multi held.multi) o → IsOffsetFound start lists (next_multi held.multi) o
  next_found t offset o from has not_last read =
      let above = multi_above held.multi in
      found_of (next_multi held.multi) o (next_full held.multi) (omega (arith, from, above)) (next_below t offset from has not_last p) read

  pub next_wanting : (t : WasTold start) (offset : ℕ) → oldest_multi start.base.oldest_multi (multi_history lists) ≤ held.multi → HasOffset start lists held.multi offset → (IsTrue held.last → ⊥) → IsOffsetRead start lists (next_multi held.multi) None → IsWanting start lists held (next_multi held.multi)
  next_wanting t offset from has not_last read =
      let above = multi_above held.multi in
      record { from = omega (arith, above); below = next_below t offset from has not_last; none = next_found t offset None from has not_last read }

  -- so where its number is told as another expression of it
  pub next_read : (t : WasTold start) (offset : ℕ) (o : Option ℕ) (next : ℕ) → next ≡ next_multi held.multi → oldest_multi start.base.oldest_multi (multi_history lists) ≤ held.multi → HasOffset start lists held.multi offset → (IsTrue held.last → ⊥)
      → (oldest_multi start.base.oldest_multi (multi_history lists) ≤ next → IsOffsetRead start lists next o) → IsOffsetFound start lists (next_multi held.multi) o
  next_read t offset o next is from has not_last read =
      let above = multi_above held.multi in
      next_found t offset o from has not_last (subst (λ z. IsOffsetRead start lists z o) is (read (omega (arith, from, above, is))))

  pub next_unread : (t : WasTold start) (offset : ℕ) (next : ℕ) → next ≡ next_multi held.multi → oldest_multi start.base.oldest_multi (multi_history lists) ≤ held.multi → HasOffset start lists held.multi offset → (IsTrue held.last → ⊥)
      → (oldest_multi start.base.oldest_multi (multi_history lists) ≤ next → IsOffsetRead start lists next None) → IsWanting start lists held next
  next_unread t offset next is from has not_last read =
      let above = multi_above held.multi in
      subst (IsWanting start lists held) (sym is) (next_wanting t offset from has not_last (subst (λ z. IsOffsetRead start lists z None) is (read (omega (arith, from, above, is)))))

-- ---- how large numbers are

pub next_number : (n : ℕ) → n < 2 ^ 63 → IsMultiNumber (next_multi n)
next_number n small = (grind (arith, nat_tests), grind arith)

multis_small : (base : Counters) (h : List MultiEvent) → IsBase base → AreLegalMultis base (InBase base) h → (next_made base.multi h < 2 ^ 63) × (free_offset base.offset h < 2 ^ 63)
multis_small base h is = by_end (λ h. AreLegalMultis base (InBase base) h → (next_made base.multi h < 2 ^ 63) × (free_offset base.offset h < 2 ^ 63))
    (λ legal. let m = is.multi in let o = is.offset in (omega (arith, m), omega (arith, o)))
    (λ h e before legal. step h e (before (each_place_start (MultiMayCome base (InBase base)) h (e ∷ []) legal)) (each_place_last (MultiMayCome base (InBase base)) h e legal))
    h
  where
    quiet : (h : List MultiEvent) (e : MultiEvent) → made (h ++ e ∷ []) ≡ made h ++ [] → free_after (free_offset base.offset h) e ≡ free_offset base.offset h → (next_made base.multi h < 2 ^ 63) × (free_offset base.offset h < 2 ^ 63) → (next_made base.multi (h ++ e ∷ []) < 2 ^ 63) × (free_offset base.offset (h ++ e ∷ []) < 2 ^ 63)
    quiet h e none same small =
        let next : next_made base.multi (h ++ e ∷ []) ≡ next_made base.multi h = ap (λ (t : List ℕ). nth_multi base.multi (length t)) (none ∙ append-nil (made h)) in
        let free : free_offset base.offset (h ++ e ∷ []) ≡ free_offset base.offset h = fold_push free_after base.offset h e ∙ same in
        let s0 = small.0 in
        let s1 = small.1 in
        (omega (arith, next, s0), omega (arith, free, s1))

    step : (h : List MultiEvent) (e : MultiEvent) → (next_made base.multi h < 2 ^ 63) × (free_offset base.offset h < 2 ^ 63) → MultiMayCome base (InBase base) h e → (next_made base.multi (h ++ e ∷ []) < 2 ^ 63) × (free_offset base.offset (h ++ e ∷ []) < 2 ^ 63)
    step h (multis.Gen by multi offset members) small rule =
        let is : IsNextMade base h multi offset members = rule in
        let e : MultiEvent = multis.Gen by multi offset members in
        let long : length (made (h ++ e ∷ [])) ≡ suc (length (made h)) = ap (λ (t : List ℕ). length t) (filter_map-append made_by h (e ∷ [])) ∙ length-append (made h) (multi ∷ []) ∙ (let z : length (made h) + 1 ≡ suc (length (made h)) = omega arith in z) in
        let next : next_made base.multi (h ++ e ∷ []) ≡ next_multi (next_made base.multi h) = ap (λ n. nth_multi base.multi n) long in
        let at = is.next in
        let stop = next_to_stop multi (oldest_multi base.oldest_multi h) is.below_stop in
        let same : next_multi (next_made base.multi h) ≡ next_multi multi = ap next_multi (sym at) in
        let free : free_offset base.offset (h ++ e ∷ []) ≡ offset + length members = fold_push free_after base.offset h e in
        let below = is.below_member_stop in
        (omega (arith, next, same, stop), omega (arith, free, below))
    step h (multis.Raise by multi offset) small rule = quiet h (multis.Raise by multi offset) (filter_map-append made_by h (multis.Raise by multi offset ∷ [])) refl small
    step h (multis.Hold by multi) small rule = quiet h (multis.Hold by multi) (filter_map-append made_by h (multis.Hold by multi ∷ [])) refl small
    step h (multis.Unhold by multi) small rule = quiet h (multis.Unhold by multi) (filter_map-append made_by h (multis.Unhold by multi ∷ [])) refl small

pub pinned_small : (start : Start) (lists : List (List Entry)) (held : Held) → IsBase start.base → EngineInvariant start lists → WasPinned start lists held → held.multi < 2 ^ 63
pinned_small start lists held base k p =
    let given = p.pinned.known.given in
    let up = made_more start.base.multi p.before (multi_history lists) p.begins in
    let small = (multis_small start.base (multi_history lists) base (multis_are_legal start lists k)).0 in
    omega (arith, given, up, small)

pub end_small : (start : Start) (lists : List (List Entry)) (held : Held) → IsBase start.base → EngineInvariant start lists → WasPinned start lists held → held.end < 2 ^ 63
end_small start lists held base k p =
    let legal : AreLegalMultis start.base (InBase start.base) p.before = each_place_start (MultiMayCome start.base (InBase start.base)) p.before p.begins.0 (subst (AreLegalMultis start.base (InBase start.base)) (sym p.begins.1) (multis_are_legal start lists k)) in
    let small = (multis_small start.base p.before base legal).1 in
    let end = p.pinned.end in
    omega (arith, end, small)
