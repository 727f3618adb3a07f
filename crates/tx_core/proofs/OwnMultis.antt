-- A session's multixacts while others go on.
use Rattle.std.proofs.Common.{List, Some, [], ap, append-nil, arith, eq-eqb, eqb-true, inl, inr, refl, subst, sym, true, false, Bool, cond, map, ℕ, ⊎_elim, ◌++◌, ◌+◌, ◌<◌, ◌≤◌, ◌==◌, ◌&&◌, ◌∙◌, ◌∷◌, ◌≡◌, ◌≢◌}
use Rattle.std.proofs.lemmas.List.Elements.{filter-append, filter_map-append}
use Rattle.std.proofs.lemmas.List.Sums.{fold-append, fold_push}
use Rattle.std.specs.List.{filter, flat_map, fold}
use Rattle.notes.specs.Lists.{Grows, Knows, at, own}
use Rattle.tx_events.specs.declared.event.By.{By}
use Rattle.tx_events.specs.declared.multi.Member.{Member}
use Rattle.tx_events.specs.declared.multi.MultiEvent.{MultiEvent}
use Rattle.tx_events.specs.declared.multi.MultiEvent.TheVariants as multis
use Rattle.tx_events.specs.declared.record.Counters.{Counters}
use Rattle.tx_events.specs.declared.record.Rec.TheVariants as records
use Rattle.tx_events.proofs.Extremes.{fold_min_has}
use Rattle.tx_events.proofs.Membership.{Has, contains_has, has_cases, has_contains, has_filter_map, has_left, has_right, map_has, none_passes}
use Rattle.tx_events.proofs.PlaceLemmas.{by_place}
use Rattle.tx_events.specs.Multis.{InBase, IsKnown, IsRaised, MultiMayCome, Pin, multi_by, next_made, oldest_multi, oldest_multi_after, pins, pins_after, same_pin, without_pin}
use Rattle.tx_core.specs.declared.entry.Entry.{Entry}
use Rattle.tx_core.specs.declared.entry.Start.{Start}
use Rattle.tx_core.specs.EngineInvariant.{EngineInvariant}
use Rattle.tx_core.specs.Entries.{history, session_of}
use Rattle.tx_core.specs.Locks.{members_lock_of, multi_lock, offsets_lock_of}
use Rattle.tx_core.specs.MultiEntries.{multi_history, multi_of, multis_in, offsets_in, slots_in}
use Rattle.tx_core.specs.MultisLegal.{NeedsMulti, ToldOf}
use Rattle.tx_core.specs.RecordsFollow.{IsGenOf}
use Rattle.tx_core.proofs.Asking.{if_some, upheld_has}
use Rattle.tx_core.proofs.Growing.{begins_filter_map, begins_flat_map, contains_begins}
use Rattle.tx_core.proofs.Lasting.{appended_grows, history_grows}
use Rattle.tx_core.proofs.Nearness.{multis_are_legal}
use Rattle.tx_core.proofs.Rising.{given_more, made_more}
use Rattle.tx_core.proofs.Stepping.{own_appended}
use Rattle.tx_core.specs.OwnMultis.{DoneStays, IsMultiDone, IsSlotDone, MakingStays, OwnMultisStay, PinsHold, PinsStay, is_multi_of}

-- ---- others' events

pub record OtherMultis (n : ℕ) (h more : List MultiEvent) : Type 0 where
  pub rest : List MultiEvent
  pub split : h ++ rest ≡ more
  pub others : (e : MultiEvent) → Has rest e → (multi_by e).session ≢ n

-- the event of an entry is its command's
multi_own : (start : Start) (lists : List (List Entry)) (before : List Entry) (e : Entry) (event : MultiEvent) → NeedsMulti start lists multi_lock before e → multi_of e ≡ Some event → multi_by event ≡ e.by
multi_own start lists before e event need is =
    (if_some (multi_of e) (λ (event : MultiEvent). (multi_by event ≡ e.by) × MultiMayCome start.base (InBase start.base) (multis_in before) event × ToldOf start event) event need is).0

pub other_multis : (start : Start) (n : ℕ) (seen lists : List (List Entry)) → EngineInvariant start lists → Knows session_of n seen lists → OtherMultis n (multi_history seen) (multi_history lists)
other_multis start n seen lists k knows =
    let b = knows.grows.begins multi_lock in record {
      rest = multis_in b.0;
      split = sym (filter_map-append multi_of (at seen multi_lock) b.0) ∙ ap multis_in b.1;
      others = λ e h q.
          let from = has_filter_map multi_of b.0 e h in
          let there : Has (at lists multi_lock) from.0 = subst (λ (t : List Entry). Has t from.0) b.1 (has_right (at seen multi_lock) b.0 from.0 from.1) in
          let need = upheld_has (NeedsMulti start) lists multi_lock from.0 k.multis.each there in
          let mine = multi_own start lists need.0 from.0 e need.1 from.2 in
          none_passes (λ f. session_of f == n) (at seen multi_lock) b.0 (ap (λ (t : List Entry). own session_of n t) b.1 ∙ knows.own multi_lock) from.0 from.1 (eq-eqb from.0.by.session n (ap (λ (z : By). z.session) (sym mine) ∙ q));
    }

none_of : (n : ℕ) (es : List MultiEvent) → ((e : MultiEvent) → Has es e → (multi_by e).session ≢ n) → filter (is_multi_of n) es ≡ []
none_of n [] others = refl
none_of n (e ∷ es) others =
    let step : (b : Bool) → is_multi_of n e ≡ b → cond b (e ∷ filter (is_multi_of n) es) (filter (is_multi_of n) es) ≡ [] = elim [
      | true ↦ λ q. absurd (others e (inl refl) (eqb_is (multi_by e).session n q))
      | false ↦ λ q. none_of n es (λ x h. others x (inr h))
    ] in
    step (is_multi_of n e) refl
  where
    eqb_is : (a b : ℕ) → (a == b) ≡ true → a ≡ b
    eqb_is a b q = eqb-true a b q

pub own_multis_stay : OwnMultisStay
own_multis_stay start n seen lists k knows =
    let o = other_multis start n seen lists k knows in
    ap (filter (is_multi_of n)) (sym o.split)
    ∙ (filter-append (is_multi_of n) (multi_history seen) o.rest
    ∙ (ap (λ (l : List MultiEvent). filter (is_multi_of n) (multi_history seen) ++ l) (none_of n o.rest o.others) ∙ append-nil (filter (is_multi_of n) (multi_history seen))))

-- ---- pins

-- another pin stays where one is let go
without_stays : (q p : Pin) (ps : List Pin) → same_pin q p ≡ false → Has ps p → Has (without_pin q ps) p
without_stays q p [] off k = absurd k
without_stays q p (r ∷ ps) off k =
    let step : (b : Bool) → same_pin q r ≡ b → Has (cond b ps (r ∷ without_pin q ps)) p = elim [
      | true ↦ λ same. ⊎_elim (λ (e : r ≡ p). absurd (let z : same_pin q p ≡ true = ap (same_pin q) (sym e) ∙ same in let bad = sym off ∙ z in cc)) (λ h. h) k
      | false ↦ λ same. ⊎_elim (λ (e : r ≡ p). inl e) (λ h. inr (without_stays q p ps off h)) k
    ] in
    step (same_pin q r) refl

other_session : (s n m multi : ℕ) → s ≢ n → same_pin (s, m) (n, multi) ≡ false
other_session s n m multi differs = let step : (b : Bool) → (s == n) ≡ b → (b && (m == multi)) ≡ false = elim [ true ↦ λ q. absurd (differs (eqb-true s n q)) | false ↦ λ q. refl ] in step (s == n) refl

pin_after : (n multi : ℕ) (ps : List Pin) (e : MultiEvent) → (multi_by e).session ≢ n → Has ps (n, multi) → Has (pins_after ps e) (n, multi)
pin_after n multi ps (multis.Gen by m offset members) other k = k
pin_after n multi ps (multis.Hold by m) other k = has_left ps ((by.session, m) ∷ []) (n, multi) k
pin_after n multi ps (multis.Unhold by m) other k = without_stays (by.session, m) (n, multi) ps (other_session by.session n m multi other) k
pin_after n multi ps (multis.Raise by m offset) other k = k

pub pins_over : (n multi : ℕ) (es : List MultiEvent) (ps : List Pin) → ((e : MultiEvent) → Has es e → (multi_by e).session ≢ n) → Has ps (n, multi) → Has (fold pins_after ps es) (n, multi)
pins_over n multi [] ps others k = k
pins_over n multi (e ∷ es) ps others k = pins_over n multi es (pins_after ps e) (λ x h. others x (inr h)) (pin_after n multi ps e (others e (inl refl)) k)

pub pins_stay : PinsStay
pins_stay start n multi seen lists k knows c =
    let o = other_multis start n seen lists k knows in
    let here : Has (fold pins_after (pins (multi_history seen)) o.rest) (n, multi) = pins_over n multi o.rest (pins (multi_history seen)) o.others (contains_has (pins (multi_history seen)) (n, multi) c) in
    has_contains (pins (multi_history lists)) (n, multi)
    (subst (λ (h : List MultiEvent). Has (pins h) (n, multi)) o.split (subst (λ (ps : List Pin). Has ps (n, multi)) (sym (fold-append pins_after [] (multi_history seen) o.rest)) here))

-- a pin that is left was there
left_pin : (q p : Pin) (ps : List Pin) → Has (without_pin q ps) p → Has ps p
left_pin q p [] k = absurd k
left_pin q p (r ∷ ps) k =
    let step : (b : Bool) → same_pin q r ≡ b → Has (cond b ps (r ∷ without_pin q ps)) p → Has (r ∷ ps) p = elim [
      | true ↦ λ same h. inr h
      | false ↦ λ same h. ⊎_elim (λ (e : r ≡ p). inl e) (λ j. inr (left_pin q p ps j)) h
    ] in
    step (same_pin q r) refl k

-- what each pin holds
abbrev Held : Counters → List MultiEvent → Type 0
Held base h = (p : Pin) → Has (pins h) p → (oldest_multi base.oldest_multi h ≤ p.1) × (p.1 < next_made base.multi h)

held_push : (base : Counters) (h : List MultiEvent) (e : MultiEvent) → Held base h → MultiMayCome base (InBase base) h e → Held base (h ++ e ∷ [])
held_push base h e before rule p k = step e rule (subst (λ (ps : List Pin). Has ps p) (fold_push pins_after [] h e) k)
  where
    rises : (e : MultiEvent) → next_made base.multi h ≤ next_made base.multi (h ++ e ∷ [])
    rises e = made_more base.multi h (h ++ e ∷ []) (e ∷ [], refl)

    same : (e : MultiEvent) → oldest_multi_after (oldest_multi base.oldest_multi h) e ≡ oldest_multi base.oldest_multi h → Has (pins h) p → (oldest_multi base.oldest_multi (h ++ e ∷ []) ≤ p.1) × (p.1 < next_made base.multi (h ++ e ∷ []))
    same e still j =
        let b = before p j in
        let o : oldest_multi base.oldest_multi (h ++ e ∷ []) ≡ oldest_multi base.oldest_multi h = fold_push oldest_multi_after base.oldest_multi h e ∙ still in
        let up = rises e in
        let b0 = b.0 in let b1 = b.1 in
        (omega (arith, b0, o), omega (arith, b1, up))

    step : (e : MultiEvent) → MultiMayCome base (InBase base) h e → Has (pins_after (pins h) e) p → (oldest_multi base.oldest_multi (h ++ e ∷ []) ≤ p.1) × (p.1 < next_made base.multi (h ++ e ∷ []))
    step (multis.Gen by m offset members) r j = same (multis.Gen by m offset members) refl j
    step (multis.Hold by m) r j = ⊎_elim
        (λ old. same (multis.Hold by m) refl old)
        (λ new. ⊎_elim
        (λ (q : (by.session, m) ≡ p).
        let o : oldest_multi base.oldest_multi (h ++ multis.Hold by m ∷ []) ≡ oldest_multi base.oldest_multi h = fold_push oldest_multi_after base.oldest_multi h (multis.Hold by m) in
        let up = rises (multis.Hold by m) in
        let known : IsKnown base h m = r in
        let low = known.not_older in
        let high = known.given in
        subst (λ (z : Pin). (oldest_multi base.oldest_multi (h ++ multis.Hold by m ∷ []) ≤ z.1) × (z.1 < next_made base.multi (h ++ multis.Hold by m ∷ []))) q (omega (arith, low, o), omega (arith, high, up)))
        (λ z. absurd z) new)
        (has_cases (pins h) ((by.session, m) ∷ []) p j)
    step (multis.Unhold by m) r j = same (multis.Unhold by m) refl (left_pin (by.session, m) p (pins h) j)
    step (multis.Raise by m offset) r j =
        let o : oldest_multi base.oldest_multi (h ++ multis.Raise by m offset ∷ []) ≡ m = fold_push oldest_multi_after base.oldest_multi h (multis.Raise by m offset) in
        let up = rises (multis.Raise by m offset) in
        let raised : IsRaised base (InBase base) h m offset = r in
        let limit = raised.not_pinned in
        let least = fold_min_has (next_made base.multi h) (map (λ (p : Pin). p.1) (pins h)) p.1 (map_has (λ (p : Pin). p.1) (pins h) p j) in
        let b = (before p j).1 in
        (omega (arith, o, limit, least), omega (arith, b, up))

pub pins_hold : PinsHold
pins_hold start lists n multi k c =
    by_place (MultiMayCome start.base (InBase start.base)) (Held start.base) (λ p j. absurd j) (λ h e before rule. held_push start.base h e before rule) (multi_history lists) (multis_are_legal start lists k) (n, multi) (contains_has (pins (multi_history lists)) (n, multi) c)

-- ---- what is done

-- an own multixact was seen
own_gen : (start : Start) (n multi offset : ℕ) (members : List Member) (seen lists : List (List Entry)) → EngineInvariant start lists → Knows session_of n seen lists → IsGenOf lists n multi offset members → IsGenOf seen n multi offset members
own_gen start n multi offset members seen lists k knows g =
    let o = other_multis start n seen lists k knows in
    let event : MultiEvent = multis.Gen g.0 multi offset members in
    ⊎_elim
    (λ old. (g.0, g.1, has_contains (multi_history seen) event old))
    (λ new. absurd (o.others event new g.1))
    (has_cases (multi_history seen) o.rest event (subst (λ (h : List MultiEvent). Has h event) (sym o.split) (contains_has (multi_history lists) event g.2)))

slot_grows : (start : Start) (lists more : List (List Entry)) (offset : ℕ) (member : Member) → Grows lists more → IsSlotDone start lists offset member → IsSlotDone start more offset member
slot_grows start lists more offset member g done =
    let lock = members_lock_of start offset in
    ⊎_elim
    (λ s. inl (s.0, contains_begins (flat_map slots_in (at lists lock)) (flat_map slots_in (at more lock)) _ (begins_flat_map slots_in (at lists lock) (at more lock) (g.begins lock)) s.1))
    (λ c. inr (c.0, c.1, contains_begins (at lists lock) (at more lock) _ (g.begins lock) c.2, c.3, c.4))
    done

pub done_grows : (start : Start) (lists more : List (List Entry)) (n multi offset : ℕ) (members : List Member) → Grows lists more → IsMultiDone start lists n multi offset members → IsMultiDone start more n multi offset members
done_grows start lists more n multi offset members g d =
    let lock = offsets_lock_of start multi in record {
      appended = appended_grows lists more n (records.Multi multi offset members) g d.appended;
      slots = λ k member at. slot_grows start lists more (offset + k) member g (d.slots k member at);
      begins = ⊎_elim
          (λ s. inl (s.0, contains_begins (flat_map offsets_in (at lists lock)) (flat_map offsets_in (at more lock)) _ (begins_flat_map offsets_in (at lists lock) (at more lock) (g.begins lock)) s.1))
          (λ c. inr (c.0, c.1, contains_begins (at lists lock) (at more lock) _ (g.begins lock) c.2, c.3, c.4))
          d.begins;
    }

pub done_stays : DoneStays
done_stays start n pending seen lists k knows done multi offset members g =
    ⊎_elim (λ d. inl (done_grows start seen lists n multi offset members knows.grows d)) inr (done multi offset members (own_gen start n multi offset members seen lists k knows g))

pub making_stays : MakingStays
making_stays start n multi offset members logged seen lists knows m =
    let history_more = history_grows seen lists knows.grows in
    let up = given_more start.base (history seen) (history lists) history_more in record {
      given = (m.given.0, m.given.1, contains_begins (multi_history seen) (multi_history lists) _ (begins_filter_map multi_of (at seen multi_lock) (at lists multi_lock) (knows.grows.begins multi_lock)) m.given.2);
      fit = m.fit;
      full = m.full;
      before = λ id c. let b = m.before id c in omega (arith, b, up);
      recorded = λ q. appended_grows seen lists n (records.Multi multi offset members) knows.grows (m.recorded q);
      unrecorded = λ q offset members a. m.unrecorded q offset members (own_appended n seen lists (records.Multi multi offset members) knows a);
    }
