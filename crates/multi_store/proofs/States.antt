-- The state after one more event.
use Rattle.std.proofs.Common.{◌≡◌, ℕ, suc, ◌+◌, ◌-◌, ◌<◌, ◌≤◌, List, [], ◌∷◌, ◌++◌, length, Contains, refl, sym, ap, ◌∙◌, subst, arith}
use Rattle.counted_map.specs.declared.CountedMap.{CountedMap}
use Rattle.tx_events.specs.Ids.{next_multi}
use Rattle.tx_events.specs.declared.event.By.{By}
use Rattle.tx_events.specs.declared.multi.Member.{Member}
use Rattle.tx_events.specs.declared.multi.MultiEvent.{MultiEvent}
use Rattle.tx_events.specs.declared.multi.MultiEvent.TheVariants as events
use Rattle.tx_events.specs.declared.record.Counters.{Counters}
use Rattle.tx_events.specs.Base.{IsBase}
use Rattle.tx_events.specs.Limits.{multi_stop_limit, member_stop}
use Rattle.tx_events.specs.Multis.{AreLegalMultis, AreMembers, BeginsAt, InBase, MultiMayCome, Pin, first_member, multi_counters, pin_limit, pins, without_pin}
use Rattle.tx_events.proofs.ListSteps.{length_push}
use Rattle.tx_events.proofs.Membership.{contains_has}
use Rattle.tx_events.proofs.PlaceLemmas.{each_place_push, each_place_none}
use Rattle.multi_store.specs.declared.pins.PinKey.{PinKey}
use Rattle.multi_store.specs.Pins.{IsTally}
use Rattle.multi_store.specs.State.{IsState, made_offsets}
use Rattle.multi_store.proofs.Counts.{length_without}
use Rattle.multi_store.proofs.LegalSound.{legal_base}
use Rattle.multi_store.proofs.MadeSteps.{next_quiet, next_gen, free_push, oldest_push, oldest_offset_push, offsets_gen, offsets_quiet, pins_push}
use Rattle.multi_store.proofs.Soundness.{with_counters}

counters_same : (base : Counters) (m m' f f' o o' p p' : ℕ) → m ≡ m' → f ≡ f' → o ≡ o' → p ≡ p' → with_counters base m f o p ≡ with_counters base m' f' o' p'
counters_same base m m' f f' o o' p p' a b c d = rw (a, b, c, d) refl

pub state_new : (base : Counters) (counts : CountedMap PinKey) → IsBase base → IsTally [] counts → IsState base [] base 0 [] counts
state_new base counts b t = record {
  base_is = b;
  legal = each_place_none (MultiMayCome base (InBase base));
  counters_are = refl;
  offsets_are = refl;
  tally = t;
  promised_is = refl;
  counters_base = b;
}

-- the counters after the event are those that its history gives
state_push : (base : Counters) (h : List MultiEvent) (e : MultiEvent) (counters counters' : Counters) (promised promised' : ℕ) (offsets offsets' : List ℕ) (counts counts' : CountedMap PinKey) →
    IsState base h counters promised offsets counts → MultiMayCome base (InBase base) h e → counters' ≡ multi_counters base (h ++ e ∷ []) → offsets' ≡ made_offsets (h ++ e ∷ []) → IsTally (pins (h ++ e ∷ [])) counts' → promised' ≡ length (pins (h ++ e ∷ [])) →
    IsState base (h ++ e ∷ []) counters' promised' offsets' counts'
state_push base h e counters counters' promised promised' offsets offsets' counts counts' s may are off tally long =
    let legal : AreLegalMultis base (InBase base) (h ++ e ∷ []) = each_place_push (MultiMayCome base (InBase base)) h e s.legal may in
    record {
      base_is = s.base_is;
      legal = legal;
      counters_are = are;
      offsets_are = off;
      tally = tally;
      promised_is = long;
      counters_base = subst IsBase (sym are) (legal_base base (h ++ e ∷ []) s.base_is legal);
    }

pub state_gen : (base : Counters) (h : List MultiEvent) (by : By) (offset : ℕ) (members : List Member) (counters : Counters) (promised : ℕ) (offsets : List ℕ) (counts : CountedMap PinKey) →
    IsState base h counters promised offsets counts → counters.multi < multi_stop_limit counters.oldest_multi → offset ≡ first_member counters.offset → AreMembers members → offset + length members < member_stop counters.oldest_offset →
    IsState base (h ++ events.Gen by counters.multi offset members ∷ []) (record counters { multi = next_multi counters.multi; offset = offset + length members }) promised (offsets ++ offset ∷ []) counts
state_gen base h by offset members counters promised offsets counts s below first fit end =
    let e : MultiEvent = events.Gen by counters.multi offset members in
    let are : counters ≡ multi_counters base h = s.counters_are in
    let same : pins (h ++ e ∷ []) ≡ pins h = pins_push h e in
    state_push base h e counters _ promised promised offsets _ counts counts s
    (record {
      next = ap (λ (c : Counters). c.multi) are;
      below_stop = subst (λ (c : Counters). counters.multi < multi_stop_limit c.oldest_multi) are below;
      first = first ∙ ap (λ (c : Counters). first_member c.offset) are;
      fit = fit;
      below_member_stop = subst (λ (c : Counters). offset + length members < member_stop c.oldest_offset) are end;
    })
    (ap (λ (c : Counters). record c { multi = next_multi c.multi; offset = offset + length members }) are
    ∙ sym (counters_same base _ _ _ _ _ _ _ _ (next_gen base.multi h by counters.multi offset members) (free_push base.offset h e) (oldest_push base.oldest_multi h e) (oldest_offset_push base.oldest_offset h e)))
    (ap (λ l. l ++ offset ∷ []) s.offsets_are ∙ sym (offsets_gen h by counters.multi offset members))
    (subst (λ p. IsTally p counts) (sym same) s.tally)
    (s.promised_is ∙ sym (ap length same))

pub state_held : (base : Counters) (h : List MultiEvent) (by : By) (multi : ℕ) (counters : Counters) (promised : ℕ) (offsets : List ℕ) (counts counts' : CountedMap PinKey) →
    IsState base h counters promised offsets counts → counters.oldest_multi ≤ multi → multi < counters.multi → IsTally (pins h ++ (by.session, multi) ∷ []) counts' →
    IsState base (h ++ events.Hold by multi ∷ []) counters (promised + 1) offsets counts'
state_held base h by multi counters promised offsets counts counts' s from to tally =
    let e : MultiEvent = events.Hold by multi in
    let are : counters ≡ multi_counters base h = s.counters_are in
    let more : pins (h ++ e ∷ []) ≡ pins h ++ (by.session, multi) ∷ [] = pins_push h e in
    let long : length (pins (h ++ e ∷ [])) ≡ suc (length (pins h)) = ap length more ∙ length_push (pins h) (by.session, multi) in
    let was : promised ≡ length (pins h) = s.promised_is in
    state_push base h e counters counters promised (promised + 1) offsets offsets counts counts' s
    (record { not_older = subst (λ (c : Counters). c.oldest_multi ≤ multi) are from; given = subst (λ (c : Counters). multi < c.multi) are to })
    (are ∙ sym (counters_same base _ _ _ _ _ _ _ _ (next_quiet base.multi h e tt) (free_push base.offset h e) (oldest_push base.oldest_multi h e) (oldest_offset_push base.oldest_offset h e)))
    (s.offsets_are ∙ sym (offsets_quiet h e tt))
    (subst (λ p. IsTally p counts') (sym more) tally)
    (omega arith)

pub state_let_go : (base : Counters) (h : List MultiEvent) (by : By) (multi : ℕ) (counters : Counters) (promised : ℕ) (offsets : List ℕ) (counts counts' : CountedMap PinKey) →
    IsState base h counters promised offsets counts → Contains (pins h) (by.session, multi) → IsTally (without_pin (by.session, multi) (pins h)) counts' →
    IsState base (h ++ events.Unhold by multi ∷ []) counters (promised - 1) offsets counts'
state_let_go base h by multi counters promised offsets counts counts' s has tally =
    let e : MultiEvent = events.Unhold by multi in
    let p : Pin = (by.session, multi) in
    let are : counters ≡ multi_counters base h = s.counters_are in
    let less : pins (h ++ e ∷ []) ≡ without_pin p (pins h) = pins_push h e in
    let long : length (without_pin p (pins h)) + 1 ≡ length (pins h) = length_without p (pins h) (contains_has (pins h) p has) in
    let same : length (pins (h ++ e ∷ [])) ≡ length (without_pin p (pins h)) = ap length less in
    let was : promised ≡ length (pins h) = s.promised_is in
    state_push base h e counters counters promised (promised - 1) offsets offsets counts counts' s has
    (are ∙ sym (counters_same base _ _ _ _ _ _ _ _ (next_quiet base.multi h e tt) (free_push base.offset h e) (oldest_push base.oldest_multi h e) (oldest_offset_push base.oldest_offset h e)))
    (s.offsets_are ∙ sym (offsets_quiet h e tt))
    (subst (λ ps. IsTally ps counts') (sym less) tally)
    (omega arith)

pub some_promised : (base : Counters) (h : List MultiEvent) (p : Pin) (counters : Counters) (promised : ℕ) (offsets : List ℕ) (counts : CountedMap PinKey) →
    IsState base h counters promised offsets counts → Contains (pins h) p → 1 ≤ promised
some_promised base h p counters promised offsets counts s has =
    let was : promised ≡ length (pins h) = s.promised_is in
    let k = has.0 in
    let l : k < length (pins h) = has.1 in
    omega arith

pub state_raised : (base : Counters) (h : List MultiEvent) (by : By) (multi offset : ℕ) (counters : Counters) (promised : ℕ) (offsets : List ℕ) (counts : CountedMap PinKey) →
    IsState base h counters promised offsets counts → counters.oldest_multi ≤ multi → multi ≤ pin_limit base.multi h → BeginsAt base (InBase base) h multi offset →
    IsState base (h ++ events.Raise by multi offset ∷ []) (record counters { oldest_multi = multi; oldest_offset = offset }) promised offsets counts
state_raised base h by multi offset counters promised offsets counts s from to begins =
    let e : MultiEvent = events.Raise by multi offset in
    let are : counters ≡ multi_counters base h = s.counters_are in
    let same : pins (h ++ e ∷ []) ≡ pins h = pins_push h e in
    state_push base h e counters _ promised promised offsets offsets counts counts s
    (record { not_back = subst (λ (c : Counters). c.oldest_multi ≤ multi) are from; not_pinned = to; begins = begins })
    (ap (λ (c : Counters). record c { oldest_multi = multi; oldest_offset = offset }) are
    ∙ sym (counters_same base _ _ _ _ _ _ _ _ (next_quiet base.multi h e tt) (free_push base.offset h e) (oldest_push base.oldest_multi h e) (oldest_offset_push base.oldest_offset h e)))
    (s.offsets_are ∙ sym (offsets_quiet h e tt))
    (subst (λ p. IsTally p counts) (sym same) s.tally)
    (s.promised_is ∙ sym (ap length same))

pub state_same : (base : Counters) (h : List MultiEvent) (counters : Counters) (promised : ℕ) (offsets : List ℕ) (counts counts' : CountedMap PinKey) →
    IsState base h counters promised offsets counts → IsTally (pins h) counts' → IsState base h counters promised offsets counts'
state_same base h counters promised offsets counts counts' s tally = record {
  base_is = s.base_is;
  legal = s.legal;
  counters_are = s.counters_are;
  offsets_are = s.offsets_are;
  tally = tally;
  promised_is = s.promised_is;
  counters_base = s.counters_base;
}
