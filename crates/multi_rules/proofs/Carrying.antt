-- The greatest oldest id that a command of a round may carry is the one at the round's end.
use Rattle.std.proofs.Common.{◌≡◌, ℕ, suc, zero, ◌<◌, ◌≤◌, ◌↔◌, ◌⊎◌, inl, inr, List, [], ◌∷◌, ◌++◌, length, take, Some, refl, ap, sym, subst, ◌∙◌, arith, ⊎_elim}
use Rattle.std.specs.List.{slice_get}
use Rattle.tx_events.specs.declared.event.By.{By}
use Rattle.tx_events.specs.declared.event.Event.{Event}
use Rattle.tx_events.specs.declared.event.Event.TheVariants as events
use Rattle.tx_events.specs.declared.record.Counters.{Counters}
use Rattle.tx_events.specs.Horizon.{announced_after, oldest_id}
use Rattle.tx_events.specs.History.{IsLegal}
use Rattle.tx_events.proofs.HorizonSteps.{oldest_push}
use Rattle.tx_events.proofs.Membership.{by_end}
use Rattle.tx_events.proofs.PlaceLemmas.{last_at, slice_get-grows}
use Rattle.tx_model.specs.Replies.{RoundSpan}
use Rattle.history_places.specs.Told.{oldest_in}
use Rattle.history_places.proofs.Rising.{oldests_rise}
use Rattle.report_law.specs.MultiLines.{MayCarry}
use Rattle.multi_rules.specs.Telling.{IsCarriedPast}

-- what stands as the oldest id is the life's first one or was announced: once more, since place_rules, which has it too, is as
-- high as this crate
record IsAnnounced (h : List Event) (oldest : ℕ) : Type 0 where
  place : ℕ
  by : By
  stands : slice_get h place ≡ Some (events.Oldest by oldest)

longer : (h : List Event) (e : Event) (oldest : ℕ) → IsAnnounced h oldest → IsAnnounced (h ++ e ∷ []) oldest
longer h e oldest a = record { place = a.place; by = a.by; stands = slice_get-grows h (e ∷ []) (events.Oldest a.by oldest) a.place a.stands }

kept : (first : ℕ) (h : List Event) (e : Event) (now : ℕ) → now ≡ oldest_id first h → (oldest_id first h ≡ first) ⊎ IsAnnounced h (oldest_id first h) → (now ≡ first) ⊎ IsAnnounced (h ++ e ∷ []) now
kept first h e now is (inl a) = inl (is ∙ a)
kept first h e now is (inr a) = inr (subst (IsAnnounced (h ++ e ∷ [])) (sym is) (longer h e (oldest_id first h) a))

step : (first : ℕ) (h : List Event) (e : Event) → (oldest_id first h ≡ first) ⊎ IsAnnounced h (oldest_id first h) → (announced_after (oldest_id first h) e ≡ first) ⊎ IsAnnounced (h ++ e ∷ []) (announced_after (oldest_id first h) e)
step first h (events.Oldest by new) before = inr (record { place = length h; by = by; stands = last_at h (events.Oldest by new) })
step first h (events.Id by id) before = kept first h (events.Id by id) (oldest_id first h) refl before
step first h (events.Sub by parent id) before = kept first h (events.Sub by parent id) (oldest_id first h) refl before
step first h (events.Undo by id) before = kept first h (events.Undo by id) (oldest_id first h) refl before
step first h (events.Commit by top) before = kept first h (events.Commit by top) (oldest_id first h) refl before
step first h (events.Abort by top) before = kept first h (events.Abort by top) (oldest_id first h) refl before
step first h (events.Snap name by) before = kept first h (events.Snap name by) (oldest_id first h) refl before
step first h (events.SnapDrop name by) before = kept first h (events.SnapDrop name by) (oldest_id first h) refl before
step first h (events.Ask by id) before = kept first h (events.Ask by id) (oldest_id first h) refl before

announced : (first : ℕ) (h : List Event) → (oldest_id first h ≡ first) ⊎ IsAnnounced h (oldest_id first h)
announced first h =
    by_end (λ (h : List Event). (oldest_id first h ≡ first) ⊎ IsAnnounced h (oldest_id first h))
    (inl refl)
    (λ h e before. subst (λ n. (n ≡ first) ⊎ IsAnnounced (h ++ e ∷ []) n) (sym (oldest_push first h e)) (step first h e before))
    h

in_take : (h : List Event) (p q : ℕ) (e : Event) → slice_get (take p h) q ≡ Some e → (q < p) × (slice_get h q ≡ Some e)
in_take [] zero q e f = absurd cc
in_take [] (suc p) q e f = absurd cc
in_take (x ∷ h) zero q e f = absurd cc
in_take (x ∷ h) (suc p) zero e f = (omega arith, f)
in_take (x ∷ h) (suc p) (suc q) e f = let r = in_take h p q e f in (omega (arith, r.0), r.1)

one_further : (h : List Event) (q : ℕ) (e : Event) → slice_get h q ≡ Some e → take (suc q) h ≡ take q h ++ e ∷ []
one_further [] q e f = absurd cc
one_further (x ∷ h) zero e f = let same : x ≡ e = cc in ap (λ (y : Event). y ∷ []) same
one_further (x ∷ h) (suc q) e f = ap (λ (t : List Event). x ∷ t) (one_further h q e f)

-- the one at the end of the round may be carried
last_carried : (base : Counters) (h : List Event) (round : RoundSpan) → MayCarry base h round (oldest_in base (take round.to h))
last_carried base h round =
    ⊎_elim
    (λ (a : oldest_id base.oldest (take round.to h) ≡ base.oldest). inl a)
    (λ (a : IsAnnounced (take round.to h) (oldest_id base.oldest (take round.to h))).
    let t = in_take h round.to a.place (events.Oldest a.by (oldest_id base.oldest (take round.to h))) a.stands in
    inr (a.place, a.by, t.0, t.1))
    (announced base.oldest (take round.to h))

-- none is past it
carried_upto : (base : Counters) (h : List Event) (round : RoundSpan) (oldest : ℕ) → IsLegal base h → MayCarry base h round oldest → oldest ≤ oldest_in base (take round.to h)
carried_upto base h round oldest legal c =
    ⊎_elim
    (λ (a : oldest ≡ base.oldest).
    let r : oldest_in base (take 0 h) ≤ oldest_in base (take round.to h) = oldests_rise base h legal 0 round.to (omega arith) in
    subst (λ n. n ≤ oldest_in base (take round.to h)) (sym a) r)
    (λ (a : (place : ℕ) × (by : By) × (place < round.to) × (slice_get h place ≡ Some (events.Oldest by oldest))).
    let l = a.2 in
    let whole : take (suc a.0) h ≡ take a.0 h ++ events.Oldest a.1 oldest ∷ [] = one_further h a.0 (events.Oldest a.1 oldest) a.3 in
    let value : oldest_id base.oldest (take (suc a.0) h) ≡ oldest = ap (oldest_id base.oldest) whole ∙ oldest_push base.oldest (take a.0 h) (events.Oldest a.1 oldest) in
    let r : oldest_in base (take (suc a.0) h) ≤ oldest_in base (take round.to h) = oldests_rise base h legal (suc a.0) round.to (omega arith) in
    subst (λ n. n ≤ oldest_in base (take round.to h)) value r)
    c

pub carried_iff : (base : Counters) (h : List Event) (round : RoundSpan) (to id last : ℕ) → IsLegal base h → to ≡ round.to → last ≡ oldest_in base (take to h) → (id < last) ↔ IsCarriedPast base h round id
carried_iff base h round to id last legal end is =
    let at : last ≡ oldest_in base (take round.to h) = is ∙ ap (λ n. oldest_in base (take n h)) end in (
      λ l. (oldest_in base (take round.to h), last_carried base h round, subst (λ n. id < n) at l),
      λ c. let u = carried_upto base h round c.0 legal c.1 in let l = c.2 in omega arith,
    )
