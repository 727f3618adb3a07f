-- An oldest id that stands somewhere is the life's first one or was announced before.
use Rattle.std.proofs.Common.{◌≡◌, ℕ, suc, zero, ◌+◌, ◌-◌, ◌<◌, ◌≤◌, List, [], ◌∷◌, ◌++◌, length, take, refl, ap, sym, subst, ◌∙◌, arith, inl, inr, ⊎_elim, ◌⊎◌, Some, None}
use Rattle.std.specs.List.{slice_get}
use Rattle.std.proofs.lemmas.List.{take_more}
use Rattle.tx_events.specs.declared.event.By.{By}
use Rattle.tx_events.specs.declared.event.Event.{Event}
use Rattle.tx_events.specs.declared.event.Event.TheVariants as events
use Rattle.tx_events.specs.Horizon.{announced_after, oldest_id}
use Rattle.tx_events.proofs.HorizonSteps.{oldest_push}
use Rattle.tx_events.proofs.Membership.{by_end}
use Rattle.tx_events.proofs.PlaceLemmas.{last_at, slice_get-grows}

pub record IsAnnounced (h : List Event) (oldest : ℕ) : Type 0 where
  pub place : ℕ
  pub by : By
  pub stands : slice_get h place ≡ Some (events.Oldest by oldest)

longer : (h : List Event) (e : Event) (oldest : ℕ) → IsAnnounced h oldest → IsAnnounced (h ++ e ∷ []) oldest
longer h e oldest a = record { place = a.place; by = a.by; stands = slice_get-grows h (e ∷ []) (events.Oldest a.by oldest) a.place a.stands }

kept : (first : ℕ) (h : List Event) (e : Event) (now : ℕ) → now ≡ oldest_id first h → (oldest_id first h ≡ first) ⊎ IsAnnounced h (oldest_id first h) → (now ≡ first) ⊎ IsAnnounced (h ++ e ∷ []) now
kept first h e now is (inl a) = inl (is ∙ a)
kept first h e now is (inr a) = inr (subst (IsAnnounced (h ++ e ∷ [])) (sym is) (longer h e (oldest_id first h) a))

step : (first : ℕ) (h : List Event) (e : Event) → (oldest_id first h ≡ first) ⊎ IsAnnounced h (oldest_id first h) → (announced_after (oldest_id first h) e ≡ first) ⊎ IsAnnounced (h ++ e ∷ []) (announced_after (oldest_id first h) e)
step first h (events.Oldest by new) before = inr (record { place = length h; by = by; stands = last_at h (events.Oldest by new) })
step first h (events.Id by id) before = kept first h (events.Id by id) (oldest_id first h) refl before
step first h (events.Sub by parent id) before = kept first h (events.Sub by parent id) (oldest_id first h) refl before
step first h (events.Undo by id) before = kept first h (events.Undo by id) (oldest_id first h) refl before
step first h (events.Commit by top) before = kept first h (events.Commit by top) (oldest_id first h) refl before
step first h (events.Abort by top) before = kept first h (events.Abort by top) (oldest_id first h) refl before
step first h (events.Snap name by) before = kept first h (events.Snap name by) (oldest_id first h) refl before
step first h (events.SnapDrop name by) before = kept first h (events.SnapDrop name by) (oldest_id first h) refl before
step first h (events.Ask by id) before = kept first h (events.Ask by id) (oldest_id first h) refl before

pub announced : (first : ℕ) (h : List Event) → (oldest_id first h ≡ first) ⊎ IsAnnounced h (oldest_id first h)
announced first h =
    by_end (λ (h : List Event). (oldest_id first h ≡ first) ⊎ IsAnnounced h (oldest_id first h))
    (inl refl)
    (λ h e before. subst (λ n. (n ≡ first) ⊎ IsAnnounced (h ++ e ∷ []) n) (sym (oldest_push first h e)) (step first h e before))
    h

-- ---- places of a beginning

pub in_take : (h : List Event) (p q : ℕ) (e : Event) → slice_get (take p h) q ≡ Some e → (q < p) × (slice_get h q ≡ Some e)
in_take [] zero q e f = absurd cc
in_take [] (suc p) q e f = absurd cc
in_take (x ∷ h) zero q e f = absurd cc
in_take (x ∷ h) (suc p) zero e f = (omega arith, f)
in_take (x ∷ h) (suc p) (suc q) e f = let r = in_take h p q e f in (omega (arith, r.0), r.1)

pub one_further : (h : List Event) (q : ℕ) (e : Event) → slice_get h q ≡ Some e → take (suc q) h ≡ take q h ++ e ∷ []
one_further [] q e f = absurd cc
one_further (x ∷ h) zero e f = let same : x ≡ e = cc in ap (λ (y : Event). y ∷ []) same
one_further (x ∷ h) (suc q) e f = ap (λ (t : List Event). x ∷ t) (one_further h q e f)
