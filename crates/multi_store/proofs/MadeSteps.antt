-- What one more event changes of what a history of multixacts gave.
use Rattle.std.proofs.Common.{◌≡◌, ℕ, ◌⊎◌, List, [], ◌∷◌, ◌++◌, length, Option, Some, None, refl, sym, ap, ◌∙◌, inl, inr, Bool, true, false, ◌==◌, cond, append-nil, eqb-true}
use Rattle.std.proofs.lemmas.List.Elements.{filter_map-append}
use Rattle.std.proofs.lemmas.List.Sums.{fold_push}
use Rattle.tx_events.specs.Ids.{next_multi}
use Rattle.tx_events.specs.declared.event.By.{By}
use Rattle.tx_events.specs.declared.multi.Member.{Member}
use Rattle.tx_events.specs.declared.multi.MultiEvent.{MultiEvent}
use Rattle.tx_events.specs.Multis.{made, made_by, made_at, next_made, nth_multi, free_offset, free_after, oldest_multi, oldest_multi_after, oldest_offset, oldest_offset_after, pins, pins_after}
use Rattle.tx_events.proofs.ListSteps.{length_push, eqb-refl}
use Rattle.multi_store.specs.State.{offset_by, made_offsets}
use Rattle.tx_events.specs.declared.multi.MultiEvent.TheVariants as events

-- the event gives no multixact
abbrev pub IsQuiet : MultiEvent → Type 0
IsQuiet (events.Gen by multi offset members) = ⊥
IsQuiet _ = Unit {0}

pub made_gen : (h : List MultiEvent) (by : By) (multi offset : ℕ) (members : List Member) → made (h ++ events.Gen by multi offset members ∷ []) ≡ made h ++ multi ∷ []
made_gen h by multi offset members = filter_map-append made_by h (events.Gen by multi offset members ∷ [])

pub made_quiet : (h : List MultiEvent) (e : MultiEvent) → IsQuiet e → made (h ++ e ∷ []) ≡ made h
made_quiet h (events.Gen by multi offset members) q = absurd q
made_quiet h (events.Hold by multi) q = filter_map-append made_by h (events.Hold by multi ∷ []) ∙ append-nil (made h)
made_quiet h (events.Unhold by multi) q = filter_map-append made_by h (events.Unhold by multi ∷ []) ∙ append-nil (made h)
made_quiet h (events.Raise by multi offset) q = filter_map-append made_by h (events.Raise by multi offset ∷ []) ∙ append-nil (made h)

pub offsets_gen : (h : List MultiEvent) (by : By) (multi offset : ℕ) (members : List Member) → made_offsets (h ++ events.Gen by multi offset members ∷ []) ≡ made_offsets h ++ offset ∷ []
offsets_gen h by multi offset members = filter_map-append offset_by h (events.Gen by multi offset members ∷ [])

pub offsets_quiet : (h : List MultiEvent) (e : MultiEvent) → IsQuiet e → made_offsets (h ++ e ∷ []) ≡ made_offsets h
offsets_quiet h (events.Gen by multi offset members) q = absurd q
offsets_quiet h (events.Hold by multi) q = filter_map-append offset_by h (events.Hold by multi ∷ []) ∙ append-nil (made_offsets h)
offsets_quiet h (events.Unhold by multi) q = filter_map-append offset_by h (events.Unhold by multi ∷ []) ∙ append-nil (made_offsets h)
offsets_quiet h (events.Raise by multi offset) q = filter_map-append offset_by h (events.Raise by multi offset ∷ []) ∙ append-nil (made_offsets h)

pub next_gen : (first : ℕ) (h : List MultiEvent) (by : By) (multi offset : ℕ) (members : List Member) → next_made first (h ++ events.Gen by multi offset members ∷ []) ≡ next_multi (next_made first h)
next_gen first h by multi offset members = ap (λ l. nth_multi first (length l)) (made_gen h by multi offset members) ∙ ap (nth_multi first) (length_push (made h) multi)

pub next_quiet : (first : ℕ) (h : List MultiEvent) (e : MultiEvent) → IsQuiet e → next_made first (h ++ e ∷ []) ≡ next_made first h
next_quiet first h e q = ap (λ l. nth_multi first (length l)) (made_quiet h e q)

pub free_push : (first : ℕ) (h : List MultiEvent) (e : MultiEvent) → free_offset first (h ++ e ∷ []) ≡ free_after (free_offset first h) e
free_push first h e = fold_push free_after first h e

pub oldest_push : (oldest : ℕ) (h : List MultiEvent) (e : MultiEvent) → oldest_multi oldest (h ++ e ∷ []) ≡ oldest_multi_after (oldest_multi oldest h) e
oldest_push oldest h e = fold_push oldest_multi_after oldest h e

pub oldest_offset_push : (oldest : ℕ) (h : List MultiEvent) (e : MultiEvent) → oldest_offset oldest (h ++ e ∷ []) ≡ oldest_offset_after (oldest_offset oldest h) e
oldest_offset_push oldest h e = fold_push oldest_offset_after oldest h e

pub pins_push : (h : List MultiEvent) (e : MultiEvent) → pins (h ++ e ∷ []) ≡ pins_after (pins h) e
pins_push h e = fold_push pins_after [] h e

-- where a multixact begins, in the first events or else in the later ones
abbrev pub first_of : Option ℕ → Option ℕ → Option ℕ
first_of None y = y
first_of (Some x) y = Some x

pub made_at_append : (m : ℕ) (h g : List MultiEvent) → made_at m (h ++ g) ≡ first_of (made_at m h) (made_at m g)
made_at_append m [] g = refl
made_at_append m (events.Gen by multi offset members ∷ h) g =
    let step : (b : Bool) → cond b (Some offset) (made_at m (h ++ g)) ≡ first_of (cond b (Some offset) (made_at m h)) (made_at m g) = elim [
      | true ↦ refl
      | false ↦ made_at_append m h g
    ] in
    step (multi == m)
made_at_append m (events.Hold by multi ∷ h) g = made_at_append m h g
made_at_append m (events.Unhold by multi ∷ h) g = made_at_append m h g
made_at_append m (events.Raise by multi offset ∷ h) g = made_at_append m h g

first_none : (o : Option ℕ) → first_of o None ≡ o
first_none None = refl
first_none (Some x) = refl

pub made_at_quiet : (m : ℕ) (h : List MultiEvent) (e : MultiEvent) → IsQuiet e → made_at m (h ++ e ∷ []) ≡ made_at m h
made_at_quiet m h (events.Gen by multi offset members) q = absurd q
made_at_quiet m h (events.Hold by multi) q = made_at_append m h (events.Hold by multi ∷ []) ∙ first_none (made_at m h)
made_at_quiet m h (events.Unhold by multi) q = made_at_append m h (events.Unhold by multi ∷ []) ∙ first_none (made_at m h)
made_at_quiet m h (events.Raise by multi offset) q = made_at_append m h (events.Raise by multi offset ∷ []) ∙ first_none (made_at m h)

-- after one more multixact
module _ (h : List MultiEvent) (by : By) (multi offset : ℕ) (members : List Member) where
  abbrev pub one_more : List MultiEvent
  one_more = h ++ events.Gen by multi offset members ∷ []

  at_more : (m : ℕ) → made_at m one_more ≡ first_of (made_at m h) (cond (multi == m) (Some offset) None)
  at_more m = made_at_append m h (events.Gen by multi offset members ∷ [])

  pub at_old : (m x : ℕ) → made_at m h ≡ Some x → made_at m one_more ≡ Some x
  at_old m x e = at_more m ∙ ap (λ o. first_of o (cond (multi == m) (Some offset) None)) e

  pub at_new : made_at multi h ≡ None → made_at multi one_more ≡ Some offset
  at_new e = at_more multi ∙ ap (λ o. first_of o (cond (multi == multi) (Some offset) None)) e ∙ ap (λ b. cond b (Some offset) None) (eqb-refl multi)

  pub at_other : (m : ℕ) → made_at m h ≡ None → (multi == m) ≡ false → made_at m one_more ≡ None
  at_other m e f = at_more m ∙ ap (λ o. first_of o (cond (multi == m) (Some offset) None)) e ∙ ap (λ b. cond b (Some offset) None) f

  pub at_cases : (m x : ℕ) → made_at m one_more ≡ Some x → (made_at m h ≡ Some x) ⊎ ((multi ≡ m) × (offset ≡ x))
  at_cases m x e =
      let new : (b : Bool) → (multi == m) ≡ b → cond b (Some offset) None ≡ Some x → (multi ≡ m) × (offset ≡ x) = elim [
        | true ↦ λ f g. (eqb-true multi m f, cc)
        | false ↦ λ f g. absurd cc
      ] in
      let step : (o : Option ℕ) → made_at m h ≡ o → first_of o (cond (multi == m) (Some offset) None) ≡ Some x → (made_at m h ≡ Some x) ⊎ ((multi ≡ m) × (offset ≡ x)) = elim [
        | None ↦ λ f g. inr (new (multi == m) refl g)
        | Some y ↦ λ f g. inl (f ∙ g)
      ] in
      step (made_at m h) refl (sym (at_more m) ∙ e)
