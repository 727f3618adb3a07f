-- How the next one rises along a history.
use Rattle.std.proofs.Common.{◌≡◌, ℕ, ◌+◌, ◌<◌, List, [], ◌∷◌, ◌++◌, length, take, get_or, refl, ap, sym, subst, ◌∙◌, append-nil, true, false}
use Rattle.std.specs.Prelude.{is_some}
use Rattle.std.proofs.lemmas.List.Elements.{filter_map-append}
use Rattle.std.proofs.lemmas.List.{take_more}
use Rattle.tx_events.proofs.GivenGrowth.{given_none, next_after}
use Rattle.tx_events.proofs.ListSteps.{length_push}
use Rattle.tx_events.specs.declared.event.Event.{Event}
use Rattle.tx_events.specs.declared.event.Event.TheVariants as events
use Rattle.tx_events.specs.declared.multi.MultiEvent.{MultiEvent}
use Rattle.tx_events.specs.declared.multi.MultiEvent.TheVariants as multis
use Rattle.tx_events.specs.Events.{given_by}
use Rattle.tx_events.specs.History.{next_given, nth_id}
use Rattle.tx_events.specs.Ids.{next_id, next_multi}
use Rattle.tx_events.specs.Multis.{made, made_by, next_made, nth_multi}
use Rattle.place_columns.specs.Columns.{IsColumn}
use Rattle.place_columns.proofs.ColumnSteps.{column_push}

-- ---- one more event

pub given_next : (first : ℕ) (h : List Event) (e : Event) → is_some (given_by e) ≡ true → next_given first (h ++ e ∷ []) ≡ next_id (next_given first h)
given_next first h (events.Id by id) s = next_after first h (events.Id by id) id refl
given_next first h (events.Sub by parent id) s = next_after first h (events.Sub by parent id) id refl
given_next first h e s = absurd cc

pub given_same : (first : ℕ) (h : List Event) (e : Event) → is_some (given_by e) ≡ false → next_given first (h ++ e ∷ []) ≡ next_given first h
given_same first h (events.Id by id) s = absurd cc
given_same first h (events.Sub by parent id) s = absurd cc
given_same first h e s = ap (λ t. nth_id first (length t)) (given_none h e refl)

made_push : (h : List MultiEvent) (e : MultiEvent) → made (h ++ e ∷ []) ≡ made h ++ made (e ∷ [])
made_push h e = filter_map-append made_by h (e ∷ [])

pub made_next : (first : ℕ) (h : List MultiEvent) (e : MultiEvent) → is_some (made_by e) ≡ true → next_made first (h ++ e ∷ []) ≡ next_multi (next_made first h)
made_next first h (multis.Gen by multi offset members) s = ap (λ t. nth_multi first (length t)) (made_push h (multis.Gen by multi offset members)) ∙ ap (nth_multi first) (length_push (made h) multi)
made_next first h e s = absurd cc

pub made_same : (first : ℕ) (h : List MultiEvent) (e : MultiEvent) → is_some (made_by e) ≡ false → next_made first (h ++ e ∷ []) ≡ next_made first h
made_same first h (multis.Gen by multi offset members) s = absurd cc
made_same first h e s = ap (λ t. nth_multi first (length t)) (made_push h e ∙ append-nil (made h))

-- ---- a column as far as its loop has come

module _ {X : Type 0} (f : List X → ℕ) (h : List X) (i : ℕ) (e : X) (column : List ℕ) (y : ℕ) (in' : i < length h) (is : e ≡ get_or h i e) where
  pub more : y ≡ f (take i h ++ e ∷ []) → IsColumn f (take i h) column → IsColumn f (take (i + 1) h) (column ++ y ∷ [])
  more y_is c =
      let whole : take (i + 1) h ≡ take i h ++ e ∷ [] = take_more h i e in' ∙ ap (λ x. take i h ++ x ∷ []) (sym is) in
      subst (λ (t : List X). IsColumn f t (column ++ y ∷ [])) (sym whole) (column_push f (take i h) e column y y_is c)

  pub at_more : y ≡ f (take i h ++ e ∷ []) → y ≡ f (take (i + 1) h)
  at_more y_is = y_is ∙ ap f (sym (take_more h i e in' ∙ ap (λ x. take i h ++ x ∷ []) (sym is)))
