-- What one more event does to the ids given.
use Rattle.std.proofs.Common.{◌≡◌, ◌≢◌, ℕ, ◌==◌, List, [], ◌∷◌, ◌++◌, length, refl, ap, ◌∙◌, append-nil, true, false, cond, ne_eqb}
use Rattle.std.proofs.lemmas.List.Elements.{filter-append, filter_map-append}
use Rattle.std.specs.List.{filter}
use Rattle.tx_events.specs.Ids.{next_id}
use Rattle.tx_events.proofs.ListSteps.{length_push}
use Rattle.tx_events.specs.Events.{by_of, given, given_by, given_to, is_of}
use Rattle.tx_events.specs.History.{next_given, nth_id}
use Rattle.tx_events.specs.declared.event.Event.{Event}

pub given_push : (h : List Event) (e : Event) → given (h ++ e ∷ []) ≡ given h ++ given (e ∷ [])
given_push h e = filter_map-append given_by h (e ∷ [])

pub given_to_push : (session : ℕ) (h : List Event) (e : Event) → given_to session (h ++ e ∷ []) ≡ given_to session h ++ given_to session (e ∷ [])
given_to_push session h e = ap given (filter-append (is_of session) h (e ∷ [])) ∙ filter_map-append given_by (filter (is_of session) h) (filter (is_of session) (e ∷ []))

pub given_to_other : (session : ℕ) (h : List Event) (e : Event) → (by_of e).session ≢ session → given_to session (h ++ e ∷ []) ≡ given_to session h
given_to_other session h e n =
    given_to_push session h e ∙ ap (λ b. given_to session h ++ given (cond b (e ∷ []) [])) (ne_eqb (by_of e).session session n) ∙ append-nil (given_to session h)

-- an event that gives nothing
pub given_none : (h : List Event) (e : Event) → given (e ∷ []) ≡ [] → given (h ++ e ∷ []) ≡ given h
given_none h e f = given_push h e ∙ ap (λ t. given h ++ t) f ∙ append-nil (given h)

pub given_to_none : (session : ℕ) (h : List Event) (e : Event) → given (e ∷ []) ≡ [] → given_to session (h ++ e ∷ []) ≡ given_to session h
given_to_none session h e f =
    given_to_push session h e
    ∙ ap (λ t. given_to session h ++ t) (elim (is_of session e) as (λ b. given (cond b (e ∷ []) []) ≡ []) [ true ↦ f | false ↦ refl ])
    ∙ append-nil (given_to session h)

-- an event that gives an id
pub given_to_new : (session : ℕ) (h : List Event) (e : Event) (n : ℕ) → given (e ∷ []) ≡ n ∷ [] → given_to session (h ++ e ∷ []) ≡ given_to session h ++ cond ((by_of e).session == session) (n ∷ []) []
given_to_new session h e n f =
    given_to_push session h e
    ∙ ap (λ t. given_to session h ++ t) (elim (is_of session e) as (λ b. given (cond b (e ∷ []) []) ≡ cond b (n ∷ []) []) [ true ↦ f | false ↦ refl ])

pub next_after : (first : ℕ) (h : List Event) (e : Event) (n : ℕ) → given (e ∷ []) ≡ n ∷ [] → next_given first (h ++ e ∷ []) ≡ next_id (next_given first h)
next_after first h e n f = ap (λ t. nth_id first (length t)) (given_push h e ∙ ap (λ t. given h ++ t) f) ∙ ap (nth_id first) (length_push (given h) n)
