-- A walk over the places of a command's events.
use Rattle.std.proofs.Common.{◌≡◌, ℕ, suc, zero, ◌+◌, ◌<◌, ◌≤◌, List, [], ◌∷◌, length, get_or, map, refl, ap, sym, subst, ◌∙◌, arith, inl, inr, ⊎_elim, Some}
use Rattle.std.specs.List.{slice_get}
use Rattle.std.proofs.lemmas.Bool.{cases_lt}
use Rattle.tx_events.specs.declared.event.By.{By}
use Rattle.tx_events.specs.declared.event.Event.{Event}
use Rattle.tx_events.specs.Events.{by_of, given_by}
use Rattle.tx_model.specs.Replies.{IsGivenAt}
use Rattle.tx_events.proofs.Membership.{Has, contains_has, has_contains, has_place}
use Rattle.place_rules.specs.Runs.{AreItsPlaces}

-- ---- items at their places

pub within : {X : Type 0} (xs : List X) (i : ℕ) (x : X) → slice_get xs i ≡ Some x → i < length xs
within [] i x f = absurd cc
within (y ∷ xs) zero x f = omega arith
within (y ∷ xs) (suc i) x f = let l = within xs i x f in omega arith

pub got : {X : Type 0} (xs : List X) (i : ℕ) (x d : X) → slice_get xs i ≡ Some x → get_or xs i d ≡ x
got [] i x d f = absurd cc
got (y ∷ xs) zero x d f = cc
got (y ∷ xs) (suc i) x d f = got xs i x d f

pub getting : {X : Type 0} (xs : List X) (i : ℕ) (d : X) → i < length xs → slice_get xs i ≡ Some (get_or xs i d)
getting [] i d l = absurd (omega arith)
getting (y ∷ xs) zero d l = refl
getting (y ∷ xs) (suc i) d l = getting xs i d (omega arith)

pub some_at : {X : Type 0} (xs : List X) (i : ℕ) → i < length xs → (x : X) × (slice_get xs i ≡ Some x)
some_at [] i l = absurd (omega arith)
some_at (y ∷ xs) zero l = (y, refl)
some_at (y ∷ xs) (suc i) l = some_at xs i (omega arith)

-- ---- events and whose they are

pub record EventAt (h : List Event) (by : By) (p : ℕ) : Type 0 where
  pub event : Event
  pub stands : slice_get h p ≡ Some event
  pub its : by_of event ≡ by

pub event_at : (h : List Event) (by : By) (p : ℕ) → slice_get (map by_of h) p ≡ Some by → EventAt h by p
event_at [] by p f = absurd cc
event_at (e ∷ h) by zero f = let its : by_of e ≡ by = cc in record { event = e; stands = refl; its = its }
event_at (e ∷ h) by (suc p) f = let r = event_at h by p f in record { event = r.event; stands = r.stands; its = r.its }

pub by_at : (h : List Event) (e : Event) (p : ℕ) → slice_get h p ≡ Some e → slice_get (map by_of h) p ≡ Some (by_of e)
by_at [] e p f = absurd cc
by_at (x ∷ h) e zero f = let same : x ≡ e = cc in ap (λ (y : Event). Some (by_of y)) same
by_at (x ∷ h) e (suc p) f = by_at h e p f

-- an event that is read there
pub read_at : (h t : List Event) (by : By) (p : ℕ) (e : Event) → t ≡ h → slice_get (map by_of h) p ≡ Some by → e ≡ get_or t p e → slice_get h p ≡ Some e
read_at h t by p e same its is =
    let a = event_at h by p its in
    let low : p < length h = within h p a.event a.stands in
    getting h p e low ∙ ap Some (ap (λ (xs : List Event). get_or xs p e) (sym same) ∙ sym is)

pub given_here : (h : List Event) (by : By) (p : ℕ) (e : Event) (id : ℕ) → slice_get (map by_of h) p ≡ Some by → slice_get h p ≡ Some e → given_by e ≡ Some id → IsGivenAt h by p id
given_here h by p e id its at gives = let own : by_of e ≡ by = (let same : Some (by_of e) ≡ Some by = sym (by_at h e p at) ∙ its in cc) in record { event = e; at = at; own = own; gives = gives }

pub given_only : (h : List Event) (by : By) (p : ℕ) (e : Event) (id : ℕ) → slice_get h p ≡ Some e → IsGivenAt h by p id → given_by e ≡ Some id
given_only h by p e id at g = let same : e ≡ g.event = (let both : Some e ≡ Some g.event = sym at ∙ g.at in cc) in ap given_by same ∙ g.gives

-- ---- none so far

abbrev pub NoneSoFar : (ℕ → Type 0) → List ℕ → ℕ → Type 0
NoneSoFar Q run i = (k : ℕ) → k < i → k < length run → Q (get_or run k 0) → ⊥

pub none_more : (Q : ℕ → Type 0) (run : List ℕ) (i : ℕ) → NoneSoFar Q run i → (Q (get_or run i 0) → ⊥) → NoneSoFar Q run (i + 1)
none_more Q run i before fails k l m q = ⊎_elim
    (λ (u : k < i). before k u m q)
    (λ (u : i ≤ k). let at : k ≡ i = omega arith in fails (subst (λ (n : ℕ). Q (get_or run n 0)) at q))
    (cases_lt k i)

pub none_at_all : (Q : ℕ → Type 0) (h : List Event) (by : By) (run : List ℕ) (i : ℕ) → AreItsPlaces h by run → ((p : ℕ) → Q p → slice_get (map by_of h) p ≡ Some by) → NoneSoFar Q run i → length run ≤ i → (p : ℕ) → Q p → ⊥
none_at_all Q h by run i its own none l p q =
    let s = has_place run p (contains_has run p ((its p).0 (own p q))) in
    let low : s.0 < length run = within run s.0 p s.1 in
    none s.0 (omega arith) low (subst Q (sym (got run s.0 p 0 s.1)) q)

pub its_place : (h : List Event) (by : By) (run : List ℕ) (i : ℕ) → AreItsPlaces h by run → i < length run → slice_get (map by_of h) (get_or run i 0) ≡ Some by
its_place h by run i its l = (its (get_or run i 0)).1 (has_contains run (get_or run i 0) (here run i l))
  where
    here : (xs : List ℕ) (i : ℕ) → i < length xs → Has xs (get_or xs i 0)
    here [] i l = absurd (omega arith)
    here (y ∷ xs) zero l = inl refl
    here (y ∷ xs) (suc i) l = inr (here xs i (omega arith))
