-- One id more for a session.
use Rattle.std.proofs.Common.{◌≡◌, ℕ, ◌+◌, ◌<◌, List, [], ◌∷◌, ◌++◌, Some, None, Option, IfSome, refl, sym, subst, ◌∙◌, Contains}
use Rattle.tx_events.specs.declared.event.By.{By}
use Rattle.tx_events.specs.declared.event.Event.{Event}
use Rattle.tx_events.specs.declared.record.Counters.{Counters}
use Rattle.tx_events.specs.History.{IsLegal, IsNextGiven, MayCome, next_given}
use Rattle.tx_events.specs.Running.{open_ids}
use Rattle.tx_events.proofs.GivenIds.{open_below}
use Rattle.tx_events.proofs.IdListSteps.{true_has}
use Rattle.tx_events.proofs.Membership.{has_contains as has-contains}
use Rattle.tx_model.specs.CommandEvents.{giving}
use Rattle.session_levels.specs.declared.session.RegisteredSnapshot.{RegisteredSnapshot}
use Rattle.session_levels.specs.Stands.{IsParent, Nest, last_of}
use Rattle.session_levels.proofs.StandsLemmas.{Stood, parent_open, stood_id, stood_sub}

pub may_give : (base : Counters) (h : List Event) (by : By) (parent : Option ℕ) (id : ℕ) → IsNextGiven base h id → IsParent by.session h parent → MayCome base h (giving by parent id)
may_give base h by None id n p = (n, p)
may_give base h by (Some parent) id n p = (n, p)

pub next_may : (base : Counters) (h : List Event) (by : By) (parent : Option ℕ) (id : ℕ) → MayCome base h (giving by parent id) → IsNextGiven base h id
next_may base h by None id m = m.0
next_may base h by (Some parent) id m = m.0

pub below_next : (base : Counters) (h : List Event) (session : ℕ) (parent : Option ℕ) → IsLegal base h → IsParent session h parent → IfSome parent (λ p. p < next_given base.next h)
below_next base h session None l p = tt
below_next base h session (Some parent) l p = open_below base h session parent l p

pub last_some : (x : ℕ) (xs : List ℕ) → (p : ℕ) × (last_of (x ∷ xs) ≡ Some p)
last_some x [] = (x, refl)
last_some x (y ∷ xs) = last_some y xs

-- the innermost level with an id, as a parent
pub is_parent : (h : List Event) (session : ℕ) (opened named : List ℕ) → open_ids session h ≡ opened → Nest h opened named → IsParent session h (last_of named)
is_parent h session opened [] o n = o ∙ n
is_parent h session opened (x ∷ xs) o n =
    let l = last_some x xs in
    subst (IsParent session h) (sym l.1) (subst (λ ids. Contains ids l.0) (sym o) (has-contains opened l.0 (true_has opened l.0 (parent_open h opened (x ∷ xs) l.0 n l.1))))

stood_given_by : (base : Counters) (h : List Event) (by : By) (id unnamed unnamed' : ℕ) (opened named : List ℕ) (registered : List RegisteredSnapshot) (parent : Option ℕ) → last_of named ≡ parent → IsLegal base h → MayCome base h (giving by parent id) → unnamed' + 1 ≡ unnamed →
    Stood base h by.session by.command opened named unnamed registered → Stood base (h ++ giving by parent id ∷ []) by.session by.command (opened ++ id ∷ []) (named ++ id ∷ []) unnamed' registered
stood_given_by base h by id unnamed unnamed' opened named registered (Some parent) l legal m u s = stood_sub base h by parent id unnamed unnamed' opened named registered legal m l u s
stood_given_by base h by id unnamed unnamed' opened [] registered None l legal m u s =
    let none : opened ≡ [] = s.nest in
    subst (λ o. Stood base (h ++ giving by None id ∷ []) by.session by.command (o ++ id ∷ []) (id ∷ []) unnamed' registered) (sym none)
    (stood_id base h by id unnamed unnamed' registered legal m u (subst (λ o. Stood base h by.session by.command o [] unnamed registered) none s))
stood_given_by base h by id unnamed unnamed' opened (x ∷ named) registered None l legal m u s = let q = last_some x named in let z : Some q.0 ≡ None = sym q.1 ∙ l in absurd cc

-- the outermost level that lacks an id is given one
pub stood_given : (base : Counters) (h : List Event) (by : By) (id unnamed unnamed' : ℕ) (opened named : List ℕ) (registered : List RegisteredSnapshot) → IsLegal base h → MayCome base h (giving by (last_of named) id) → unnamed' + 1 ≡ unnamed →
    Stood base h by.session by.command opened named unnamed registered → Stood base (h ++ giving by (last_of named) id ∷ []) by.session by.command (opened ++ id ∷ []) (named ++ id ∷ []) unnamed' registered
stood_given base h by id unnamed unnamed' opened named registered legal m u s = stood_given_by base h by id unnamed unnamed' opened named registered (last_of named) refl legal m u s
