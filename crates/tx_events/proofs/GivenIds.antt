-- In a legal history ids are given in order, and the family of an id lies in its session.
use Rattle.std.proofs.Common.{Bool, List, None, Option, Some, [], ap, arith, cond, eq-eqb, false, inl, inr, length, refl, subst, sym, true, ℕ, ⊎_elim, ◌++◌, ◌<◌, ◌∙◌, ◌∷◌, ◌≡◌, ◌⊎◌, Contains, drop, eq-or-lt_of_le, take, ◌≤◌}
use Rattle.std.proofs.lemmas.Bool.{eqb-true, cases_lt}
use Rattle.std.specs.List.{cons_option, filter}
use Rattle.std.proofs.lemmas.List.{take-append-drop}
use Rattle.tx_events.specs.Ids.{IsFullId}
use Rattle.tx_events.specs.declared.event.By.{By}
use Rattle.tx_events.specs.declared.event.Event.{Event}
use Rattle.tx_events.specs.declared.record.Counters.{Counters}
use Rattle.tx_events.proofs.GivenGrowth.{given_push, given_to_push, given_none, next_after}
use Rattle.tx_events.proofs.Lineages.{lineage_push, lineage_sub, family_kept}
use Rattle.tx_events.proofs.Membership.{Has, by_end, contains_has, has_cases, has_filter, has_left, has_right}
use Rattle.tx_events.proofs.PlaceLemmas.{each_place_start, each_place_last, each_place_push}
use Rattle.tx_events.specs.Events.{by_of, given, given_by, given_to, is_of}
use Rattle.tx_events.specs.Families.{lineage}
use Rattle.tx_events.specs.History.{ComesInTurn, IsLegal, MayCome, next_given, nth_id}
use Rattle.tx_events.specs.Running.{is_open, open_ids}
use Rattle.tx_events.proofs.IdOrder.{next_above, next_least}
use Rattle.tx_events.specs.declared.event.Event.TheVariants as events

-- one event more
pub legal_push : (base : Counters) (h : List Event) (e : Event) → IsLegal base h → MayCome base h e → ComesInTurn h e → IsLegal base (h ++ e ∷ [])
legal_push base h e l m t = record {
  rules = each_place_push (MayCome base) h e l.rules m;
  turns = each_place_push ComesInTurn h e l.turns t;
}

-- the beginning of a legal history is legal
pub legal_start : (base : Counters) (h es : List Event) → IsLegal base (h ++ es) → IsLegal base h
legal_start base h es legal = record { rules = each_place_start (MayCome base) h es legal.rules; turns = each_place_start ComesInTurn h es legal.turns }

pub legal_front : (base : Counters) (h : List Event) (e : Event) → IsLegal base (h ++ e ∷ []) → IsLegal base h
legal_front base h e legal = legal_start base h (e ∷ []) legal

pub legal_take : (base : Counters) (h : List Event) (p : ℕ) → IsLegal base h → IsLegal base (take p h)
legal_take base h p legal = legal_start base (take p h) (drop p h) (subst (IsLegal base) (sym (take-append-drop p h)) legal)

pub legal_last : (base : Counters) (h : List Event) (e : Event) → IsLegal base (h ++ e ∷ []) → MayCome base h e
legal_last base h e legal = each_place_last (MayCome base) h e legal.rules

-- the rule of an event that gives an id
pub may_give : (base : Counters) (h : List Event) (e : Event) (x : ℕ) → MayCome base h e → given_by e ≡ Some x → x ≡ next_given base.next h
may_give base h (events.Id by id) x may g = let q : id ≡ x = cc in sym q ∙ may.0.next
may_give base h (events.Sub by parent id) x may g = let q : id ≡ x = cc in sym q ∙ may.0.next
may_give base h e x may g = absurd cc

gives_it : (e : Event) (x : ℕ) → Has (given (e ∷ [])) x → given_by e ≡ Some x
gives_it e x = step (given_by e) refl
  where
    step : (o : Option ℕ) → given_by e ≡ o → Has (cons_option o []) x → given_by e ≡ Some x
    step None g z = absurd z
    step (Some y) g z = ⊎_elim (λ (q : y ≡ x). g ∙ ap (λ w. Some w) q) (λ w. absurd w) z

-- an id given after one more event: it was given before, or the event gives it
pub given_push_cases : (h : List Event) (e : Event) (x : ℕ) → Has (given (h ++ e ∷ [])) x → Has (given h) x ⊎ (given_by e ≡ Some x)
given_push_cases h e x k = ⊎_elim inl (λ a. inr (gives_it e x a)) (has_cases (given h) (given (e ∷ [])) x (subst (λ t. Has t x) (given_push h e) k))

pub given_stays : (h : List Event) (e : Event) (x : ℕ) → Has (given h) x → Has (given (h ++ e ∷ [])) x
given_stays h e x k = subst (λ t. Has t x) (sym (given_push h e)) (has_left (given h) (given (e ∷ [])) x k)

pub given_new : (h : List Event) (e : Event) (x : ℕ) → given_by e ≡ Some x → Has (given (h ++ e ∷ [])) x
given_new h e x g = subst (λ t. Has t x) (sym (given_push h e)) (has_right (given h) (given (e ∷ [])) x (subst (λ o. Has (cons_option o []) x) (sym g) (inl refl)))

gives_one : (e : Event) (x : ℕ) → given_by e ≡ Some x → given (e ∷ []) ≡ x ∷ []
gives_one e x g = ap (λ o. cons_option o []) g

-- the next id never falls
pub next_rises : (base : Counters) (h : List Event) (e : Event) → next_given base.next h ≤ next_given base.next (h ++ e ∷ [])
next_rises base h e = step (given_by e) refl
  where
    step : (o : Option ℕ) → given_by e ≡ o → next_given base.next h ≤ next_given base.next (h ++ e ∷ [])
    step None g = subst (λ t. next_given base.next h ≤ nth_id base.next (length t)) (sym (given_none h e (ap (λ o. cons_option o []) g))) (omega arith)
    step (Some y) g = let a = next_after base.next h e y (gives_one e y g) in let b = next_above (next_given base.next h) in omega arith

-- the ids given are below the next one
pub given_below : (base : Counters) (h : List Event) → IsLegal base h → (x : ℕ) → Has (given h) x → x < next_given base.next h
given_below base = by_end (λ h. IsLegal base h → (x : ℕ) → Has (given h) x → x < next_given base.next h)
    (λ legal x k. absurd k)
    (λ h e before legal x k.
    ⊎_elim
    (λ a. let b = before (legal_front base h e legal) x a in let c = next_rises base h e in omega arith)
    (λ a. let b = may_give base h e x (legal_last base h e legal) a in let c = next_after base.next h e x (gives_one e x a) in let d = next_above (next_given base.next h) in omega arith)
    (given_push_cases h e x k))

-- an id that comes was not given before
pub fresh : (base : Counters) (h : List Event) (e : Event) (x : ℕ) → IsLegal base h → MayCome base h e → given_by e ≡ Some x → Has (given h) x → ⊥
fresh base h e x legal may g k = let a = given_below base h legal x k in let b = may_give base h e x may g in omega arith

-- what a session was given was given
pub given_to_given : (session : ℕ) (h : List Event) (x : ℕ) → Has (given_to session h) x → Has (given h) x
given_to_given session [] x k = absurd k
given_to_given session (e ∷ h) x k =
    let step : (b : Bool) → Has (given (cond b (e ∷ filter (is_of session) h) (filter (is_of session) h))) x → Has (cons_option (given_by e) (given h)) x = elim [
      | true ↦ λ t. let more : (o : Option ℕ) → Has (cons_option o (given_to session h)) x → Has (cons_option o (given h)) x = elim [
        | None ↦ λ z. given_to_given session h x z
        | Some y ↦ λ z. ⊎_elim inl (λ u. inr (given_to_given session h x u)) z
      ] in more (given_by e) t
      | false ↦ λ t. let r = given_to_given session h x t in
          let more : (o : Option ℕ) → Has (cons_option o (given h)) x = elim [ None ↦ r | Some y ↦ inr r ] in more (given_by e)
    ] in
    step (is_of session e) k

-- and so was what it has open
pub open_given : (session : ℕ) (h : List Event) (x : ℕ) → Has (open_ids session h) x → Has (given h) x
open_given session h x k = given_to_given session h x (has_filter (is_open h) (given_to session h) x k).0

pub open_below : (base : Counters) (h : List Event) (session x : ℕ) → IsLegal base h → Contains (open_ids session h) x → x < next_given base.next h
open_below base h session x legal c = given_below base h legal x (open_given session h x (contains_has (open_ids session h) x c))

-- an id of a session after one more event: it was the session's before, or the event gives it
pub given_to_cases : (session : ℕ) (h : List Event) (e : Event) (x : ℕ) → Has (given_to session (h ++ e ∷ [])) x → Has (given_to session h) x ⊎ ((given_by e ≡ Some x) × ((by_of e).session ≡ session))
given_to_cases session h e x k =
    ⊎_elim inl
    (λ (t : Has (given_to session (e ∷ [])) x).
    let step : (b : Bool) → is_of session e ≡ b → Has (given (cond b (e ∷ []) [])) x → Has (given_to session h) x ⊎ ((given_by e ≡ Some x) × ((by_of e).session ≡ session)) = elim [
      | true ↦ λ q z. inr (gives_it e x z, eqb-true (by_of e).session session q)
      | false ↦ λ q z. absurd z
    ] in
    step (is_of session e) refl t)
    (has_cases (given_to session h) (given_to session (e ∷ [])) x (subst (λ t. Has t x) (given_to_push session h e) k))

given_to_stays : (session : ℕ) (h : List Event) (e : Event) (x : ℕ) → Has (given_to session h) x → Has (given_to session (h ++ e ∷ [])) x
given_to_stays session h e x k = subst (λ t. Has t x) (sym (given_to_push session h e)) (has_left (given_to session h) (given_to session (e ∷ [])) x k)

-- an id is one session's
pub one_session : (base : Counters) (h : List Event) → IsLegal base h → (r s x : ℕ) → Has (given_to r h) x → Has (given_to s h) x → r ≡ s
one_session base = by_end (λ h. IsLegal base h → (r s x : ℕ) → Has (given_to r h) x → Has (given_to s h) x → r ≡ s)
    (λ legal r s x k l. absurd k)
    (λ h e before legal r s x k l.
    let front = legal_front base h e legal in let last = legal_last base h e legal in
    ⊎_elim
    (λ a. ⊎_elim (λ b. before front r s x a b) (λ b. absurd (fresh base h e x front last b.0 (given_to_given r h x a))) (given_to_cases s h e x l))
    (λ a. ⊎_elim (λ b. absurd (fresh base h e x front last a.0 (given_to_given s h x b))) (λ b. sym a.1 ∙ b.1) (given_to_cases s h e x l))
    (given_to_cases r h e x k))

-- an id that wasn't given has no family but itself
pub lineage_fresh : (base : Counters) (h : List Event) → IsLegal base h → (x : ℕ) → (Has (given h) x → ⊥) → lineage h x ≡ x ∷ []
lineage_fresh base = by_end (λ h. IsLegal base h → (x : ℕ) → (Has (given h) x → ⊥) → lineage h x ≡ x ∷ [])
    (λ legal x n. refl)
    (λ h e before legal x n.
    lineage_push h e x (λ g. n (given_new h e x g))
    ∙ before (legal_front base h e legal) x (λ k. n (given_stays h e x k)))

-- the family of an event that gives x
lineage_new : (base : Counters) (h : List Event) (e : Event) (x y : ℕ) → IsLegal base h → MayCome base h e → given_by e ≡ Some x → Has (lineage (h ++ e ∷ []) x) y → (x ≡ y) ⊎ ((parent : ℕ) × Has (given_to (by_of e).session h) parent × Has (lineage h parent) y)
lineage_new base h (events.Id by id) x y legal may g k =
    let q : id ≡ x = cc in
    let n : Has (given h) x → ⊥ = fresh base h (events.Id by id) x legal may g in
    let same : lineage (h ++ events.Id by id ∷ []) x ≡ x ∷ [] = family_kept h (events.Id by id) x tt ∙ lineage_fresh base h legal x n in
    ⊎_elim inl (λ z. absurd z) (subst (λ t. Has t y) same k)
lineage_new base h (events.Sub by parent id) x y legal may g k =
    let q : id ≡ x = cc in
    let same : lineage (h ++ events.Sub by parent id ∷ []) x ≡ x ∷ lineage h parent = ap (λ z. lineage (h ++ events.Sub by parent z ∷ []) x) q ∙ lineage_sub h by parent x in
    ⊎_elim inl (λ t. inr (parent, (has_filter (is_open h) (given_to by.session h) parent (contains_has (open_ids by.session h) parent may.1)).0, t)) (subst (λ t. Has t y) same k)
lineage_new base h e x y legal may g k = absurd cc

-- the family of a session's id is the session's
pub family_session : (base : Counters) (h : List Event) → IsLegal base h → (s x y : ℕ) → Has (given_to s h) x → Has (lineage h x) y → Has (given_to s h) y
family_session base = by_end (λ h. IsLegal base h → (s x y : ℕ) → Has (given_to s h) x → Has (lineage h x) y → Has (given_to s h) y)
    (λ legal s x y k l. absurd k)
    (λ h e before legal s x y k l.
    let front = legal_front base h e legal in let last = legal_last base h e legal in
    ⊎_elim
    (λ (a : Has (given_to s h) x).
    let n : given_by e ≡ Some x → ⊥ = λ g. fresh base h e x front last g (given_to_given s h x a) in
    given_to_stays s h e y (before front s x y a (subst (λ t. Has t y) (lineage_push h e x n) l)))
    (λ (a : (given_by e ≡ Some x) × ((by_of e).session ≡ s)).
    ⊎_elim
    (λ (q : x ≡ y). subst (λ z. Has (given_to s (h ++ e ∷ [])) z) q k)
    (λ (p : (parent : ℕ) × Has (given_to (by_of e).session h) parent × Has (lineage h parent) y).
    given_to_stays s h e y (before front s p.0 y (subst (λ z. Has (given_to z h) p.0) a.1 p.1) p.2))
    (lineage_new base h e x y front last a.0 l))
    (given_to_cases s h e x k))

-- an id that was given was given to a session
pub given_to_some : (h : List Event) (x : ℕ) → Has (given h) x → (s : ℕ) × Has (given_to s h) x
given_to_some [] x k = absurd k
given_to_some (e ∷ h) x k =
    let more : (s : ℕ) → Has (given_to s h) x → Has (given_to s (e ∷ h)) x = λ s j.
    elim (is_of s e) as (λ b. Has (given (cond b (e ∷ filter (is_of s) h) (filter (is_of s) h))) x) [
      | true ↦ elim (given_by e) as (λ o. Has (cons_option o (given_to s h)) x) [ None ↦ j | Some y ↦ inr j ]
      | false ↦ j
    ] in
    let step : (o : Option ℕ) → given_by e ≡ o → Has (cons_option o (given h)) x → (s : ℕ) × Has (given_to s (e ∷ h)) x = elim [
      | None ↦ λ g j. let r = given_to_some h x j in (r.0, more r.0 r.1)
      | Some y ↦ λ g j. ⊎_elim
          (λ (q : y ≡ x).
          let mine : is_of (by_of e).session e ≡ true = eq-eqb (by_of e).session (by_of e).session refl in (
            (by_of e).session,
            subst (λ b. Has (given (cond b (e ∷ filter (is_of (by_of e).session) h) (filter (is_of (by_of e).session) h))) x) (sym mine)
                (subst (λ o. Has (cons_option o (given_to (by_of e).session h)) x) (sym g) (inl q)),
          ))
          (λ i. let r = given_to_some h x i in (r.0, more r.0 r.1)) j
    ] in
    step (given_by e) refl k

-- a top that commits was given
pub commit_given : (base : Counters) (h : List Event) → IsLegal base h → (by : By) (t : ℕ) → Has h (events.Commit by t) → Has (given h) t
commit_given base = by_end (λ h. IsLegal base h → (by : By) (t : ℕ) → Has h (events.Commit by t) → Has (given h) t)
    (λ legal by t k. absurd k)
    (λ h e before legal by t k.
    let front = legal_front base h e legal in
    ⊎_elim (λ a. given_stays h e t (before front by t a))
    (λ a. ⊎_elim
    (λ (q : e ≡ events.Commit by t).
    let rule : MayCome base h (events.Commit by t) = subst (MayCome base h) q (legal_last base h e legal) in
    given_stays h e t (given_to_given by.session h t (has_filter (is_open h) (given_to by.session h) t (contains_has (open_ids by.session h) t rule.0)).0))
    (λ z. absurd z) a)
    (has_cases h (e ∷ []) (events.Commit by t) k))

-- every full id from the first to before the next one was given
pub given_all : (base : Counters) (h : List Event) → IsLegal base h → (x : ℕ) → IsFullId x → base.next ≤ x → x < next_given base.next h → Has (given h) x
given_all base = by_end (λ h. IsLegal base h → (x : ℕ) → IsFullId x → base.next ≤ x → x < next_given base.next h → Has (given h) x)
    (λ legal x full from below. absurd (omega arith))
    (λ h e before legal x full from below.
    let old = before (legal_front base h e legal) x full from in
    let step : (o : Option ℕ) → given_by e ≡ o → Has (given (h ++ e ∷ [])) x = elim [
      | None ↦ λ g. given_stays h e x (old (subst (λ t. x < nth_id base.next (length t)) (given_none h e (ap (λ o. cons_option o []) g)) below))
      | Some y ↦ λ g.
          let new = may_give base h e y (legal_last base h e legal) g in
          let is = next_after base.next h e y (gives_one e y g) in
          ⊎_elim
          (λ (over : y < x). absurd (let z = next_least (next_given base.next h) x full (omega arith) in omega arith))
          (λ (le : x ≤ y). ⊎_elim (λ (q : x ≡ y). given_new h e x (g ∙ ap (λ z. Some z) (sym q))) (λ (lt : x < y). given_stays h e x (old (omega arith))) (eq-or-lt_of_le le))
          (cases_lt y x)
    ] in
    step (given_by e) refl)
