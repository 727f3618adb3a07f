-- What a session has open is told by its own events alone.
use Rattle.std.proofs.Common.{◌≡◌, ℕ, List, [], ◌∷◌, ◌++◌, Some, Bool, true, false, cond, not, refl, sym, ap, subst, ◌∙◌, inl, inr, ◌⊎◌, ⊎_elim, ◌&&◌, ◌||◌, ◌==◌, append-nil, eqb-true}
use Rattle.std.specs.List.{filter, list_any}
use Rattle.std.proofs.lemmas.Bool.{false≢true}
use Rattle.std.proofs.lemmas.List.Elements.{filter-append}
use Rattle.tx_events.specs.declared.event.Event.{Event}
use Rattle.tx_events.specs.declared.event.Event.TheVariants as events
use Rattle.tx_events.specs.declared.record.Counters.{Counters}
use Rattle.tx_events.specs.Events.{by_of, given, given_by, given_to, is_end_of, is_of, is_undo_of}
use Rattle.tx_events.specs.Families.{enclosing, lineage, top}
use Rattle.tx_events.specs.History.{IsLegal, MayCome}
use Rattle.tx_events.specs.Running.{is_ended, is_open, is_undone, open_ids}
use Rattle.tx_events.proofs.GivenIds.{family_session, fresh, given_new, given_stays, given_to_cases, given_to_given, legal_front, legal_last, one_session}
use Rattle.tx_events.proofs.GivenGrowth.{given_to_push}
use Rattle.tx_events.proofs.Lineages.{enclosing_in, enclosing_line, family_kept, lineage_push, lineage_sub, top_in, top_line}
use Rattle.tx_events.proofs.ListSteps.{eqb-refl}
use Rattle.tx_events.proofs.Membership.{Has, by_end, contains_has, filter_agree_on, has_cases, has_filter, has_left, list_any_agree_on}

-- the session's own events
abbrev pub own : ℕ → List Event → List Event
own s h = filter (is_of s) h

own_mine : (s : ℕ) (h : List Event) (e : Event) → (by_of e).session ≡ s → own s (h ++ e ∷ []) ≡ own s h ++ e ∷ []
own_mine s h e is = filter-append (is_of s) h (e ∷ []) ∙ ap (λ b. own s h ++ cond b (e ∷ []) []) (ap (λ n. n == s) is ∙ eqb-refl s)

own_push : (s : ℕ) (h : List Event) (e : Event) → own s (h ++ e ∷ []) ≡ own s h ++ own s (e ∷ [])
own_push s h e = filter-append (is_of s) h (e ∷ [])

-- filtered twice
twice_step : (s : ℕ) (e : Event) (h : List Event) → own s (own s h) ≡ own s h → (b : Bool) → is_of s e ≡ b → own s (cond b (e ∷ own s h) (own s h)) ≡ cond b (e ∷ own s h) (own s h)
twice_step s e h rest true q = ap (λ b. cond b (e ∷ own s (own s h)) (own s (own s h))) q ∙ ap (λ (t : List Event). e ∷ t) rest
twice_step s e h rest false q = rest

twice : (s : ℕ) (h : List Event) → own s (own s h) ≡ own s h
twice s [] = refl
twice s (e ∷ h) = twice_step s e h (twice s h) (is_of s e) refl

-- ---- families

-- an id that no event gives has no family but itself
bare : (x : ℕ) (h : List Event) → (Has (given h) x → ⊥) → lineage h x ≡ x ∷ []
bare x = by_end (λ h. (Has (given h) x → ⊥) → lineage h x ≡ x ∷ [])
    (λ n. refl)
    (λ h e before n. lineage_push h e x (λ g. n (given_new h e x g)) ∙ before (λ k. n (given_stays h e x k)))

own_given : (s : ℕ) (h : List Event) (x : ℕ) → Has (given (own s h)) x → Has (given h) x
own_given s h x k = given_to_given s h x k

-- one event more leaves the family of an id that it doesn't give, among the session's events too
own_lineage : (s : ℕ) (h : List Event) (e : Event) (x : ℕ) → (given_by e ≡ Some x → ⊥) → lineage (own s (h ++ e ∷ [])) x ≡ lineage (own s h) x
own_lineage s h e x n = ap (λ (t : List Event). lineage t x) (own_push s h e) ∙ split (is_of s e)
  where
    split : (b : Bool) → lineage (own s h ++ cond b (e ∷ []) []) x ≡ lineage (own s h) x
    split true = lineage_push (own s h) e x n
    split false = ap (λ (t : List Event). lineage t x) (append-nil (own s h))

-- of one that it gives
new_lineage : (base : Counters) (s : ℕ) (h : List Event) (e : Event) (x : ℕ) → IsLegal base h → MayCome base h e → given_by e ≡ Some x → (by_of e).session ≡ s
    → ((y : ℕ) → Has (given_to s h) y → lineage h y ≡ lineage (own s h) y) → lineage (h ++ e ∷ []) x ≡ lineage (own s h ++ e ∷ []) x
new_lineage base s h (events.Id by id) x legal may g is before =
    let n : Has (given h) x → ⊥ = fresh base h (events.Id by id) x legal may g in
    (family_kept h (events.Id by id) x tt ∙ bare x h n) ∙ sym (family_kept (own s h) (events.Id by id) x tt ∙ bare x (own s h) (λ k. n (own_given s h x k)))
new_lineage base s h (events.Sub by parent id) x legal may g is before =
    let q : id ≡ x = cc in
    let above : Has (given_to by.session h) parent = (has_filter (is_open h) (given_to by.session h) parent (contains_has (open_ids by.session h) parent may.1)).0 in
    ap (λ z. lineage (h ++ events.Sub by parent z ∷ []) x) q ∙ lineage_sub h by parent x
    ∙ ap (λ (t : List ℕ). x ∷ t) (before parent (subst (λ r. Has (given_to r h) parent) is above))
    ∙ sym (ap (λ z. lineage (own s h ++ events.Sub by parent z ∷ []) x) q ∙ lineage_sub (own s h) by parent x)
new_lineage base s h e x legal may g is before = absurd cc

same_lineage : (base : Counters) (s : ℕ) (h : List Event) → IsLegal base h → (x : ℕ) → Has (given_to s h) x → lineage h x ≡ lineage (own s h) x
same_lineage base s = by_end (λ h. IsLegal base h → (x : ℕ) → Has (given_to s h) x → lineage h x ≡ lineage (own s h) x)
    (λ legal x k. refl)
    (λ h e before legal x k.
    let front = legal_front base h e legal in
    let last = legal_last base h e legal in
    ⊎_elim
    (λ (a : Has (given_to s h) x).
    let n : given_by e ≡ Some x → ⊥ = λ g. fresh base h e x front last g (given_to_given s h x a) in
    lineage_push h e x n ∙ before front x a ∙ sym (own_lineage s h e x n))
    (λ (a : (given_by e ≡ Some x) × ((by_of e).session ≡ s)).
    new_lineage base s h e x front last a.0 a.1 (before front) ∙ ap (λ (t : List Event). lineage t x) (sym (own_mine s h e a.1)))
    (given_to_cases s h e x k))

-- ---- ends and undos

stays : (s : ℕ) (h : List Event) (e : Event) (x : ℕ) → Has (given_to s h) x → Has (given_to s (h ++ e ∷ [])) x
stays s h e x k = subst (λ t. Has t x) (sym (given_to_push s h e)) (has_left (given_to s h) (given_to s (e ∷ [])) x k)

opened : (s : ℕ) (h : List Event) (x : ℕ) → Has (open_ids s h) x → Has (given_to s h) x
opened s h x k = (has_filter (is_open h) (given_to s h) x k).0

-- the event ends or undoes the id
abbrev Closes : ℕ → Event → Type 0
Closes t e = (is_end_of t e ≡ true) ⊎ (is_undo_of t e ≡ true)

closes_its : (base : Counters) (h : List Event) (e : Event) (t : ℕ) → MayCome base h e → Closes t e → Has (given_to (by_of e).session h) t
closes_its base h (events.Undo by id) t may c = ⊎_elim (λ u. absurd cc) (λ u. subst (λ x. Has (given_to by.session h) x) (eqb-true id t u) (opened by.session h id (contains_has (open_ids by.session h) id may.0))) c
closes_its base h (events.Commit by id) t may c = ⊎_elim (λ u. subst (λ x. Has (given_to by.session h) x) (eqb-true id t u) (opened by.session h id (contains_has (open_ids by.session h) id may.0))) (λ u. absurd cc) c
closes_its base h (events.Abort by id) t may c = ⊎_elim (λ u. subst (λ x. Has (given_to by.session h) x) (eqb-true id t u) (opened by.session h id (contains_has (open_ids by.session h) id may.0))) (λ u. absurd cc) c
closes_its base h (events.Id by id) t may c = ⊎_elim (λ u. absurd cc) (λ u. absurd cc) c
closes_its base h (events.Sub by parent id) t may c = ⊎_elim (λ u. absurd cc) (λ u. absurd cc) c
closes_its base h (events.Snap name by) t may c = ⊎_elim (λ u. absurd cc) (λ u. absurd cc) c
closes_its base h (events.SnapDrop name by) t may c = ⊎_elim (λ u. absurd cc) (λ u. absurd cc) c
closes_its base h (events.Oldest by oldest) t may c = ⊎_elim (λ u. absurd cc) (λ u. absurd cc) c
closes_its base h (events.Ask by id) t may c = ⊎_elim (λ u. absurd cc) (λ u. absurd cc) c

-- only the session's own events close its ids
closer : (base : Counters) (h : List Event) → IsLegal base h → (e : Event) (t : ℕ) → Has h e → Closes t e → Has (given_to (by_of e).session h) t
closer base = by_end (λ h. IsLegal base h → (e : Event) (t : ℕ) → Has h e → Closes t e → Has (given_to (by_of e).session h) t)
    (λ legal e t k c. absurd k)
    (λ h f before legal e t k c.
    stays (by_of e).session h f t
    (⊎_elim
    (λ (a : Has h e). before (legal_front base h f legal) e t a c)
    (λ (a : Has (f ∷ []) e). ⊎_elim
    (λ (q : f ≡ e). subst (λ (z : Event). Has (given_to (by_of z).session h) t) q (closes_its base h f t (legal_last base h f legal) (subst (λ (z : Event). Closes t z) (sym q) c)))
    (λ z. absurd z) a)
    (has_cases h (f ∷ []) e k)))

-- where all that pass are kept, as many pass
kept_step : (p q : Event → Bool) (e : Event) (h : List Event) → (p e ≡ true → q e ≡ true) → list_any p (filter q h) ≡ list_any p h → (b : Bool) → q e ≡ b → (c : Bool) → p e ≡ c → list_any p (cond b (e ∷ filter q h) (filter q h)) ≡ (c || list_any p h)
kept_step p q e h f rest true i c j = ap (λ d. d || list_any p (filter q h)) j ∙ ap (λ d. c || d) rest
kept_step p q e h f rest false i true j = absurd (false≢true (sym i ∙ f j))
kept_step p q e h f rest false i false j = rest

kept : (p q : Event → Bool) (h : List Event) → ((e : Event) → Has h e → p e ≡ true → q e ≡ true) → list_any p (filter q h) ≡ list_any p h
kept p q [] f = refl
kept p q (e ∷ h) f = kept_step p q e h (f e (inl refl)) (kept p q h (λ x k. f x (inr k))) (q e) refl (p e) refl

mine : (base : Counters) (s : ℕ) (h : List Event) → IsLegal base h → (t : ℕ) → Has (given_to s h) t → (e : Event) → Has h e → Closes t e → is_of s e ≡ true
mine base s h legal t k e l c = ap (λ n. n == s) (one_session base h legal (by_of e).session s t (closer base h legal e t l c) k) ∙ eqb-refl s

-- ---- what is open

same_ended : (base : Counters) (s : ℕ) (h : List Event) → IsLegal base h → (x : ℕ) → Has (given_to s h) x → is_ended h x ≡ is_ended (own s h) x
same_ended base s h legal x k =
    let line = same_lineage base s h legal x k in
    let its = family_session base h legal s x (top h x) k (top_in h x) in
    sym (kept (is_end_of (top h x)) (is_of s) h (λ e l c. mine base s h legal (top h x) its e l (inl c)))
    ∙ ap (λ (l : List ℕ). list_any (is_end_of (top_line l x)) (own s h)) line

same_undone : (base : Counters) (s : ℕ) (h : List Event) → IsLegal base h → (x : ℕ) → Has (given_to s h) x → is_undone h x ≡ is_undone (own s h) x
same_undone base s h legal x k =
    let line = same_lineage base s h legal x k in
    list_any_agree_on (λ y. list_any (is_undo_of y) h) (λ y. list_any (is_undo_of y) (own s h)) (enclosing h x)
    (λ y j. sym (kept (is_undo_of y) (is_of s) h (λ e l c. mine base s h legal y (family_session base h legal s x y k (enclosing_in h x y j)) e l (inr c))))
    ∙ ap (λ (l : List ℕ). list_any (λ y. list_any (is_undo_of y) (own s h)) (enclosing_line l)) line

same_open : (base : Counters) (s : ℕ) (h : List Event) → IsLegal base h → (x : ℕ) → Has (given_to s h) x → is_open h x ≡ is_open (own s h) x
same_open base s h legal x k =
    ap (λ b. not b && not (is_undone h x)) (same_ended base s h legal x k) ∙ ap (λ b. not (is_ended (own s h) x) && not b) (same_undone base s h legal x k)

pub own_open : (base : Counters) (s : ℕ) (h : List Event) → IsLegal base h → open_ids s (own s h) ≡ open_ids s h
own_open base s h legal =
    ap (λ (t : List Event). filter (is_open (own s h)) (given t)) (twice s h)
    ∙ sym (filter_agree_on (is_open h) (is_open (own s h)) (given_to s h) (λ x k. same_open base s h legal x k))
