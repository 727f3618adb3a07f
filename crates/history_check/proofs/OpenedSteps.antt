-- What is kept of the open ids goes along with the history.
use Rattle.std.proofs.Common.{◌≡◌, ℕ, ◌+◌, ◌<◌, suc, zero, List, [], ◌∷◌, ◌++◌, Option, Some, None, refl, ap, sym, subst, ◌∙◌, inl, inr, ⊎_elim, Bool, true, false, cond, not, ◌==◌, ◌||◌, ◌&&◌, take, length, get_or, arith, Contains, eqb-true, eq-eqb, is_none, is_some, IsTrue, ◌↔◌, Result, Ok, Err}
use Rattle.std.specs.Global.{Vec}
use Rattle.std.specs.Prelude.{IfOk}
use Rattle.tx_events.specs.declared.sequence.Memory.{Memory}
use Rattle.std.specs.List.{AllByRecursion, filter, find}
use Rattle.std.proofs.lemmas.Bool.{false≢true}
use Rattle.std.proofs.lemmas.List.{map_push, take_more}
use Rattle.std.proofs.lemmas.List.Elements.{filter-append}
use Rattle.tx_events.specs.declared.event.Event.{Event}
use Rattle.tx_events.specs.declared.record.Counters.{Counters}
use Rattle.tx_events.specs.Families.{is_top}
use Rattle.tx_events.specs.History.{IsLegal}
use Rattle.tx_events.specs.IdLists.{has, Ascending}
use Rattle.tx_events.specs.Running.{open_ids}
use Rattle.tx_events.specs.Savepoints.{is_inside}
use Rattle.tx_events.proofs.GivenIds.{open_given}
use Rattle.tx_events.proofs.IdListSteps.{ascending_filtered, has-filter, has_true}
use Rattle.tx_events.proofs.Membership.{Has, all_at, contains_has, has_contains}
use Rattle.proc_table.proofs.OpenAscend.{open_ascend}
use Rattle.history_check.specs.declared.links.OpenId.{OpenId}
use Rattle.history_check.specs.Opened.{AreOpened, opened_ids, parent_of}
use Rattle.history_check.proofs.Parents.{HasNone, HasParent, inside_above, inside_none, is_no_top, is_top_of_none, parent_below, parent_open, parents}

-- ---- the list of a session ascends

pub opened_ascend : (base : Counters) (h : List Event) (s : ℕ) (opened : List OpenId) → IsLegal base h → AreOpened h s opened → Ascending (opened_ids opened)
opened_ascend base h s opened legal a = subst Ascending (sym a.ids) (open_ascend base h s legal)

-- ---- an id is found among the open ones

abbrev pub IsFound : List Event → List OpenId → ℕ → OpenId → Type 0
IsFound h opened x o = Has (opened_ids opened) x × (o.id ≡ x) × (o.parent ≡ parent_of h o.id)

found_in : (h : List Event) (opened : List OpenId) (x : ℕ) (o : OpenId) → AllByRecursion (λ (o : OpenId). o.parent ≡ parent_of h o.id) opened → find (λ (o : OpenId). o.id == x) opened ≡ Some o → IsFound h opened x o
found_in h [] x o a e = absurd cc
found_in h (p ∷ opened) x o a e = split (p.id == x) refl (λ f. found_in h opened x o a.1 f)
  where
    split : (b : Bool) → (p.id == x) ≡ b → (find (λ (o : OpenId). o.id == x) opened ≡ Some o → IsFound h opened x o) → IsFound h (p ∷ opened) x o
    split true q more =
        let f : Some p ≡ Some o = ap (λ b. cond b (Some p) (find (λ (o : OpenId). o.id == x) opened)) (sym q) ∙ e in
        let g : p ≡ o = cc in
        (inl (eqb-true p.id x q), ap (λ (o : OpenId). o.id) (sym g) ∙ eqb-true p.id x q, subst (λ (o : OpenId). o.parent ≡ parent_of h o.id) g a.0)
    split false q more =
        let r = more (ap (λ b. cond b (Some p) (find (λ (o : OpenId). o.id == x) opened)) (sym q) ∙ e) in
        (inr r.0, r.1, r.2)

missed : (opened : List OpenId) (x : ℕ) → find (λ (o : OpenId). o.id == x) opened ≡ None → Has (opened_ids opened) x → ⊥
missed [] x e k = k
missed (p ∷ opened) x e k = split (p.id == x) refl (λ f j. missed opened x f j)
  where
    split : (b : Bool) → (p.id == x) ≡ b → (find (λ (o : OpenId). o.id == x) opened ≡ None → Has (opened_ids opened) x → ⊥) → ⊥
    split true q more = let f : Some p ≡ None = ap (λ b. cond b (Some p) (find (λ (o : OpenId). o.id == x) opened)) (sym q) ∙ e in absurd cc
    split false q more = ⊎_elim (λ (same : p.id ≡ x). false≢true (sym q ∙ eq-eqb p.id x same)) (λ j. more (ap (λ b. cond b (Some p) (find (λ (o : OpenId). o.id == x) opened)) (sym q) ∙ e) j) k

pub record IsOpenId (h : List Event) (s x : ℕ) (o : OpenId) : Type 0 where
  pub opened : Has (open_ids s h) x
  pub parent : o.parent ≡ parent_of h x

pub found_open : (h : List Event) (s : ℕ) (opened : List OpenId) (x : ℕ) (o : OpenId) → AreOpened h s opened → find (λ (o : OpenId). o.id == x) opened ≡ Some o → IsOpenId h s x o
found_open h s opened x o a e =
    let f = found_in h opened x o a.parents e in
    record { opened = subst (λ t. Has t x) a.ids f.0; parent = f.2 ∙ ap (parent_of h) f.1 }

pub not_open : (h : List Event) (s : ℕ) (opened : List OpenId) (x : ℕ) → AreOpened h s opened → find (λ (o : OpenId). o.id == x) opened ≡ None → Contains (open_ids s h) x → ⊥
not_open h s opened x a e k = missed opened x e (subst (λ t. Has t x) (sym a.ids) (contains_has (open_ids s h) x k))

-- an open id is a top where it has no parent
top_by_parent : (base : Counters) (h : List Event) (s x : ℕ) (o : Option ℕ) → IsLegal base h → Has (open_ids s h) x → o ≡ parent_of h x → is_none o ≡ is_top h x
top_by_parent base h s x o legal k e =
    let given = open_given s h x k in
    ⊎_elim
    (λ (a : HasParent h x). ap is_none (e ∙ a.is) ∙ sym (is_no_top base h x a legal given))
    (λ (a : HasNone h x). ap is_none (e ∙ a.is) ∙ sym (is_top_of_none h x a))
    (parents base h legal x given)

pub none_told : {X : Type 0} (p : Option X) (b : Bool) → is_some p ≡ not b → is_none p ≡ b
none_told None true e = refl
none_told None false e = absurd cc
none_told (Some x) true e = absurd cc
none_told (Some x) false e = refl

pub found_top : (base : Counters) (h : List Event) (s : ℕ) (opened : List OpenId) (x : ℕ) (o : OpenId) → IsLegal base h → AreOpened h s opened → find (λ (o : OpenId). o.id == x) opened ≡ Some o → IsTrue (is_none o.parent) ↔ (Contains (open_ids s h) x × (is_top h x ≡ true))
found_top base h s opened x o legal a e =
    let f = found_open h s opened x o a e in
    let same = top_by_parent base h s x o.parent legal f.opened f.parent in
    (λ t. (has_contains (open_ids s h) x f.opened, sym same ∙ t), λ c. same ∙ c.1)

pub found_sub : (base : Counters) (h : List Event) (s : ℕ) (opened : List OpenId) (x : ℕ) (o : OpenId) → IsLegal base h → AreOpened h s opened → find (λ (o : OpenId). o.id == x) opened ≡ Some o → IsTrue (is_some o.parent) ↔ (Contains (open_ids s h) x × (is_top h x ≡ false))
found_sub base h s opened x o legal a e =
    let f = found_open h s opened x o a e in
    let same = top_by_parent base h s x o.parent legal f.opened f.parent in (
      λ t. (has_contains (open_ids s h) x f.opened, sym same ∙ (both o.parent).0 t),
      λ c. (both o.parent).1 (same ∙ c.1),
    )
  where
    both : (p : Option ℕ) → (is_some p ≡ true → is_none p ≡ false) × (is_none p ≡ false → is_some p ≡ true)
    both None = (λ e. absurd cc, λ e. absurd cc)
    both (Some n) = (λ e. refl, λ e. refl)

pub found_iff : (h : List Event) (s : ℕ) (opened : List OpenId) (x : ℕ) (r : Option OpenId) → AreOpened h s opened → r ≡ find (λ (o : OpenId). o.id == x) opened → IsTrue (is_some r) ↔ Contains (open_ids s h) x
found_iff h s opened x None a e = (λ t. absurd cc, λ c. absurd (not_open h s opened x a (sym e) c))
found_iff h s opened x (Some o) a e = (λ t. has_contains (open_ids s h) x (found_open h s opened x o a (sym e)).opened, λ c. refl)

-- ---- what an undo closes

pub closed_ascend : (base : Counters) (h : List Event) (s : ℕ) (q : ℕ → Bool) → IsLegal base h → Ascending (filter q (open_ids s h))
closed_ascend base h s q legal = ascending_filtered q (open_ids s h) (open_ascend base h s legal)

pub closed_are_ascending : (base : Counters) (h : List Event) (s : ℕ) (q : ℕ → Bool) (r : Result (Vec ℕ) Memory) → IsLegal base h → IfOk r (λ ids. ids.items ≡ filter q (open_ids s h)) → IfOk r (λ ids. Ascending ids.items)
closed_are_ascending base h s q (Ok ids) legal f = subst Ascending (sym f) (closed_ascend base h s q legal)
closed_are_ascending base h s q (Err e) legal f = tt
