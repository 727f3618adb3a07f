-- What every legal history keeps, by the tests of its definitions.
use Rattle.tx_events.proofs.PlaceLemmas.{by_place}
use Rattle.std.proofs.Common.{◌≡◌, ℕ, ◌<◌, ◌≤◌, List, [], ◌∷◌, ◌++◌, refl, ap, sym, ◌∙◌, arith, true, ◌&&◌, ◌==◌, Contains, subst, ⊎_elim, None, Option, Some, eqb-true, inl, inr, ◌⊎◌}
use Rattle.std.proofs.lemmas.Bool.{cases_Bool, and_parts}
use Rattle.std.specs.List.{cons_option}
use Rattle.tx_events.proofs.NameBounds.{AreBelow, NamesBelow}
use Rattle.tx_events.specs.IdLists.{Ascending, has}
use Rattle.tx_events.specs.declared.record.Counters.{Counters}
use Rattle.tx_events.specs.declared.event.Event.{Event}
use Rattle.tx_events.proofs.Trees.{Family, family}
use Rattle.tx_events.proofs.Membership.{Has, all_from, by_end}
use Rattle.tx_events.specs.History.{IsLegal, MayCome, next_given}
use Rattle.tx_events.proofs.ListSteps.{all_push, eqb-refl, not_both}
use Rattle.tx_events.proofs.IdListSteps.{ascending_push, has-filter, has_true, true_has, contains_true}
use Rattle.tx_events.specs.Families.{enclosing, is_top, lineage, top}
use Rattle.tx_events.proofs.Lineages.{enclosing_in, enclosing_line, top_in}
use Rattle.tx_events.specs.Events.{given_by, given_to, given}
use Rattle.tx_events.proofs.GivenIds.{given_new, given_to_given, legal_front, legal_last, lineage_fresh, may_give, one_session, open_below, given_below, next_rises}
use Rattle.tx_events.proofs.GivenGrowth.{given_none, given_push}
use Rattle.tx_events.specs.Savepoints.{is_inside}
use Rattle.tx_events.specs.Running.{is_open, open_ids, running, running_tops}
use Rattle.tx_events.proofs.SnapshotBounds.{open_root, top_of_top}
use Rattle.tx_events.specs.declared.event.Event.TheVariants as events

-- what holds of no events, and after one more lawful event, holds of every legal history
pub legal_induction : (base : Counters) (P : List Event → Type 0) → P [] → ((h : List Event) (e : Event) → P h → MayCome base h e → P (h ++ e ∷ [])) → (h : List Event) → IsLegal base h → P h
legal_induction base P none step h legal = by_place (MayCome base) P none step h legal.rules

-- the top of x was given too, is its own top, and isn't above x
pub record HasRoot (h : List Event) (x : ℕ) : Type 0 where
  pub root_given : has (given h) (top h x) ≡ true
  pub root_top : top h (top h x) ≡ top h x
  pub root_to : top h x ≤ x

-- what every legal history keeps
pub record IsSound (first : ℕ) (h : List Event) : Type 0 where
  pub below : AreBelow (next_given first h) h
  pub one_owner : (x s r : ℕ) → has (given_to s h) x ≡ true → has (given_to r h) x ≡ true → s ≡ r
  pub inside : (x id : ℕ) → is_inside h id x ≡ true → top h x ≡ top h id
  pub alone : (x : ℕ) → is_top h x ≡ true → enclosing h x ≡ []
  pub ascending : Ascending (given h)
  pub roots : (x : ℕ) → has (given h) x ≡ true → HasRoot h x

-- what the event names was given, or is given by it
names_below : (base : Counters) (h : List Event) (e : Event) (n : ℕ) → IsLegal base (h ++ e ∷ []) → next_given base.next (h ++ e ∷ []) ≤ n → NamesBelow n e
names_below base h e n legal upto = names e legal upto
  where
    old : (e : Event) (session x : ℕ) → IsLegal base (h ++ e ∷ []) → next_given base.next (h ++ e ∷ []) ≤ n → Contains (open_ids session h) x → x < n
    old e session x legal upto c = let l = open_below base h session x (legal_front base h e legal) c in let r = next_rises base h e in omega arith

    new : (e : Event) (x : ℕ) → IsLegal base (h ++ e ∷ []) → next_given base.next (h ++ e ∷ []) ≤ n → given_by e ≡ Some x → x < n
    new e x legal upto g = let l = given_below base (h ++ e ∷ []) legal x (given_new h e x g) in omega arith

    names : (e : Event) → IsLegal base (h ++ e ∷ []) → next_given base.next (h ++ e ∷ []) ≤ n → NamesBelow n e
    names (events.Id by id) legal upto = new (events.Id by id) id legal upto refl
    names (events.Sub by parent id) legal upto =
        let may = legal_last base h (events.Sub by parent id) legal in
        let l = open_below base h by.session parent (legal_front base h (events.Sub by parent id) legal) may.1 in
        let e : id ≡ next_given base.next h = may.0.next in
        (omega arith, new (events.Sub by parent id) id legal upto refl)
    names (events.Undo by id) legal upto = old (events.Undo by id) by.session id legal upto (legal_last base h (events.Undo by id) legal).0
    names (events.Commit by t) legal upto = old (events.Commit by t) by.session t legal upto (legal_last base h (events.Commit by t) legal).0
    names (events.Abort by t) legal upto = old (events.Abort by t) by.session t legal upto (legal_last base h (events.Abort by t) legal).0
    names (events.Snap name by) legal upto = tt
    names (events.SnapDrop name by) legal upto = tt
    names (events.Oldest by oldest) legal upto = tt
    names (events.Ask by id) legal upto = tt

all_below : (base : Counters) (n : ℕ) (h : List Event) → IsLegal base h → next_given base.next h ≤ n → AreBelow n h
all_below base n = by_end (λ h. IsLegal base h → next_given base.next h ≤ n → AreBelow n h)
    (λ legal upto. tt)
    (λ h e before legal upto. all_push (NamesBelow n) h e (before (legal_front base h e legal) (let r = next_rises base h e in omega arith)) (names_below base h e n legal upto))

given_ascending : (base : Counters) (h : List Event) → IsLegal base h → Ascending (given h)
given_ascending base = by_end (λ h. IsLegal base h → Ascending (given h))
    (λ legal. tt)
    (λ h e before legal.
    let front = legal_front base h e legal in
    let step : (o : Option ℕ) → given_by e ≡ o → Ascending (given (h ++ e ∷ [])) = elim [
      | None ↦ λ g. subst Ascending (sym (given_none h e (ap (λ o. cons_option o []) g))) (before front)
      | Some y ↦ λ g.
          let q = may_give base h e y (legal_last base h e legal) g in
          subst Ascending (sym (given_push h e ∙ ap (λ o. given h ++ cons_option o []) g))
          (ascending_push (given h) y (before front) (all_from (λ x. x < y) (given h) (λ x k. let l = given_below base h front x k in omega arith)))
    ] in
    step (given_by e) refl)

-- the family of an id that was given, or the id alone
line_cases : (base : Counters) (h : List Event) (x : ℕ) → IsLegal base h → (lineage h x ≡ x ∷ []) ⊎ Family h x
line_cases base h x legal =
    ⊎_elim
    (λ t. inr (family base h legal x (true_has (given h) x t)))
    (λ f. inl (lineage_fresh base h legal x (λ k. not_both (has (given h) x) (has_true (given h) x k) f)))
    (cases_Bool (has (given h) x))

-- every legal history is sound
pub legal_sound : (base : Counters) (h : List Event) → IsLegal base h → IsSound base.next h
legal_sound base h legal =
    record {
      below = all_below base (next_given base.next h) h legal (omega arith);
      one_owner = λ x s r a b. one_session base h legal s r x (true_has (given_to s h) x a) (true_has (given_to r h) x b);
      inside = λ x id i.
          let k = true_has (enclosing h x) id i in
          ⊎_elim (λ (e : lineage h x ≡ x ∷ []). absurd (subst (λ (l : List ℕ). Has (enclosing_line l) id) e k)) (λ (f : Family h x). sym (f.tops id (enclosing_in h x id k))) (line_cases base h x legal);
      alone = λ x t.
          ap enclosing_line (⊎_elim (λ (e : lineage h x ≡ x ∷ []). e) (λ (f : Family h x). subst (λ y. lineage h y ≡ y ∷ []) (eqb-true (top h x) x t) f.root) (line_cases base h x legal));
      ascending = given_ascending base h legal;
      roots = λ x t.
          let f = family base h legal x (true_has (given h) x t) in
          record { root_given = has_true (given h) (top h x) (f.within (top h x) (top_in h x)); root_top = top_of_top h x f; root_to = f.below (top h x) (top_in h x) };
    }

pub has_given_to : (s : ℕ) (h : List Event) (x : ℕ) → has (given_to s h) x ≡ true → has (given h) x ≡ true
has_given_to s h x f = has_true (given h) x (given_to_given s h x (true_has (given_to s h) x f))

pub open_member : (s : ℕ) (h : List Event) (x : ℕ) → has (open_ids s h) x ≡ true → (has (given_to s h) x ≡ true) × (is_open h x ≡ true)
open_member s h x f = and_parts (has (given_to s h) x) (is_open h x) (sym (has-filter (is_open h) (given_to s h) x) ∙ f)

pub session_runs : (s : ℕ) (h : List Event) (x : ℕ) → Contains (open_ids s h) x → has (running h) x ≡ true
session_runs s h x c =
    let m = open_member s h x (contains_true (open_ids s h) x c) in
    has-filter (is_open h) (given h) x ∙ ap (λ b. b && is_open h x) (has_given_to s h x m.0) ∙ m.1

-- the top of a running id runs too
pub root_runs : (first : ℕ) (h : List Event) (x : ℕ) → IsSound first h → has (running h) x ≡ true → (has (running_tops h) (top h x) ≡ true) × (top h x ≤ x)
root_runs first h x s f =
    let m = and_parts (has (given h) x) (is_open h x) (sym (has-filter (is_open h) (given h) x) ∙ f) in
    let r : HasRoot h x = s.roots x m.0 in
    let is_one : is_top h (top h x) ≡ true = ap (λ t. t == top h x) r.root_top ∙ eqb-refl (top h x) in
    let still : is_open h (top h x) ≡ true = open_root h x r.root_top (s.alone (top h x) is_one) m.1 in
    let runs : has (running h) (top h x) ≡ true = has-filter (is_open h) (given h) (top h x) ∙ ap (λ b. b && is_open h (top h x)) r.root_given ∙ still in
    (has-filter (is_top h) (running h) (top h x) ∙ ap (λ b. b && is_top h (top h x)) runs ∙ is_one, r.root_to)
