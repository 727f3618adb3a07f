-- The parents of ids.
use Rattle.std.proofs.Common.{◌≡◌, ◌≢◌, ℕ, ◌<◌, ◌≤◌, ◌⊎◌, List, [], ◌∷◌, ◌++◌, Some, None, refl, sym, ap, subst, ◌∙◌, inl, inr, ⊎_elim, arith, Bool, true, false, ◌==◌, ◌||◌, reverse, ne_eqb, suc, length}
use Rattle.std.specs.List.{slice_get, list_any}
use Rattle.tx_events.specs.declared.event.By.{By}
use Rattle.tx_events.specs.declared.event.Event.{Event}
use Rattle.tx_events.specs.declared.event.Event.TheVariants as events
use Rattle.tx_events.specs.declared.record.Counters.{Counters}
use Rattle.tx_events.specs.Events.{given, given_to, is_end_of, is_undo_of}
use Rattle.tx_events.specs.Families.{lineage, top, is_top}
use Rattle.tx_events.specs.History.{IsLegal, MayCome}
use Rattle.tx_events.specs.Running.{is_open, is_undone, open_ids}
use Rattle.tx_events.specs.Savepoints.{is_inside}
use Rattle.tx_events.proofs.Closing.{is_open_by, open_is}
use Rattle.tx_events.proofs.GivenIds.{family_session, fresh, given_new, given_stays, legal_front, legal_last}
use Rattle.tx_events.proofs.Lineages.{enclosing_line, enclosing_of_sub, line_head, line_up_self, lineage_push, top_in, top_line, top_of_sub}
use Rattle.tx_events.proofs.ListSteps.{eqb-refl}
use Rattle.tx_events.proofs.Membership.{Has, by_end, filter_has, has_filter}
use Rattle.tx_events.proofs.Trees.{IsNewSub, IsNewTop, IsOld, family, given_cases}
use Rattle.history_check.specs.Opened.{parent_of}

pub record HasParent (h : List Event) (x : ℕ) : Type 0 where
  pub parent : ℕ
  pub is : parent_of h x ≡ Some parent
  pub given : Has (given h) parent
  pub line : lineage h x ≡ x ∷ lineage h parent

pub record HasNone (h : List Event) (x : ℕ) : Type 0 where
  pub is : parent_of h x ≡ None
  pub line : lineage h x ≡ x ∷ []

second : (h : List Event) (x p : ℕ) → slice_get (x ∷ lineage h p) 1 ≡ Some p
second h x p = ap (λ (l : List ℕ). slice_get (x ∷ l) 1) (line_head (reverse h) p).1

some_parent : (h : List Event) (x p : ℕ) → Has (given h) p → lineage h x ≡ x ∷ lineage h p → HasParent h x
some_parent h x p k l = record { parent = p; is = ap (λ (t : List ℕ). slice_get t 1) l ∙ second h x p; given = k; line = l }

no_parent : (h : List Event) (x : ℕ) → lineage h x ≡ x ∷ [] → HasNone h x
no_parent h x l = record { is = ap (λ (t : List ℕ). slice_get t 1) l; line = l }

pub parents : (base : Counters) (h : List Event) → IsLegal base h → (x : ℕ) → Has (given h) x → HasParent h x ⊎ HasNone h x
parents base = by_end (λ h. IsLegal base h → (x : ℕ) → Has (given h) x → HasParent h x ⊎ HasNone h x)
    (λ legal x k. absurd k)
    (λ h e before legal x k.
    let front = legal_front base h e legal in
    let may = legal_last base h e legal in
    let still : (p : ℕ) → Has (given h) p → lineage (h ++ e ∷ []) p ≡ lineage h p = λ p j. lineage_push h e p (λ g. fresh base h e p front may g j) in
    ⊎_elim
    (λ (o : IsOld h e x). ⊎_elim
    (λ (a : HasParent h x). inl (some_parent (h ++ e ∷ []) x a.parent (given_stays h e a.parent a.given) (o.line ∙ a.line ∙ ap (λ (t : List ℕ). x ∷ t) (sym (still a.parent a.given)))))
    (λ (a : HasNone h x). inr (no_parent (h ++ e ∷ []) x (o.line ∙ a.line)))
    (before front x o.given))
    (λ n. ⊎_elim
    (λ (a : IsNewTop h e x). inr (no_parent (h ++ e ∷ []) x a.line))
    (λ (a : IsNewSub h e x). inl (some_parent (h ++ e ∷ []) x a.parent (given_stays h e a.parent a.given) (a.line ∙ ap (λ (t : List ℕ). x ∷ t) (sym (still a.parent a.given)))))
    n)
    (given_cases base h e x front may k))

-- an event leaves the parents of the ids that were given
pub parent_push : (base : Counters) (h : List Event) (e : Event) (x : ℕ) → IsLegal base h → MayCome base h e → Has (given h) x → parent_of (h ++ e ∷ []) x ≡ parent_of h x
parent_push base h e x legal may k = ap (λ (l : List ℕ). slice_get l 1) (lineage_push h e x (λ g. fresh base h e x legal may g k))

pub top_parent : (base : Counters) (h : List Event) (by : By) (x : ℕ) → IsLegal base h → MayCome base h (events.Id by x) → None ≡ parent_of (h ++ events.Id by x ∷ []) x
top_parent base h by x legal may =
    ⊎_elim
    (λ (o : IsOld h (events.Id by x) x). absurd (fresh base h (events.Id by x) x legal may refl o.given))
    (λ n. ⊎_elim
    (λ (a : IsNewTop h (events.Id by x) x). sym (ap (λ (t : List ℕ). slice_get t 1) a.line))
    (λ (a : IsNewSub h (events.Id by x) x). let z = a.is in absurd cc)
    n)
    (given_cases base h (events.Id by x) x legal may (given_new h (events.Id by x) x refl))

pub sub_parent : (base : Counters) (h : List Event) (by : By) (parent x : ℕ) → IsLegal base h → MayCome base h (events.Sub by parent x) → Some parent ≡ parent_of (h ++ events.Sub by parent x ∷ []) x
sub_parent base h by parent x legal may =
    ⊎_elim
    (λ (o : IsOld h (events.Sub by parent x) x). absurd (fresh base h (events.Sub by parent x) x legal may refl o.given))
    (λ n. ⊎_elim
    (λ (a : IsNewTop h (events.Sub by parent x) x). let z = a.is in absurd cc)
    (λ (a : IsNewSub h (events.Sub by parent x) x).
    let z = a.is in
    let same : a.parent ≡ parent = cc in
    sym (ap (λ (t : List ℕ). slice_get t 1) a.line ∙ second h x a.parent ∙ ap Some same))
    n)
    (given_cases base h (events.Sub by parent x) x legal may (given_new h (events.Sub by parent x) x refl))

-- ---- inside of a savepoint

pub inside_above : (h : List Event) (id x : ℕ) (a : HasParent h x) → is_inside h id x ≡ ((id == x) || is_inside h id a.parent)
inside_above h id x a = ap (list_any (λ y. id == y)) (ap enclosing_line a.line ∙ enclosing_of_sub h a.parent x)

pub inside_none : (h : List Event) (id x : ℕ) → HasNone h x → is_inside h id x ≡ false
inside_none h id x a = ap (list_any (λ y. id == y)) (ap enclosing_line a.line)

-- ---- a parent is below its id, and open where that is

shorter : (h : List Event) (x p : ℕ) → lineage h x ≡ x ∷ lineage h p → p ≡ x → ⊥
shorter h x p l e =
    let n : length (lineage h x) ≡ suc (length (lineage h p)) = ap length l in
    let m : length (lineage h p) ≡ length (lineage h x) = ap (λ y. length (lineage h y)) e in
    omega arith

in_line : (h : List Event) (x : ℕ) (a : HasParent h x) → Has (lineage h x) a.parent
in_line h x a = subst (λ t. Has t a.parent) (sym a.line) (inr (line_up_self (reverse h) a.parent))

pub parent_below : (base : Counters) (h : List Event) (x : ℕ) (a : HasParent h x) → IsLegal base h → Has (given h) x → a.parent < x
parent_below base h x a legal k =
    let below : a.parent ≤ x = (family base h legal x k).below a.parent (in_line h x a) in
    let other : a.parent ≢ x = shorter h x a.parent a.line in
    omega arith

top_above : (h : List Event) (x : ℕ) (a : HasParent h x) → top h x ≡ top h a.parent
top_above h x a = ap (λ (l : List ℕ). top_line l x) a.line ∙ top_of_sub h a.parent x

undone_above : (h : List Event) (x : ℕ) (a : HasParent h x) → is_undone h x ≡ (list_any (is_undo_of x) h || is_undone h a.parent)
undone_above h x a = ap (list_any (λ y. list_any (is_undo_of y) h)) (ap enclosing_line a.line ∙ enclosing_of_sub h a.parent x)

or_second : (a b : Bool) → (a || b) ≡ false → b ≡ false
or_second true b e = absurd cc
or_second false b e = e

pub parent_open : (base : Counters) (h : List Event) (s x : ℕ) (a : HasParent h x) → IsLegal base h → Has (open_ids s h) x → Has (open_ids s h) a.parent
parent_open base h s x a legal k =
    let mine = has_filter (is_open h) (given_to s h) x k in
    let o = open_is h x mine.1 in
    filter_has (is_open h) (given_to s h) a.parent (family_session base h legal s x a.parent mine.0 (in_line h x a))
    (is_open_by h a.parent
    (ap (λ t. list_any (is_end_of t) h) (sym (top_above h x a)) ∙ o.0)
    (or_second (list_any (is_undo_of x) h) (is_undone h a.parent) (sym (undone_above h x a) ∙ o.1)))

-- ---- an id is a top where it has no parent

pub is_top_of_none : (h : List Event) (x : ℕ) → HasNone h x → is_top h x ≡ true
is_top_of_none h x a = ap (λ (l : List ℕ). top_line l x == x) a.line ∙ eqb-refl x

pub is_no_top : (base : Counters) (h : List Event) (x : ℕ) (a : HasParent h x) → IsLegal base h → Has (given h) x → is_top h x ≡ false
is_no_top base h x a legal k =
    ne_eqb (top h x) x (λ e.
    let low : top h a.parent ≤ a.parent = (family base h legal a.parent a.given).below (top h a.parent) (top_in h a.parent) in
    let under = parent_below base h x a legal k in
    let same : top h a.parent ≡ x = sym (top_above h x a) ∙ e in
    omega arith)
