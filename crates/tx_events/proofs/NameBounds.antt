-- Which ids events name, and the families of the ids that they don't.
use Rattle.std.proofs.Common.{◌≡◌, ◌⊎◌, ℕ, ◌<◌, List, [], ◌∷◌, reverse, eqb-true, Bool, true, false, ◌==◌, cond, refl, sym, ap, subst, inl, inr, ⊎_elim, arith}
use Rattle.std.proofs.lemmas.Bool.{false_from_ne_true}
use Rattle.std.specs.List.{AllByRecursion, filter}
use Rattle.tx_events.proofs.IdListSteps.{true_has}
use Rattle.tx_events.proofs.Lineages.{enclosing_in, enclosing_line, line_up_self, top_in, top_line}
use Rattle.tx_events.proofs.ListSteps.{all_filter, all_reverse_aux}
use Rattle.tx_events.proofs.Membership.{Has, all_at}
use Rattle.tx_events.specs.Events.{given, given_to, is_of}
use Rattle.tx_events.specs.Families.{enclosing, line_up, lineage, top}
use Rattle.tx_events.specs.Running.{is_open, running}
use Rattle.tx_events.specs.Savepoints.{is_inside}
use Rattle.tx_events.specs.declared.event.Event.{Event}
use Rattle.tx_events.specs.declared.event.Event.TheVariants as events

-- every id that the event names is below n, and a parent is below its child
abbrev pub NamesBelow : ℕ → Event → Type 0
NamesBelow n (events.Id by id) = id < n
NamesBelow n (events.Sub by parent id) = (parent < id) × (id < n)
NamesBelow n (events.Undo by id) = id < n
NamesBelow n (events.Commit by top) = top < n
NamesBelow n (events.Abort by top) = top < n
NamesBelow n (events.Snap name by) = Unit {0}
NamesBelow n (events.SnapDrop name by) = Unit {0}
NamesBelow n (events.Oldest by oldest) = Unit {0}
NamesBelow n (events.Ask by id) = Unit {0}

abbrev pub AreBelow : ℕ → List Event → Type 0
AreBelow n h = AllByRecursion (NamesBelow n) h

pub given_below : (n : ℕ) (h : List Event) → AreBelow n h → AllByRecursion (λ x. x < n) (given h)
given_below n [] f = tt
given_below n (events.Id by id ∷ h) f = (f.0, given_below n h f.1)
given_below n (events.Sub by parent id ∷ h) f = (f.0.1, given_below n h f.1)
given_below n (e ∷ h) f = given_below n h f.1

pub running_below : (n : ℕ) (h : List Event) → AreBelow n h → AllByRecursion (λ x. x < n) (running h)
running_below n h f = all_filter (λ x. x < n) (is_open h) (given h) (given_below n h f)

pub given_to_below : (n s : ℕ) (h : List Event) → AreBelow n h → AllByRecursion (λ x. x < n) (given_to s h)
given_to_below n s h f = given_below n (filter (is_of s) h) (all_filter (NamesBelow n) (is_of s) h f)

-- an id has no family but itself, or all its family is below n
abbrev IsAloneOrBelow : ℕ → ℕ → List ℕ → Type 0
IsAloneOrBelow n x line = (line ≡ x ∷ []) ⊎ AllByRecursion (λ y. y < n) line

line_below : (n x : ℕ) (line : List ℕ) → x < n → IsAloneOrBelow n x line → AllByRecursion (λ y. y < n) line
line_below n x line l i = ⊎_elim (λ e. subst (AllByRecursion (λ y. y < n)) (sym e) (l, tt)) (λ a. a) i

line_up_sub : (n parent id x : ℕ) (older : List Event) → (parent < id) × (id < n) → IsAloneOrBelow n parent (line_up older parent) → IsAloneOrBelow n x (line_up older x) → IsAloneOrBelow n x (cond (id == x) (x ∷ line_up older parent) (line_up older x))
line_up_sub n parent id x older l p q = one (id == x) refl
  where
    one : (b : Bool) → (id == x) ≡ b → IsAloneOrBelow n x (cond b (x ∷ line_up older parent) (line_up older x))
    one true e = inr (subst (λ y. y < n) (eqb-true id x e) l.1, line_below n parent (line_up older parent) (omega (arith, l.0, l.1)) p)
    one false e = q

line_up_alone : (n : ℕ) (older : List Event) (x : ℕ) → AreBelow n older → IsAloneOrBelow n x (line_up older x)
line_up_alone n [] x f = inl refl
line_up_alone n (events.Sub by parent id ∷ older) x f = line_up_sub n parent id x older f.0 (line_up_alone n older parent f.1) (line_up_alone n older x f.1)
line_up_alone n (e ∷ older) x f = line_up_alone n older x f.1

lineage_alone : (n : ℕ) (h : List Event) (x : ℕ) → AreBelow n h → IsAloneOrBelow n x (lineage h x)
lineage_alone n h x f = line_up_alone n (reverse h) x (all_reverse_aux (NamesBelow n) h [] f tt)

pub top_below : (n : ℕ) (h : List Event) (x : ℕ) → AreBelow n h → x < n → top h x < n
top_below n h x f l = all_at (λ y. y < n) (lineage h x) (top h x) (line_below n x (lineage h x) l (lineage_alone n h x f)) (top_in h x)

-- an id that no event names has no family but itself
fresh_lineage : (n : ℕ) (h : List Event) → AreBelow n h → lineage h n ≡ n ∷ []
fresh_lineage n h f = ⊎_elim (λ e. e) (λ a. let l = all_at (λ y. y < n) (lineage h n) n a (line_up_self (reverse h) n) in absurd (omega arith)) (lineage_alone n h n f)

pub fresh_top : (n : ℕ) (h : List Event) → AreBelow n h → top h n ≡ n
fresh_top n h f = ap (λ (l : List ℕ). top_line l n) (fresh_lineage n h f)

pub fresh_enclosing : (n : ℕ) (h : List Event) → AreBelow n h → enclosing h n ≡ []
fresh_enclosing n h f = ap enclosing_line (fresh_lineage n h f)

-- and is no ancestor of anything
pub not_inside : (n x : ℕ) (h : List Event) → AreBelow n h → is_inside h n x ≡ false
not_inside n x h f = false_from_ne_true (is_inside h n x) (λ t.
    let k : Has (enclosing h x) n = true_has (enclosing h x) n t in
    ⊎_elim (λ (e : lineage h x ≡ x ∷ []). subst (λ (l : List ℕ). Has (enclosing_line l) n) e k) (λ a. let l = all_at (λ y. y < n) (lineage h x) n a (enclosing_in h x n k) in absurd (omega arith)) (lineage_alone n h x f))
