-- Visibility after a history, and where the ids of a snapshot begin.
use Rattle.std.proofs.Common.{Bool, Contains, List, Some, ap, arith, eq-eqb, false, ne_eqb, not, refl, subst, sym, true, ℕ, ⊎_elim, ◌&&◌, ◌==◌, ◌||◌, ◌∙◌, ◌≡◌, ◌≤◌}
use Rattle.std.proofs.Math.Bool.{or-false}
use Rattle.std.proofs.lemmas.Bool.{eqb-true, false_from_ne_true, and_parts}
use Rattle.std.specs.List.{list_any, slice_get}
use Rattle.tx_events.specs.Ids.{IsFullId, id_before, next_id}
use Rattle.tx_events.specs.declared.event.By.{By}
use Rattle.tx_events.specs.declared.event.Event.{Event}
use Rattle.tx_events.specs.declared.record.Counters.{Counters}
use Rattle.tx_events.proofs.Closing.{commit_ends, open_is}
use Rattle.tx_events.proofs.ListSteps.{not_both}
use Rattle.tx_events.proofs.GivenIds.{commit_given, lineage_fresh}
use Rattle.tx_events.proofs.IdOrder.{next_above, next_of_before}
use Rattle.tx_events.proofs.Extremes.{fold_max_one, fold_min_above}
use Rattle.tx_events.proofs.Membership.{Has, any_has, has_any, has_contains, has_filter, has_place, place_has}
use Rattle.tx_events.proofs.SnapshotBounds.{given_from}
use Rattle.tx_events.proofs.Lineages.{top_line}
use Rattle.tx_events.specs.Events.{given, is_commit_of}
use Rattle.tx_events.specs.Families.{is_top, top}
use Rattle.tx_events.specs.History.{IsLegal}
use Rattle.tx_events.specs.Running.{closed, is_ended, is_open, is_undone, running, running_tops}
use Rattle.tx_events.specs.Snapshots.{latest, snapshot_xmax, snapshot_xmin}
use Rattle.tx_events.specs.Visible.{is_visible}
use Rattle.tx_events.specs.declared.event.Event.TheVariants as events

pub among_has : (x : ℕ) (ids : List ℕ) → list_any (λ y. y == x) ids ≡ true → Has ids x
among_has x ids e = let r = has_any (λ y. y == x) ids e in subst (λ z. Has ids z) (eqb-true r.0 x r.2) r.1

pub has_among : (x : ℕ) (ids : List ℕ) → Has ids x → list_any (λ y. y == x) ids ≡ true
has_among x ids k = any_has (λ y. y == x) ids x k (eq-eqb x x refl)

-- a commit of x, found by its test
commit_is : (e : Event) (x : ℕ) → is_commit_of x e ≡ true → (by : By) × (e ≡ events.Commit by x)
commit_is (events.Commit by t) x q = (by, ap (events.Commit by) (eqb-true t x q))
commit_is e x q = absurd cc

pub record HasCommit (h : List Event) (t : ℕ) : Type 0 where
  pub by : By
  pub place : ℕ
  pub at : slice_get h place ≡ Some (events.Commit by t)

pub commit_found : (h : List Event) (t : ℕ) → list_any (is_commit_of t) h ≡ true → HasCommit h t
commit_found h t e =
    let r = has_any (is_commit_of t) h e in let c = commit_is r.0 t r.2 in
    let p = has_place h (events.Commit c.0 t) (subst (λ z. Has h z) c.1 r.1) in
    record { by = c.0; place = p.0; at = p.1 }

-- visibility of an id of this life
abbrev pub lives : List Event → ℕ → Bool
lives g x = list_any (is_commit_of (top g x)) g && not (is_undone g x)

pub visible_new : (committed : List ℕ) (g : List Event) (x : ℕ) → 3 ≤ x → (Contains committed x → ⊥) → is_visible committed g x ≡ lives g x
visible_new committed g x big none =
    let one : (x == 1) ≡ false = ne_eqb x 1 (λ q. absurd (omega arith)) in let two : (x == 2) ≡ false = ne_eqb x 2 (λ q. absurd (omega arith)) in
    let old : list_any (λ y. y == x) committed ≡ false = false_from_ne_true (list_any (λ y. y == x) committed) (λ e. none (has_contains _ _ (among_has x committed e))) in
    ap (λ b. b || (x == 2) || list_any (λ y. y == x) committed || lives g x) one
    ∙ ap (λ b. b || list_any (λ y. y == x) committed || lives g x) two
    ∙ ap (λ b. b || lives g x) old

pub visible_old : (committed : List ℕ) (g : List Event) (x : ℕ) → 3 ≤ x → lives g x ≡ false → is_visible committed g x ≡ list_any (λ y. y == x) committed
visible_old committed g x big none =
    let one : (x == 1) ≡ false = ne_eqb x 1 (λ q. absurd (omega arith)) in let two : (x == 2) ≡ false = ne_eqb x 2 (λ q. absurd (omega arith)) in
    ap (λ b. b || (x == 2) || list_any (λ y. y == x) committed || lives g x) one
    ∙ ap (λ b. b || list_any (λ y. y == x) committed || lives g x) two
    ∙ ap (λ b. list_any (λ y. y == x) committed || b) none ∙ or-false (list_any (λ y. y == x) committed)

-- an id that wasn't given has no commit
pub never_given : (base : Counters) (g : List Event) (x : ℕ) → IsLegal base g → (Has (given g) x → ⊥) → lives g x ≡ false
never_given base g x legal n =
    false_from_ne_true (lives g x) (λ e.
    let c = (and_parts (list_any (is_commit_of (top g x)) g) (not (is_undone g x)) e).0 in
    let own : top g x ≡ x = ap (λ (l : List ℕ). top_line l x) (lineage_fresh base g legal x n) in
    let f = commit_found g x (ap (λ z. list_any (is_commit_of z) g) (sym own) ∙ c) in
    n (commit_given base g legal f.by x (place_has g f.place (events.Commit f.by x) f.at)))

-- an open id isn't visible
pub open_hidden : (g : List Event) (x : ℕ) → is_open g x ≡ true → lives g x ≡ false
open_hidden g x o = false_from_ne_true (lives g x) (λ e.
    let c = (and_parts (list_any (is_commit_of (top g x)) g) (not (is_undone g x)) e).0 in
    let f = commit_found g (top g x) c in
    not_both (is_ended g x) (commit_ends g f.by (top g x) x (place_has g f.place (events.Commit f.by (top g x)) f.at) refl) (open_is g x o).0)

-- no snapshot's xmin is below the first id
pub xmin_from : (base : Counters) (g : List Event) → IsLegal base g → IsFullId base.next → base.next ≤ snapshot_xmin base.next g
xmin_from base g legal full =
    let xmax : base.next ≤ snapshot_xmax base.next g = ⊎_elim
    (λ (q : latest base.next g ≡ id_before base.next). let a = next_of_before base.next full in subst (λ z. base.next ≤ next_id z) (sym q) a)
    (λ c. let a = given_from base g legal (latest base.next g) (has_filter (λ y. not (is_open g y)) (given g) (latest base.next g) c).0 in let b = next_above (latest base.next g) in omega arith)
    (fold_max_one (id_before base.next) (closed g)) in
    fold_min_above (snapshot_xmax base.next g) base.next (running_tops g) xmax (λ y k. given_from base g legal y (has_filter (is_open g) (given g) y (has_filter (is_top g) (running g) y k).0).0)
