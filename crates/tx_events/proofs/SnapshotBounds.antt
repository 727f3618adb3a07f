-- The ids of a snapshot: its limits, and the tops that run at its place.
use Rattle.std.proofs.Common.{◌≡◌, ℕ, ◌<◌, ◌≤◌, not, List, length, Some, ap, ◌∙◌, ⊎_elim, arith, true, false, eq-eqb, []}
use Rattle.std.specs.List.{list_any}
use Rattle.std.proofs.lemmas.Bool.{cases_Bool, cases_lt}
use Rattle.tx_events.specs.Ids.{id_before, IsFullId}
use Rattle.tx_events.specs.declared.event.Event.{Event}
use Rattle.tx_events.specs.declared.record.Counters.{Counters}
use Rattle.tx_events.specs.Events.{given, given_by, is_end_of, is_undo_of}
use Rattle.tx_events.specs.Families.{top, is_top, enclosing}
use Rattle.tx_events.specs.Running.{is_open, running, running_tops, closed}
use Rattle.tx_events.specs.Snapshots.{latest, snapshot_xmax}
use Rattle.tx_events.specs.History.{IsLegal}
use Rattle.tx_events.proofs.Membership.{Has, has_filter, filter_has, by_end}
use Rattle.tx_events.proofs.GivenIds.{legal_front, legal_last, given_below, may_give, given_all, given_push_cases}
use Rattle.tx_events.proofs.IdOrder.{next_above, next_least, before_below, nth_from}
use Rattle.tx_events.proofs.Trees.{Family}
use Rattle.tx_events.proofs.Lineages.{top_line, enclosing_line, top_in}
use Rattle.tx_events.proofs.Closing.{open_is, is_open_by}
use Rattle.tx_events.proofs.Extremes.{fold_max_has, fold_max_one}

-- no id below the first is given
pub given_from : (base : Counters) (h : List Event) → IsLegal base h → (x : ℕ) → Has (given h) x → base.next ≤ x
given_from base = by_end (λ h. IsLegal base h → (x : ℕ) → Has (given h) x → base.next ≤ x)
    (λ legal x k. absurd k)
    (λ h e before legal x k.
    let front = legal_front base h e legal in let may = legal_last base h e legal in
    let new : given_by e ≡ Some x → base.next ≤ x = λ g. let a = may_give base h e x may g in let b = nth_from base.next (length (given h)) in omega arith in
    ⊎_elim (λ a. before front x a) new (given_push_cases h e x k))

-- the top of an open id is open
pub open_root : (h : List Event) (x : ℕ) → top h (top h x) ≡ top h x → enclosing h (top h x) ≡ [] → is_open h x ≡ true → is_open h (top h x) ≡ true
open_root h x root alone o =
    is_open_by h (top h x) (ap (λ z. list_any (is_end_of z) h) root ∙ (open_is h x o).0) (ap (list_any (λ y. list_any (is_undo_of y) h)) alone)

pub top_of_top : (h : List Event) (x : ℕ) → Family h x → top h (top h x) ≡ top h x
top_of_top h x f = ap (λ (l : List ℕ). top_line l (top h x)) f.root

pub open_top : (h : List Event) (x : ℕ) → Family h x → is_open h x ≡ true → is_open h (top h x) ≡ true
open_top h x f o = open_root h x (top_of_top h x f) (ap enclosing_line f.root) o

pub top_is_top : (h : List Event) (x : ℕ) → Family h x → is_top h (top h x) ≡ true
top_is_top h x f = eq-eqb (top h (top h x)) (top h x) (top_of_top h x f)

-- the top of an open id runs
pub top_runs : (h : List Event) (x : ℕ) → Family h x → is_open h x ≡ true → Has (running_tops h) (top h x)
top_runs h x f o =
    filter_has (is_top h) (running h) (top h x) (filter_has (is_open h) (given h) (top h x) (f.within (top h x) (top_in h x)) (open_top h x f o)) (top_is_top h x f)

-- an id at or past the xmax isn't closed
pub past_open : (base : Counters) (h : List Event) (x : ℕ) → Has (given h) x → snapshot_xmax base.next h ≤ x → is_open h x ≡ true
past_open base h x k past =
    ⊎_elim (λ o. o)
    (λ (c : is_open h x ≡ false).
    let shut : Has (closed h) x = filter_has (λ y. not (is_open h y)) (given h) x k (ap not c) in
    let a = fold_max_has (id_before base.next) (closed h) x shut in let b = next_above (latest base.next h) in absurd (omega arith))
    (cases_Bool (is_open h x))

-- a full id from the first to below the xmax was given
pub below_given : (base : Counters) (h : List Event) (x : ℕ) → IsLegal base h → 0 < base.next → IsFullId x → base.next ≤ x → x < snapshot_xmax base.next h → Has (given h) x
below_given base h x legal positive full from below =
    let upto : x ≤ latest base.next h = ⊎_elim (λ a. absurd (let z = next_least (latest base.next h) x full a in omega arith)) (λ a. a) (cases_lt (latest base.next h) x) in
    ⊎_elim
    (λ (q : latest base.next h ≡ id_before base.next). absurd (let b = before_below base.next positive in omega arith))
    (λ (c : Has (closed h) (latest base.next h)).
    let g = (has_filter (λ y. not (is_open h y)) (given h) (latest base.next h) c).0 in
    let a = given_below base h legal (latest base.next h) g in
    given_all base h legal x full from (omega arith))
    (fold_max_one (id_before base.next) (closed h))
