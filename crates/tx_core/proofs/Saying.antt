-- What a snapshot says of an id is whether it runs at the snapshot's place.
use Rattle.tx_events.proofs.ListSteps.{le_or_over}
use Rattle.std.proofs.Common.{Bool, List, [], ap, arith, cond, false, not, subst, sym, true, ℕ, ⊎_elim, ◌&&◌, ◌<◌, ◌==◌, ◌||◌, ◌∙◌, ◌≡◌, ◌≤◌, ◌⊎◌, le-ltb, lt-ltb}
use Rattle.std.proofs.lemmas.Bool.{or_from, cases_Bool, false_from_ne_true, or_right, cases_lt}
use Rattle.std.specs.List.{filter, list_any}
use Rattle.std.specs.Prelude.{nat_lt}
use Rattle.tx_events.specs.declared.event.Event.{Event}
use Rattle.tx_events.specs.declared.record.Counters.{Counters}
use Rattle.tx_events.proofs.Closing.{is_open_by, open_is}
use Rattle.tx_events.proofs.Extremes.{fold_min_has}
use Rattle.tx_events.proofs.Membership.{Has, filter_has, has_filter}
use Rattle.tx_events.proofs.Lineages.{top_in, top_line}
use Rattle.tx_events.proofs.SnapshotBounds.{top_runs}
use Rattle.tx_events.proofs.Trees.{family}
use Rattle.tx_events.proofs.Visibility.{among_has, has_among}
use Rattle.tx_events.specs.Events.{given, is_end_of}
use Rattle.tx_events.specs.Families.{is_top, top}
use Rattle.tx_events.specs.History.{IsLegal}
use Rattle.tx_events.specs.Running.{is_ended, is_open, is_undone, running, running_tops}
use Rattle.tx_events.specs.Snapshots.{is_overflowed, snapshot_data, snapshot_subs, snapshot_xips, snapshot_xmax, snapshot_xmin}
use Rattle.tx_core.specs.Verdict.{is_among, says_ended}

-- where the data hold all ids, they say that an id has ended exactly where it isn't open
pub says_exact : (base : Counters) (h : List Event) (x : ℕ) → IsLegal base h → is_overflowed base.next h ≡ false → Has (given h) x → x < snapshot_xmax base.next h → (topmost : ℕ) → says_ended (snapshot_data base.next h) topmost x ≡ not (is_open h x)
says_exact base h x legal whole k below topmost =
    let f = family base h legal x k in
    let first = base.next in
    let low : top h x ≤ x = f.below (top h x) (top_in h x) in
    ⊎_elim
    (λ (over : snapshot_xmin first h ≤ x).
    let lists : says_ended (snapshot_data first h) topmost x ≡ not (is_among x (snapshot_xips first h) || is_among x (snapshot_subs first h))
    = ap (λ b. cond b true (cond (is_overflowed first h) (cond (nat_lt topmost (snapshot_xmin first h)) true (not (is_among topmost (snapshot_xips first h)))) (not (is_among x (snapshot_xips first h) || is_among x (snapshot_subs first h))))) (le-ltb x (snapshot_xmin first h) over)
    ∙ ap (λ b. cond b (cond (nat_lt topmost (snapshot_xmin first h)) true (not (is_among topmost (snapshot_xips first h)))) (not (is_among x (snapshot_xips first h) || is_among x (snapshot_subs first h)))) whole in
    let subs_are : snapshot_subs first h ≡ filter (λ y. not (is_top h y) && list_any (λ t. t == top h y) (snapshot_xips first h)) (running h) = ap (λ b. cond b [] (filter (λ y. not (is_top h y) && list_any (λ t. t == top h y) (snapshot_xips first h)) (running h))) whole in
    lists ∙ ap not (⊎_elim
    (λ (o : is_open h x ≡ true).
    let runs : Has (running h) x = filter_has (is_open h) (given h) x k o in
    ⊎_elim
    (λ (t : is_top h x ≡ true).
    let tops : Has (running_tops h) x = filter_has (is_top h) (running h) x runs t in
    ap (λ b. b || is_among x (snapshot_subs first h)) (has_among x (snapshot_xips first h) (filter_has (λ y. nat_lt y (snapshot_xmax first h)) (running_tops h) x tops (lt-ltb x (snapshot_xmax first h) below))) ∙ sym o)
    (λ (t : is_top h x ≡ false).
    let top_in_xips : Has (snapshot_xips first h) (top h x) = filter_has (λ y. nat_lt y (snapshot_xmax first h)) (running_tops h) (top h x) (top_runs h x f o) (lt-ltb (top h x) (snapshot_xmax first h) (omega arith)) in
    let passes : (not (is_top h x) && list_any (λ t. t == top h x) (snapshot_xips first h)) ≡ true = ap (λ b. not b && list_any (λ t. t == top h x) (snapshot_xips first h)) t ∙ has_among (top h x) (snapshot_xips first h) top_in_xips in
    let in_subs : Has (snapshot_subs first h) x = subst (λ l. Has l x) (sym subs_are) (filter_has (λ y. not (is_top h y) && list_any (λ t. t == top h y) (snapshot_xips first h)) (running h) x runs passes) in
    or_right (is_among x (snapshot_xips first h)) (is_among x (snapshot_subs first h)) (has_among x (snapshot_subs first h) in_subs) ∙ sym o)
    (cases_Bool (is_top h x)))
    (λ (c : is_open h x ≡ false).
    let shut : is_open h x ≡ true → ⊥ = λ o. let z : true ≡ false = sym o ∙ c in cc in
    or_from (is_among x (snapshot_xips first h)) (is_among x (snapshot_subs first h))
    (false_from_ne_true (is_among x (snapshot_xips first h)) (λ e. shut (has_filter (is_open h) (given h) x (has_filter (is_top h) (running h) x (has_filter (λ y. nat_lt y (snapshot_xmax first h)) (running_tops h) x (among_has x (snapshot_xips first h) e)).0).0).1))
    (false_from_ne_true (is_among x (snapshot_subs first h)) (λ e. shut (has_filter (is_open h) (given h) x (has_filter (λ y. not (is_top h y) && list_any (λ t. t == top h y) (snapshot_xips first h)) (running h) x (subst (λ l. Has l x) subs_are (among_has x (snapshot_subs first h) e))).0).1))
    ∙ sym c)
    (cases_Bool (is_open h x))))
    (λ (under : x < snapshot_xmin first h).
    ap (λ b. cond b true (cond (is_overflowed first h) (cond (nat_lt topmost (snapshot_xmin first h)) true (not (is_among topmost (snapshot_xips first h)))) (not (is_among x (snapshot_xips first h) || is_among x (snapshot_subs first h))))) (lt-ltb x (snapshot_xmin first h) under)
    ∙ sym (ap not (false_from_ne_true (is_open h x) (λ o. let a = fold_min_has (snapshot_xmax first h) (running_tops h) (top h x) (top_runs h x f o) in omega arith))))
    (le_or_over (snapshot_xmin first h) x)

-- where the data are overflowed, they say of an id that wasn't undone that it has ended exactly where it isn't open
pub says_over : (base : Counters) (h : List Event) (x topmost : ℕ) → IsLegal base h → is_overflowed base.next h ≡ true → Has (given h) x → x < snapshot_xmax base.next h → is_undone h x ≡ false
    → ((topmost < snapshot_xmin base.next h) × (top h x ≤ topmost)) ⊎ (topmost ≡ top h x) → says_ended (snapshot_data base.next h) topmost x ≡ not (is_open h x)
says_over base h x topmost legal over k below undone ends =
    let f = family base h legal x k in
    let first = base.next in
    let low : top h x ≤ x = f.below (top h x) (top_in h x) in
    let xips = snapshot_xips first h in let xmin = snapshot_xmin first h in
    let inner : Bool → Bool = λ b. cond b (cond (nat_lt topmost xmin) true (not (is_among topmost xips))) (not (is_among x xips || is_among x (snapshot_subs first h))) in
    let runs : is_open h x ≡ true → xmin ≤ top h x = λ o. fold_min_has (snapshot_xmax first h) (running_tops h) (top h x) (top_runs h x f o) in
    ⊎_elim
    (λ (late : xmin ≤ x).
    ap (λ b. cond b true (inner (is_overflowed first h))) (le-ltb x xmin late) ∙ ap inner over
    ∙ ⊎_elim
    (λ (early : topmost < xmin).
    let low_top : top h x ≤ topmost = ⊎_elim (λ e. e.1) (λ (q : topmost ≡ top h x). omega arith) ends in
    ap (λ b. cond b true (not (is_among topmost xips))) (lt-ltb topmost xmin early) ∙ sym (ap not (false_from_ne_true (is_open h x) (λ o. let a = runs o in omega arith))))
    (λ (past : xmin ≤ topmost).
    let is : topmost ≡ top h x = ⊎_elim (λ e. absurd (omega (arith, e.0))) (λ q. q) ends in
    ap (λ b. cond b true (not (is_among topmost xips))) (le-ltb topmost xmin past)
    ∙ ap not (ap (λ z. is_among z xips) is ∙ ⊎_elim
    (λ (o : is_open h x ≡ true). has_among (top h x) xips (filter_has (λ y. nat_lt y (snapshot_xmax first h)) (running_tops h) (top h x) (top_runs h x f o) (lt-ltb (top h x) (snapshot_xmax first h) (omega arith))) ∙ sym o)
    (λ (c : is_open h x ≡ false). false_from_ne_true (is_among (top h x) xips) (λ e.
    let o : is_open h (top h x) ≡ true = (has_filter (is_open h) (given h) (top h x) (has_filter (is_top h) (running h) (top h x) (has_filter (λ y. nat_lt y (snapshot_xmax first h)) (running_tops h) (top h x) (among_has (top h x) xips e)).0).0).1 in
    let root : top h (top h x) ≡ top h x = ap (λ (l : List ℕ). top_line l (top h x)) f.root in
    let ended : is_ended h x ≡ false = sym (ap (λ z. list_any (is_end_of z) h) root) ∙ (open_is h (top h x) o).0 in
    let z : true ≡ false = sym (is_open_by h x ended undone) ∙ c in cc) ∙ sym c)
    (cases_Bool (is_open h x))))
    (cases_lt topmost xmin))
    (λ (under : x < xmin).
    ap (λ b. cond b true (inner (is_overflowed first h))) (lt-ltb x xmin under)
    ∙ sym (ap not (false_from_ne_true (is_open h x) (λ o. let a = runs o in omega arith))))
    (le_or_over xmin x)
