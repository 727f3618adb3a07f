-- What a snapshot says of an id is so.
use Rattle.std.proofs.Math.Bool.{and-true}
use Rattle.tx_events.proofs.Extremes.{fold_min_has, fold_min_start}
use Rattle.tx_events.specs.Says.{says_of, IsSaid, SaysRight}
use Rattle.tx_events.specs.Sights.{IsTopSightRight, top_sight_by}
use Rattle.tx_events.specs.declared.said.Says.{Says}
use Rattle.std.proofs.Common.{◌≡◌, ℕ, ◌<◌, ◌≤◌, List, [], refl, ap, sym, ◌∙◌, arith, Bool, true, false, not, ◌&&◌, ◌==◌, ◌||◌, cond, subst, inl, inr, nat_lt, lt-ltb, ltb-true, ltb-false}
use Rattle.std.proofs.lemmas.Bool.{false≢true}
use Rattle.std.specs.List.{filter, list_any}
use Rattle.tx_events.proofs.ListSteps.{equal_swap}
use Rattle.tx_events.proofs.IdListSteps.{ascending_filtered, has-filter, true_has}
use Rattle.tx_events.proofs.Soundness.{root_runs, legal_sound, IsSound}
use Rattle.tx_events.proofs.Membership.{list_any_agree_on}
use Rattle.tx_events.specs.Events.{given}
use Rattle.tx_events.specs.Families.{top, is_top}
use Rattle.tx_events.specs.History.{IsLegal}
use Rattle.tx_events.specs.IdLists.{has, Ascending}
use Rattle.tx_events.specs.Running.{is_open, running, running_tops}
use Rattle.tx_events.specs.Snapshots.{snapshot_xmax, snapshot_xips, snapshot_subs, is_overflowed, snapshot_data, snapshot_xmin}
use Rattle.tx_events.specs.declared.event.Event.{Event}
use Rattle.tx_events.specs.declared.record.Counters.{Counters}
use Rattle.tx_events.specs.declared.snapshot.SnapData.{SnapData}
use Rattle.tx_events.specs.declared.said.Says.TheVariants as says

-- below the limit, the lists hold what is running
lists_hold : (first : ℕ) (h : List Event) (x : ℕ) → IsSound first h → is_overflowed first h ≡ false → x < snapshot_xmax first h →
    (has (snapshot_xips first h) x || has (snapshot_subs first h) x) ≡ has (running h) x
lists_hold first h x s o l =
    ap (λ b. has (snapshot_xips first h) x || b) (ap (λ b. has (cond b [] (filter (λ y. not (is_top h y) && list_any (λ t. t == top h y) (snapshot_xips first h)) (running h))) x) o
    ∙ has-filter (λ y. not (is_top h y) && list_any (λ t. t == top h y) (snapshot_xips first h)) (running h) x)
    ∙ ap (λ b. b || (has (running h) x && (not (is_top h x) && list_any (λ t. t == top h x) (snapshot_xips first h))))
    (has-filter (λ y. nat_lt y (snapshot_xmax first h)) (running_tops h) x ∙ ap (λ b. has (running_tops h) x && b) (lt-ltb x (snapshot_xmax first h) l) ∙ ap (λ b. b && true) (has-filter (is_top h) (running h) x))
    ∙ split (has (running h) x) refl (is_top h x)
  where
    low : (a b c : ℕ) → a ≤ b → b < c → a < c
    low a b c f g = omega arith

    root_in : has (running h) x ≡ true → list_any (λ t. t == top h x) (snapshot_xips first h) ≡ true
    root_in f =
        let r = root_runs first h x s f in
        list_any_agree_on (λ t. t == top h x) (λ t. top h x == t) (snapshot_xips first h) (λ t _. equal_swap t (top h x))
        ∙ has-filter (λ y. nat_lt y (snapshot_xmax first h)) (running_tops h) (top h x)
        ∙ ap (λ b. b && nat_lt (top h x) (snapshot_xmax first h)) r.0
        ∙ lt-ltb (top h x) (snapshot_xmax first h) (low (top h x) x (snapshot_xmax first h) r.1 l)

    split : (b : Bool) → has (running h) x ≡ b → (c : Bool) → (((b && c) && true) || (b && (not c && list_any (λ t. t == top h x) (snapshot_xips first h)))) ≡ b
    split true f true = refl
    split true f false = root_in f
    split false f true = refl
    split false f false = refl

-- what is below all running tops isn't running
below_ended : (first : ℕ) (h : List Event) (x : ℕ) → IsSound first h → x < snapshot_xmin first h → has (running h) x ≡ false
below_ended first h x s l = split (has (running h) x) refl
  where
    split : (b : Bool) → has (running h) x ≡ b → b ≡ false
    split false f = refl
    split true f =
        let r = root_runs first h x s f in
        let k : snapshot_xmin first h ≤ top h x = fold_min_has (snapshot_xmax first h) (running_tops h) (top h x) (true_has (running_tops h) (top h x) r.0) in
        let u : top h x ≤ x = r.1 in
        absurd (omega arith)

of_data : (first : ℕ) (h : List Event) (x : ℕ) → IsSound first h → IsSaid first h x (says_of (snapshot_data first h) x)
of_data first h x s = low (nat_lt x (snapshot_xmin first h)) refl
  where
    ends : snapshot_xmin first h ≤ snapshot_xmax first h
    ends = fold_min_start (snapshot_xmax first h) (running_tops h)

    listed : (b : Bool) → (has (snapshot_xips first h) x || has (snapshot_subs first h) x) ≡ b → is_overflowed first h ≡ false → x < snapshot_xmax first h → IsSaid first h x (cond b says.Running says.Ended)
    listed true e o l = (λ a. false≢true (sym o ∙ a.0), inl (sym (lists_hold first h x s o l) ∙ e))
    listed false e o l = (λ a. false≢true (sym o ∙ a.0), sym (lists_hold first h x s o l) ∙ e, l)

    over : (b : Bool) → is_overflowed first h ≡ b → snapshot_xmin first h ≤ x → x < snapshot_xmax first h → IsSaid first h x (cond b says.AskParents (cond (has (snapshot_xips first h) x || has (snapshot_subs first h) x) says.Running says.Ended))
    over true o m l = (o, m, l)
    over false o m l = listed (has (snapshot_xips first h) x || has (snapshot_subs first h) x) refl o l

    high : (b : Bool) → nat_lt x (snapshot_xmax first h) ≡ b → snapshot_xmin first h ≤ x → IsSaid first h x (cond b (cond (is_overflowed first h) says.AskParents (cond (has (snapshot_xips first h) x || has (snapshot_subs first h) x) says.Running says.Ended)) says.Running)
    high true e m = over (is_overflowed first h) refl m (ltb-true x (snapshot_xmax first h) e)
    high false e m = let k : snapshot_xmax first h ≤ x = ltb-false x (snapshot_xmax first h) e in ((λ a. let l : x < snapshot_xmax first h = a.2 in omega arith), inr k)

    low : (b : Bool) → nat_lt x (snapshot_xmin first h) ≡ b → IsSaid first h x (cond b says.Ended (cond (nat_lt x (snapshot_xmax first h)) (cond (is_overflowed first h) says.AskParents (cond (has (snapshot_xips first h) x || has (snapshot_subs first h) x) says.Running says.Ended)) says.Running))
    low true e =
        let k : x < snapshot_xmin first h = ltb-true x (snapshot_xmin first h) e in
        let u : snapshot_xmin first h ≤ snapshot_xmax first h = ends in
        ((λ a. let l : snapshot_xmin first h ≤ x = a.1 in omega arith), below_ended first h x s k, omega arith)
    low false e = high (nat_lt x (snapshot_xmax first h)) refl (ltb-false x (snapshot_xmin first h) e)

-- of a top below the limit: whether it has ended
top_exact : (first : ℕ) (h : List Event) (t : ℕ) → IsSound first h → is_top h t ≡ true → t < snapshot_xmax first h → top_sight_by (snapshot_data first h) t ≡ not (has (running h) t)
top_exact first h t s is_one l = low (nat_lt t (snapshot_xmin first h)) refl
  where
    holds : has (snapshot_xips first h) t ≡ has (running h) t
    holds =
        has-filter (λ y. nat_lt y (snapshot_xmax first h)) (running_tops h) t ∙ ap (λ b. has (running_tops h) t && b) (lt-ltb t (snapshot_xmax first h) l) ∙ and-true (has (running_tops h) t)
        ∙ has-filter (is_top h) (running h) t ∙ ap (λ b. has (running h) t && b) is_one ∙ and-true (has (running h) t)

    low : (b : Bool) → nat_lt t (snapshot_xmin first h) ≡ b → (b || not (has (snapshot_xips first h) t)) ≡ not (has (running h) t)
    low true e = sym (ap not (below_ended first h t s (ltb-true t (snapshot_xmin first h) e)))
    low false e = ap not holds

-- what the snapshot lists ascends
pub xips_ascend : (base : Counters) (h : List Event) → IsLegal base h → Ascending (snapshot_xips base.next h)
xips_ascend base h l =
    ascending_filtered (λ x. nat_lt x (snapshot_xmax base.next h)) (running_tops h) (ascending_filtered (is_top h) (running h) (ascending_filtered (is_open h) (given h) (legal_sound base h l).ascending))

pub subs_ascend : (base : Counters) (h : List Event) → IsLegal base h → Ascending (snapshot_subs base.next h)
subs_ascend base h l = one (is_overflowed base.next h)
  where
    one : (b : Bool) → Ascending (cond b [] (filter (λ x. not (is_top h x) && list_any (λ t. t == top h x) (snapshot_xips base.next h)) (running h)))
    one true = tt
    one false = ascending_filtered (λ x. not (is_top h x) && list_any (λ t. t == top h x) (snapshot_xips base.next h)) (running h) (ascending_filtered (is_open h) (given h) (legal_sound base h l).ascending)

pub says_right : (d : SnapData) (x : ℕ) (r : Says) → (Ascending d.xip → Ascending d.subxip → r ≡ says_of d x) → SaysRight d x r
says_right d x r f base h l e =
    let steps : r ≡ says_of d x = f (subst (λ (d : SnapData). Ascending d.xip) (sym e) (xips_ascend base h l)) (subst (λ (d : SnapData). Ascending d.subxip) (sym e) (subs_ascend base h l)) in
    subst (IsSaid base.next h x) (sym (steps ∙ ap (λ d. says_of d x) e)) (of_data base.next h x (legal_sound base h l))

pub top_sight_right : (d : SnapData) (t : ℕ) (r : Bool) → (Ascending d.xip → r ≡ top_sight_by d t) → IsTopSightRight d t r
top_sight_right d t r f base h l e o below =
    let steps : r ≡ top_sight_by d t = f (subst (λ (d : SnapData). Ascending d.xip) (sym e) (xips_ascend base h l)) in
    steps ∙ ap (λ d. top_sight_by d t) e ∙ top_exact base.next h t (legal_sound base h l) o below
