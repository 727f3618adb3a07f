-- The oldest xmin never falls.
use Rattle.std.proofs.Common.{List, Some, [], ap, append-nil, append_assoc, arith, drop, false, inl, inr, length, map, min, not, reverse, subst, sym, take, true, ℕ, ⊎_elim, ◌++◌, ◌<◌, ◌==◌, ◌∙◌, ◌∷◌, ◌≡◌, ◌≤◌, ◌⊎◌}
use Rattle.std.proofs.lemmas.List.{reverse-reverse, take-append-drop}
use Rattle.std.specs.List.{fold}
use Rattle.std.proofs.lemmas.Bool.{cases_Bool}
use Rattle.tx_events.specs.Ids.{IsFullId, id_before}
use Rattle.tx_events.specs.declared.event.Event.{Event}
use Rattle.tx_events.specs.declared.record.Counters.{Counters}
use Rattle.tx_events.proofs.Closing.{open_back}
use Rattle.tx_events.proofs.GivenIds.{given_below, legal_front, legal_last, may_give, given_stays}
use Rattle.tx_events.proofs.IdOrder.{before_below, next_least, nth_from, next_monotone, nth_full}
use Rattle.tx_events.proofs.Extremes.{fold_max_has, fold_max_one, fold_max_start, fold_min_above, fold_min_has, fold_min_start, fold_max_upto}
use Rattle.tx_events.proofs.Lineages.{reverse_push, top_line}
use Rattle.tx_events.proofs.Membership.{Has, by_end, filter_has, has_cases, has_filter, map_has, has_map}
use Rattle.tx_events.proofs.Trees.{IsNewSub, IsNewTop, IsOld, given_cases}
use Rattle.tx_events.specs.Events.{given, given_by}
use Rattle.tx_events.specs.Families.{is_top}
use Rattle.tx_events.specs.History.{IsLegal, next_given}
use Rattle.tx_events.specs.Horizon.{LiveSnap, is_snap_of, live_snaps, live_up, oldest_xmin}
use Rattle.tx_events.specs.Running.{closed, is_open, running, running_tops}
use Rattle.tx_events.specs.Snapshots.{latest, snapshot_xmax, snapshot_xmin}
use Rattle.tx_events.proofs.ListSteps.{not_both}
use Rattle.tx_events.specs.declared.event.Event.TheVariants as events

live_step : (first : ℕ) (older : List Event) (e : Event) (s : LiveSnap) → Has (live_up first (e ∷ older)) s → Has (live_up first older) s ⊎ (s.xmin ≡ snapshot_xmin first (reverse older))
live_step first older (events.Snap taken by) s k =
    ⊎_elim inl
    (λ h. ⊎_elim (λ (q : record { session = by.session; name = taken; xmin = snapshot_xmin first (reverse older) } ≡ s). inr (ap (λ (z : LiveSnap). z.xmin) (sym q))) (λ z. absurd z) h)
    (has_cases (live_up first older) (record { session = by.session; name = taken; xmin = snapshot_xmin first (reverse older) } ∷ []) s k)
live_step first older (events.SnapDrop dropped by) s k = inl (has_filter (λ s. not (is_snap_of by.session dropped s)) (live_up first older) s k).0
live_step first older _ s k = inl k

-- a snapshot that is live after one event more was live before, or is the new one
live_cases : (first : ℕ) (h : List Event) (e : Event) (s : LiveSnap) → Has (live_snaps first (h ++ e ∷ [])) s → Has (live_snaps first h) s ⊎ (s.xmin ≡ snapshot_xmin first h)
live_cases first h e s k =
    subst (λ (t : List Event). Has (live_snaps first h) s ⊎ (s.xmin ≡ snapshot_xmin first t)) (reverse-reverse h)
    (live_step first (reverse h) e s (subst (λ (t : List Event). Has (live_up first t) s) (reverse_push h e) k))

-- the greatest closed id never falls
latest_grows : (base : Counters) (h : List Event) (e : Event) → IsLegal base (h ++ e ∷ []) → latest base.next h ≤ latest base.next (h ++ e ∷ [])
latest_grows base h e legal =
    let all = h ++ e ∷ [] in
    fold_max_upto (id_before base.next) (latest base.next all) (closed h) (fold_max_start (id_before base.next) (closed all))
    (λ x k.
    let c = has_filter (λ y. not (is_open h y)) (given h) x k in
    let shut : is_open all x ≡ false = ⊎_elim (λ (o : is_open all x ≡ true). absurd (not_both (not (is_open h x)) c.1 (ap not (open_back base h e x legal c.0 o)))) (λ f. f) (cases_Bool (is_open all x)) in
    fold_max_has (id_before base.next) (closed all) x (filter_has (λ y. not (is_open all y)) (given all) x (given_stays h e x c.0) (ap not shut)))

-- a new id isn't below the xmax
pub new_past : (base : Counters) (h : List Event) → IsLegal base h → IsFullId base.next → 0 < base.next → snapshot_xmax base.next h ≤ next_given base.next h
new_past base h legal full positive =
    next_least (latest base.next h) (next_given base.next h) (nth_full base.next (length (given h)) full)
    (⊎_elim
    (λ (q : latest base.next h ≡ id_before base.next). let a = before_below base.next positive in let b = nth_from base.next (length (given h)) in omega arith)
    (λ c. given_below base h legal (latest base.next h) (has_filter (λ y. not (is_open h y)) (given h) (latest base.next h) c).0)
    (fold_max_one (id_before base.next) (closed h)))

-- the oldest xmin isn't past the xmin of a live snapshot
pub live_under : (first : ℕ) (h : List Event) (s : LiveSnap) → Has (live_snaps first h) s → oldest_xmin first h ≤ s.xmin
live_under first h s k = fold_min_has (snapshot_xmin first h) (map (λ (s : LiveSnap). s.xmin) (live_snaps first h)) s.xmin (map_has (λ (s : LiveSnap). s.xmin) (live_snaps first h) s k)

-- the oldest xmin never falls
xmin_rises : (base : Counters) (h : List Event) (e : Event) → IsLegal base (h ++ e ∷ []) → IsFullId base.next → 0 < base.next → oldest_xmin base.next h ≤ oldest_xmin base.next (h ++ e ∷ [])
xmin_rises base h e legal full positive =
    let all = h ++ e ∷ [] in let first = base.next in
    let front = legal_front base h e legal in let may = legal_last base h e legal in
    let inner : ℕ = fold min (snapshot_xmax first h) (running_tops h) in
    let o : ℕ = oldest_xmin first h in
    let under : o ≤ inner = fold_min_start inner (map (λ s. s.xmin) (live_snaps first h)) in
    let xmax : inner ≤ snapshot_xmax first h = fold_min_start (snapshot_xmax first h) (running_tops h) in
    let rise : snapshot_xmax first h ≤ snapshot_xmax first all = next_monotone (latest first h) (latest first all) (latest_grows base h e legal) in
    let new : (x : ℕ) → given_by e ≡ Some x → o ≤ x = λ x g. let a = may_give base h e x may g in let b = new_past base h front full positive in omega arith in
    let tops : (t : ℕ) → Has (running_tops all) t → o ≤ t = λ t k.
    let a = has_filter (is_top all) (running all) t k in let b = has_filter (is_open all) (given all) t a.0 in
    ⊎_elim
    (λ (old : IsOld h e t).
    let runs : Has (running h) t = filter_has (is_open h) (given h) t old.given (open_back base h e t legal old.given b.1) in
    let root : is_top h t ≡ true = sym (ap (λ (l : List ℕ). top_line l t == t) old.line) ∙ a.1 in
    let c = fold_min_has (snapshot_xmax first h) (running_tops h) t (filter_has (is_top h) (running h) t runs root) in omega arith)
    (λ r. ⊎_elim (λ (n : IsNewTop h e t). new t (ap given_by n.is)) (λ (n : IsNewSub h e t). new t (ap given_by n.is)) r)
    (given_cases base h e t front may b.0) in
    fold_min_above (fold min (snapshot_xmax first all) (running_tops all)) o (map (λ s. s.xmin) (live_snaps first all))
    (fold_min_above (snapshot_xmax first all) o (running_tops all) (omega arith) tops)
    (λ y k.
    let s = has_map (λ (s : LiveSnap). s.xmin) (live_snaps first all) y k in
    let from : s.0.xmin ≡ y = s.2 in
    ⊎_elim
    (λ old. let a = live_under first h s.0 old in omega arith)
    (λ (q : s.0.xmin ≡ snapshot_xmin first h). omega arith)
    (live_cases first h e s.0 s.1))

-- the oldest xmin at a place is not past the one now
pub xmin_at : (base : Counters) (h es : List Event) → IsLegal base (h ++ es) → IsFullId base.next → 0 < base.next → oldest_xmin base.next h ≤ oldest_xmin base.next (h ++ es)
xmin_at base h es legal full positive =
    by_end (λ es. IsLegal base (h ++ es) → oldest_xmin base.next h ≤ oldest_xmin base.next (h ++ es))
    (λ l. subst (λ t. oldest_xmin base.next h ≤ oldest_xmin base.next t) (sym (append-nil h)) (omega arith))
    (λ es e before l.
    let split : h ++ (es ++ e ∷ []) ≡ (h ++ es) ++ e ∷ [] = sym (append_assoc h es (e ∷ [])) in
    let m : IsLegal base ((h ++ es) ++ e ∷ []) = subst (IsLegal base) split l in
    let a = before (legal_front base (h ++ es) e m) in let b = xmin_rises base (h ++ es) e m full positive in
    subst (λ t. oldest_xmin base.next h ≤ oldest_xmin base.next t) (sym split) (omega arith))
    es legal

-- so the page up to which pg_subtrans is cut, by the oldest xmin at a place, isn't past the page of an id from a
-- live snapshot's xmin on
pub cut_not_past : (base : Counters) (h : List Event) (q x : ℕ) (s : LiveSnap) → IsLegal base h → IsFullId base.next → 0 < base.next → Has (live_snaps base.next h) s → s.xmin ≤ x → oldest_xmin base.next (take q h) ≤ x
cut_not_past base h q x s legal full positive live from =
    let split = take-append-drop q h in
    let a = xmin_at base (take q h) (drop q h) (subst (IsLegal base) (sym split) legal) full positive in
    let b : oldest_xmin base.next (take q h) ≤ oldest_xmin base.next h = subst (λ t. oldest_xmin base.next (take q h) ≤ oldest_xmin base.next t) split a in
    let c = live_under base.next h s live in omega arith
