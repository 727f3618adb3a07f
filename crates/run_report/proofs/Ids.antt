-- The ids of a history can be told in a report.
use Rattle.std.proofs.Common.{◌≡◌, ◌⊎◌, ℕ, ◌-◌, ◌%◌, ◌^◌, ◌<◌, ◌≤◌, List, [], ◌∷◌, ◌++◌, Bool, true, false, cond, not, Option, Some, None, refl, sym, ap, subst, inl, inr, ⊎_elim, arith, length, map, min, reverse, nat_lt, ◌==◌, ◌&&◌}
use Rattle.std.proofs.lemmas.Bool.Decides.{nat_tests}
use Rattle.std.proofs.lemmas.List.{reverse-reverse}
use Rattle.std.specs.List.{AllByRecursion, cons_option, filter, fold, list_any}
use Rattle.tx_events.specs.Ids.{IsFullId, IsXidNumber, low_half}
use Rattle.tx_events.specs.Limits.{down_to_normal, stop_limit, wrap_limit}
use Rattle.tx_events.specs.declared.event.Event.{Event}
use Rattle.tx_events.specs.declared.event.Event.TheVariants as events
use Rattle.tx_events.specs.declared.record.Counters.{Counters}
use Rattle.tx_events.specs.Base.{IsBase}
use Rattle.tx_events.specs.Events.{given, given_by}
use Rattle.tx_events.specs.Families.{is_top, top}
use Rattle.tx_events.specs.History.{IsLegal, MayCome, next_given, nth_id}
use Rattle.tx_events.specs.Horizon.{LiveSnap, is_snap_of, live_snaps, live_up, oldest_id, oldest_xmin}
use Rattle.tx_events.specs.Running.{is_open, open_ids, running, running_tops}
use Rattle.tx_events.specs.Snapshots.{is_overflowed, latest, snapshot_data, snapshot_xips, snapshot_xmax, snapshot_xmin}
use Rattle.tx_events.proofs.GivenGrowth.{given_none, next_after}
use Rattle.tx_events.proofs.GivenIds.{given_new, given_push_cases, legal_front, legal_last, may_give, open_given}
use Rattle.tx_events.proofs.HorizonSteps.{live_push}
use Rattle.tx_events.proofs.IdOrder.{next_full, nth_full}
use Rattle.tx_events.proofs.ListSteps.{all_filter, all_push, le_or_over}
use Rattle.tx_events.proofs.Membership.{Has, all_from, by_end, contains_has, has_cases, has_filter}
use Rattle.proc_table.proofs.Bounds.{latest_bounds, next_id_to, stop_to}
use Rattle.report_words.specs.Fits.{FitsId, FitsSnap}

pub front_all : {X : Type 0} (P : X → Type 0) (xs ys : List X) → AllByRecursion P (xs ++ ys) → AllByRecursion P xs
front_all P [] ys a = tt
front_all P (x ∷ xs) ys a = (a.0, front_all P xs ys a.1)

-- an event gives an id below the stop limit
pub below_stop : (base : Counters) (h : List Event) (e : Event) (x : ℕ) → MayCome base h e → given_by e ≡ Some x → x < stop_limit (oldest_id base.oldest h)
below_stop base h (events.Id by id) x may g = let q : id ≡ x = cc in subst (λ n. n < stop_limit (oldest_id base.oldest h)) q may.0.below_stop
below_stop base h (events.Sub by parent id) x may g = let q : id ≡ x = cc in subst (λ n. n < stop_limit (oldest_id base.oldest h)) q may.0.below_stop
below_stop base h e x may g = absurd cc

pub full_fits : (n : ℕ) → IsFullId n → n < 2 ^ 63 → FitsId n
full_fits n f l = (omega arith, inr f)

-- each id that was given
pub given_small : (base : Counters) (h : List Event) → IsBase base → IsLegal base h → (x : ℕ) → Has (given h) x → IsFullId x × (x < 2 ^ 63)
given_small base h b = by_end (λ g. IsLegal base g → (x : ℕ) → Has (given g) x → IsFullId x × (x < 2 ^ 63))
    (λ legal x k. absurd k)
    (λ g e before legal x k. ⊎_elim (λ a. before (legal_front base g e legal) x a)
    (λ a.
    let may = legal_last base g e legal in
    let is : x ≡ next_given base.next g = may_give base g e x may a in
    let below = below_stop base g e x may a in
    let stop = stop_to (oldest_id base.oldest g) in
    (subst IsFullId (sym is) (nth_full base.next (length (given g)) b.full), omega arith))
    (given_push_cases g e x k)) h

given_fits : (base : Counters) (h : List Event) → IsBase base → IsLegal base h → (x : ℕ) → Has (given h) x → FitsId x
given_fits base h b legal x k = let small = given_small base h b legal x k in full_fits x small.0 small.1

pub all_given_fit : (base : Counters) (h : List Event) → IsBase base → IsLegal base h → AllByRecursion FitsId (given h)
all_given_fit base h b legal = all_from FitsId (given h) (given_fits base h b legal)

pub open_fits : (base : Counters) (h : List Event) (session : ℕ) → IsBase base → IsLegal base h → AllByRecursion FitsId (open_ids session h)
open_fits base h session b legal = all_from FitsId (open_ids session h) (λ x k. given_fits base h b legal x (open_given session h x k))

-- the ids that an event names
abbrev pub IdsFit : Event → Type 0
IdsFit (events.Id by id) = FitsId id
IdsFit (events.Sub by parent id) = FitsId parent × FitsId id
IdsFit (events.Undo by id) = FitsId id
IdsFit (events.Commit by top) = FitsId top
IdsFit (events.Abort by top) = FitsId top
IdsFit _ = Unit {0}

pub ids_fit : (base : Counters) (h : List Event) (e : Event) → IsBase base → IsLegal base (h ++ e ∷ []) → IdsFit e
ids_fit base h (events.Id by id) b legal = given_fits base (h ++ events.Id by id ∷ []) b legal id (given_new h (events.Id by id) id refl)
ids_fit base h (events.Sub by parent id) b legal = (
  given_fits base h b (legal_front base h (events.Sub by parent id) legal) parent (open_given by.session h parent (contains_has (open_ids by.session h) parent (legal_last base h (events.Sub by parent id) legal).1)),
  given_fits base (h ++ events.Sub by parent id ∷ []) b legal id (given_new h (events.Sub by parent id) id refl),
)
ids_fit base h (events.Undo by id) b legal = given_fits base h b (legal_front base h (events.Undo by id) legal) id (open_given by.session h id (contains_has (open_ids by.session h) id (legal_last base h (events.Undo by id) legal).0))
ids_fit base h (events.Commit by t) b legal = given_fits base h b (legal_front base h (events.Commit by t) legal) t (open_given by.session h t (contains_has (open_ids by.session h) t (legal_last base h (events.Commit by t) legal).0))
ids_fit base h (events.Abort by t) b legal = given_fits base h b (legal_front base h (events.Abort by t) legal) t (open_given by.session h t (contains_has (open_ids by.session h) t (legal_last base h (events.Abort by t) legal).0))
ids_fit base h (events.Snap name by) b legal = tt
ids_fit base h (events.SnapDrop name by) b legal = tt
ids_fit base h (events.Oldest by oldest) b legal = tt
ids_fit base h (events.Ask by id) b legal = tt

pub all_ids_fit : (base : Counters) (h : List Event) → IsBase base → IsLegal base h → AllByRecursion IdsFit h
all_ids_fit base h b = by_end (λ g. IsLegal base g → AllByRecursion IdsFit g)
    (λ legal. tt)
    (λ g e before legal. all_push IdsFit g e (before (legal_front base g e legal)) (ids_fit base g e b legal)) h

-- ---- the next id, the limits and snapshots

pub gives_one : (e : Event) (x : ℕ) → given_by e ≡ Some x → given (e ∷ []) ≡ x ∷ []
gives_one e x g = ap (λ o. cons_option o []) g

pub next_small : (base : Counters) (h : List Event) → IsBase base → IsLegal base h → next_given base.next h < 2 ^ 63
next_small base h b = by_end (λ g. IsLegal base g → next_given base.next g < 2 ^ 63)
    (λ legal. let s = stop_to base.oldest in let n = b.next in omega arith)
    (λ g e before legal. step g e (before (legal_front base g e legal)) (legal_last base g e legal) (given_by e) refl) h
  where
    step : (g : List Event) (e : Event) → next_given base.next g < 2 ^ 63 → MayCome base g e → (o : Option ℕ) → given_by e ≡ o → next_given base.next (g ++ e ∷ []) < 2 ^ 63
    step g e l may None q = subst (λ t. nth_id base.next (length t) < 2 ^ 63) (sym (given_none g e (ap (λ o. cons_option o []) q))) l
    step g e l may (Some y) q =
        let is : y ≡ next_given base.next g = may_give base g e y may q in
        let below = below_stop base g e y may q in
        let stop = stop_to (oldest_id base.oldest g) in
        subst (λ n. n < 2 ^ 63) (sym (next_after base.next g e y (gives_one e y q))) (next_id_to (next_given base.next g) (omega arith))

pub next_fits : (base : Counters) (h : List Event) → IsBase base → IsLegal base h → FitsId (next_given base.next h)
next_fits base h b legal = full_fits (next_given base.next h) (nth_full base.next (length (given h)) b.full) (next_small base h b legal)

xmax_fits : (base : Counters) (h : List Event) → IsBase base → IsLegal base h → FitsId (snapshot_xmax base.next h)
xmax_fits base h b legal =
    let l = latest_bounds base h b legal in
    let n = next_small base h b legal in
    full_fits (snapshot_xmax base.next h) (next_full (latest base.next h)) (next_id_to (latest base.next h) (omega (arith, l.1)))

min_one : (P : ℕ → Type 0) (a x : ℕ) → P a → P x → P (min a x)
min_one P a x p q = ⊎_elim (λ (l : a ≤ x). let e : a ≡ min a x = omega arith in subst P e p) (λ (l : x < a). let e : x ≡ min a x = omega arith in subst P e q) (le_or_over a x)

pub least_has : (P : ℕ → Type 0) (a : ℕ) (xs : List ℕ) → P a → AllByRecursion P xs → P (fold min a xs)
least_has P a [] p k = p
least_has P a (x ∷ xs) p k = least_has P (min a x) xs (min_one P a x p k.0) k.1

pub snap_fits : (base : Counters) (h : List Event) → IsBase base → IsLegal base h → FitsSnap (snapshot_data base.next h)
snap_fits base h b legal =
    let runs : AllByRecursion FitsId (running h) = all_filter FitsId (is_open h) (given h) (all_given_fit base h b legal) in
    let tops : AllByRecursion FitsId (running_tops h) = all_filter FitsId (is_top h) (running h) runs in
    let xmax = xmax_fits base h b legal in
    let subs : (b : Bool) (q : ℕ → Bool) → AllByRecursion FitsId (cond b [] (filter q (running h))) = λ b q. elim b as (λ b. AllByRecursion FitsId (cond b [] (filter q (running h)))) [ true ↦ tt | false ↦ all_filter FitsId q (running h) runs ] in
    record {
      xmin = least_has FitsId (snapshot_xmax base.next h) (running_tops h) xmax tops;
      xmax = xmax;
      xip = all_filter FitsId (λ x. nat_lt x (snapshot_xmax base.next h)) (running_tops h) tops;
      subxip = subs (is_overflowed base.next h) (λ x. not (is_top h x) && list_any (λ t. t == top h x) (snapshot_xips base.next h));
    }

-- what each live snapshot holds back
abbrev XminsFit : List LiveSnap → Type 0
XminsFit snaps = (s : LiveSnap) → Has snaps s → FitsId s.xmin

live_step : (base : Counters) (h : List Event) (e : Event) → IsBase base → IsLegal base h → XminsFit (live_snaps base.next h) → XminsFit (live_up base.next (e ∷ reverse h))
live_step base h (events.Snap taken by) b legal before s k =
    let first = base.next in
    let fits : FitsId (snapshot_xmin first (reverse (reverse h))) = subst (λ (t : List Event). FitsId (snapshot_xmin first t)) (sym (reverse-reverse h)) (snap_fits base h b legal).xmin in
    ⊎_elim (before s)
    (λ c. ⊎_elim (λ (q : record { session = by.session; name = taken; xmin = snapshot_xmin first (reverse (reverse h)) } ≡ s). subst (λ (z : LiveSnap). FitsId z.xmin) q fits) (λ z. absurd z) c)
    (has_cases (live_snaps first h) (record { session = by.session; name = taken; xmin = snapshot_xmin first (reverse (reverse h)) } ∷ []) s k)
live_step base h (events.SnapDrop dropped by) b legal before s k = before s (has_filter (λ s. not (is_snap_of by.session dropped s)) (live_snaps base.next h) s k).0
live_step base h _ b legal before s k = before s k

live_fit : (base : Counters) (h : List Event) → IsBase base → IsLegal base h → XminsFit (live_snaps base.next h)
live_fit base h b = by_end (λ g. IsLegal base g → XminsFit (live_snaps base.next g))
    (λ legal s k. absurd k)
    (λ g e before legal.
    let front = legal_front base g e legal in
    subst XminsFit (sym (live_push base.next g e)) (live_step base g e b front (before front))) h

mapped : (snaps : List LiveSnap) → XminsFit snaps → AllByRecursion FitsId (map (λ (s : LiveSnap). s.xmin) snaps)
mapped [] k = tt
mapped (s ∷ snaps) k = (k s (inl refl), mapped snaps (λ t i. k t (inr i)))

pub oldest_xmin_fits : (base : Counters) (h : List Event) → IsBase base → IsLegal base h → FitsId (oldest_xmin base.next h)
oldest_xmin_fits base h b legal =
    least_has FitsId (snapshot_xmin base.next h) (map (λ (s : LiveSnap). s.xmin) (live_snaps base.next h)) (snap_fits base h b legal).xmin
    (mapped (live_snaps base.next h) (live_fit base h b legal))

down_fits : (n : ℕ) → IsXidNumber (down_to_normal n)
down_fits n = step (nat_lt (low_half n) 3) refl
  where
    step : (b : Bool) → nat_lt (low_half n) 3 ≡ b → IsXidNumber (cond b (n - low_half n - 1) n)
    step true e = let l : n % 2 ^ 32 < 3 = grind (arith, nat_tests) in cases (le_or_over (n - low_half n) 0) l
      where
        cases : ((n - low_half n ≤ 0) ⊎ (0 < n - low_half n)) → n % 2 ^ 32 < 3 → IsXidNumber (n - low_half n - 1)
        cases k l = ⊎_elim (λ (z : n - low_half n ≤ 0). inl (omega arith)) (λ (z : 0 < n - low_half n). inr (omega arith)) k
    step false e = inr (grind (arith, nat_tests))

pub stop_fits : (oldest : ℕ) → FitsId (stop_limit oldest)
stop_fits oldest = (omega arith, min_one IsXidNumber (down_to_normal (wrap_limit oldest - 3000000)) (2 ^ 63 - 1) (down_fits (wrap_limit oldest - 3000000)) (inr (omega arith)))

-- ---- the oldest id

-- an announced one can be told
abbrev pub AnnouncesFit : Event → Type 0
AnnouncesFit (events.Oldest by oldest) = FitsId oldest
AnnouncesFit _ = Unit {0}

pub announced_fits : (oldest : ℕ) (h : List Event) → FitsId oldest → AllByRecursion AnnouncesFit h → FitsId (oldest_id oldest h)
announced_fits oldest [] f a = f
announced_fits oldest (events.Oldest by new ∷ h) f a = announced_fits new h a.0 a.1
announced_fits oldest (e ∷ h) f a = announced_fits oldest h f a.1

pub oldest_fits : (base : Counters) → IsBase base → FitsId base.oldest
oldest_fits base b = let s = stop_to base.oldest in let n = b.next in let o = b.oldest in full_fits base.oldest b.full_oldest (omega arith)
