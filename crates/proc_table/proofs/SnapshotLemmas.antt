-- What the table lists is what a snapshot holds.
use Rattle.proc_table.proofs.EntryLists.{map_filter}
use Rattle.proc_table.proofs.MergedSubs.{grouped}
use Rattle.proc_table.proofs.SortedSame.{sorted_same}
use Rattle.proc_table.specs.Entries.{IsEntryAt}
use Rattle.proc_table.specs.Lists.{tops_of, subs_of, entries_below, some_overflowed, AreSorted, AreListed}
use Rattle.proc_table.specs.State.{IsState}
use Rattle.proc_table.specs.declared.entry.Entry.{Entry}
use Rattle.proc_table.specs.declared.live.LiveSnapshots.{LiveSnapshots}
use Rattle.std.proofs.Common.{◌≡◌, ℕ, List, [], ◌∷◌, ◌++◌, refl, ap, sym, ◌∙◌, Bool, true, false, not, ◌&&◌, ◌==◌, ◌||◌, cond, subst, nat_lt, min}
use Rattle.std.proofs.lemmas.List.Sorted.{IsPermutation-sym, IsPermutation-trans}
use Rattle.std.specs.List.{filter, AllByRecursion, list_any, fold, flat_map}
use Rattle.std.specs.List.Sorted.{IsPermutation}
use Rattle.tx_events.proofs.IdListSteps.{ascending_filtered}
use Rattle.tx_events.proofs.Soundness.{legal_sound}
use Rattle.tx_events.specs.Events.{given}
use Rattle.tx_events.specs.Families.{top, is_top}
use Rattle.tx_events.specs.IdLists.{Ascending}
use Rattle.tx_events.specs.Running.{is_open, running, running_tops}
use Rattle.tx_events.specs.Snapshots.{running_subs, has_overflowed, snapshot_xmax, snapshot_xips, snapshot_subs, is_overflowed, snapshot_data, snapshot_xmin}
use Rattle.tx_events.specs.declared.event.Event.{Event}
use Rattle.tx_events.specs.declared.record.Counters.{Counters}
use Rattle.tx_events.specs.declared.snapshot.SnapData.{SnapData}

-- the tops below the limit
pub tops_below_are : (entries : List Entry) (limit : ℕ) → tops_of (entries_below entries limit) ≡ filter (λ x. nat_lt x limit) (tops_of entries)
tops_below_are entries limit = map_filter (λ (e : Entry). e.top) (λ x. nat_lt x limit) entries

pub over_below : (first : ℕ) (h : List Event) (limit : ℕ) (es : List Entry) → AllByRecursion (IsEntryAt first h) es → some_overflowed (entries_below es limit) ≡ list_any (has_overflowed h) (filter (λ x. nat_lt x limit) (tops_of es))
over_below first h limit [] a = refl
over_below first h limit (e ∷ es) a = one (nat_lt e.top limit) (over_below first h limit es a.1)
  where
    one : (c : Bool) → some_overflowed (entries_below es limit) ≡ list_any (has_overflowed h) (filter (λ x. nat_lt x limit) (tops_of es)) →
        some_overflowed (cond c (e ∷ entries_below es limit) (entries_below es limit)) ≡ list_any (has_overflowed h) (cond c (e.top ∷ filter (λ x. nat_lt x limit) (tops_of es)) (filter (λ x. nat_lt x limit) (tops_of es)))
    one true i = ap (λ b. b || some_overflowed (entries_below es limit)) a.0.flag ∙ ap (λ b. has_overflowed h e.top || b) i
    one false i = i

pub subs_below_are : (first : ℕ) (h : List Event) (limit : ℕ) (es : List Entry) → AllByRecursion (IsEntryAt first h) es → subs_of (entries_below es limit) ≡ flat_map (running_subs h) (filter (λ x. nat_lt x limit) (tops_of es))
subs_below_are first h limit [] a = refl
subs_below_are first h limit (e ∷ es) a = one (nat_lt e.top limit) (subs_below_are first h limit es a.1)
  where
    one : (c : Bool) → subs_of (entries_below es limit) ≡ flat_map (running_subs h) (filter (λ x. nat_lt x limit) (tops_of es)) →
        subs_of (cond c (e ∷ entries_below es limit) (entries_below es limit)) ≡ flat_map (running_subs h) (cond c (e.top ∷ filter (λ x. nat_lt x limit) (tops_of es)) (filter (λ x. nat_lt x limit) (tops_of es)))
    one true i = ap (λ l. l ++ subs_of (entries_below es limit)) a.0.subs_are ∙ ap (λ l. running_subs h e.top ++ l) i
    one false i = i

-- sorted, they are the subids of a snapshot
subs_sorted : (base : Counters) (h : List Event) (n oldest late promised : ℕ) (entries : List Entry) (lives : LiveSnapshots) (v : List ℕ) →
    IsState base h n oldest late promised entries lives → is_overflowed base.next h ≡ false → AreSorted (subs_of (entries_below entries (snapshot_xmax base.next h))) v → v ≡ snapshot_subs base.next h
subs_sorted base h n oldest late promised entries lives v s o p =
    let tops : filter (λ x. nat_lt x (snapshot_xmax base.next h)) (tops_of entries) ≡ snapshot_xips base.next h = ap (filter (λ x. nat_lt x (snapshot_xmax base.next h))) s.tops in
    let e : subs_of (entries_below entries (snapshot_xmax base.next h)) ≡ flat_map (running_subs h) (snapshot_xips base.next h) =
    subs_below_are base.next h (snapshot_xmax base.next h) entries s.each ∙ ap (flat_map (running_subs h)) tops in
    let up : Ascending (running h) = ascending_filtered (is_open h) (given h) (legal_sound base h s.legal).ascending in
    let xips_up : Ascending (snapshot_xips base.next h) = ascending_filtered (λ x. nat_lt x (snapshot_xmax base.next h)) (running_tops h) (ascending_filtered (is_top h) (running h) up) in
    sorted_same (filter (λ x. not (is_top h x) && list_any (λ t. t == top h x) (snapshot_xips base.next h)) (running h)) v
    (IsPermutation-trans (filter (λ x. not (is_top h x) && list_any (λ t. t == top h x) (snapshot_xips base.next h)) (running h)) (flat_map (running_subs h) (snapshot_xips base.next h)) v
    (IsPermutation-sym (flat_map (running_subs h) (snapshot_xips base.next h)) (filter (λ x. not (is_top h x) && list_any (λ t. t == top h x) (snapshot_xips base.next h)) (running h)) (grouped h (snapshot_xips base.next h) xips_up))
    (subst (λ l. IsPermutation l v) e p.same))
    p.ascend
    (ascending_filtered (λ x. not (is_top h x) && list_any (λ t. t == top h x) (snapshot_xips base.next h)) (running h) up)
    ∙ sym (ap (λ b. cond b [] (filter (λ x. not (is_top h x) && list_any (λ t. t == top h x) (snapshot_xips base.next h)) (running h))) o)

pub xmin_is : (base : Counters) (h : List Event) (n oldest late promised : ℕ) (entries : List Entry) (lives : LiveSnapshots) → IsState base h n oldest late promised entries lives → fold min (snapshot_xmax base.next h) (tops_of entries) ≡ snapshot_xmin base.next h
xmin_is base h n oldest late promised entries lives s = ap (fold min (snapshot_xmax base.next h)) s.tops

-- the lists that the table makes are those of a snapshot
pub taken_is : (base : Counters) (h : List Event) (n oldest late promised : ℕ) (entries : List Entry) (lives : LiveSnapshots) (xmin xmax : ℕ) (xip subxip : List ℕ) (overflowed : Bool) →
    IsState base h n oldest late promised entries lives → xmax ≡ snapshot_xmax base.next h → xmin ≡ fold min xmax (tops_of entries) → xip ≡ tops_of (entries_below entries xmax) →
    overflowed ≡ some_overflowed (entries_below entries xmax) → AreListed entries xmax overflowed subxip →
    (let d : SnapData = record { xmin = xmin; xmax = xmax; xip = xip; subxip = subxip; overflowed = overflowed } in d) ≡ snapshot_data base.next h
taken_is base h n oldest late promised entries lives xmin xmax xip subxip overflowed s e_max e_min e_xip e_over listed =
    same_data e_min' e_max e_xip' (subs overflowed refl) e_over'
  where
    e_min' : xmin ≡ snapshot_xmin base.next h
    e_min' = e_min ∙ ap (λ m. fold min m (tops_of entries)) e_max ∙ xmin_is base h n oldest late promised entries lives s

    e_xip' : xip ≡ snapshot_xips base.next h
    e_xip' = e_xip ∙ ap (λ m. tops_of (entries_below entries m)) e_max ∙ tops_below_are entries (snapshot_xmax base.next h) ∙ ap (filter (λ x. nat_lt x (snapshot_xmax base.next h))) s.tops

    e_over' : overflowed ≡ is_overflowed base.next h
    e_over' =
        e_over ∙ ap (λ m. some_overflowed (entries_below entries m)) e_max
        ∙ over_below base.next h (snapshot_xmax base.next h) entries s.each
        ∙ ap (λ l. list_any (has_overflowed h) (filter (λ x. nat_lt x (snapshot_xmax base.next h)) l)) s.tops

    subs : (b : Bool) → overflowed ≡ b → subxip ≡ snapshot_subs base.next h
    subs true f =
        listed.none f
        ∙ sym (ap (λ b. cond b [] (filter (λ x. not (is_top h x) && list_any (λ t. t == top h x) (snapshot_xips base.next h)) (running h))) (sym e_over' ∙ f))
    subs false f = subs_sorted base h n oldest late promised entries lives subxip s (sym e_over' ∙ f) (subst (λ m. AreSorted (subs_of (entries_below entries m)) subxip) e_max (listed.all f))

    same_data : {a a' b b' : ℕ} {c c' d d' : List ℕ} {e e' : Bool} → a ≡ a' → b ≡ b' → c ≡ c' → d ≡ d' → e ≡ e' →
        (let r : SnapData = record { xmin = a; xmax = b; xip = c; subxip = d; overflowed = e } in r) ≡ (let r : SnapData = record { xmin = a'; xmax = b'; xip = c'; subxip = d'; overflowed = e' } in r)
    same_data p q r t u = rw (p, q, r, t, u) refl
