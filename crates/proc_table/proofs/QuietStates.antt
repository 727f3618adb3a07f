-- The state after an event that gives and closes nothing: a snapshot, a drop, an announcement, a question.
use Rattle.tx_events.proofs.Extremes.{fold_min_start}
use Rattle.proc_table.proofs.Bounds.{next_id_to}
use Rattle.proc_table.proofs.LiveLemmas.{live_found, one_taken}
use Rattle.proc_table.proofs.SnapshotLemmas.{xmin_is}
use Rattle.proc_table.proofs.StateBounds.{late_bounds}
use Rattle.proc_table.proofs.States.{state_quiet}
use Rattle.proc_table.specs.Lists.{tops_of}
use Rattle.proc_table.specs.Lives.{HoldsLive, others}
use Rattle.proc_table.specs.State.{IsState}
use Rattle.proc_table.specs.Table.{InTurn}
use Rattle.proc_table.specs.declared.entry.Entry.{Entry}
use Rattle.proc_table.specs.declared.live.LiveSnapshots.{LiveSnapshots}
use Rattle.std.proofs.Common.{◌≡◌, ℕ, suc, ◌-◌, ◌<◌, ◌≤◌, List, [], ◌∷◌, ◌++◌, length, reverse, refl, ap, sym, subst, ◌∙◌, arith, false, true, ◌+◌, ◌^◌, map, min}
use Rattle.std.proofs.lemmas.List.{reverse-reverse}
use Rattle.std.proofs.lemmas.List.Sums.{sum_by-cons}
use Rattle.std.specs.List.{list_any, fold}
use Rattle.std.specs.Prelude.{sum_by}
use Rattle.tx_events.proofs.ListSteps.{length_push}
use Rattle.tx_events.proofs.Membership.{Has}
use Rattle.tx_events.specs.Horizon.{oldest_id, live_snaps, LiveSnap, oldest_xmin, is_snap_of, is_live}
use Rattle.tx_events.specs.Running.{running, running_tops}
use Rattle.tx_events.specs.Snapshots.{snapshot_xmax, snapshot_xmin}
use Rattle.tx_events.specs.declared.event.By.{By}
use Rattle.tx_events.specs.declared.event.Event.{Event}
use Rattle.tx_events.specs.declared.record.Counters.{Counters}
use Rattle.tx_events.specs.Ids.{IsFullId, next_id}
use Rattle.tx_events.specs.declared.event.Event.TheVariants as events

pub oldest_xmin_is : (base : Counters) (h : List Event) (n oldest late promised : ℕ) (entries : List Entry) (lives : LiveSnapshots) → IsState base h n oldest late promised entries lives →
    fold min (fold min (snapshot_xmax base.next h) (tops_of entries)) (map (λ (s : LiveSnap). s.xmin) (live_snaps base.next h)) ≡ oldest_xmin base.next h
oldest_xmin_is base h n oldest late promised entries lives s = ap (λ m. fold min m (map (λ (s : LiveSnap). s.xmin) (live_snaps base.next h))) (xmin_is base h n oldest late promised entries lives s)

-- it was asked how an id stands
pub state_asked : (base : Counters) (h : List Event) (n oldest late promised : ℕ) (entries : List Entry) (lives : LiveSnapshots) (by : By) (x : ℕ) → IsState base h n oldest late promised entries lives → InTurn by h → IsFullId x → IsState base (h ++ events.Ask by x ∷ []) n oldest late promised entries lives
state_asked base h n oldest late promised entries lives by x s turn full =
    state_quiet base h (events.Ask by x) n oldest oldest late promised promised entries lives lives s tt full turn refl s.oldest_to s.live s.room

-- the oldest id was announced
pub state_raised : (base : Counters) (h : List Event) (n oldest late promised : ℕ) (entries : List Entry) (lives : LiveSnapshots) (by : By) (new : ℕ) → IsState base h n oldest late promised entries lives → InTurn by h → oldest_id base.oldest h ≤ new → new ≤ oldest_xmin base.next h →
    IsState base (h ++ events.Oldest by new ∷ []) n new late promised entries lives
state_raised base h n oldest late promised entries lives by new s turn from to =
    let a : oldest_xmin base.next h ≤ snapshot_xmin base.next h = fold_min_start (snapshot_xmin base.next h) (map (λ (s : LiveSnap). s.xmin) (live_snaps base.next h)) in
    let b : snapshot_xmin base.next h ≤ snapshot_xmax base.next h = fold_min_start (snapshot_xmax base.next h) (running_tops h) in
    let c : next_id late < 2 ^ 63 = next_id_to late (late_bounds base h n oldest late promised entries lives s).1 in
    let d : snapshot_xmax base.next h ≡ next_id late = ap next_id (sym s.latest_is) in
    state_quiet base h (events.Oldest by new) n oldest new late promised promised entries lives lives s tt (from, to) turn refl (omega arith) s.live s.room

-- a snapshot was taken
pub state_snapped : (base : Counters) (h : List Event) (n oldest late promised : ℕ) (entries : List Entry) (lives lives' : LiveSnapshots) (by : By) (name : List ℕ) (xmin : ℕ) →
    IsState base h n oldest late promised entries lives → InTurn by h → is_live base.next by.session name h ≡ false → xmin ≡ snapshot_xmin base.next h →
    ((ss : List LiveSnap) → HoldsLive ss lives → list_any (is_snap_of by.session name) ss ≡ false → HoldsLive (ss ++ record { session = by.session; name = name; xmin = xmin } ∷ []) lives') →
    IsState base (h ++ events.Snap name by ∷ []) n oldest late (promised + 1) entries lives'
state_snapped base h n oldest late promised entries lives lives' by name xmin s turn free e more =
    let same : xmin ≡ snapshot_xmin base.next (reverse (reverse h)) = e ∙ ap (snapshot_xmin base.next) (sym (reverse-reverse h)) in
    let snap : LiveSnap = record { session = by.session; name = name; xmin = snapshot_xmin base.next (reverse (reverse h)) } in
    let count : length (live_snaps base.next h ++ snap ∷ []) ≡ suc (length (live_snaps base.next h)) = length_push (live_snaps base.next h) snap in
    let room : length (running h) + length (live_snaps base.next h) ≤ promised = s.room in
    state_quiet base h (events.Snap name by) n oldest oldest late promised (promised + 1) entries lives lives' s tt free turn refl s.oldest_to
    (subst (λ x. HoldsLive (live_snaps base.next h ++ record { session = by.session; name = name; xmin = x } ∷ []) lives') same (more (live_snaps base.next h) s.live free))
    (omega arith)

-- a live snapshot was dropped
sum_ones : {X : Type 0} (xs : List X) → sum_by (λ _. 1) xs ≡ length xs
sum_ones [] = refl
sum_ones (x ∷ xs) = let e : sum_by (λ _. 1) (x ∷ xs) ≡ 1 + sum_by (λ _. 1) xs = sum_by-cons (λ _. 1) x xs in let i : sum_by (λ _. 1) xs ≡ length xs = sum_ones xs in omega arith

pub state_dropped : (base : Counters) (h : List Event) (n oldest late promised : ℕ) (entries : List Entry) (lives lives' : LiveSnapshots) (by : By) (name : List ℕ) →
    IsState base h n oldest late promised entries lives → InTurn by h → is_live base.next by.session name h ≡ true → ((ss : List LiveSnap) → HoldsLive ss lives → HoldsLive (others by.session name ss) lives') →
    (1 ≤ promised) × IsState base (h ++ events.SnapDrop name by ∷ []) n oldest late (promised - 1) entries lives'
state_dropped base h n oldest late promised entries lives lives' by name s turn live less =
    let ss : List LiveSnap = live_snaps base.next h in
    let found = live_found ss by.session name live in
    let snap : LiveSnap = record { session = by.session; name = name; xmin = found.0 } in
    let here : Has ss snap = found.1 in
    let taken : sum_by (λ _. 1) (others by.session name ss) + 1 ≡ sum_by (λ _. 1) ss = one_taken (λ _. 1) ss snap s.live.apart here in
    let before : sum_by (λ _. 1) ss ≡ length ss = sum_ones ss in
    let after : sum_by (λ _. 1) (others by.session name ss) ≡ length (others by.session name ss) = sum_ones (others by.session name ss) in
    let room : length (running h) + length ss ≤ promised = s.room in (
      omega arith,
      state_quiet base h (events.SnapDrop name by) n oldest oldest late promised (promised - 1) entries lives lives' s tt live turn refl s.oldest_to (less ss s.live) (omega arith),
    )
