-- What a snapshot holds stays the same until an end, an undo or a sub event.
use Rattle.proc_table.proofs.Bounds.{full_from}
use Rattle.proc_table.specs.State.{IsState, IsOfNow}
use Rattle.proc_table.specs.declared.entry.Entry.{Entry}
use Rattle.proc_table.specs.declared.live.LiveSnapshots.{LiveSnapshots}
use Rattle.std.proofs.Common.{◌≡◌, ℕ, ◌<◌, ◌≤◌, List, [], ◌∷◌, ◌++◌, length, ap, sym, ◌∙◌, arith, Bool, true, false, not, ◌&&◌, ◌==◌, append-nil, cond, subst, nat_lt, min, Option}
use Rattle.std.proofs.lemmas.Bool.{le-ltb}
use Rattle.std.proofs.lemmas.List.Elements.{filter-append, filter_agree}
use Rattle.std.proofs.lemmas.List.Sums.{fold_push}
use Rattle.std.specs.List.{AllByRecursion, filter, fold, list_any}
use Rattle.std.specs.Prelude.{IfSome}
use Rattle.tx_events.proofs.ClosingGrowth.{same_latest}
use Rattle.tx_events.proofs.Extremes.{fold_min_start}
use Rattle.tx_events.proofs.GivingGrowth.{giving_closed, giving_id, giving_running, id_family, id_subs, id_tops}
use Rattle.tx_events.proofs.Horizons.{new_past}
use Rattle.tx_events.proofs.Lineages.{KeepsFamily, top_kept}
use Rattle.tx_events.proofs.ListSteps.{eqb-refl, filter_none}
use Rattle.tx_events.proofs.NameBounds.{AreBelow, fresh_top}
use Rattle.tx_events.proofs.OverflowSteps.{overflow_kept}
use Rattle.tx_events.proofs.QuietGrowth.{IsQuiet, quiet_closed, quiet_family, quiet_running, quiet_subs, quiet_tops}
use Rattle.tx_events.proofs.Soundness.{legal_sound}
use Rattle.tx_events.specs.Families.{top, is_top}
use Rattle.tx_events.specs.History.{next_given}
use Rattle.tx_events.specs.Running.{running, running_tops}
use Rattle.tx_events.specs.Snapshots.{latest, running_subs, has_overflowed, snapshot_data, snapshot_xips, snapshot_xmax, snapshot_xmin}
use Rattle.tx_events.specs.declared.event.By.{By}
use Rattle.tx_events.specs.declared.event.Event.{Event}
use Rattle.tx_events.specs.declared.record.Counters.{Counters}
use Rattle.tx_events.specs.declared.snapshot.SnapData.{SnapData}
use Rattle.tx_events.specs.Ids.{next_id}
use Rattle.tx_events.specs.declared.event.Event.TheVariants as events

-- an event that leaves all families and closes nothing; what it gives is a top that no snapshot lists
data_kept : (first : ℕ) (h : List Event) (e : Event) (new : List ℕ) → ((x : ℕ) → KeepsFamily h e x) → latest first (h ++ e ∷ []) ≡ latest first h →
    ((t : ℕ) → running_subs (h ++ e ∷ []) t ≡ running_subs h t) → snapshot_xmin first (h ++ e ∷ []) ≡ snapshot_xmin first h → snapshot_xips first (h ++ e ∷ []) ≡ snapshot_xips first h →
    running (h ++ e ∷ []) ≡ running h ++ new → AllByRecursion (λ x. is_top h x ≡ true) new → snapshot_data first (h ++ e ∷ []) ≡ snapshot_data first h
data_kept first h e new keeps late subs xmin xips runs tops =
    λ i.
    record {
      xmin = xmin i;
      xmax = next_id (late i);
      xip = xips i;
      subxip = cond (list_any (λ t. over t i) (xips i)) [] (listed i);
      overflowed = list_any (λ t. over t i) (xips i);
    }
  where
    over : (t : ℕ) → has_overflowed (h ++ e ∷ []) t ≡ has_overflowed h t
    over t = let same : length (running_subs (h ++ e ∷ []) t) ≡ length (running_subs h t) = ap length (subs t) in overflow_kept h e t (omega arith)

    is_listed_sub : List Event → ℕ → Bool
    is_listed_sub g x = not (is_top g x) && list_any (λ t. t == top g x) (snapshot_xips first g)

    agree : (x : ℕ) → is_listed_sub (h ++ e ∷ []) x ≡ is_listed_sub h x
    agree x = λ i. not (top_kept h e x (keeps x) i == x) && list_any (λ t. t == top_kept h e x (keeps x) i) (xips i)

    listed : filter (is_listed_sub (h ++ e ∷ [])) (running (h ++ e ∷ [])) ≡ filter (is_listed_sub h) (running h)
    listed =
        ap (filter (is_listed_sub (h ++ e ∷ []))) runs
        ∙ filter_agree (is_listed_sub (h ++ e ∷ [])) (is_listed_sub h) agree (running h ++ new)
        ∙ filter-append (is_listed_sub h) (running h) new
        ∙ ap (λ l. filter (is_listed_sub h) (running h) ++ l)
        (filter_none (λ x. is_top h x ≡ true) (is_listed_sub h) new (λ x k. ap (λ b. not b && list_any (λ t. t == top h x) (snapshot_xips first h)) k) tops)
        ∙ append-nil (filter (is_listed_sub h) (running h))

quiet_data : (first : ℕ) (h : List Event) (e : Event) → IsQuiet e → snapshot_data first (h ++ e ∷ []) ≡ snapshot_data first h
quiet_data first h e q =
    let late : latest first (h ++ e ∷ []) ≡ latest first h = same_latest first h (h ++ e ∷ []) (quiet_closed h e q) in
    let tops : running_tops (h ++ e ∷ []) ≡ running_tops h = quiet_tops h e q in
    data_kept first h e [] (λ x. quiet_family h e x q) late (λ t. quiet_subs h e t q) (λ i. fold min (next_id (late i)) (tops i)) (λ i. filter (λ x. nat_lt x (next_id (late i))) (tops i))
    (quiet_running h e q ∙ sym (append-nil (running h))) tt

-- a new top isn't below the xmax
id_data : (base : Counters) (h : List Event) (by : By) (n oldest late promised : ℕ) (entries : List Entry) (lives : LiveSnapshots) →
    IsState base h n oldest late promised entries lives → snapshot_data base.next (h ++ events.Id by n ∷ []) ≡ snapshot_data base.next h
id_data base h by n oldest late promised entries lives s =
    let under : AreBelow n h = subst (λ t. AreBelow t h) (sym s.next_is) (legal_sound base h s.legal).below in
    let from : 3 ≤ base.next = full_from base.next s.base_is.full in
    let to : snapshot_xmax base.next h ≤ next_given base.next h = new_past base h s.legal s.base_is.full (omega arith) in
    let next : n ≡ next_given base.next h = s.next_is in
    let past : snapshot_xmax base.next h ≤ n = omega arith in
    let same : latest base.next (h ++ events.Id by n ∷ []) ≡ latest base.next h = same_latest base.next h (h ++ events.Id by n ∷ []) (giving_closed h (events.Id by n) n (giving_id h by n under)) in
    let tops : running_tops (h ++ events.Id by n ∷ []) ≡ running_tops h ++ n ∷ [] = id_tops h by n under in
    let low : snapshot_xmin base.next h ≤ snapshot_xmax base.next h = fold_min_start (snapshot_xmax base.next h) (running_tops h) in
    let least : min (snapshot_xmin base.next h) n ≡ snapshot_xmin base.next h = omega arith in
    data_kept base.next h (events.Id by n) (n ∷ []) (λ x. id_family h by n x) same (λ t. id_subs h by n t under)
    ((λ i. fold min (next_id (same i)) (tops i)) ∙ fold_push min (snapshot_xmax base.next h) (running_tops h) n ∙ least)
    ((λ i. filter (λ x. nat_lt x (next_id (same i))) (tops i))
    ∙ filter-append (λ x. nat_lt x (snapshot_xmax base.next h)) (running_tops h) (n ∷ [])
    ∙ ap (λ b. snapshot_xips base.next h ++ cond b (n ∷ []) []) (le-ltb n (snapshot_xmax base.next h) past)
    ∙ append-nil (snapshot_xips base.next h))
    (giving_running h (events.Id by n) n (giving_id h by n under)) (ap (λ t. t == n) (fresh_top n h under) ∙ eqb-refl n, tt)

pub of_now_quiet : (first : ℕ) (h : List Event) (e : Event) (contents : Option SnapData) → IsQuiet e → IsOfNow first h contents → IsOfNow first (h ++ e ∷ []) contents
of_now_quiet first h e contents q k = subst (λ now. IfSome contents (λ d. d ≡ now)) (sym (quiet_data first h e q)) k

pub of_now_id : (base : Counters) (h : List Event) (by : By) (n oldest late promised : ℕ) (entries : List Entry) (lives : LiveSnapshots) (contents : Option SnapData) →
    IsState base h n oldest late promised entries lives → IsOfNow base.next h contents → IsOfNow base.next (h ++ events.Id by n ∷ []) contents
of_now_id base h by n oldest late promised entries lives contents s k =
    subst (λ now. IfSome contents (λ d. d ≡ now)) (sym (id_data base h by n oldest late promised entries lives s)) k
