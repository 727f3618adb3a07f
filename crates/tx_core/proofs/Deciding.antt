-- Where the invariant holds, the state read and the snapshot decide visibility.
use Rattle.std.proofs.Common.{Contains, List, None, Option, Some, [], ap, arith, cond, eq-eqb, false, inl, length, not, refl, subst, sym, take, true, ℕ, ⊎_elim, ◌%◌, ◌&&◌, ◌<◌, ◌^◌, ◌||◌, ◌∙◌, ◌∷◌, ◌≡◌, ◌≤◌, lt-ltb, le-leb}
use Rattle.std.proofs.lemmas.Bool.{eqb-true, false_from_ne_true, and_from, and_parts, lt-leb}
use Rattle.std.proofs.lemmas.List.{take-take}
use Rattle.std.specs.List.{list_any, slice_get}
use Rattle.std.specs.Prelude.{nat_lt}
use Rattle.tx_events.specs.Ids.{IsFullId}
use Rattle.tx_events.specs.declared.event.By.{By}
use Rattle.tx_events.specs.declared.event.Event.{Event}
use Rattle.tx_events.specs.declared.record.Counters.{Counters}
use Rattle.tx_events.proofs.Closing.{commit_ends, commit_open, later_take, never_undone, one_top, open_is}
use Rattle.tx_events.proofs.ListSteps.{not_both, le_or_over, same_tests}
use Rattle.tx_events.proofs.GivenIds.{given_below, given_to_given, legal_take}
use Rattle.tx_events.proofs.Extremes.{fold_min_start}
use Rattle.tx_events.proofs.IdOrder.{nth_upto}
use Rattle.tx_events.proofs.Membership.{Has, any_has, contains_has, has_contains, has_filter, has_filter_map, place_has}
use Rattle.tx_events.proofs.SnapshotBounds.{below_given, given_from, past_open}
use Rattle.tx_events.proofs.Trees.{family}
use Rattle.tx_events.proofs.Lineages.{top_line}
use Rattle.tx_events.proofs.Visibility.{among_has, commit_found, has_among, lives, never_given, open_hidden, visible_new, visible_old, xmin_from}
use Rattle.tx_events.specs.Events.{given, given_to, is_commit_of}
use Rattle.tx_events.specs.Families.{top}
use Rattle.tx_events.specs.History.{IsLegal, MayCome}
use Rattle.tx_events.specs.Running.{is_ended, is_open, is_undone, open_ids, running_tops}
use Rattle.tx_events.specs.Snapshots.{is_overflowed, snapshot_data, snapshot_xmax, snapshot_xmin}
use Rattle.tx_events.specs.Visible.{is_visible}
use Rattle.tx_core.specs.declared.entry.Entry.{Entry}
use Rattle.tx_core.specs.declared.entry.Start.{Start}
use Rattle.tx_core.specs.declared.entry.State.{State}
use Rattle.tx_core.proofs.Asking.{states_of, upheld_has}
use Rattle.tx_core.proofs.Reading.{IsOfRecord, committed_read, read_committed, read_start}
use Rattle.tx_core.proofs.Taking.{get_in_take, get_of_take, taken_twice}
use Rattle.tx_core.specs.CleanStart.{CleanStart}
use Rattle.tx_core.specs.CommitRecordsExact.{IsExactIn}
use Rattle.tx_core.specs.EngineInvariant.{EngineInvariant}
use Rattle.tx_core.specs.Entries.{AreFewIds, IsMarked, event_of, history, marks}
use Rattle.notes.specs.Lists.{at}
use Rattle.tx_core.specs.Locks.{proc_lock, xact_lock_of}
use Rattle.tx_core.specs.StatusBeforeCommit.{NeedsStates}
use Rattle.tx_core.specs.Verdict.{is_among, is_committed, says_ended, state_read, verdict}
use Rattle.tx_events.specs.declared.event.Event.TheVariants as events
use Rattle.tx_core.specs.declared.entry.State.TheVariants as states

-- an id of an exact record that was open at a place is, where it is closed there, visible there
record_decides : (base : Counters) (h : List Event) (p session t x : ℕ) (subs : List ℕ) → IsLegal base h → IsExactIn h session t subs → Contains (t ∷ subs) x → Has (given (take p h)) x → is_open (take p h) x ≡ false
    → (list_any (is_commit_of (top (take p h) x)) (take p h) ≡ true) × (is_undone (take p h) x ≡ false)
record_decides base h p session t x subs legal exact among was shut =
    let g = take p h in
    let now = later_take base h p x legal was in
    let not_open : is_open g x ≡ true → ⊥ = λ o. not_both (is_open g x) o shut in
    ⊎_elim
    (λ (q : open_ids session h ≡ t ∷ subs).
    absurd (not_open (now.opened (has_filter (is_open h) (given_to session h) x (subst (λ l. Has l x) (sym q) (contains_has (t ∷ subs) x among))).1)))
    (λ (q : (c : ℕ) × (by : By) × (by.session ≡ session) × (slice_get h c ≡ Some (events.Commit by t)) × (open_ids session (take c h) ≡ t ∷ subs)).
    let f = take q.0 h in
    let legal_f = legal_take base h q.0 legal in
    let mine : Has (open_ids session f) x = subst (λ l. Has l x) (sym q.4) (contains_has (t ∷ subs) x among) in
    let opened = has_filter (is_open f) (given_to session f) x mine in
    let given_f = given_to_given session f x opened.0 in
    let rule : MayCome base f (events.Commit q.1 t) = legal.rules q.0 (events.Commit q.1 t) q.3 in
    let top_mine : Has (open_ids session f) t = subst (λ z. Has (open_ids z f) t) q.2 (contains_has _ _ rule.0) in
    let over_f : top f x ≡ t = one_top base f legal_f session x t mine top_mine ∙ eqb-true (top f t) t rule.1 in
    let line_f = later_take base h q.0 x legal given_f in
    let over : top h x ≡ t = ap (λ (l : List ℕ). top_line l x) line_f.line ∙ over_f in
    let over_g : top g x ≡ t = sym (ap (λ (l : List ℕ). top_line l x) now.line) ∙ over in
    ⊎_elim
    (λ (late : p ≤ q.0).
    let same : take p f ≡ g = take-take p q.0 h late in
    let back = later_take base f p x legal_f (subst (λ l. Has (given l) x) (sym same) was) in
    absurd (not_open (subst (λ l. is_open l x ≡ true) same (back.opened opened.1))))
    (λ (early : q.0 < p).
    let there = get_in_take p q.0 h (events.Commit q.1 t) early q.3 in
    let undone_f : is_undone (take q.0 g) x ≡ false = ap (λ l. is_undone l x) (taken_twice p q.0 h (events.Commit q.1 t) there) ∙ (open_is f x opened.1).1 in (
      ap (λ z. list_any (is_commit_of z) g) over_g ∙ any_has (is_commit_of t) g (events.Commit q.1 t) (place_has g q.0 (events.Commit q.1 t) there) (eq-eqb t t refl),
      never_undone base g (legal_take base h p legal) q.0 x t q.1 was there over_g undone_f,
    ))
    (le_or_over p q.0))
    exact.ids

-- an id that a commit before a place makes visible there was set committed
visible_marked : (start : Start) (lists : List (List Entry)) (p x : ℕ) → EngineInvariant start lists → Has (given (take p (history lists))) x → list_any (is_commit_of (top (take p (history lists)) x)) (take p (history lists)) ≡ true → is_undone (take p (history lists)) x ≡ false → IsMarked start lists x states.Committed
visible_marked start lists p x k was committed undone =
    let h = history lists in let g = take p h in
    let base = start.base in
    let legal = k.events.legal in
    let t = top g x in
    let c = commit_found g t committed in
    let in_h : slice_get h c.place ≡ Some (events.Commit c.by t) = get_of_take p c.place h (events.Commit c.by t) c.at in
    let from = has_filter_map event_of (at lists proc_lock) (events.Commit c.by t) (place_has h c.place (events.Commit c.by t) in_h) in
    let r = states_of start lists proc_lock [] from.0 c.by t (upheld_has (NeedsStates start) lists proc_lock from.0 k.commits.each from.1).1 from.2 in
    let exact = k.records.exact c.by.session t r.0 r.1 in
    let legal_g = legal_take base h p legal in
    let opened = commit_open base g legal_g c.place x t c.by was c.at refl undone in
    let front = taken_twice p c.place h (events.Commit c.by t) c.at in
    let open_f = has_filter (is_open (take c.place g)) (given_to c.by.session (take c.place g)) x opened in
    let now = later_take base h p x legal was in
    let over : top h x ≡ t = ap (λ (l : List ℕ). top_line l x) now.line in
    let undone_h : is_undone h x ≡ false = never_undone base h legal c.place x t c.by now.given in_h over (ap (λ l. is_undone l x) (sym front) ∙ (open_is (take c.place g) x open_f.1).1) in
    ⊎_elim
    (λ (q : open_ids c.by.session h ≡ t ∷ r.0).
    let o : is_open h t ≡ true = (has_filter (is_open h) (given_to c.by.session h) t (subst (λ l. Has l t) (sym q) (inl refl))).1 in
    let f = family base h legal x now.given in
    let root : top h t ≡ t = ap (top h) (sym over) ∙ ap (λ (l : List ℕ). top_line l (top h x)) f.root ∙ over in
    absurd (not_both (is_ended h t) (commit_ends h c.by t t (place_has h c.place (events.Commit c.by t) in_h) root) (open_is h t o).0))
    (λ (q : (d : ℕ) × (by : By) × (by.session ≡ c.by.session) × (slice_get h d ≡ Some (events.Commit by t)) × (open_ids c.by.session (take d h) ≡ t ∷ r.0)).
    let o : Has (open_ids q.1.session (take q.0 h)) x = commit_open base h legal q.0 x t q.1 now.given q.3 over undone_h in
    r.2 x (has_contains (t ∷ r.0) x (subst (λ l. Has l x) (ap (λ z. open_ids z (take q.0 h)) q.2 ∙ q.4) o)))
    exact.ids

state_test : (s : Option State) → is_committed s ≡ true → s ≡ Some states.Committed
state_test (Some states.Committed) e = refl
state_test (Some states.Aborted) e = absurd cc
state_test (Some states.SubCommitted) e = absurd cc
state_test None e = absurd cc

-- the verdict, wherever what the snapshot says of an id of a commit record is whether it isn't open
pub decides_by : (start : Start) (lists : List (List Entry)) (shown : ℕ → Option State) (p : ℕ) (x topmost : ℕ) → EngineInvariant start lists → CleanStart start shown
    → IsFullId x → start.base.oldest ≤ x → AreFewIds lists
    → (IsOfRecord lists x → Has (given (take p (history lists))) x → x < snapshot_xmax start.base.next (take p (history lists)) → says_ended (snapshot_data start.base.next (take p (history lists))) topmost x ≡ not (is_open (take p (history lists)) x))
    → verdict (snapshot_data start.base.next (take p (history lists))) (state_read shown (marks (at lists (xact_lock_of start x))) x) topmost x ≡ is_visible start.committed (take p (history lists)) x
decides_by start lists shown p x topmost k is full oldest few exact =
    let h = history lists in let g = take p h in
    let base = start.base in let first = base.next in
    let legal = k.events.legal in let legal_g = legal_take base h p legal in
    let read = state_read shown (marks (at lists (xact_lock_of start x))) x in
    let f : 3 ≤ x % 2 ^ 32 = full in let big : 3 ≤ x = omega arith in
    let n : 3 ≤ first % 2 ^ 32 = is.base.full in let positive : 0 < first = omega arith in
    let ended = says_ended (snapshot_data first g) topmost x in
    ⊎_elim
    (λ (new : first ≤ x).
    let none : Contains start.committed x → ⊥ = λ c. let a = is.before x c in absurd (omega arith) in
    let visible : is_visible start.committed g x ≡ lives g x = visible_new start.committed g x big none in
    ⊎_elim
    (λ (past : snapshot_xmax first g ≤ x).
    let hidden : lives g x ≡ false = false_from_ne_true (lives g x) (λ e.
    let never : Has (given g) x → ⊥ = λ j. not_both (lives g x) e (open_hidden g x (past_open base g x j past)) in
    not_both (lives g x) e (never_given base g x legal_g never)) in
    ap (λ b. cond b false (is_committed read && ended)) (le-leb (snapshot_xmax first g) x past) ∙ sym hidden ∙ sym visible)
    (λ (below : x < snapshot_xmax first g).
    let was : Has (given g) x = below_given base g x legal_g positive full new below in
    let clear : shown x ≡ None = is.clean x new (let a = given_below base h legal x (later_take base h p x legal was).given in let c = nth_upto first (length (given h)) in omega arith) in
    ap (λ b. cond b false (is_committed read && ended)) (lt-leb (snapshot_xmax first g) x below)
    ∙ same_tests (is_committed read && ended) (lives g x)
    (λ e.
    let two = and_parts (is_committed read) ended e in
    let r = read_committed start lists shown x k clear (state_test read two.0) in
    let says : ended ≡ not (is_open g x) = exact r was below in
    let shut : is_open g x ≡ false = false_from_ne_true (is_open g x) (λ o. let z : ended ≡ false = says ∙ ap not o in not_both ended two.1 z) in
    let d = record_decides base h p r.session r.top x r.subs legal (k.records.exact r.session r.top r.subs r.appended) r.among was shut in
    and_from (list_any (is_commit_of (top g x)) g) (not (is_undone g x)) d.0 (ap not d.1))
    (λ e.
    let two = and_parts (list_any (is_commit_of (top g x)) g) (not (is_undone g x)) e in
    let undone : is_undone g x ≡ false = false_from_ne_true (is_undone g x) (λ u. let z : not (is_undone g x) ≡ false = ap not u in not_both (not (is_undone g x)) two.1 z) in
    let m = committed_read start lists shown x k (visible_marked start lists p x k was two.0 undone) in
    let says : ended ≡ not (is_open g x) = exact (read_committed start lists shown x k clear m) was below in
    let shut : is_open g x ≡ false = false_from_ne_true (is_open g x) (λ o. not_both (lives g x) e (open_hidden g x o)) in
    and_from (is_committed read) ended (ap is_committed m) (says ∙ ap not shut))
    ∙ sym visible)
    (le_or_over (snapshot_xmax first g) x))
    (λ (old : x < first).
    let from = xmin_from base g legal_g is.base.full in
    let upto = fold_min_start (snapshot_xmax first g) (running_tops g) in
    let never : Has (given h) x → ⊥ = λ j. let a = given_from base h legal x j in absurd (omega arith) in
    let never_g : Has (given g) x → ⊥ = λ j. let a = given_from base g legal_g x j in absurd (omega arith) in
    let says : ended ≡ true = ap (λ b. cond b true (cond (is_overflowed first g) (cond (nat_lt topmost (snapshot_xmin first g)) true (not (is_among topmost (snapshot_data first g).xip))) (not (is_among x (snapshot_data first g).xip || is_among x (snapshot_data first g).subxip)))) (lt-ltb x (snapshot_xmin first g) (omega arith)) in
    let start_read : read ≡ shown x = read_start start lists shown x k never in
    ap (λ b. cond b false (is_committed read && ended)) (lt-leb (snapshot_xmax first g) x (omega arith))
    ∙ same_tests (is_committed read && ended) (is_among x start.committed)
    (λ e.
    let c = state_test read (and_parts (is_committed read) ended e).0 in
    has_among x start.committed (contains_has _ _ (is.only x oldest old (inl (sym start_read ∙ c)))))
    (λ e. and_from (is_committed read) ended (ap is_committed (start_read ∙ is.committed x oldest (has_contains _ _ (among_has x start.committed e)))) says)
    ∙ sym (visible_old start.committed g x big (never_given base g x legal_g never_g)))
    (le_or_over first x)
