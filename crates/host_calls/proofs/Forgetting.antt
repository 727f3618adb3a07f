-- What is on disk before the log is forgotten.
use Rattle.std.proofs.Common.{◌≡◌, ◌⊎◌, ℕ, zero, suc, ◌+◌, ◌-◌, ◌*◌, ◌<◌, ◌≤◌, ⊎_elim, Bool, true, false, Contains, List, [], ◌∷◌, ◌++◌, None, Some, append-nil, length, inl, inr, nat_lt, refl, sym, ap, subst, ◌∙◌, arith, if◌then◌else◌}
use Rattle.std.proofs.lemmas.Bool.Decides.{nat_tests}
use Rattle.std.proofs.lemmas.Option.{same_Some, slice_get_within}
use Rattle.std.proofs.lemmas.List.{length-map}
use Rattle.std.proofs.lemmas.List.Elements.{filter_map-append}
use Rattle.std.proofs.Math.Seq.{take-append_seam}
use Rattle.std.specs.List.{cons_option, flat_map, slice_get}
use Rattle.notes.specs.Lists.{at}
use Rattle.tx_events.specs.declared.event.By.{By}
use Rattle.tx_events.specs.declared.multi.Member.{Member}
use Rattle.tx_events.specs.declared.multi.MultiEvent.{MultiEvent}
use Rattle.tx_events.specs.declared.multi.MultiEvent.TheVariants as multis
use Rattle.tx_events.specs.declared.record.Counters.{Counters}
use Rattle.tx_events.specs.declared.record.Rec.{Rec}
use Rattle.tx_events.specs.declared.record.Rec.TheVariants as records
use Rattle.tx_events.specs.Running.{open_ids}
use Rattle.tx_events.proofs.Membership.{Has, contains_has, has_cases, has_contains, has_filter_map, has_left, has_place, has_right}
use Rattle.tx_events.proofs.ListSteps.{le_or_over, length_push}
use Rattle.tx_events.proofs.PlaceLemmas.{by_place, slice_get-grows}
use Rattle.tx_events.specs.Ids.{IsFullMulti, low_half, next_multi}
use Rattle.tx_events.specs.Multis.{AreLegalMultis, InBase, MultiMayCome, made, made_by, next_made, nth_multi}
use Rattle.life_law.specs.LifeLog.{counters_behind}
use Rattle.tx_core.specs.declared.entry.Entry.{Entry}
use Rattle.tx_core.specs.declared.entry.Kind.TheVariants as kinds
use Rattle.tx_core.specs.declared.entry.Start.{Start}
use Rattle.tx_core.specs.declared.entry.State.TheVariants as states
use Rattle.tx_core.specs.Consequences.{IsHosts}
use Rattle.tx_core.specs.EngineInvariant.{EngineInvariant}
use Rattle.tx_core.specs.Entries.{IsAppended, events_in, IsMarked, appended, history, marks, records_in}
use Rattle.tx_core.specs.Locks.{log_lock, members_lock, multi_lock, offsets_lock, proc_lock, xact_lock}
use Rattle.tx_core.specs.CutsFollow.{IsMemberGone, IsOffsetGone}
use Rattle.tx_core.specs.MultiEntries.{multi_history, multis_in, offsets_in, slots_in}
use Rattle.tx_core.specs.OwnMultis.{AreMultisDone, IsMultiDone}
use Rattle.tx_core.specs.RecordsFollow.{IsGenOf}
use Rattle.tx_core.proofs.Nearness.{multis_are_legal}
use Rattle.tx_core.proofs.OwnMultis.{done_stays}
use Rattle.session_promise.proofs.FewMultis.{multi_known}
use Rattle.session_promise.proofs.RecordPlaces.{filter_map_has}
use Rattle.host_calls.proofs.Hosts.{hosts_at, hosts_idle, hosts_syncs}
use Rattle.tx_core.specs.SyncsBeforeForgets.{AreMembersSynced, AreOffsetsSynced, AreStatesSynced, IsBelow, IsMultiBelow, IsNamedBelow, IsSynced, MayForget}
use Rattle.tx_core.proofs.Flushed.{records_shown}
use Rattle.tx_core.proofs.Once.{records_given}
use Rattle.tx_core.proofs.Opening.{sessions_known}
use Rattle.tx_core.proofs.Reading.{record_entry}
use Rattle.host_sections.specs.HostEntries.{flush_by, next_number, sync_by}
use Rattle.host_calls.specs.Added.{AddsAt, AddsSyncs, checkpoint_now}
use Rattle.host_calls.specs.Synced.{AreAllMade, AreAllSynced, IsMultiIn, IsNamedIn, IsNoneWaiting}

-- ---- lists with one item more

slice_last : {X : Type 0} (xs : List X) (x : X) → slice_get (xs ++ x ∷ []) (length xs) ≡ Some x
slice_last [] x = refl
slice_last (y ∷ xs) x = slice_last xs x

synced_last : (es : List Entry) (by : By) → IsSynced (es ++ sync_by by ∷ []) es
synced_last es by = record { place = length es; by = by; sync = slice_last es (sync_by by); front = take-append_seam es (sync_by by ∷ []) }

-- ---- all banks are synced while no session is in the midst of a commit

-- nor behind a flush
pub none_waits : (start : Start) (by : By) (old new : List (List Entry)) (to : ℕ) → AddsAt log_lock (flush_by by to ∷ []) old new → IsNoneWaiting start old → IsNoneWaiting start new
none_waits start by old new to a none session low top subs appended running =
    let rec : Rec = records.Commit top subs in
    let e : Entry = record { by = appended.0; kind = kinds.Append rec } in
    let has : Has (at old log_lock ++ flush_by by to ∷ []) e = contains_has (at old log_lock ++ flush_by by to ∷ []) e (subst (λ (es : List Entry). Contains es e) a.here appended.2) in
    let same : history new ≡ history old = ap events_in (a.others proc_lock (λ q. omega (arith, q))) in
    none session low top subs (
      appended.0,
      appended.1,
      has_contains (at old log_lock) e (⊎_elim (λ h. h) (λ (h : Has (flush_by by to ∷ []) e). ⊎_elim (λ (q : flush_by by to ≡ e). absurd (let z : kinds.Flush to ≡ kinds.Append rec = ap (λ (f : Entry). f.kind) q in cc)) absurd h)
          (has_cases (at old log_lock) (flush_by by to ∷ []) e has)),
    )
    (ap (open_ids session) (sym same) ∙ running)

-- nor is one at a multixact
pub all_made : (start : Start) (by : By) (old new : List (List Entry)) (to : ℕ) → by.session ≡ start.sessions → EngineInvariant start new → AddsAt log_lock (flush_by by to ∷ []) old new → AreAllMade start old → AreAllMade start new
all_made start by old new to his k a made session low =
    done_stays start session None old new k (hosts_idle start old new (hosts_at start log_lock (flush_by by to ∷ []) old new (his, tt) a) session low) (made session low)

-- nor behind the syncs
pub made_behind : (start : Start) (by : By) (old new : List (List Entry)) → by.session ≡ start.sessions → EngineInvariant start new → AddsSyncs by 3 (3 + 4 * start.banks) old new → AreAllMade start old → AreAllMade start new
made_behind start by old new his k s made session low =
    done_stays start session None old new k (hosts_idle start old new (hosts_syncs start by 3 (3 + 4 * start.banks) old new his s) session low) (made session low)

-- what is done of a multixact, where the session is at none
done_of : (start : Start) (lists : List (List Entry)) (session multi offset : ℕ) (members : List Member) → AreMultisDone start lists session None → IsGenOf lists session multi offset members → IsMultiDone start lists session multi offset members
done_of start lists session multi offset members all given = ⊎_elim (λ (d : IsMultiDone start lists session multi offset members). d) (λ (e : None ≡ Some multi). absurd cc) (all multi offset members given)

module _ (start : Start) (by : By) (old new : List (List Entry)) (k : EngineInvariant start old) (none : IsNoneWaiting start old) (made : AreAllMade start old) (s : AddsSyncs by 3 (3 + 4 * start.banks) old new) where
  same_log : at new log_lock ≡ at old log_lock
  same_log = s.others log_lock (λ a b. omega (arith, a))

  -- an id that a commit record names was set committed
  is_shown : (id : ℕ) → IsNamedIn new id → IsMarked start old id states.Committed
  is_shown id named =
      let session : ℕ = named.0 in
      let rec : Rec = records.Commit named.1 named.2 in
      let appender : By = named.3.0 in
      let e : Entry = record { by = appender; kind = kinds.Append rec } in
      let stands : Contains (at old log_lock) e = subst (λ (es : List Entry). Contains es e) same_log named.3.2 in
      ⊎_elim
      (λ (low : appender.session < start.sessions).
      records_shown start old session named.1 named.2 id k (none session (subst (λ n. n < start.sessions) named.3.1 low)) (appender, named.3.1, stands) named.4)
      (λ (his : IsHosts start e). absurd his.1)
      (sessions_known start old k log_lock e stands)

  -- a multixact of which the log has a record is done
  is_done : (multi offset : ℕ) (members : List Member) → IsMultiIn new multi offset members → (session : ℕ) × IsMultiDone start old session multi offset members
  is_done multi offset members named =
      let rec : Rec = records.Multi multi offset members in
      let appender : By = named.1.0 in
      let e : Entry = record { by = appender; kind = kinds.Append rec } in
      let stands : Contains (at old log_lock) e = subst (λ (es : List Entry). Contains es e) same_log named.1.2 in
      ⊎_elim
      (λ (low : appender.session < start.sessions).
      (appender.session, done_of start old appender.session multi offset members (made appender.session low) ((records_given start old appender.session k).multi multi offset members (appender, refl, stands))))
      (λ (his : IsHosts start e). absurd his.1)
      (sessions_known start old k log_lock e stands)

  pub all_synced : AreAllSynced start new
  all_synced = record {
    states = λ bank low.
        let lock : ℕ = xact_lock bank in
        let grown = s.here lock (omega arith) (omega (arith, low)) in
        subst (λ (es : List Entry). AreStatesSynced start es bank (IsNamedIn new)) (sym grown) (record {
          before = at old lock;
          synced = synced_last (at old lock) by;
          each = λ id named on.
              let shown = is_shown id named in
              (shown.0, subst (λ n. Contains (marks (at old n)) (record { caller = shown.0; id = id; state = states.Committed })) on shown.1);
        });
    offsets = λ bank low.
        let lock : ℕ = offsets_lock bank in
        let grown = s.here lock (omega arith) (omega (arith, low)) in
        subst (λ (es : List Entry). AreOffsetsSynced start es bank (IsMultiIn new)) (sym grown) (record {
          before = at old lock;
          synced = synced_last (at old lock) by;
          each = λ multi offset members named on.
              let done = is_done multi offset members named in
              subst (λ n. ((caller : By) × Contains (flat_map offsets_in (at old n)) (record { caller = caller; multi = multi; offset = offset })) ⊎ IsOffsetGone (at old n) multi) on done.1.begins;
        });
    members = λ bank low.
        let lock : ℕ = members_lock bank in
        let grown = s.here lock (omega arith) (omega (arith, low)) in
        subst (λ (es : List Entry). AreMembersSynced start es bank (IsMultiIn new)) (sym grown) (record {
          before = at old lock;
          synced = synced_last (at old lock) by;
          each = λ multi offset place members member named stands on.
              let done = is_done multi offset members named in
              subst (λ n. ((caller : By) × Contains (flat_map slots_in (at old n)) (record { caller = caller; offset = offset + place; member = member })) ⊎ IsMemberGone (at old n) (offset + place)) on (done.1.slots place member stands);
        });
  }

-- ---- the numbers that were given

next_is : (n m : ℕ) → IsFullMulti m → n ≤ m → m < next_multi n → m ≡ n
next_is n m full low high = step (nat_lt (low_half (n + 1)) 1) refl high
  where
    zero_half : nat_lt (low_half (n + 1)) 1 ≡ true → low_half (n + 1) < 1
    zero_half q = grind (arith, nat_tests)

    step : (b : Bool) → nat_lt (low_half (n + 1)) 1 ≡ b → m < (if b then n + 2 else n + 1) → m ≡ n
    step true q h = ⊎_elim
        (λ (same : m ≤ n). omega (arith, same, low))
        (λ (past : n < m).
        let is : m ≡ n + 1 = omega (arith, past, h) in
        let none = zero_half q in
        let some : 1 ≤ low_half (n + 1) = subst IsFullMulti is full in
        absurd (omega (arith, none, some)))
        (le_or_over m n)
    step false q h = omega (arith, low, h)

-- each full number from the first one to below the next is one of them
nth_is : (first n m : ℕ) → IsFullMulti m → first ≤ m → m < nth_multi first n → (k : ℕ) × (k < n) × (nth_multi first k ≡ m)
nth_is first zero m full low high = absurd (omega (arith, low, high))
nth_is first (suc n) m full low high = ⊎_elim
    (λ (past : nth_multi first n ≤ m). (n, omega arith, sym (next_is (nth_multi first n) m full past high)))
    (λ (below : m < nth_multi first n). let i = nth_is first n m full low below in (i.0, (let l = i.1 in omega (arith, l)), i.2))
    (le_or_over (nth_multi first n) m)

given_nth : (base : Counters) (h : List MultiEvent) → AreLegalMultis base (InBase base) h → (k : ℕ) → k < length (made h) → Has (made h) (nth_multi base.multi k)
given_nth base = by_place (MultiMayCome base (InBase base)) (λ h. (k : ℕ) → k < length (made h) → Has (made h) (nth_multi base.multi k)) (λ k low. absurd (omega (arith, low))) (λ h e before rule k low.
    let all : made (h ++ e ∷ []) ≡ made h ++ cons_option (made_by e) [] = filter_map-append made_by h (e ∷ []) in
    subst (λ (ns : List ℕ). Has ns (nth_multi base.multi k)) (sym all) (one h e before rule k (subst (λ (ns : List ℕ). k < length ns) all low)))
  where
    one : (h : List MultiEvent) (e : MultiEvent) → ((k : ℕ) → k < length (made h) → Has (made h) (nth_multi base.multi k)) → MultiMayCome base (InBase base) h e → (k : ℕ) → k < length (made h ++ cons_option (made_by e) []) → Has (made h ++ cons_option (made_by e) []) (nth_multi base.multi k)
    one h (multis.Gen by multi offset members) before rule k low = ⊎_elim
        (λ (last : length (made h) ≤ k).
        let long = length_push (made h) multi in
        let is : k ≡ length (made h) = omega (arith, last, low, long) in
        has_right (made h) (multi ∷ []) (nth_multi base.multi k) (inl (rule.next ∙ ap (nth_multi base.multi) (sym is))))
        (λ (inside : k < length (made h)). has_left (made h) (multi ∷ []) (nth_multi base.multi k) (before k inside))
        (le_or_over (length (made h)) k)
    one h (multis.Hold by multi) before rule k low = has_left (made h) [] (nth_multi base.multi k) (before k (subst (λ (ns : List ℕ). k < length ns) (append-nil (made h)) low))
    one h (multis.Unhold by multi) before rule k low = has_left (made h) [] (nth_multi base.multi k) (before k (subst (λ (ns : List ℕ). k < length ns) (append-nil (made h)) low))
    one h (multis.Raise by multi offset) before rule k low = has_left (made h) [] (nth_multi base.multi k) (before k (subst (λ (ns : List ℕ). k < length ns) (append-nil (made h)) low))

-- its event
record IsGiven (h : List MultiEvent) (multi : ℕ) : Type 0 where
  by : By
  offset : ℕ
  members : List Member
  stands : Has h (multis.Gen by multi offset members)

given_event : (h : List MultiEvent) (multi : ℕ) → Has (made h) multi → IsGiven h multi
given_event h multi has = let f = has_filter_map made_by h multi has in step f.0 f.1 f.2
  where
    step : (e : MultiEvent) → Has h e → made_by e ≡ Some multi → IsGiven h multi
    step (multis.Gen by other offset members) there is =
        let same : other ≡ multi = same_Some other multi is in
        record { by = by; offset = offset; members = members; stands = subst (λ m. Has h (multis.Gen by m offset members)) same there }
    step (multis.Hold by other) there is = absurd cc
    step (multis.Unhold by other) there is = absurd cc
    step (multis.Raise by other offset) there is = absurd cc

-- ---- so the log may be forgotten before a checkpoint that was put on disk then

module _ (start : Start) (by : By) (seen late : List (List Entry)) (k : EngineInvariant start late) (b : AddsAt log_lock (checkpoint_now start by seen ∷ flush_by by (next_number start seen + 1) ∷ []) seen late) (synced : AreAllSynced start seen) (made_all : AreAllMade start seen) where
  abbrev n : ℕ
  n = next_number start seen

  abbrev mark : Entry
  mark = checkpoint_now start by seen

  abbrev flush : Entry
  flush = flush_by by (n + 1)

  -- a record that isn't a checkpoint is one from before
  from_before : (place : ℕ) (rec : Rec) (appender : By) → ((number : ℕ) (counters : Counters) → rec ≡ records.Checkpoint number counters → ⊥) → slice_get (records_in (at late log_lock)) place ≡ Some (appender, rec) → IsAppended seen appender.session rec
  from_before place rec appender other stands =
      let e : Entry = record { by = appender; kind = kinds.Append rec } in
      let has : Has (at seen log_lock ++ mark ∷ flush ∷ []) e = subst (λ (es : List Entry). Has es e) b.here (record_entry late rec place appender stands) in
      ⊎_elim
      (λ (old : Has (at seen log_lock) e). (appender, refl, has_contains (at seen log_lock) e old))
      (λ (new : Has (mark ∷ flush ∷ []) e). ⊎_elim
      (λ (q : mark ≡ e). absurd (other n (counters_behind start.base (history seen) (multi_history seen)) (let z : kinds.Append rec ≡ kinds.Append (records.Checkpoint n (counters_behind start.base (history seen) (multi_history seen))) = sym (ap (λ (f : Entry). f.kind) q) in cc)))
      (λ t. ⊎_elim (λ (q : flush ≡ e). absurd (let z : kinds.Flush (n + 1) ≡ kinds.Append rec = ap (λ (f : Entry). f.kind) q in cc)) absurd t)
      new)
      (has_cases (at seen log_lock) (mark ∷ flush ∷ []) e has)

  named_in : (id : ℕ) → IsNamedBelow start (at late log_lock) n id → IsNamedIn seen id
  named_in id named =
      let below : IsBelow start (at late log_lock) n (records.Commit named.0 named.1) = named.2 in
      (below.by.session, named.0, named.1, from_before below.place (records.Commit named.0 named.1) below.by (λ number counters q. cc) below.stands, named.3)

  multi_in : (multi offset : ℕ) (members : List Member) → IsMultiBelow start (at late log_lock) n multi offset members → IsMultiIn seen multi offset members
  multi_in multi offset members below = (below.by.session, from_before below.place (records.Multi multi offset members) below.by (λ number counters q. cc) below.stands)

  same_multis : multi_history late ≡ multi_history seen
  same_multis = ap multis_in (b.others multi_lock (λ q. omega (arith, q)))

  -- a record from before is below the checkpoint
  is_below : (rec : Rec) (by : By) → Contains (at seen log_lock) (record { by = by; kind = kinds.Append rec }) → IsBelow start (at late log_lock) n rec
  is_below rec by c =
      let es = at seen log_lock in
      let there = has_place (records_in es) (by, rec) (filter_map_has appended es (record { by = by; kind = kinds.Append rec }) (by, rec) (contains_has es _ c) refl) in
      let low = slice_get_within (records_in es) there.0 (by, rec) there.1 in
      let count = length-map (records_in es) (λ (r : By × Rec). r.1) in
      let all : records_in (at late log_lock) ≡ records_in es ++ records_in (mark ∷ flush ∷ []) = ap records_in b.here ∙ filter_map-append appended es (mark ∷ flush ∷ []) in
      record {
        place = there.0;
        by = by;
        stands = subst (λ (rs : List (By × Rec)). slice_get rs there.0 ≡ Some (by, rec)) (sym all) (slice_get-grows (records_in es) (records_in (mark ∷ flush ∷ [])) (by, rec) there.0 there.1);
        below = omega (arith, low, count);
      }

  all_recorded : (multi : ℕ) → IsFullMulti multi → start.base.multi ≤ multi → multi < next_made start.base.multi (multi_history seen) → (offset : ℕ) × (members : List Member) × IsMultiBelow start (at late log_lock) n multi offset members
  all_recorded multi full low high =
      let h : List MultiEvent = multi_history seen in
      let legal : AreLegalMultis start.base (InBase start.base) h = subst (AreLegalMultis start.base (InBase start.base)) same_multis (multis_are_legal start late k) in
      let nth = nth_is start.base.multi (length (made h)) multi full low high in
      let g = given_event h multi (subst (λ m. Has (made h) m) nth.2 (given_nth start.base h legal nth.0 nth.1)) in
      let event : MultiEvent = multis.Gen g.by multi g.offset g.members in
      let known : g.by.session < start.sessions = multi_known start late k event (subst (λ (t : List MultiEvent). Has t event) (sym same_multis) g.stands) in
      let done = done_of start seen g.by.session multi g.offset g.members (made_all g.by.session known) (g.by, refl, has_contains h event g.stands) in
      (g.offset, g.members, is_below (records.Multi multi g.offset g.members) done.appended.0 done.appended.2)

  still : (lock : ℕ) → 3 ≤ lock → at late lock ≡ at seen lock
  still lock past = b.others lock (λ q. omega (arith, past, q))

  pub may_forget : MayForget start late (at late log_lock) n
  may_forget = record {
    from = omega arith;
    by = by;
    counters = counters_behind start.base (history seen) (multi_history seen);
    checkpoint =
        let es = at seen log_lock in
        let all : records_in (at late log_lock) ≡ records_in es ++ (by, records.Checkpoint n (counters_behind start.base (history seen) (multi_history seen))) ∷ []
        = ap records_in b.here ∙ filter_map-append appended es (mark ∷ flush ∷ []) in
        let place : length (records_in es) ≡ n - start.from = let count = length-map (records_in es) (λ (r : By × Rec). r.1) in omega (arith, count) in
        ap (λ (l : List (By × Rec)). slice_get l (n - start.from)) all
        ∙ (ap (slice_get (records_in es ++ (by, records.Checkpoint n (counters_behind start.base (history seen) (multi_history seen))) ∷ [])) (sym place) ∙ slice_last (records_in es) (by, records.Checkpoint n (counters_behind start.base (history seen) (multi_history seen))));
    flush = by;
    to = n + 1;
    past = omega arith;
    flushed = subst (λ (es : List Entry). Contains es flush) (sym b.here) (has_contains (at seen log_lock ++ mark ∷ flush ∷ []) flush (has_right (at seen log_lock) (mark ∷ flush ∷ []) flush (inr (inl refl))));
    states = λ bank low.
        let z = synced.states bank low in
        subst (λ (es : List Entry). AreStatesSynced start es bank (IsNamedBelow start (at late log_lock) n)) (sym (still (xact_lock bank) (omega arith))) (record {
          before = z.before;
          synced = z.synced;
          each = λ id named on. z.each id (named_in id named) on;
        });
    offsets = λ bank low.
        let z = synced.offsets bank low in
        subst (λ (es : List Entry). AreOffsetsSynced start es bank (IsMultiBelow start (at late log_lock) n)) (sym (still (offsets_lock bank) (omega arith))) (record {
          before = z.before;
          synced = z.synced;
          each = λ multi offset members below on. z.each multi offset members (multi_in multi offset members below) on;
        });
    members = λ bank low.
        let z = synced.members bank low in
        subst (λ (es : List Entry). AreMembersSynced start es bank (IsMultiBelow start (at late log_lock) n)) (sym (still (members_lock bank) (omega arith))) (record {
          before = z.before;
          synced = z.synced;
          each = λ multi offset place members member below at_place on. z.each multi offset place members member (multi_in multi offset members below) at_place on;
        });
    recorded = all_recorded;
  }
