-- An entry that may be added keeps the engine invariant, part by part.
use Rattle.std.proofs.Common.{Contains, List, None, Option, Some, [], ap, append-nil, arith, inl, inr, length, refl, slice_get, suc, zero, subst, sym, take, true, ◌⊎◌, ℕ, ⊎_elim, ◌++◌, ◌<◌, ◌==◌, ◌∙◌, ◌∷◌, ◌≡◌, ◌≤◌}
use Rattle.std.specs.List.{cons_option, filter}
use Rattle.std.proofs.lemmas.Option.{same_Some}
use mathlib.Core.Logic.{dite}
use native.Mathlib.Decide.{ℕ_discrete}
use Rattle.tx_events.specs.declared.event.By.{By}
use Rattle.tx_events.specs.declared.event.Event.{Event}
use Rattle.tx_events.specs.declared.record.Rec.{Rec}
use Rattle.tx_events.proofs.GivenIds.{legal_push}
use Rattle.tx_events.proofs.Membership.{Has, contains_has, filter_has, has_contains, has_filter, has_filter_map, has_place}
use Rattle.tx_events.specs.Events.{by_of, is_of}
use Rattle.tx_events.specs.Families.{is_top, top}
use Rattle.tx_events.specs.XactEnds.{end_record}
use Rattle.tx_events.specs.declared.xact_end.XactEnd.{XactEnd}
use Rattle.tx_events.specs.declared.xact_end.XactEnd.TheVariants as ends
use Rattle.tx_events.specs.History.{ComesInTurn, IsLegal, MayCome}
use Rattle.tx_events.specs.Running.{open_ids}
use Rattle.tx_core.specs.declared.entry.Entry.{Entry}
use Rattle.tx_core.specs.declared.entry.Start.{Start}
use Rattle.tx_core.proofs.Asking.{aborts_of, all_has, append_asks, has_all, ids_of_abort, ids_of_record, leaves_of, own_event, rule_of, states_of, unasked_of, unrecorded_of, upheld_has}
use Rattle.tx_core.proofs.Exactness.{Leaves, ends_own, whole_push}
use Rattle.tx_core.proofs.Growing.{upheld_add}
use Rattle.tx_core.proofs.Lasting.{aborts_lasting, asked_lasting, flush_lasting, given_lasting, links_lasting, named_lasting, logged_lasting, own_lasting, pages_lasting, places_lasting, same_lasting, stand_lasting, states_lasting, subs_lasting, tree_lasting, turns_lasting, zero_lasting}
use Rattle.tx_core.proofs.Stepping.{appended_cases, asks_cases, history_at, history_off, open_seen, own_appended, own_asks, root_seen}
use Rattle.tx_core.specs.AbortRule.{AbortRule, AsksAbort, NeedsAborts, NeedsAsked, NeedsGiven, NeedsSame}
use Rattle.tx_core.specs.CommitRecordsExact.{CommitRecordsExact, LeavesRecords, NeedsLinks}
use Rattle.tx_core.specs.AbortRecordsExact.{AbortRecordsExact, LeavesAborts}
use Rattle.tx_core.specs.Wholeness.{IsWholeIn}
use Rattle.tx_core.specs.EngineInvariant.{EngineInvariant, MayAdd}
use Rattle.tx_core.specs.Entries.{IsAppended, Mark, asks_in, event_in, event_of, events_in, history, session_of}
use Rattle.tx_core.specs.EventsLegal.{EventsLegal, NeedsOwn}
use Rattle.notes.specs.Lists.{Knows, add, at, own}
use Rattle.tx_core.specs.Lists.{IsLasting, Upheld}
use Rattle.tx_core.specs.Locks.{log_lock, proc_lock}
use Rattle.tx_core.specs.LogBeforeStatus.{LogBeforeStatus, NeedsRecords, NeedsTree}
use Rattle.tx_core.specs.PagesBeforeIds.{NeedsPages, NeedsPlace, NeedsZero, PagesBeforeIds}
use Rattle.tx_core.specs.ParentsFollow.{NeedsSubs}
use Rattle.tx_core.specs.ProgramOrder.{ComesAfter, IsHostsTurn, IsInTurn, IsOfHost, NeedsStand, NeedsTurn, ProgramOrder}
use Rattle.tx_core.specs.RecordsFollow.{NeedsCounters, NeedsFlush, NeedsNamed, RecordsFollow}
use Rattle.tx_core.specs.CutsFollow.{NeedsCut}
use Rattle.tx_core.specs.MultisLegal.{NeedsMulti}
use Rattle.tx_core.specs.MembersBeforeOffset.{MembersBeforeOffset, NeedsOffsets, NeedsSlots}
use Rattle.tx_core.specs.SyncsBeforeForgets.{NeedsSync}
use Rattle.tx_core.specs.PostsFollow.{NeedsPost}
use Rattle.tx_core.specs.FaultsRise.{NeedsCount}
use Rattle.tx_core.specs.StaysDown.{NeedsUp}
use Rattle.tx_core.specs.RecordsOnce.{NeedsOnce}
use Rattle.tx_core.proofs.LastingFurther.{counters_lasting, cuts_lasting, down_lasting, faults_lasting, multis_lasting, offsets_lasting, once_lasting, posts_lasting, slots_lasting, syncs_lasting}
use Rattle.tx_core.specs.StatusBeforeCommit.{NeedsStates}
use Rattle.tx_events.specs.declared.event.Event.TheVariants as events
use Rattle.tx_core.specs.declared.entry.Kind.{Kind}
use Rattle.tx_core.specs.declared.entry.Kind.TheVariants as kinds
use Rattle.tx_events.specs.declared.record.Rec.TheVariants as records
use Rattle.tx_core.specs.declared.entry.State.TheVariants as states

-- a session adds an entry: what it needs of the lists that it has seen, while the real lists have grown
pub record Step (start : Start) (seen lists : List (List Entry)) (lock : ℕ) (e : Entry) : Type 0 where
  pub k : EngineInvariant start lists
  pub knows : Knows session_of e.by.session seen lists
  pub inside : lock < length lists
  pub whole : at seen lock ≡ at lists lock
  pub may : MayAdd start seen lock e

-- a need that lasts is met in the real lists too
need_now : (start : Start) (seen lists : List (List Entry)) (lock : ℕ) (e : Entry) → Step start seen lists lock e → (Need : List (List Entry) → ℕ → List Entry → Entry → Type 0) → IsLasting Need → Need seen lock (at seen lock) e → Need lists lock (at lists lock) e
need_now start seen lists lock e s Need lasting n = subst (λ (t : List Entry). Need lists lock t e) s.whole (lasting.stays seen lists lock (at seen lock) e s.knows.grows n)

-- and a part that asks for it holds with the entry
kept : (start : Start) (seen lists : List (List Entry)) (lock : ℕ) (e : Entry) → Step start seen lists lock e → (Need : List (List Entry) → ℕ → List Entry → Entry → Type 0) → IsLasting Need → Upheld Need lists → Need seen lock (at seen lock) e → Upheld Need (add lists lock e)
kept start seen lists lock e s Need lasting old new = upheld_add Need lasting seen lists lock e s.inside s.knows.grows s.whole old new

-- the history with the entry's event
history_here : (start : Start) (seen lists : List (List Entry)) (lock : ℕ) (e : Entry) → Step start seen lists lock e → proc_lock ≡ lock → history (add lists lock e) ≡ history lists ++ cons_option (event_of e) []
history_here start seen lists lock e s q = ap (λ z. history (add lists z e)) (sym q) ∙ history_at lists e (subst (λ z. z < length lists) (sym q) s.inside)

seen_whole : (start : Start) (seen lists : List (List Entry)) (lock : ℕ) (e : Entry) → Step start seen lists lock e → proc_lock ≡ lock → history seen ≡ history lists
seen_whole start seen lists lock e s q = ap events_in (subst (λ z. at seen z ≡ at lists z) (sym q) s.whole)

-- the host adds no event
no_hosts_event : (kind : Kind) (event : Event) → IsOfHost kind → event_in kind ≡ Some event → ⊥
no_hosts_event (kinds.Event event) other k h = k
no_hosts_event _ other k h = absurd cc

-- the command of an event comes after its session's earlier ones
comes_after : (start : Start) (lists : List (List Entry)) (lock : ℕ) (before : List Entry) (e : Entry) (event : Event) → event_of e ≡ Some event → NeedsTurn start lists lock before e → ComesAfter before e.by
comes_after start lists lock before e event h = ⊎_elim (λ (t : IsInTurn start before e.by). t.after) (λ (t : IsHostsTurn start e.by × IsOfHost e.kind). absurd (no_hosts_event e.kind event t.1 h))

-- a session whose entries go by its commands lets its events go by them
comes_in_turn : (start : Start) (es : List Entry) (by : By) (event : Event) → ((f : Entry) (other : Event) → Has es f → event_of f ≡ Some other → by_of other ≡ f.by) → ComesAfter es by → by_of event ≡ by → ComesInTurn (events_in es) event
comes_in_turn start es by event own after mine =
    all_has (λ f. (by_of f).command ≤ (by_of event).command) (filter (is_of (by_of event).session) (events_in es)) (λ f k.
    let r = has_filter (is_of (by_of event).session) (events_in es) f k in
    let from = has_filter_map event_of es f r.0 in
    let his : by_of f ≡ from.0.by = own from.0 f from.1 from.2 in
    let session : (from.0.by.session == by.session) ≡ true = ap (λ (z : By). z.session == by.session) (sym his) ∙ ap (λ (z : By). (by_of f).session == z.session) (sym mine) ∙ r.1 in
    let le : from.0.by.command ≤ by.command = has_all (λ g. g.by.command ≤ by.command) (filter (λ g. g.by.session == by.session) es) after from.0 (filter_has (λ g. g.by.session == by.session) es from.0 from.1 session) in
    subst (λ (z : By). z.command ≤ (by_of event).command) (sym his) (subst (λ (z : By). from.0.by.command ≤ z.command) (sym mine) le))

events_kept : (start : Start) (seen lists : List (List Entry)) (lock : ℕ) (e : Entry) → Step start seen lists lock e → EventsLegal start (add lists lock e)
events_kept start seen lists lock e s = record {
  own = kept start seen lists lock e s NeedsOwn own_lasting s.k.events.own s.may.events.own;
  legal = dite (ℕ_discrete proc_lock lock)
      (λ (q : proc_lock ≡ lock).
      let same = seen_whole start seen lists lock e s q in
      let step : (o : Option Event) → event_of e ≡ o → IsLegal start.base (history lists ++ cons_option o []) = elim [
        | None ↦ λ g. subst (IsLegal start.base) (sym (append-nil (history lists))) s.k.events.legal
        | Some event ↦ λ g. let r = rule_of start seen lock (at seen lock) e event s.may.events (sym q) g in
            let own : NeedsOwn lists lock (at lists lock) e = need_now start seen lists lock e s NeedsOwn own_lasting s.may.events.own in
            let after : ComesAfter (at lists proc_lock) e.by = subst (λ z. ComesAfter (at lists z) e.by) (sym q) (comes_after start lists lock (at lists lock) e event g (need_now start seen lists lock e s (NeedsTurn start) (turns_lasting start) s.may.order.turn)) in
            legal_push start.base (history lists) event s.k.events.legal (subst (λ t. MayCome start.base t event) same r)
            (comes_in_turn start (at lists proc_lock) e.by event (λ f other k h. own_event lists proc_lock [] f other (upheld_has NeedsOwn lists proc_lock f s.k.events.own k).1 h) after (own_event lists lock (at lists lock) e event own g))
      ] in
      subst (IsLegal start.base) (sym (history_here start seen lists lock e s q)) (step (event_of e) refl))
      (λ n. subst (IsLegal start.base) (sym (history_off lists lock e n)) s.k.events.legal);
}

pages_kept : (start : Start) (seen lists : List (List Entry)) (lock : ℕ) (e : Entry) → Step start seen lists lock e → PagesBeforeIds start (add lists lock e)
pages_kept start seen lists lock e s = record {
  ids = kept start seen lists lock e s (NeedsPages start) (pages_lasting start) s.k.pages.ids s.may.pages.ids;
  changes = kept start seen lists lock e s (NeedsPlace start) (places_lasting start) s.k.pages.changes s.may.pages.changes;
  made = kept start seen lists lock e s (NeedsZero start) (zero_lasting start) s.k.pages.made s.may.pages.made;
}

status_kept : (start : Start) (seen lists : List (List Entry)) (lock : ℕ) (e : Entry) → Step start seen lists lock e → LogBeforeStatus start (add lists lock e)
status_kept start seen lists lock e s = record {
  logged = kept start seen lists lock e s (NeedsRecords start) (logged_lasting start) s.k.status.logged s.may.status.logged;
  tree = kept start seen lists lock e s (NeedsTree start) (tree_lasting start) s.k.status.tree s.may.status.tree;
}

order_kept : (start : Start) (seen lists : List (List Entry)) (lock : ℕ) (e : Entry) → Step start seen lists lock e → ProgramOrder start (add lists lock e)
order_kept start seen lists lock e s = record {
  turns = kept start seen lists lock e s (NeedsTurn start) (turns_lasting start) s.k.order.turns s.may.order.turn;
  stand = kept start seen lists lock e s (NeedsStand start) (stand_lasting start) s.k.order.stand s.may.order.stands;
}

log_kept : (start : Start) (seen lists : List (List Entry)) (lock : ℕ) (e : Entry) → Step start seen lists lock e → RecordsFollow start (add lists lock e)
log_kept start seen lists lock e s = record {
  counters = kept start seen lists lock e s (NeedsCounters start) (counters_lasting start) s.k.log.counters s.may.log.counters;
  named = kept start seen lists lock e s (NeedsNamed start) (named_lasting start) s.k.log.named s.may.log.named;
  flushed = kept start seen lists lock e s (NeedsFlush start) (flush_lasting start) s.k.log.flushed s.may.log.flushed;
}

members_kept : (start : Start) (seen lists : List (List Entry)) (lock : ℕ) (e : Entry) → Step start seen lists lock e → MembersBeforeOffset start (add lists lock e)
members_kept start seen lists lock e s = record {
  slots = kept start seen lists lock e s NeedsSlots slots_lasting s.k.members.slots s.may.members.slots;
  offsets = kept start seen lists lock e s (NeedsOffsets start) (offsets_lasting start) s.k.members.offsets s.may.members.offsets;
}

-- a record that the real lists have was seen by the session that appended it
no_record : (start : Start) (seen lists : List (List Entry)) (lock : ℕ) (e : Entry) (how : XactEnd) (by : By) (session top : ℕ) (subs : List ℕ) → Step start seen lists lock e → by ≡ e.by → by.session ≡ session
    → ((t : ℕ) (others : List ℕ) → IsAppended seen by.session (end_record how t others) → open_ids by.session (history seen) ≡ t ∷ others → ⊥) → IsAppended lists session (end_record how top subs) → open_ids session (history lists) ≡ top ∷ subs → ⊥
no_record start seen lists lock e how by session top subs s mine same may a q =
    let n : e.by.session ≡ by.session = ap (λ (z : By). z.session) (sym mine) in
    let known : Knows session_of by.session seen lists = subst (λ z. Knows session_of z seen lists) n s.knows in
    may top subs (own_appended by.session seen lists (end_record how top subs) known (subst (λ z. IsAppended lists z (end_record how top subs)) (sym same) a))
    (sym (open_seen start by.session seen lists s.k known) ∙ ap (λ z. open_ids z (history lists)) same ∙ q)

-- no id has both a commit record and an abort record
apart_ends : (start : Start) (lists : List (List Entry)) (m n top other : ℕ) (subs others : List ℕ) (id : ℕ) → EngineInvariant start lists → IsAppended lists m (records.Commit top subs) → Contains (top ∷ subs) id → IsAppended lists n (records.Abort other others) → Contains (other ∷ others) id → ⊥
apart_ends start lists m n top other subs others id k a c b d =
    let es = at lists log_lock in
    let commit : Entry = record { by = a.0; kind = kinds.Append (records.Commit top subs) } in
    let abort : Entry = record { by = b.0; kind = kinds.Append (records.Abort other others) } in
    let i = has_place es commit (contains_has es commit a.2) in
    let j = has_place es abort (contains_has es abort b.2) in
    ⊎_elim
    (λ (l : i.0 < j.0). (k.once.each.each log_lock j.0 abort j.1 id d).0 (record { by = a.0; top = top; subs = subs; stands = has_contains _ _ (taken_before es i.0 j.0 commit l i.1); among = c }))
    (λ r. ⊎_elim
    (λ (l : j.0 < i.0). (k.once.each.each log_lock i.0 commit i.1 id c).1 (record { by = b.0; top = other; subs = others; stands = has_contains _ _ (taken_before es j.0 i.0 abort l j.1); among = d }))
    (λ (same : i.0 ≡ j.0). two_kinds top other subs others (same_Some commit abort (sym i.1 ∙ (ap (λ z. slice_get es z) same ∙ j.1)))) r)
    (three i.0 j.0)
  where
    three : (i j : ℕ) → (i < j) ⊎ ((j < i) ⊎ (i ≡ j))
    three i j = grind arith

    two_kinds : {x y : By} (top other : ℕ) (subs others : List ℕ) → ◌≡◌ {A = Entry} (record { by = x; kind = kinds.Append (records.Commit top subs) }) (record { by = y; kind = kinds.Append (records.Abort other others) }) → ⊥
    two_kinds top other subs others q = let z : kinds.Append (records.Commit top subs) ≡ kinds.Append (records.Abort other others) = ap (λ (e : Entry). e.kind) q in cc

    -- an entry is among those before a later place
    taken_before : (es : List Entry) (i j : ℕ) (e : Entry) → i < j → slice_get es i ≡ Some e → Has (take j es) e
    taken_before [] zero j e l g = absurd cc
    taken_before [] (suc i) j e l g = absurd cc
    taken_before (x ∷ es) i zero e l g = absurd (omega arith)
    taken_before (x ∷ es) zero (suc j) e l g = inl (same_Some x e g)
    taken_before (x ∷ es) (suc i) (suc j) e l g = inr (taken_before es i j e (omega arith) g)

-- what the event of an entry does to a commit record of its session
leaves : (start : Start) (seen lists : List (List Entry)) (lock : ℕ) (e : Entry) (event : Event) (session top : ℕ) (subs : List ℕ) → Step start seen lists lock e → event_of e ≡ Some event → by_of event ≡ e.by → (by_of event).session ≡ session → MayCome start.base (history lists) event
    → LeavesRecords seen event → IsAppended lists session (records.Commit top subs) → open_ids session (history lists) ≡ top ∷ subs → Leaves ends.Commit (history lists) event top
leaves start seen lists lock e (events.Commit by t) session top subs s g mine same rule may a q =
    ap (λ z. events.Commit by z) (ends_own start.base (history lists) session t top subs s.k.events.legal (subst (λ z. Contains (open_ids z (history lists)) t) same rule.0) rule.1 q (s.k.records.exact session top subs a).root)
leaves start seen lists lock e (events.Sub by parent id) session top subs s g mine same rule may a q = no_record start seen lists lock e ends.Commit by session top subs s mine same may a q
leaves start seen lists lock e (events.Undo by id) session top subs s g mine same rule may a q = no_record start seen lists lock e ends.Commit by session top subs s mine same may a q
leaves start seen lists lock e (events.Abort by t) session top subs s g mine same rule may a q = absurd (no_record start seen lists lock e ends.Commit by session top subs s mine same may a q)
leaves start seen lists lock e (events.Id by id) session top subs s g mine same rule may a q = tt
leaves start seen lists lock e (events.Snap name by) session top subs s g mine same rule may a q = tt
leaves start seen lists lock e (events.SnapDrop name by) session top subs s g mine same rule may a q = tt
leaves start seen lists lock e (events.Oldest by oldest) session top subs s g mine same rule may a q = tt
leaves start seen lists lock e (events.Ask by id) session top subs s g mine same rule may a q = tt

-- and to an abort record: a commit event has its own record, of ids of which none has an abort record
leaves_abort : (start : Start) (seen lists : List (List Entry)) (lock : ℕ) (e : Entry) (event : Event) (session top : ℕ) (subs : List ℕ) → Step start seen lists lock e → event_of e ≡ Some event → by_of event ≡ e.by → (by_of event).session ≡ session → MayCome start.base (history lists) event
    → LeavesAborts seen event → NeedsStates start lists proc_lock (at lists proc_lock) e → IsAppended lists session (records.Abort top subs) → open_ids session (history lists) ≡ top ∷ subs → Leaves ends.Abort (history lists) event top
leaves_abort start seen lists lock e (events.Abort by t) session top subs s g mine same rule may states a q =
    ap (λ z. events.Abort by z) (ends_own start.base (history lists) session t top subs s.k.events.legal (subst (λ z. Contains (open_ids z (history lists)) t) same rule.0) rule.1 q (s.k.ends.exact session top subs a).root)
leaves_abort start seen lists lock e (events.Commit by t) session top subs s g mine same rule may states a q =
    let r = states_of start lists proc_lock (at lists proc_lock) e by t states g in
    let named : t ≡ top = ends_own start.base (history lists) session t top subs s.k.events.legal (subst (λ z. Contains (open_ids z (history lists)) t) same rule.0) rule.1 q (s.k.ends.exact session top subs a).root in
    absurd (apart_ends start lists by.session session t top r.0 subs t s.k r.1 (has_contains (t ∷ r.0) t (inl refl)) a (has_contains (top ∷ subs) t (inl (sym named))))
leaves_abort start seen lists lock e (events.Sub by parent id) session top subs s g mine same rule may states a q = no_record start seen lists lock e ends.Abort by session top subs s mine same may a q
leaves_abort start seen lists lock e (events.Undo by id) session top subs s g mine same rule may states a q = no_record start seen lists lock e ends.Abort by session top subs s mine same may a q
leaves_abort start seen lists lock e (events.Id by id) session top subs s g mine same rule may states a q = tt
leaves_abort start seen lists lock e (events.Snap name by) session top subs s g mine same rule may states a q = tt
leaves_abort start seen lists lock e (events.SnapDrop name by) session top subs s g mine same rule may states a q = tt
leaves_abort start seen lists lock e (events.Oldest by oldest) session top subs s g mine same rule may states a q = tt
leaves_abort start seen lists lock e (events.Ask by id) session top subs s g mine same rule may states a q = tt

-- a record of an end is whole with the entry, be it the entry's or an older one
whole_kept : (how : XactEnd) (start : Start) (seen lists : List (List Entry)) (lock : ℕ) (e : Entry) (session top : ℕ) (subs : List ℕ) → Step start seen lists lock e
    → (IsAppended lists session (end_record how top subs) → IsWholeIn how (history lists) session top subs)
    → ((event : Event) → proc_lock ≡ lock → event_of e ≡ Some event → by_of event ≡ e.by → (by_of event).session ≡ session → MayCome start.base (history lists) event → IsAppended lists session (end_record how top subs) → open_ids session (history lists) ≡ top ∷ subs → Leaves how (history lists) event top)
    → (lock ≡ log_lock → e.kind ≡ kinds.Append (end_record how top subs) → (open_ids e.by.session (history seen) ≡ top ∷ subs) × (is_top (history seen) top ≡ true))
    → IsAppended (add lists lock e) session (end_record how top subs) → IsWholeIn how (history (add lists lock e)) session top subs
whole_kept how start seen lists lock e session top subs s old left new a =
    dite (ℕ_discrete proc_lock lock)
    (λ (q : proc_lock ≡ lock).
    let same = seen_whole start seen lists lock e s q in
    let before : IsAppended lists session (end_record how top subs) = ⊎_elim (λ b. b) (λ b. absurd (let z : proc_lock ≡ log_lock = q ∙ b.0 in omega arith)) (appended_cases lists lock e session (end_record how top subs) s.inside a) in
    let exact = old before in
    let own : NeedsOwn lists lock (at lists lock) e = need_now start seen lists lock e s NeedsOwn own_lasting s.may.events.own in
    let step : (o : Option Event) → event_of e ≡ o → IsWholeIn how (history lists ++ cons_option o []) session top subs = elim [
      | None ↦ λ g. subst (λ t. IsWholeIn how t session top subs) (sym (append-nil (history lists))) exact
      | Some event ↦ λ g. let r = rule_of start seen lock (at seen lock) e event s.may.events (sym q) g in
          let rule = subst (λ t. MayCome start.base t event) same r in
          whole_push how start.base (history lists) event session top subs s.k.events.legal rule exact
          (λ n w. left event q g (own_event lists lock (at lists lock) e event own g) n rule before w)
    ] in
    subst (λ t. IsWholeIn how t session top subs) (sym (history_here start seen lists lock e s q)) (step (event_of e) refl))
    (λ n.
    let same : history (add lists lock e) ≡ history lists = history_off lists lock e n in
    subst (λ t. IsWholeIn how t session top subs) (sym same)
    (⊎_elim old
    (λ (b : (lock ≡ log_lock) × (e.by.session ≡ session) × (e.kind ≡ kinds.Append (end_record how top subs))).
    let r = new b.0 b.2 in
    record { root = root_seen start e.by.session top subs seen lists s.k s.knows r.0 r.1; ids = inl (ap (λ z. open_ids z (history lists)) (sym b.1) ∙ open_seen start e.by.session seen lists s.k s.knows ∙ r.0) })
    (appended_cases lists lock e session (end_record how top subs) s.inside a)))

records_kept : (start : Start) (seen lists : List (List Entry)) (lock : ℕ) (e : Entry) → Step start seen lists lock e → CommitRecordsExact start (add lists lock e)
records_kept start seen lists lock e s = record {
  parents = kept start seen lists lock e s (NeedsLinks start) (links_lasting start) s.k.records.parents s.may.records.parents;
  exact = λ session top subs a.
      whole_kept ends.Commit start seen lists lock e session top subs s (s.k.records.exact session top subs)
      (λ event q g mine same rule before w. leaves start seen lists lock e event session top subs s g mine same rule (leaves_of start seen lock (at seen lock) e event s.may.records (sym q) g) before w)
      (λ here is. ids_of_record start seen lock (at seen lock) e top subs s.may.records here is) a;
}

ends_kept : (start : Start) (seen lists : List (List Entry)) (lock : ℕ) (e : Entry) → Step start seen lists lock e → AbortRecordsExact (add lists lock e)
ends_kept start seen lists lock e s = record {
  exact = λ session top subs a.
      let states : NeedsStates start lists lock (at lists lock) e = need_now start seen lists lock e s (NeedsStates start) (states_lasting start) s.may.commits in
      whole_kept ends.Abort start seen lists lock e session top subs s (s.k.ends.exact session top subs)
      (λ event q g mine same rule before w. leaves_abort start seen lists lock e event session top subs s g mine same rule (aborts_of seen lock e event s.may.ends (sym q) g) (subst (λ z. NeedsStates start lists z (at lists z) e) (sym q) states) before w)
      (λ here is. ids_of_abort seen lock e top subs s.may.ends here is) a;
}

aborts_kept : (start : Start) (seen lists : List (List Entry)) (lock : ℕ) (e : Entry) → Step start seen lists lock e → AbortRule start (add lists lock e)
aborts_kept start seen lists lock e s = record {
  closed = kept start seen lists lock e s (NeedsAborts start) (aborts_lasting start) s.k.aborts.closed s.may.aborts.closed;
  given = kept start seen lists lock e s NeedsGiven given_lasting s.k.aborts.given s.may.aborts.given;
  asked = kept start seen lists lock e s NeedsAsked asked_lasting s.k.aborts.asked s.may.aborts.asked;
  final = kept start seen lists lock e s NeedsSame same_lasting s.k.aborts.final s.may.aborts.final;
  apart = λ session top subs id a c m.
      let rec : Rec = records.Commit top subs in
      let asks = asks_cases lists lock e session id states.Aborted s.inside m in
      ⊎_elim
      (λ (b : IsAppended lists session rec).
      ⊎_elim
      (λ old. s.k.aborts.apart session top subs id b c old)
      (λ (new : (e.by.session ≡ session) × (caller : By) × (caller.session ≡ session) × Has (asks_in e) (record { caller = caller; id = id; state = states.Aborted })).
      let mark : Mark = record { caller = new.1; id = id; state = states.Aborted } in
      let mine : IsAppended lists e.by.session rec = subst (λ z. IsAppended lists z rec) (sym new.0) b in
      unrecorded_of start seen lock (at seen lock) e mark s.may.aborts new.3 refl (new.2 ∙ sym new.0) top subs (own_appended e.by.session seen lists rec s.knows mine) c)
      asks)
      (λ (b : (lock ≡ log_lock) × (e.by.session ≡ session) × (e.kind ≡ kinds.Append rec)).
      ⊎_elim
      (λ old. unasked_of start seen lock (at seen lock) e top subs s.may.aborts b.0 b.2 id c (own_asks e.by.session id states.Aborted seen lists s.knows (subst (λ z. AsksAbort lists z id) (sym b.1) old)))
      (λ new. append_asks e rec (record { caller = new.1; id = id; state = states.Aborted }) b.2 new.3)
      asks)
      (appended_cases lists lock e session rec s.inside a);
}

pub keeps : (start : Start) (lists seen : List (List Entry)) (lock : ℕ) (e : Entry) → EngineInvariant start lists → Knows session_of (session_of e) seen lists → lock < length lists → at seen lock ≡ at lists lock → MayAdd start seen lock e → EngineInvariant start (add lists lock e)
keeps start lists seen lock e k knows inside whole may =
    let s : Step start seen lists lock e = record { k = k; knows = knows; inside = inside; whole = whole; may = may } in
    record {
      events = events_kept start seen lists lock e s;
      pages = pages_kept start seen lists lock e s;
      parents = record { each = kept start seen lists lock e s NeedsSubs subs_lasting k.parents.each may.parents };
      records = records_kept start seen lists lock e s;
      status = status_kept start seen lists lock e s;
      commits = record { each = kept start seen lists lock e s (NeedsStates start) (states_lasting start) k.commits.each may.commits };
      aborts = aborts_kept start seen lists lock e s;
      order = order_kept start seen lists lock e s;
      log = log_kept start seen lists lock e s;
      cuts = record { each = kept start seen lists lock e s (NeedsCut start) (cuts_lasting start) k.cuts.each may.cuts };
      multis = record { each = kept start seen lists lock e s (NeedsMulti start) (multis_lasting start) k.multis.each may.multis };
      members = members_kept start seen lists lock e s;
      syncs = record { each = kept start seen lists lock e s (NeedsSync start) (syncs_lasting start) k.syncs.each may.syncs };
      posts = record { each = kept start seen lists lock e s (NeedsPost start) (posts_lasting start) k.posts.each may.posts };
      faults = record { each = kept start seen lists lock e s (NeedsCount start) (faults_lasting start) k.faults.each may.faults };
      down = record { each = kept start seen lists lock e s NeedsUp down_lasting k.down.each may.down };
      once = record { each = kept start seen lists lock e s NeedsOnce once_lasting k.once.each may.once };
      ends = ends_kept start seen lists lock e s;
    }
