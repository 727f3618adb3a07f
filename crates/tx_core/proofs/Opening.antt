-- The invariant holds before the first entry. Entries are of the life's sessions or its host, and commits and aborts are apart.
use Rattle.std.proofs.Common.{Contains, List, None, Some, [], ap, inl, inr, subst, sym, ℕ, ⊎_elim, ◌∙◌, ◌∷◌, ◌≡◌}
use Rattle.std.specs.List.{slice_get}
use Rattle.tx_events.proofs.GivenIds.{one_session}
use Rattle.tx_events.proofs.Membership.{Has, contains_has, has_contains, has_flat_map}
use Rattle.tx_events.proofs.PlaceLemmas.{each_place_none}
use Rattle.tx_events.specs.Events.{given_to}
use Rattle.tx_events.specs.Families.{top}
use Rattle.tx_events.specs.History.{ComesInTurn, IsLegal, MayCome}
use Rattle.tx_core.specs.declared.entry.Entry.{Entry}
use Rattle.tx_core.specs.declared.entry.Start.{Start}
use Rattle.tx_core.specs.declared.entry.State.{State}
use Rattle.tx_core.proofs.Asking.{asked_of, asks_marks, given_of, upheld_has}
use Rattle.tx_core.proofs.Exactness.{exact_given}
use Rattle.tx_core.specs.AbortRule.{AskedOf, Asks, NeedsAborts, NeedsAsked, NeedsGiven, NeedsSame}
use Rattle.tx_core.specs.CommitRecordsExact.{NeedsLinks}
use Rattle.tx_core.specs.EngineInvariant.{EngineInvariant}
use Rattle.tx_core.specs.Entries.{IsAppended, IsMarked, Mark, asks_in, events_in, history, marks, marks_in}
use Rattle.tx_core.specs.EventsLegal.{NeedsOwn}
use Rattle.tx_core.specs.Laws.{Opens}
use Rattle.tx_core.specs.Consequences.{AskedGiven, CommittedAsked, NeverAborted, SessionsKnown}
use Rattle.notes.specs.Lists.{at}
use Rattle.tx_core.specs.Lists.{Upheld}
use Rattle.tx_core.specs.Locks.{log_lock, proc_lock, xact_lock_of}
use Rattle.tx_core.specs.LogBeforeStatus.{NeedsRecords, NeedsTree}
use Rattle.tx_core.specs.PagesBeforeIds.{NeedsPages, NeedsPlace, NeedsZero}
use Rattle.tx_core.specs.ParentsFollow.{NeedsSubs}
use Rattle.tx_core.specs.ProgramOrder.{IsHostsTurn, IsInTurn, IsOfHost, NeedsStand, NeedsTurn}
use Rattle.tx_core.specs.RecordsFollow.{NeedsCounters, NeedsFlush, NeedsNamed}
use Rattle.tx_core.specs.CutsFollow.{NeedsCut}
use Rattle.tx_core.specs.MultisLegal.{NeedsMulti}
use Rattle.tx_core.specs.MembersBeforeOffset.{NeedsOffsets, NeedsSlots}
use Rattle.tx_core.specs.SyncsBeforeForgets.{NeedsSync}
use Rattle.tx_core.specs.PostsFollow.{NeedsPost}
use Rattle.tx_core.specs.FaultsRise.{NeedsCount}
use Rattle.tx_core.specs.StaysDown.{NeedsUp}
use Rattle.tx_core.specs.RecordsOnce.{NeedsOnce}
use Rattle.tx_core.specs.StatusBeforeCommit.{NeedsStates}
use Rattle.tx_core.specs.declared.entry.Kind.TheVariants as kinds
use Rattle.tx_events.specs.declared.record.Rec.TheVariants as records
use Rattle.tx_core.specs.declared.entry.State.TheVariants as states

nothing_upheld : (Need : List (List Entry) → ℕ → List Entry → Entry → Type 0) (lists : List (List Entry)) → ((lock : ℕ) → at lists lock ≡ []) → Upheld Need lists
nothing_upheld Need lists empty = record { each = λ lock p e g. let z : None ≡ Some e = sym (ap (λ (t : List Entry). slice_get t p) (empty lock)) ∙ g in absurd cc }

pub opens : Opens
opens start lists empty =
    let none : history lists ≡ [] = ap events_in (empty proc_lock) in
    let no : (e : Entry) → Contains (at lists log_lock) e → ⊥ = λ e c. subst (λ (t : List Entry). Has t e) (empty log_lock) (contains_has (at lists log_lock) e c) in
    record {
      events = record { legal = subst (IsLegal start.base) (sym none) (record { rules = each_place_none (MayCome start.base); turns = each_place_none ComesInTurn }); own = nothing_upheld NeedsOwn lists empty };
      pages = record { ids = nothing_upheld (NeedsPages start) lists empty; changes = nothing_upheld (NeedsPlace start) lists empty; made = nothing_upheld (NeedsZero start) lists empty };
      parents = record { each = nothing_upheld NeedsSubs lists empty };
      records = record { exact = λ session top subs a. absurd (no (record { by = a.0; kind = kinds.Append (records.Commit top subs) }) a.2); parents = nothing_upheld (NeedsLinks start) lists empty };
      status = record { logged = nothing_upheld (NeedsRecords start) lists empty; tree = nothing_upheld (NeedsTree start) lists empty };
      commits = record { each = nothing_upheld (NeedsStates start) lists empty };
      aborts = record {
        closed = nothing_upheld (NeedsAborts start) lists empty;
        given = nothing_upheld NeedsGiven lists empty;
        asked = nothing_upheld NeedsAsked lists empty;
        apart = λ session top subs id a c m. no (record { by = a.0; kind = kinds.Append (records.Commit top subs) }) a.2;
        final = nothing_upheld NeedsSame lists empty;
      };
      order = record { turns = nothing_upheld (NeedsTurn start) lists empty; stand = nothing_upheld (NeedsStand start) lists empty };
      log = record { counters = nothing_upheld (NeedsCounters start) lists empty; named = nothing_upheld (NeedsNamed start) lists empty; flushed = nothing_upheld (NeedsFlush start) lists empty };
      cuts = record { each = nothing_upheld (NeedsCut start) lists empty };
      multis = record { each = nothing_upheld (NeedsMulti start) lists empty };
      members = record { slots = nothing_upheld NeedsSlots lists empty; offsets = nothing_upheld (NeedsOffsets start) lists empty };
      syncs = record { each = nothing_upheld (NeedsSync start) lists empty };
      posts = record { each = nothing_upheld (NeedsPost start) lists empty };
      faults = record { each = nothing_upheld (NeedsCount start) lists empty };
      down = record { each = nothing_upheld NeedsUp lists empty };
      once = record { each = nothing_upheld NeedsOnce lists empty };
      ends = record { exact = λ session top subs a. absurd (no (record { by = a.0; kind = kinds.Append (records.Abort top subs) }) a.2) };
    }

pub sessions_known : SessionsKnown
sessions_known start lists k lock e c =
    let turn = upheld_has (NeedsTurn start) lists lock e k.order.turns (contains_has (at lists lock) e c) in
    ⊎_elim (λ (t : IsInTurn start turn.0 e.by). inl t.known) (λ (t : IsHostsTurn start e.by × IsOfHost e.kind). inr (t.0.known, t.1)) turn.1

pub asked_given : AskedGiven
asked_given start lists session id state k a =
    let mark : Mark = record { caller = a.caller; id = id; state = state } in
    subst (λ z. Contains (given_to z (history lists)) id) a.same
    (given_of lists a.lock [] a.entry mark (upheld_has NeedsGiven lists a.lock a.entry k.aborts.given (contains_has (at lists a.lock) a.entry a.stands)).1 (contains_has (asks_in a.entry) mark a.asks))

-- a state that was set of an id of a commit record was asked for by the record's session
state_asked : (start : Start) (lists : List (List Entry)) (session top : ℕ) (subs : List ℕ) (id : ℕ) (state : State) → EngineInvariant start lists → IsAppended lists session (records.Commit top subs) → Contains (top ∷ subs) id → IsMarked start lists id state → Asks lists session id state
state_asked start lists session top subs id state k a c m =
    let lock : ℕ = xact_lock_of start id in
    let mark : Mark = record { caller = m.0; id = id; state = state } in
    let found = has_flat_map marks_in (at lists lock) mark (contains_has (marks (at lists lock)) mark m.1) in
    let asked : AskedOf lists found.0.by.session mark = asked_of lists lock [] found.0 mark (upheld_has NeedsAsked lists lock found.0 k.aborts.asked found.1).1 found.2 in
    let his : Has (given_to m.0.session (history lists)) id =
    contains_has (given_to m.0.session (history lists)) id (given_of lists lock [] found.0 mark (upheld_has NeedsGiven lists lock found.0 k.aborts.given found.1).1 (asks_marks found.0 mark found.2)) in
    let mine : Has (given_to session (history lists)) id = exact_given (history lists) session top subs id (k.records.exact session top subs a) c in
    let same : m.0.session ≡ session = one_session start.base (history lists) k.events.legal m.0.session session id his mine in
    ⊎_elim
    (λ (own : m.0.session ≡ found.0.by.session).
    record {
      lock = lock;
      entry = found.0;
      stands = has_contains (at lists lock) found.0 found.1;
      own = sym own ∙ same;
      caller = m.0;
      same = same;
      asks = has_contains (asks_in found.0) mark (asks_marks found.0 mark found.2);
    })
    (λ (other : Asks lists m.0.session id state). subst (λ z. Asks lists z id state) same other)
    asked

pub never_aborted : NeverAborted
never_aborted start lists session top subs id k a c m = k.aborts.apart session top subs id a c (state_asked start lists session top subs id states.Aborted k a c m)

pub committed_asked : CommittedAsked
committed_asked start lists session top subs id = state_asked start lists session top subs id states.Committed
