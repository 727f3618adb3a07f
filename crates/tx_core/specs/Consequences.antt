-- What follows from the invariant, of any lists that keep it.
use Rattle.std.specs.Prelude.{[], Contains, IsTrue, List, Some, length, min, slice_get, take, true, ℕ, ◌+◌, ◌++◌, ◌-◌, ◌<◌, ◌^◌, ◌∷◌, ◌≡◌, ◌≤◌, ◌⊎◌}
use Rattle.tx_events.specs.declared.event.By.{By}
use Rattle.tx_events.specs.declared.event.Event.{Event}
use Rattle.tx_events.specs.declared.event.Event.TheVariants as events
use Rattle.tx_events.specs.Base.{IsBase}
use Rattle.tx_events.specs.Events.{given_to}
use Rattle.tx_events.specs.History.{next_given}
use Rattle.tx_events.specs.Horizon.{LiveSnap, live_snaps, oldest_id, oldest_xmin}
use Rattle.tx_events.specs.Ids.{IsXidNumber}
use Rattle.tx_events.specs.Families.{enclosing}
use Rattle.tx_events.specs.Running.{open_ids}
use Rattle.tx_core.specs.declared.entry.Entry.{Entry}
use Rattle.tx_core.specs.declared.entry.Start.{Start}
use Rattle.tx_core.specs.declared.entry.State.{State}
use Rattle.tx_core.specs.AbortRule.{Asks}
use Rattle.tx_core.specs.CommitRecordsExact.{HasNoRecord}
use Rattle.tx_core.specs.EngineInvariant.{EngineInvariant}
use Rattle.tx_core.specs.Entries.{IsAppended, IsMarked, history, Stands, cut_in, flushed_to, last_from, records_of}
use Rattle.tx_core.specs.FaultsRise.{counts_in, faults_at, faults_told}
use Rattle.tx_core.specs.StaysDown.{is_down}
use Rattle.tx_core.specs.MultiEntries.{multi_history}
use Rattle.tx_core.specs.ProgramOrder.{IsOfHost}
use Rattle.notes.specs.Lists.{Grows, at}
use Rattle.tx_core.specs.Locks.{log_lock, oldest_word, subtrans_lock, subtrans_page, xact_lock, xact_page, xmin_word}
use Rattle.tx_core.specs.PostsFollow.{posts}
use Rattle.tx_core.specs.RecordsFollow.{AreNotBelow, IsGenOf, counters_after}
use Rattle.tx_events.specs.Multis.{AreLegalMultis, InBase, multi_counters}
use Rattle.tx_events.specs.declared.record.Counters.{Counters}
use Rattle.tx_events.specs.declared.multi.Member.{Member}
use Rattle.tx_events.specs.declared.multi.MultiEvent.TheVariants as multis
use Rattle.tx_core.specs.declared.entry.Kind.TheVariants as kinds
use Rattle.tx_events.specs.declared.record.Rec.{Rec}
use Rattle.tx_events.specs.declared.record.Rec.TheVariants as records
use Rattle.tx_core.specs.declared.entry.State.TheVariants as states

-- the entry is of the life's host, and one that it may add
abbrev pub IsHosts : Start → Entry → Type 0
IsHosts start e = (e.by.session ≡ start.sessions) × IsOfHost e.kind

-- each entry is of one of the life's sessions, or of its host
abbrev pub AreOfSessions : Start → List (List Entry) → Type 0
AreOfSessions start lists =
    (lock : ℕ) (e : Entry) → Contains (at lists lock) e → (e.by.session < start.sessions) ⊎ IsHosts start e

abbrev pub SessionsKnown : Type 0
SessionsKnown = (start : Start) (lists : List (List Entry)) → EngineInvariant start lists → AreOfSessions start lists

-- no id of a commit record was set aborted, for whatever session and by whatever session
abbrev pub NeverAborted : Type 0
NeverAborted = (start : Start) (lists : List (List Entry)) (session top : ℕ) (subs : List ℕ) (id : ℕ) →
    EngineInvariant start lists → IsAppended lists session (records.Commit top subs) → Contains (top ∷ subs) id → IsMarked start lists id states.Aborted → ⊥

-- an id of a commit record that was set committed, by whatever session, was asked to be so by the record's session
abbrev pub CommittedAsked : Type 0
CommittedAsked = (start : Start) (lists : List (List Entry)) (session top : ℕ) (subs : List ℕ) (id : ℕ) →
    EngineInvariant start lists → IsAppended lists session (records.Commit top subs) → Contains (top ∷ subs) id → IsMarked start lists id states.Committed
    → Asks lists session id states.Committed

-- a session asks for a state only of what it was given
abbrev pub AskedGiven : Type 0
AskedGiven = (start : Start) (lists : List (List Entry)) (session id : ℕ) (state : State) →
    EngineInvariant start lists → Asks lists session id state → Contains (given_to session (history lists)) id

-- The multixacts' list is one legal history.
abbrev pub MultisAreLegal : Type 0
MultisAreLegal = (start : Start) (lists : List (List Entry)) → EngineInvariant start lists → AreLegalMultis start.base (InBase start.base) (multi_history lists)

-- the records of the log don't raise the next id past those given
abbrev pub NextGiven : Type 0
NextGiven = (start : Start) (lists : List (List Entry)) → EngineInvariant start lists → IsBase start.base → (counters_after start (at lists log_lock)).next ≤ next_given start.base.next (history lists)

-- the oldest xmin never falls
abbrev pub HorizonRises : Type 0
HorizonRises = (start : Start) (lists more : List (List Entry)) → EngineInvariant start more → Grows lists more → IsBase start.base → oldest_xmin start.base.next (history lists) ≤ oldest_xmin start.base.next (history more)

-- the announced oldest id never falls
abbrev pub OldestRises : Type 0
OldestRises = (start : Start) (lists more : List (List Entry)) → EngineInvariant start more → Grows lists more → oldest_id start.base.oldest (history lists) ≤ oldest_id start.base.oldest (history more)

-- The oldest id that the word shows is that of a place of the history, and of none before the last event of what was seen
-- of the history by then. Where the life began with the number of an id, it is such a number too.
pub record IsShownBehind (start : Start) (seen lists : List (List Entry)) (number : ℕ) : Type 0 where
  pub place : ℕ
  pub late : length (history seen) ≤ place + 1
  pub within : place ≤ length (history lists)
  pub is : number ≡ oldest_id start.base.oldest (take place (history lists))
  pub form : IsXidNumber start.base.oldest → IsXidNumber number

abbrev pub OldestShown : Type 0
OldestShown = (start : Start) (seen lists : List (List Entry)) → EngineInvariant start lists → Grows seen lists
    → IsShownBehind start seen lists (last_from start.base.oldest (posts (at lists (oldest_word start))))

-- A published number that came behind another is that of a place no earlier.
abbrev pub IsLater : (List Event → ℕ) → List (List Entry) → ℕ → Type 0
IsLater shown lists lock = (i j m n p : ℕ) (a b : By) →
    slice_get (at lists lock) i ≡ Some (record { by = a; kind = kinds.Post m }) → slice_get (at lists lock) j ≡ Some (record { by = b; kind = kinds.Post n }) → i < j
    → p ≤ length (history lists) → m ≡ shown (take p (history lists))
    → (q : ℕ) × (p ≤ q) × (q ≤ length (history lists)) × (n ≡ shown (take q (history lists)))

abbrev pub PostsGoOn : Type 0
PostsGoOn = (start : Start) (lists : List (List Entry)) → EngineInvariant start lists → IsBase start.base
    → IsLater (oldest_id start.base.oldest) lists (oldest_word start) × IsLater (oldest_xmin start.base.next) lists (xmin_word start)

-- A page of pg_subtrans is never cut past the parent of an id that a live snapshot may ask for.
abbrev pub ParentsKept : Type 0
ParentsKept = (start : Start) (lists : List (List Entry)) (bank page x : ℕ) (e : Entry) (s : LiveSnap) →
    EngineInvariant start lists → IsBase start.base → Contains (at lists (subtrans_lock bank)) e → cut_in e.kind ≡ Some page
    → Contains (live_snaps start.base.next (history lists)) s → s.xmin ≤ x → page ≤ subtrans_page x

-- And one of pg_xact is never cut past the announced oldest id.
abbrev pub StatesKept : Type 0
StatesKept = (start : Start) (lists : List (List Entry)) (bank page : ℕ) (e : Entry) →
    EngineInvariant start lists → Contains (at lists (xact_lock bank)) e → cut_in e.kind ≡ Some page
    → page ≤ xact_page (oldest_id start.base.oldest (history lists))

-- An id that is open is not before the announced oldest one.
abbrev pub OpenKept : Type 0
OpenKept = (start : Start) (lists : List (List Entry)) (session x : ℕ) →
    EngineInvariant start lists → IsBase start.base → Contains (open_ids session (history lists)) x → oldest_id start.base.oldest (history lists) ≤ x

-- Where the pages told, and the life began with a recorded one, a multixact that it began with is announced with its
-- offset.
abbrev pub RaisesTold : Type 0
RaisesTold = (start : Start) (lists : List (List Entry)) (by : By) (multi offset : ℕ) →
    EngineInvariant start lists → IsTrue start.told → (rec : Rec) → Contains start.recorded rec
    → Contains (multi_history lists) (multis.Raise by multi offset) → multi < start.base.multi
    → (members : List Member) × Contains start.recorded (records.Multi multi offset members)

-- so an oldest xmin that was seen is not past the xmin of any snapshot that is live later
abbrev pub SnapshotsHold : Type 0
SnapshotsHold = (start : Start) (lists more : List (List Entry)) (s : LiveSnap) → EngineInvariant start more → Grows lists more → IsBase start.base → Contains (live_snaps start.base.next (history more)) s
    → oldest_xmin start.base.next (history lists) ≤ s.xmin

-- The volume's count has risen by no less than the faults that its list tells: what was told last is past the count at
-- the start by their number, or the greatest 64-bit number.
abbrev pub FaultsCounted : Type 0
FaultsCounted = (start : Start) (lists : List (List Entry)) (lock : ℕ) → EngineInvariant start lists
    → min (faults_at start lock + length (counts_in (at lists lock))) (2 ^ 64 - 1) ≤ faults_told start lock (at lists lock)

-- The last flush reached the furthest, and no further than the records.
pub record IsLastFlush (start : Start) (lists : List (List Entry)) (flushed : ℕ) : Type 0 where
  pub from : start.from ≤ flushed
  pub within : flushed ≤ start.from + length (records_of lists)
  pub greatest : (to : ℕ) → Stands lists log_lock (kinds.Flush to) → to ≤ flushed

abbrev pub FlushesRise : Type 0
FlushesRise = (start : Start) (lists : List (List Entry)) → EngineInvariant start lists
    → IsLastFlush start lists (flushed_to start (at lists log_lock))

-- A transaction that counts as committed has its record on disk: below the last flush, in these lists and so in all
-- later ones.
abbrev pub CommitsAreFlushed : Type 0
CommitsAreFlushed = (start : Start) (lists : List (List Entry)) (by : By) (top : ℕ) → EngineInvariant start lists
    → Contains (history lists) (events.Commit by top)
    → (n : ℕ) × (other : By) × (subs : List ℕ) × (other.session ≡ by.session)
    × (slice_get (records_of lists) n ≡ Some (other, records.Commit top subs))
    × (start.from + n < flushed_to start (at lists log_lock))

-- A log that is down has the same records from then on, and no more of them are flushed.
abbrev pub DownStays : Type 0
DownStays = (start : Start) (lists more : List (List Entry)) → EngineInvariant start more → Grows lists more
    → is_down (at lists log_lock) ≡ true
    → (records_of more ≡ records_of lists)
    × (flushed_to start (at more log_lock) ≡ flushed_to start (at lists log_lock))

-- the counters that the ProcArray's list and the multixacts' list give
abbrev pub counters_now : Start → List (List Entry) → Counters
counters_now start lists = record (multi_counters start.base (multi_history lists)) {
  next = next_given start.base.next (history lists);
  oldest = oldest_id start.base.oldest (history lists);
}

-- No counter of the log is past them. So a checkpoint of these counters is not below the log's.
abbrev pub LogIsBehind : Type 0
LogIsBehind = (start : Start) (lists : List (List Entry)) → EngineInvariant start lists → IsBase start.base
    → AreNotBelow (counters_after start (at lists log_lock)) (counters_now start lists)

-- The log's counters behind a checkpoint are the checkpoint's own.
abbrev pub CheckpointsTell : Type 0
CheckpointsTell = (start : Start) (lists : List (List Entry)) (before rest : List Entry) (by : By) (number : ℕ) (counters : Counters) →
    EngineInvariant start lists
    → at lists log_lock ≡ before ++ record { by = by; kind = kinds.Append (records.Checkpoint number counters) } ∷ rest
    → counters_after start (before ++ record { by = by; kind = kinds.Append (records.Checkpoint number counters) } ∷ [])
    ≡ counters

-- What a session's record names was given to it. So none of its records names what it is given later.
pub record AreGiven (lists : List (List Entry)) (session : ℕ) : Type 0 where
  pub commit : (top : ℕ) (subs : List ℕ) (id : ℕ) → IsAppended lists session (records.Commit top subs)
      → Contains (top ∷ subs) id → Contains (given_to session (history lists)) id
  pub abort : (top : ℕ) (subs : List ℕ) (id : ℕ) → IsAppended lists session (records.Abort top subs)
      → Contains (top ∷ subs) id → Contains (given_to session (history lists)) id
  pub multi : (multi offset : ℕ) (members : List Member) → IsAppended lists session (records.Multi multi offset members)
      → IsGenOf lists session multi offset members

abbrev pub RecordsGiven : Type 0
RecordsGiven = (start : Start) (lists : List (List Entry)) (session : ℕ) → EngineInvariant start lists → AreGiven lists session

-- What a commit record names was set committed, unless the record waits for its commit event. So a checkpoint that finds
-- none waiting puts on disk what the records before it name.
abbrev pub RecordsShown : Type 0
RecordsShown = (start : Start) (lists : List (List Entry)) (session top : ℕ) (subs : List ℕ) (id : ℕ) →
    EngineInvariant start lists → HasNoRecord lists session → IsAppended lists session (records.Commit top subs) → Contains (top ∷ subs) id
    → IsMarked start lists id states.Committed

-- What an undo of the history closes was set aborted before: what its session has open and the undone id encloses. So was
-- what an abort closes, all that its session has open.
abbrev pub ClosedAborted : Type 0
ClosedAborted = (start : Start) (lists : List (List Entry)) (by : By) (id x p : ℕ) →
    EngineInvariant start lists → Contains (open_ids by.session (take p (history lists))) x
    → (slice_get (history lists) p ≡ Some (events.Undo by id) → Contains (enclosing (take p (history lists)) x) id → IsMarked start lists x states.Aborted)
    × (slice_get (history lists) p ≡ Some (events.Abort by id) → IsMarked start lists x states.Aborted)

-- Where a top was set committed, each of its subtransactions on another page was set sub-committed.
abbrev pub SubsBefore : Type 0
SubsBefore = (start : Start) (lists : List (List Entry)) (session top : ℕ) (subs : List ℕ) (id : ℕ) →
    EngineInvariant start lists → IsAppended lists session (records.Commit top subs) → Contains subs id
    → IsMarked start lists top states.Committed → (xact_page id ≡ xact_page top → ⊥) → IsMarked start lists id states.SubCommitted

-- Where a subtransaction on another page than its top was set committed, the top was.
abbrev pub TopsFirst : Type 0
TopsFirst = (start : Start) (lists : List (List Entry)) (session top : ℕ) (subs : List ℕ) (id : ℕ) →
    EngineInvariant start lists → IsAppended lists session (records.Commit top subs) → Contains subs id
    → IsMarked start lists id states.Committed → (xact_page id ≡ xact_page top → ⊥) → IsMarked start lists top states.Committed
