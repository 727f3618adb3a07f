-- What the laws say: each kind of entry, with what its session needs of the lists that it has seen, keeps the invariant.
use Rattle.std.specs.List.{filter_map}
use Rattle.std.specs.Prelude.{Contains, IfSome, List, None, Option, [], length, map, true, ℕ, ◌+◌, ◌<◌, ◌∷◌, ◌≡◌, ◌≤◌, ◌⊎◌}
use Rattle.tx_events.specs.declared.event.By.{By}
use Rattle.tx_events.specs.declared.multi.MultiEvent.{MultiEvent}
use Rattle.tx_events.specs.declared.record.Rec.{Rec}
use Rattle.tx_events.specs.Base.{IsBase}
use Rattle.tx_events.specs.Events.{given_to}
use Rattle.tx_events.specs.Families.{enclosing, is_top}
use Rattle.tx_events.specs.History.{MayCome, next_given}
use Rattle.tx_events.specs.Horizon.{oldest_id, oldest_xmin}
use Rattle.tx_events.specs.Running.{open_ids}
use Rattle.tx_core.specs.declared.entry.Change.{Change}
use Rattle.tx_core.specs.declared.entry.Entry.{Entry}
use Rattle.tx_core.specs.declared.entry.Kind.{Kind}
use Rattle.tx_core.specs.declared.entry.LogCall.{LogCall}
use Rattle.tx_core.specs.declared.entry.Start.{Start}
use Rattle.tx_core.specs.declared.entry.State.{State}
use Rattle.tx_core.specs.AbortRule.{AskUnrecorded, AskedOf, AsksAbort, GivenOf, IsSameAfter}
use Rattle.tx_core.specs.CommitRecordsExact.{HasNoRecord}
use Rattle.tx_core.specs.EngineInvariant.{EngineInvariant, MayAdd}
use Rattle.tx_core.specs.FaultsRise.{faults_told}
use Rattle.tx_core.specs.StaysDown.{IsUp, UpOf}
use Rattle.tx_core.specs.RecordsOnce.{HasNoAbort, HasNoMulti}
use Rattle.tx_core.specs.AbortRecordsExact.{HasNoAbortRecord}
use Rattle.tx_events.specs.Ids.{IsFullId, IsXidNumber}
use Rattle.disk_core.specs.Faults.{HasRisen}
use Rattle.tx_core.specs.Entries.{IsAppended, IsLinked, IsMarked, Link, Mark, history, link_of, mark_of, marks, records_of, session_of, flushed_to}
use Rattle.tx_core.specs.MultiEntries.{SetOffset, SetSlot, multi_history, offset_of, slot_of}
use Rattle.notes.specs.Lists.{Knows, add, at}
use Rattle.tx_core.specs.Locks.{IsPageLock, first_request, log_lock, member_page_in_full, offset_page, multi_lock, oldest_word, proc_lock, subtrans_lock, subtrans_lock_of, subtrans_page, xact_lock, xact_lock_of, xact_page, xmin_word}
use Rattle.tx_core.specs.LogBeforeStatus.{InTree, IsDurable, RecordOf, TreeOf}
use Rattle.tx_core.specs.PagesBeforeIds.{IsMade, IsTold, IsWanted, WasMade}
use Rattle.tx_core.specs.ParentsFollow.{IsGivenBelow}
use Rattle.tx_core.specs.ProgramOrder.{AreCallers, AreOn, IsHostsTurn, IsInTurn}
use Rattle.tx_core.specs.RecordsFollow.{CheckpointOf, IsGenOf, IsMultiAnnounced, IsOldestAnnounced, counters_after}
use Rattle.tx_core.specs.CutsFollow.{CutBy}
use Rattle.tx_core.specs.PostsFollow.{IsShown}
use Rattle.tx_core.specs.MultisLegal.{ToldOf}
use Rattle.tx_core.specs.MembersBeforeOffset.{OffsetOf, SlotOf}
use Rattle.tx_core.specs.SyncsBeforeForgets.{ForgetOf, MayForget}
use Rattle.tx_events.specs.After.{after_record, ids_of}
use Rattle.tx_events.specs.Multis.{InBase, MultiMayCome, multi_by}
use Rattle.tx_events.specs.declared.multi.Member.{Member}
use Rattle.tx_events.specs.declared.record.Counters.{Counters}
use Rattle.tx_core.specs.declared.entry.Change.TheVariants as changes
use Rattle.tx_events.specs.declared.event.Event.TheVariants as events
use Rattle.tx_core.specs.declared.entry.Kind.TheVariants as kinds
use Rattle.tx_events.specs.declared.record.Rec.TheVariants as records
use Rattle.tx_core.specs.declared.entry.State.TheVariants as states

-- From any lists that meet the invariant and any beginnings of them that the session has seen, its own entries all seen
-- and this lock's list whole, an entry that may be added keeps the invariant. The form is that of the lock table's law.
abbrev pub Keeps : Type 0
Keeps =
    (start : Start) (lists seen : List (List Entry)) (lock : ℕ) (e : Entry) → EngineInvariant start lists → Knows session_of (session_of e) seen lists → lock < length lists → at seen lock ≡ at lists lock → MayAdd start seen lock e
    → EngineInvariant start (add lists lock e)

-- the same of one kind, which the command `by` of one of the life's sessions adds in its turn
abbrev pub KindKeeps : Start → List (List Entry) → ℕ → By → Kind → Type 0
KindKeeps start seen lock by kind =
    (lists : List (List Entry)) → EngineInvariant start lists → Knows session_of by.session seen lists → lock < length lists → at seen lock ≡ at lists lock → IsInTurn start (at seen lock) by
    → EngineInvariant start (add lists lock (record { by = by; kind = kind }))

-- and of one that the life's host adds in its turn
abbrev pub HostKindKeeps : Start → List (List Entry) → ℕ → By → Kind → Type 0
HostKindKeeps start seen lock by kind =
    (lists : List (List Entry)) → EngineInvariant start lists → Knows session_of by.session seen lists → lock < length lists → at seen lock ≡ at lists lock → IsHostsTurn start by
    → EngineInvariant start (add lists lock (record { by = by; kind = kind }))

-- before the first entry
abbrev pub Opens : Type 0
Opens = (start : Start) (lists : List (List Entry)) → ((lock : ℕ) → at lists lock ≡ []) → EngineInvariant start lists

-- with this record more the log's counters are a base
abbrev pub StaysBase : Start → List (List Entry) → Rec → Type 0
StaysBase start seen rec = IsBase (after_record (counters_after start (at seen log_lock)) rec)

-- The log. A commit record names all that its session has open; the parents of the subtransactions were set. The session
-- asked for no abort of any of them, and has no other record of any of them.
abbrev pub CommitRecordKeeps : Type 0
CommitRecordKeeps = (start : Start) (seen : List (List Entry)) (by : By) (top : ℕ) (subs : List ℕ) →
    open_ids by.session (history seen) ≡ top ∷ subs
    → is_top (history seen) top ≡ true
    → ((id : ℕ) → Contains subs id → (parent : ℕ) × IsLinked start seen id parent)
    → ((id : ℕ) → Contains (top ∷ subs) id → AsksAbort seen by.session id → ⊥)
    → HasNoRecord seen by.session
    → ((id : ℕ) → Contains (top ∷ subs) id → HasNoAbort seen by.session id)
    → StaysBase start seen (records.Commit top subs)
    → IsUp (at seen log_lock)
    → KindKeeps start seen log_lock by (kinds.Append (records.Commit top subs))

-- So an abort record. The session has no other record of any of its ids.
abbrev pub AbortRecordKeeps : Type 0
AbortRecordKeeps = (start : Start) (seen : List (List Entry)) (by : By) (top : ℕ) (subs : List ℕ) →
    open_ids by.session (history seen) ≡ top ∷ subs
    → is_top (history seen) top ≡ true
    → HasNoRecord seen by.session
    → ((id : ℕ) → Contains (top ∷ subs) id → HasNoAbort seen by.session id)
    → StaysBase start seen (records.Abort top subs)
    → IsUp (at seen log_lock)
    → KindKeeps start seen log_lock by (kinds.Append (records.Abort top subs))

-- the multixact was given to the session, which has no record of it yet, and its members are full ids that were given
abbrev pub MultiRecordKeeps : Type 0
MultiRecordKeeps = (start : Start) (seen : List (List Entry)) (by : By) (multi offset : ℕ) (members : List Member) →
    StaysBase start seen (records.Multi multi offset members)
    → IsGenOf seen by.session multi offset members
    → ((id : ℕ) → Contains (ids_of members) id → id < next_given start.base.next (history seen))
    → ((id : ℕ) → Contains (ids_of members) id → IsFullId id)
    → HasNoMulti seen by.session multi
    → IsUp (at seen log_lock)
    → KindKeeps start seen log_lock by (kinds.Append (records.Multi multi offset members))

abbrev pub CheckpointRecordKeeps : Type 0
CheckpointRecordKeeps = (start : Start) (seen : List (List Entry)) (by : By) (number : ℕ) (counters : Counters) →
    StaysBase start seen (records.Checkpoint number counters)
    → CheckpointOf start seen (at seen log_lock) number counters
    → IsUp (at seen log_lock)
    → KindKeeps start seen log_lock by (kinds.Append (records.Checkpoint number counters))

-- what a truncation names was announced
abbrev pub TruncateRecordKeeps : Type 0
TruncateRecordKeeps = (start : Start) (seen : List (List Entry)) (by : By) (oldest multi offset : ℕ) →
    StaysBase start seen (records.Truncate oldest multi offset)
    → IsOldestAnnounced start seen oldest
    → IsMultiAnnounced start seen multi offset
    → IsUp (at seen log_lock)
    → KindKeeps start seen log_lock by (kinds.Append (records.Truncate oldest multi offset))

-- A flush is of records that stand, and of no fewer than the flush before it. A log that is down flushes nothing.
abbrev pub FlushKeeps : Type 0
FlushKeeps = (start : Start) (seen : List (List Entry)) (by : By) (to : ℕ) →
    flushed_to start (at seen log_lock) ≤ to
    → to ≤ start.from + length (records_of seen)
    → IsUp (at seen log_lock)
    → KindKeeps start seen log_lock by (kinds.Flush to)

-- the log is forgotten up to a checkpoint on disk, when all that it would restore is on disk
abbrev pub ForgetKeeps : Type 0
ForgetKeeps = (start : Start) (seen : List (List Entry)) (by : By) (number : ℕ) →
    MayForget start seen (at seen log_lock) number → IsUp (at seen log_lock) → KindKeeps start seen log_lock by (kinds.Forget number)

-- A forget that failed may have been done. The count of faults has risen.
abbrev pub LogFaultKeeps : Type 0
LogFaultKeeps = (start : Start) (seen : List (List Entry)) (by : By) (asked : LogCall) (count : ℕ) →
    ForgetOf start seen (at seen log_lock) (kinds.LogFault asked count)
    → UpOf (at seen log_lock) (kinds.LogFault asked count)
    → HasRisen (faults_told start log_lock (at seen log_lock)) count
    → KindKeeps start seen log_lock by (kinds.LogFault asked count)

-- The ProcArray. An event comes when the oldest id was published as it is by then. An id comes next, and its pages are made.
abbrev pub IdEventKeeps : Type 0
IdEventKeeps = (start : Start) (seen : List (List Entry)) (by : By) (id : ℕ) →
    IsShown start seen → MayCome start.base (history seen) (events.Id by id) → IsMade start seen id → IsTold start (at seen proc_lock) id
    → KindKeeps start seen proc_lock by (kinds.Event (events.Id by id))

-- the session has no record of what it has open
abbrev pub SubEventKeeps : Type 0
SubEventKeeps = (start : Start) (seen : List (List Entry)) (by : By) (parent id : ℕ) →
    IsShown start seen → MayCome start.base (history seen) (events.Sub by parent id) → IsMade start seen id → IsTold start (at seen proc_lock) id → HasNoRecord seen by.session → HasNoAbortRecord seen by.session
    → KindKeeps start seen proc_lock by (kinds.Event (events.Sub by parent id))

-- what the undo closes was set aborted
abbrev pub UndoEventKeeps : Type 0
UndoEventKeeps = (start : Start) (seen : List (List Entry)) (by : By) (id : ℕ) →
    IsShown start seen → MayCome start.base (history seen) (events.Undo by id) → HasNoRecord seen by.session → HasNoAbortRecord seen by.session
    → ((x : ℕ) → Contains (open_ids by.session (history seen)) x → Contains (enclosing (history seen) x) id → IsMarked start seen x states.Aborted)
    → KindKeeps start seen proc_lock by (kinds.Event (events.Undo by id))

-- the record stands, and all of its ids were set committed
abbrev pub CommitEventKeeps : Type 0
CommitEventKeeps = (start : Start) (seen : List (List Entry)) (by : By) (top : ℕ) (subs : List ℕ) →
    IsShown start seen → MayCome start.base (history seen) (events.Commit by top) → IsAppended seen by.session (records.Commit top subs)
    → ((id : ℕ) → Contains (top ∷ subs) id → IsMarked start seen id states.Committed)
    → KindKeeps start seen proc_lock by (kinds.Event (events.Commit by top))

abbrev pub AbortEventKeeps : Type 0
AbortEventKeeps = (start : Start) (seen : List (List Entry)) (by : By) (top : ℕ) →
    IsShown start seen → MayCome start.base (history seen) (events.Abort by top) → HasNoRecord seen by.session
    → ((x : ℕ) → Contains (open_ids by.session (history seen)) x → IsMarked start seen x states.Aborted)
    → KindKeeps start seen proc_lock by (kinds.Event (events.Abort by top))

abbrev pub SnapEventKeeps : Type 0
SnapEventKeeps = (start : Start) (seen : List (List Entry)) (by : By) (name : List ℕ) →
    IsShown start seen → MayCome start.base (history seen) (events.Snap name by) → KindKeeps start seen proc_lock by (kinds.Event (events.Snap name by))

abbrev pub SnapDropKeeps : Type 0
SnapDropKeeps = (start : Start) (seen : List (List Entry)) (by : By) (name : List ℕ) →
    IsShown start seen → MayCome start.base (history seen) (events.SnapDrop name by) → KindKeeps start seen proc_lock by (kinds.Event (events.SnapDrop name by))

abbrev pub OldestKeeps : Type 0
OldestKeeps = (start : Start) (seen : List (List Entry)) (by : By) (oldest : ℕ) →
    IsShown start seen → MayCome start.base (history seen) (events.Oldest by oldest) → KindKeeps start seen proc_lock by (kinds.Event (events.Oldest by oldest))

abbrev pub AskKeeps : Type 0
AskKeeps = (start : Start) (seen : List (List Entry)) (by : By) (id : ℕ) →
    IsShown start seen → MayCome start.base (history seen) (events.Ask by id) → KindKeeps start seen proc_lock by (kinds.Event (events.Ask by id))

-- both pages of the id are made, and it isn't past the next one
abbrev pub MadeKeeps : Type 0
MadeKeeps = (start : Start) (seen : List (List Entry)) (by : By) (id : ℕ) →
    IsMade start seen id → id ≤ next_given start.base.next (history seen) → KindKeeps start seen proc_lock by (kinds.Made id)

-- the multixacts; one that the life began with is announced with its offset, where the pages told it
abbrev pub MultiEventKeeps : Type 0
MultiEventKeeps = (start : Start) (seen : List (List Entry)) (by : By) (event : MultiEvent) →
    multi_by event ≡ by → MultiMayCome start.base (InBase start.base) (multi_history seen) event → ToldOf start event → KindKeeps start seen multi_lock by (kinds.Multi event)

-- The published words. Whoever is inside the ProcArray's lock publishes what the history shows at its end.
abbrev pub OldestPostKeeps : Type 0
OldestPostKeeps = (start : Start) (seen : List (List Entry)) (by : By) →
    EngineInvariant start seen → IsXidNumber (oldest_id start.base.oldest (history seen)) → KindKeeps start seen (oldest_word start) by (kinds.Post (oldest_id start.base.oldest (history seen)))

abbrev pub XminPostKeeps : Type 0
XminPostKeeps = (start : Start) (seen : List (List Entry)) (by : By) →
    EngineInvariant start seen → IsBase start.base → KindKeeps start seen (xmin_word start) by (kinds.Post (oldest_xmin start.base.next (history seen)))

-- The banks. What each state needs: its page was made; a committed or sub-committed one has its commit record on disk; a
-- committed one keeps to the order of pages; the session for which it is set was given the id, and sets it or asked for
-- it; where that is aborted, the session that sets it for itself has no commit record of it; no other final state was set
-- before.
pub record MayMark (start : Start) (seen : List (List Entry)) (before : List Entry) (session : ℕ) (mark : Mark) : Type 0 where
  pub page : WasMade before (xact_page start.base.next) (xact_page mark.id)
  pub durable : RecordOf start seen mark.caller.session mark.id mark.state
  pub tree : TreeOf start seen mark.caller.session mark.id mark.state
  pub given : GivenOf seen mark
  pub asked : AskedOf seen session mark
  pub unrecorded : AskUnrecorded seen session mark.caller.session mark.id mark.state
  pub final : IsSameAfter before mark

-- and each parent
pub record MayLink (start : Start) (seen : List (List Entry)) (before : List Entry) (link : Link) : Type 0 where
  pub page : WasMade before (subtrans_page start.base.next) (subtrans_page link.id)
  pub sub : IsGivenBelow seen link.caller.session link.parent link.id

-- Each offset and each member: its page was made; the offset is that of a recorded multixact all of whose members stand,
-- the member one of a recorded multixact.
pub record MaySetOffset (start : Start) (seen : List (List Entry)) (before : List Entry) (set : SetOffset) : Type 0 where
  pub page : WasMade before (offset_page start.base.multi) (offset_page set.multi)
  pub members : OffsetOf start seen set

pub record MaySetSlot (start : Start) (seen : List (List Entry)) (before : List Entry) (slot : SetSlot) : Type 0 where
  pub page : WasMade before (member_page_in_full start.base.offset) (member_page_in_full slot.offset)
  pub member : SlotOf seen slot

abbrev pub marks_of : List Change → List Mark
marks_of changes = filter_map mark_of changes

abbrev pub links_of : List Change → List Link
links_of changes = filter_map link_of changes

abbrev pub offsets_of : List Change → List SetOffset
offsets_of changes = filter_map offset_of changes

abbrev pub slots_of : List Change → List SetSlot
slots_of changes = filter_map slot_of changes

-- what a critical section of a bank may change, for its own session and for others
pub record MayChange (start : Start) (seen : List (List Entry)) (lock session : ℕ) (changes : List Change) : Type 0 where
  pub on : AreOn start lock changes
  pub marks : (mark : Mark) → Contains (marks_of changes) mark → MayMark start seen (at seen lock) session mark
  pub alike : (mark other : Mark) → Contains (marks_of changes) mark → Contains (marks_of changes) other → other.id ≡ mark.id → other.state ≡ mark.state
  pub links : (link : Link) → Contains (links_of changes) link → MayLink start seen (at seen lock) link
  pub offsets : (set : SetOffset) → Contains (offsets_of changes) set → MaySetOffset start seen (at seen lock) set
  pub slots : (slot : SetSlot) → Contains (slots_of changes) slot → MaySetSlot start seen (at seen lock) slot

abbrev pub ChangesKeep : Type 0
ChangesKeep = (start : Start) (seen : List (List Entry)) (lock : ℕ) (by : By) (changes : List Change) →
    MayChange start seen lock by.session changes → KindKeeps start seen lock by (kinds.Set changes)

-- what a fault leaves changed or cut needs the same, and the count of faults has risen
abbrev pub FaultKeeps : Type 0
FaultKeeps = (start : Start) (seen : List (List Entry)) (lock : ℕ) (by : By) (callers : List By) (changes : List Change) (cut : Option ℕ) (count : ℕ) →
    MayChange start seen lock by.session changes → AreCallers by callers changes → IfSome cut (CutBy start seen lock)
    → HasRisen (faults_told start lock (at seen lock)) count
    → KindKeeps start seen lock by (kinds.Fault callers changes cut count)

-- a page is made of a number that was given or comes next
abbrev pub ZeroKeeps : Type 0
ZeroKeeps = (start : Start) (seen : List (List Entry)) (lock : ℕ) (by : By) (page : ℕ) → IsPageLock start lock → IsWanted start seen lock page → KindKeeps start seen lock by (kinds.Zero page)

-- a page is cut as a truncation on disk, or an oldest xmin, says
abbrev pub CutKeeps : Type 0
CutKeeps = (start : Start) (seen : List (List Entry)) (lock : ℕ) (by : By) (page : ℕ) → IsPageLock start lock → CutBy start seen lock page → KindKeeps start seen lock by (kinds.Cut page)

abbrev pub SyncKeeps : Type 0
SyncKeeps = (start : Start) (seen : List (List Entry)) (lock : ℕ) (by : By) → IsPageLock start lock → KindKeeps start seen lock by kinds.Sync

-- each id was given to the session for which it is asked; a session that asks another one for a change to aborted has no
-- commit record of the id
abbrev pub RequestKeeps : Type 0
RequestKeeps = (start : Start) (seen : List (List Entry)) (lock : ℕ) (by : By) (changes : List Change) →
    first_request start ≤ lock
    → ((mark : Mark) → Contains (marks_of changes) mark → GivenOf seen mark)
    → ((mark : Mark) → Contains (marks_of changes) mark → AskUnrecorded seen by.session mark.caller.session mark.id mark.state)
    → KindKeeps start seen lock by (kinds.Request changes)

-- any lock may only be looked at
abbrev pub LookKeeps : Type 0
LookKeeps = (start : Start) (seen : List (List Entry)) (lock : ℕ) (by : By) → KindKeeps start seen lock by kinds.Look

-- The states of one commit, undo or abort on one bank, set by the session itself.
abbrev pub all_set : By → State → List ℕ → List Change
all_set by state ids = map (λ id. changes.State by id state) ids

-- the ids lie on the bank, on pages that were made
pub record AreThere (start : Start) (seen : List (List Entry)) (bank : ℕ) (ids : List ℕ) : Type 0 where
  pub inside : bank < start.banks
  pub lock : (id : ℕ) → Contains ids id → xact_lock_of start id ≡ xact_lock bank
  pub made : (id : ℕ) → Contains ids id → WasMade (at seen (xact_lock bank)) (xact_page start.base.next) (xact_page id)

-- the bank's earlier states of these ids are this one or sub-committed
abbrev pub IsOnly : Start → List (List Entry) → ℕ → List ℕ → State → Type 0
IsOnly start seen bank ids state = (id : ℕ) (old : Mark) → Contains ids id → Contains (marks (at seen (xact_lock bank))) old → old.id ≡ id → (old.state ≡ state) ⊎ (old.state ≡ states.SubCommitted)

abbrev pub CommittedKeeps : Type 0
CommittedKeeps = (start : Start) (seen : List (List Entry)) (bank : ℕ) (by : By) (ids : List ℕ) →
    AreThere start seen bank ids
    → ((id : ℕ) → Contains ids id → Contains (given_to by.session (history seen)) id)
    → ((id : ℕ) → Contains ids id → IsDurable start seen by.session id)
    → ((id : ℕ) → Contains ids id → InTree start seen by.session id)
    → IsOnly start seen bank ids states.Committed
    → KindKeeps start seen (xact_lock bank) by (kinds.Set (all_set by states.Committed ids))

abbrev pub SubCommittedKeeps : Type 0
SubCommittedKeeps = (start : Start) (seen : List (List Entry)) (bank : ℕ) (by : By) (ids : List ℕ) →
    AreThere start seen bank ids
    → ((id : ℕ) → Contains ids id → Contains (given_to by.session (history seen)) id)
    → ((id : ℕ) → Contains ids id → IsDurable start seen by.session id)
    → IsOnly start seen bank ids states.SubCommitted
    → KindKeeps start seen (xact_lock bank) by (kinds.Set (all_set by states.SubCommitted ids))

abbrev pub AbortedKeeps : Type 0
AbortedKeeps = (start : Start) (seen : List (List Entry)) (bank : ℕ) (by : By) (ids : List ℕ) →
    AreThere start seen bank ids
    → ((id : ℕ) → Contains ids id → Contains (given_to by.session (history seen)) id)
    → ((id top : ℕ) (subs : List ℕ) → Contains ids id → IsAppended seen by.session (records.Commit top subs) → Contains (top ∷ subs) id → ⊥)
    → IsOnly start seen bank ids states.Aborted
    → KindKeeps start seen (xact_lock bank) by (kinds.Set (all_set by states.Aborted ids))

-- the parent of one id
abbrev pub ParentKeeps : Type 0
ParentKeeps = (start : Start) (seen : List (List Entry)) (bank : ℕ) (by : By) (id parent : ℕ) →
    bank < start.banks
    → subtrans_lock_of start id ≡ subtrans_lock bank
    → WasMade (at seen (subtrans_lock bank)) (subtrans_page start.base.next) (subtrans_page id)
    → IsGivenBelow seen by.session parent id
    → KindKeeps start seen (subtrans_lock bank) by (kinds.Set (changes.Parent by id parent ∷ []))

-- ---- the host

-- What the life's host adds needs what it needs of a session.
pub record HostKeeps (start : Start) (seen : List (List Entry)) (by : By) : Type 0 where
  pub checkpoint : (number : ℕ) (counters : Counters) → StaysBase start seen (records.Checkpoint number counters)
      → CheckpointOf start seen (at seen log_lock) number counters → IsUp (at seen log_lock)
      → HostKindKeeps start seen log_lock by (kinds.Append (records.Checkpoint number counters))
  pub flush : (to : ℕ) → flushed_to start (at seen log_lock) ≤ to → to ≤ start.from + length (records_of seen)
      → IsUp (at seen log_lock) → HostKindKeeps start seen log_lock by (kinds.Flush to)
  pub forget : (number : ℕ) → MayForget start seen (at seen log_lock) number → IsUp (at seen log_lock)
      → HostKindKeeps start seen log_lock by (kinds.Forget number)
  pub log_fault : (asked : LogCall) (count : ℕ) → ForgetOf start seen (at seen log_lock) (kinds.LogFault asked count)
      → UpOf (at seen log_lock) (kinds.LogFault asked count)
      → HasRisen (faults_told start log_lock (at seen log_lock)) count
      → HostKindKeeps start seen log_lock by (kinds.LogFault asked count)
  pub sync : (lock : ℕ) → IsPageLock start lock → HostKindKeeps start seen lock by kinds.Sync
  pub fault : (lock : ℕ) (callers : List By) (count : ℕ) → IsPageLock start lock → AreCallers by callers []
      → HasRisen (faults_told start lock (at seen lock)) count
      → HostKindKeeps start seen lock by (kinds.Fault callers [] None count)
  pub look : (lock : ℕ) → HostKindKeeps start seen lock by kinds.Look

abbrev pub HostsKeep : Type 0
HostsKeep = (start : Start) (seen : List (List Entry)) (by : By) → HostKeeps start seen by
