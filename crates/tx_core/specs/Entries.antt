-- What an entry says.
use Rattle.std.specs.Prelude.{◌≡◌, ℕ, ◌+◌, ◌<◌, List, [], length, Option, Some, None, Contains, map, slice_get}
use Rattle.std.specs.List.{filter_map, flat_map, fold, AllByRecursion}
use Rattle.tx_events.specs.declared.event.By.{By}
use Rattle.tx_events.specs.declared.event.Event.{Event}
use Rattle.tx_events.specs.declared.record.Rec.{Rec}
use Rattle.tx_events.specs.Events.{given}
use Rattle.tx_core.specs.declared.entry.Change.{Change}
use Rattle.tx_core.specs.declared.entry.Change.TheVariants as changes
use Rattle.tx_core.specs.declared.entry.Entry.{Entry}
use Rattle.tx_core.specs.declared.entry.Kind.{Kind}
use Rattle.tx_core.specs.declared.entry.Kind.TheVariants as kinds
use Rattle.tx_core.specs.declared.entry.Start.{Start}
use Rattle.tx_core.specs.declared.entry.State.{State}
use Rattle.notes.specs.Lists.{at}
use Rattle.tx_core.specs.Locks.{log_lock, proc_lock, xact_lock_of, subtrans_lock_of}

abbrev pub session_of : Entry → ℕ
session_of e = e.by.session

-- the ProcArray's event
abbrev pub event_in : Kind → Option Event
event_in (kinds.Event event) = Some event
event_in _ = None

abbrev pub event_of : Entry → Option Event
event_of e = event_in e.kind

-- the events of a list of entries
abbrev pub events_in : List Entry → List Event
events_in es = filter_map event_of es

-- the history, which is the ProcArray's list
abbrev pub history : List (List Entry) → List Event
history lists = events_in (at lists proc_lock)

-- the life gave fewer than 2,900,000 ids
abbrev pub AreFewIds : List (List Entry) → Type 0
AreFewIds lists = length (given (history lists)) < 2900000

-- the changes that a critical section made, with a fault or without
abbrev pub changes_in : Kind → List Change
changes_in (kinds.Set changes) = changes
changes_in (kinds.Fault callers changes cut count) = changes
changes_in _ = []

-- the changes that an entry makes, or asks another session to make
abbrev pub asked_in : Kind → List Change
asked_in (kinds.Set changes) = changes
asked_in (kinds.Fault callers changes cut count) = changes
asked_in (kinds.Request changes) = changes
asked_in _ = []

-- a state that was set, and for whom
pub record Mark : Type 0 where
  pub caller : By
  pub id : ℕ
  pub state : State

abbrev pub mark_of : Change → Option Mark
mark_of (changes.State caller id state) = Some (record { caller = caller; id = id; state = state })
mark_of _ = None

-- a parent that was set, and for whom
pub record Link : Type 0 where
  pub caller : By
  pub id : ℕ
  pub parent : ℕ

abbrev pub link_of : Change → Option Link
link_of (changes.Parent caller id parent) = Some (record { caller = caller; id = id; parent = parent })
link_of _ = None

abbrev pub marks_in : Entry → List Mark
marks_in e = filter_map mark_of (changes_in e.kind)

abbrev pub asks_in : Entry → List Mark
asks_in e = filter_map mark_of (asked_in e.kind)

abbrev pub links_in : Entry → List Link
links_in e = filter_map link_of (changes_in e.kind)

-- Each state, each state made or asked for, and each parent of an entry. Where an entry has none, this is no condition.
abbrev pub EachMark : (Mark → Type 0) → Entry → Type 0
EachMark P e = AllByRecursion P (marks_in e)

abbrev pub EachAsk : (Mark → Type 0) → Entry → Type 0
EachAsk P e = AllByRecursion P (asks_in e)

abbrev pub EachLink : (Link → Type 0) → Entry → Type 0
EachLink P e = AllByRecursion P (links_in e)

-- the states that a list's entries set, in order
abbrev pub marks : List Entry → List Mark
marks es = flat_map marks_in es

-- an entry of this kind stands at a lock
abbrev pub Stands : List (List Entry) → ℕ → Kind → Type 0
Stands lists lock kind = (by : By) × Contains (at lists lock) (record { by = by; kind = kind })

-- the state of an id was set
abbrev pub IsMarked : Start → List (List Entry) → ℕ → State → Type 0
IsMarked start lists id state =
    (by : By) × Contains (marks (at lists (xact_lock_of start id))) (record { caller = by; id = id; state = state })

-- the parent of an id was set
abbrev pub IsLinked : Start → List (List Entry) → ℕ → ℕ → Type 0
IsLinked start lists id parent =
    (by : By) × Contains (flat_map links_in (at lists (subtrans_lock_of start id))) (record { caller = by; id = id; parent = parent })

-- a session appended this record
abbrev pub IsAppended : List (List Entry) → ℕ → Rec → Type 0
IsAppended lists session rec = (by : By) × (by.session ≡ session) × Contains (at lists log_lock) (record { by = by; kind = kinds.Append rec })

-- the records in the order of their numbers, with those that appended them
abbrev pub appended_in : By → Kind → Option (By × Rec)
appended_in by (kinds.Append rec) = Some (by, rec)
appended_in by _ = None

abbrev pub appended : Entry → Option (By × Rec)
appended e = appended_in e.by e.kind

abbrev pub records_in : List Entry → List (By × Rec)
records_in es = filter_map appended es

abbrev pub records_of : List (List Entry) → List (By × Rec)
records_of lists = records_in (at lists log_lock)

abbrev pub recs_in : List Entry → List Rec
recs_in es = map (λ r. r.1) (records_in es)

-- the last of the numbers, or n where there is none
abbrev pub last_from : ℕ → List ℕ → ℕ
last_from n xs = fold (λ _ x. x) n xs

-- the number below which an entry flushed the records
abbrev pub flushed_in : Kind → Option ℕ
flushed_in (kinds.Flush to) = Some to
flushed_in _ = None

-- the number below which all records are flushed
abbrev pub flushed_to : Start → List Entry → ℕ
flushed_to start es = last_from start.from (filter_map (λ e. flushed_in e.kind) es)

-- the page from which on a critical section kept the bank, with a fault or without
abbrev pub cut_in : Kind → Option ℕ
cut_in (kinds.Cut page) = Some page
cut_in (kinds.Fault callers changes cut count) = cut
cut_in _ = None

-- a session appended this record, and its number is below that of a flush
abbrev pub IsFlushed : Start → List (List Entry) → ℕ → Rec → Type 0
IsFlushed start lists session rec =
    (n to : ℕ) × (by : By) × (by.session ≡ session) × (slice_get (records_of lists) n ≡ Some (by, rec)) × (start.from + n < to) × Stands lists log_lock (kinds.Flush to)
