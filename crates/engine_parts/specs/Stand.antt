-- What a value behind a lock says, where the lock's list is this one. A record for each kind of value, over plain
-- numbers, lists and maps.
use Rattle.std.specs.Prelude.{◌≡◌, ℕ, ◌+◌, ◌-◌, ◌*◌, ◌/◌, ◌^◌, ◌%◌, ◌<◌, ◌≤◌, ◌⊎◌, Bool, false, IsTrue, List, [], ◌∷◌, ◌++◌, length, Option, Some, None, Contains, max, slice_get, take, true}
use Rattle.std.specs.List.{filter_map, fold}
use Rattle.disk_core.specs.Volume.{Volume}
use Rattle.tx_events.specs.declared.event.By.{By}
use Rattle.tx_events.specs.declared.record.Counters.{Counters}
use Rattle.tx_events.specs.declared.record.Rec.{Rec}
use Rattle.tx_events.specs.declared.record.Rec.TheVariants as records
use Rattle.tx_events.specs.LifeBase.{AreBelowNext, LifeBase, base_after}
use Rattle.multi_store.specs.Generator.{Generator}
use Rattle.proc_table.specs.Table.{Table}
use Rattle.wal_core.specs.Kept.{BeginWith, KeepsRecords, other_behind}
use Rattle.wal_core.specs.declared.checkpoint.LastCheckpoint.{LastCheckpoint}
use Rattle.tx_events.specs.Ids.{IsFullId, id_before}
use Rattle.tx_events.specs.PageOrder.{Ids, is_cut}
use Rattle.store_pages.specs.Layouts.{state_in, xact_page_of, xact_place_of, number_in, word_page_of, word_place_of}
use Rattle.tx_core.specs.declared.entry.Entry.{Entry}
use Rattle.tx_core.specs.declared.entry.Kind.{Kind}
use Rattle.tx_core.specs.declared.entry.Kind.TheVariants as kinds
use Rattle.tx_core.specs.declared.entry.LogCall.{LogCall}
use Rattle.tx_core.specs.declared.entry.LogCall.TheVariants as calls
use Rattle.tx_core.specs.declared.entry.Start.{Start}
use Rattle.tx_core.specs.declared.entry.State.{State}
use Rattle.tx_core.specs.declared.entry.State.TheVariants as states
use Rattle.tx_core.specs.CleanStart.{CleanStart}
use Rattle.tx_core.specs.Entries.{cut_in, events_in, flushed_to, last_from, recs_in}
use Rattle.tx_core.specs.Locks.{subtrans_page, xact_page, log_lock, subtrans_lock, xact_lock}
use Rattle.tx_core.specs.MultiEntries.{multis_in}
use Rattle.tx_core.specs.Pages.{Pages, pages_after, subtrans_store, xact_store}
use Rattle.tx_core.specs.FaultsRise.{faults_told}
use Rattle.tx_core.specs.StaysDown.{IsUp, puts_down}
use Rattle.tx_core.specs.RecordsFollow.{counters_after}
use Rattle.engine_parts.specs.LogTail.{HadRoom, LogTail, tail_of}

-- ---- the log

-- a call put the log down when the records below this number were flushed
pub record IsDownAt (start : Start) (es : List Entry) (flushed : ℕ) : Type 0 where
  pub before : List Entry
  pub rest : List Entry
  pub by : By
  pub asked : LogCall
  pub count : ℕ
  pub down : puts_down asked ≡ true
  pub split : es ≡ before ++ record { by = by; kind = kinds.LogFault asked count } ∷ rest
  pub flushed_is : flushed ≡ flushed_to start before

-- These records, the first of which has this number, are those of a log up to a life's begin: over some base they give what
-- the life begins with, and each checkpoint among them has the counters that they give behind it.
pub record GivesStart (start : Start) (number : ℕ) (past : List Rec) : Type 0 where
  pub base : LifeBase
  pub below : AreBelowNext base
  pub gives : base_after base past ≡ record { counters = start.base; committed = start.committed; recorded = start.recorded }
  pub place : start.from ≡ number + length past
  pub some : 1 ≤ length past
  pub whole : (n : ℕ) (counters : Counters) → slice_get past n ≡ Some (records.Checkpoint (number + n) counters)
      → (base_after base (take (n + 1) past)).counters ≡ counters

-- the number of the checkpoint before which the log was forgotten
abbrev pub forgotten_in : Kind → Option ℕ
forgotten_in (kinds.Forget number) = Some number
forgotten_in _ = None

abbrev pub forgotten_to : List Entry → ℕ
forgotten_to es = last_from 0 (filter_map (λ e. forgotten_in e.kind) es)

-- the same where it was to be forgotten, also where that failed
abbrev pub begin_asked_in : Kind → Option ℕ
begin_asked_in (kinds.Forget number) = Some number
begin_asked_in (kinds.LogFault (calls.Forget number) count) = Some number
begin_asked_in _ = None

-- the checkpoint with which the log is to begin: the last of these, or at first that of the life's begin
abbrev pub begin_asked : Start → List Entry → ℕ
begin_asked start es = last_from (start.from - 1) (filter_map (λ e. begin_asked_in e.kind) es)

-- what `other_behind` leaves when each of these was asked for in turn
abbrev pub other_from : ℕ → ℕ → List ℕ → ℕ
other_from kept other [] = other
other_from kept other (number ∷ numbers) = other_from number (other_behind number kept other) numbers

-- The checkpoint with which it was to begin before that one: the one asked for before, of an earlier record, or that of
-- the life's begin; and where none was asked for yet, some record `before`.
abbrev pub begin_other : ℕ → Start → List Entry → ℕ
begin_other before start es = other_from (start.from - 1) before (filter_map (λ e. begin_asked_in e.kind) es)

-- The first record that each image keeps may be this one: one from before the life, or a checkpoint before which the log
-- was to be forgotten, also where that failed. Where the log isn't down, it is none from before the last forget.
pub record IsFirstKept (start : Start) (es : List Entry) (n : ℕ) : Type 0 where
  pub exact : n ≡ begin_asked start es
  pub one : (n < start.from) ⊎ (((by : By) × Contains es (record { by = by; kind = kinds.Forget n }))
      ⊎ ((count : ℕ) × (by : By) × Contains es (record { by = by; kind = kinds.LogFault (calls.Forget n) count })))
  pub behind : IsUp es → forgotten_to es ≤ n

-- The last entries put a checkpoint on disk, which has the number of its place and the counters of the log, and all
-- records before it were on disk.
pub record EndsInCheckpoint (start : Start) (es : List Entry) (number : ℕ) : Type 0 where
  pub before : List Entry
  pub appender : By
  pub flusher : By
  pub counters : Counters
  pub split : es ≡ before ++ record { by = appender; kind = kinds.Append (records.Checkpoint number counters) }
      ∷ record { by = flusher; kind = kinds.Flush (number + 1) } ∷ []
  pub place : number ≡ start.from + length (recs_in before)
  pub flushed : flushed_to start before ≡ number
  pub whole : counters_after start (before ++ record { by = appender; kind = kinds.Append (records.Checkpoint number counters) } ∷ [])
      ≡ counters

-- Then the log may be forgotten before it.
abbrev pub MayForgetThere : Start → List Entry → Option LastCheckpoint → Type 0
MayForgetThere start es checkpoint = (number : ℕ) → EndsInCheckpoint start es number
    → (k : LastCheckpoint) × (checkpoint ≡ Some k) × (k.number ≡ number)

-- The log has the records from before and those that were appended. Its flushed number is that of the last flush. It
-- is down exactly where its list says so, from what was flushed then on. Each image of its volume opens to the records
-- that are flushed, behind those that gave the life's begin, where the volumes told it. What was forgotten the list says:
-- each image begins there, or where it was to begin before. Where its batches end, and what is pending, the list says
-- too, and each record of it had room.
pub record LogStands (start : Start) (tells : Bool) (faults : ℕ) (images : Volume → Type 0) (recs : List Rec)
    (next first flushed : ℕ) (counters : Option Counters) (down : Option ℕ) (checkpoint : Option LastCheckpoint)
    (tail : LogTail) (es : List Entry) : Type 0 where
  pub recs_are : recs ≡ start.logged ++ recs_in es
  pub next_is : next ≡ start.from + length (recs_in es)
  pub flushed_is : flushed ≡ flushed_to start es
  pub counters_are : counters ≡ Some (counters_after start es)
  pub failed : (n : ℕ) → down ≡ Some n → IsDownAt start es n × (n ≤ flushed)
  pub up : down ≡ None → IsUp es
  pub count : faults_told start log_lock es ≤ faults
  pub kept : IsTrue tells → (number : ℕ) × (past : List Rec)
      × KeepsRecords number (past ++ recs_in es) recs next first flushed images
      × (IsTrue start.told → GivesStart start number past)
  pub first_is : IsFirstKept start es first
  pub others : IsTrue tells → (before : ℕ) × BeginWith first (begin_other before start es) images
  pub alone : MayForgetThere start es checkpoint
  pub tail_is : tail ≡ tail_of start es
  pub room : HadRoom start es

-- ---- the ProcArray

-- the id whose pages the ProcArray was told of
abbrev pub told_in : Kind → Option ℕ
told_in (kinds.Made id) = Some id
told_in _ = None

-- the last page of pg_subtrans that the ProcArray was told of; that of the start's next id is made
abbrev pub frontier_of : Start → List Entry → ℕ
frontier_of start es =
    fold (λ page id. max page (subtrans_page id)) (subtrans_page start.base.next) (filter_map (λ e. told_in e.kind) es)

-- the table's events are the list's
pub record ProcStands (start : Start) (table : Table) (es : List Entry) : Type 0 where
  pub base : table.base ≡ start.base
  pub sessions : table.sessions ≡ start.sessions
  pub events : table.events ≡ events_in es
  pub frontier : table.initialised_up_to ≡ frontier_of start es

-- ---- multixacts

-- the generator's events are the list's
pub record MultiStands (start : Start) (gen : Generator) (es : List Entry) : Type 0 where
  pub base : gen.base ≡ start.base
  pub events : gen.events ≡ multis_in es

-- ---- banks

-- The cutoff is a stored page: the first one with which the life began, or a later one at which an entry cut the bank.
abbrev pub IsCutoff : ℕ → ℕ → List Entry → ℕ → Type 0
IsCutoff first pages es cutoff =
    (page : ℕ) × (cutoff ≡ page % pages) × (first ≤ page)
    × ((page ≡ first) ⊎ ((e : Entry) × Contains es e × (cut_in e.kind ≡ Some page)))

-- That of pg_xact is the page of the oldest id. pg_subtrans is of use to ids that may run alone: its first one is the
-- page of the id before the next one.
abbrev pub first_xact_page : Start → ℕ
first_xact_page start = xact_page start.base.oldest

abbrev pub first_subtrans_page : Start → ℕ
first_subtrans_page start = subtrans_page (id_before start.base.next)

-- The ids of a life of few ids: it gives fewer than 2,950,000. They lie within half a ring of each of its cutoffs.
abbrev pub IsInUse : Start → ℕ → Type 0
IsInUse start x = IsFullId x × (start.base.oldest ≤ x) × (x < start.base.next + 2950000)

-- the ids for which the pages of a life have room
abbrev pub HasPlace : Start → ℕ → Type 0
HasPlace start x = IsFullId x × (start.base.oldest ≤ x) × (x < start.base.next + 2 ^ 30)

-- A page up to which a bank may be cut. By the order of stored pages a cutoff counts the whole segments of the half ring
-- before it as cut, so from the segment of the oldest id on, with which the life began: what a cutoff there cuts each later
-- one cuts too. pg_subtrans may begin one page before.
abbrev pub IsXactReach : Start → ℕ → Type 0
IsXactReach start page =
    (xact_page start.base.oldest ≤ page) × (page < xact_page start.base.oldest / 32 * 32 + 2 ^ 16)

abbrev pub IsSubtransReach : Start → ℕ → Type 0
IsSubtransReach start page =
    (subtrans_page start.base.oldest ≤ page + 1) × (page + 2 ≤ subtrans_page start.base.oldest / 32 * 32 + 2 ^ 20)

-- the two bits of a state
abbrev pub number_of_state : Option State → ℕ
number_of_state None = 0
number_of_state (Some states.Committed) = 1
number_of_state (Some states.Aborted) = 2
number_of_state (Some states.SubCommitted) = 3

-- the pages of pg_xact that the list leaves, where they showed this at first
abbrev pub xact_pages : Start → (ℕ → Option State) → List Entry → Pages State
xact_pages start before es = pages_after xact_store start.base.next before es

abbrev pub last_xact_page : Start → List Entry → ℕ
last_xact_page start es = (xact_pages start (λ x. None) es).last

-- Two full pages of one stored number are told apart as long as no page was made past the ids in use.
abbrev pub AreXactPagesNear : Start → List Entry → Type 0
AreXactPagesNear start es = last_xact_page start es * 32768 < start.base.next + 2 ^ 29

-- each id in use of this bank whose page isn't cut shows its state
pub record ShowsStates (start : Start) (bank cutoff : ℕ) (bytes : ℕ → List ℕ) (shows : ℕ → Option State) : Type 0 where
  pub each : (x : ℕ) → IsInUse start x → xact_page_of x % start.banks ≡ bank
      → is_cut Ids 32768 cutoff (xact_page_of x) ≡ false
      → state_in (bytes (xact_page_of x)) (xact_place_of x) ≡ number_of_state (shows x)

-- The bank's last made page is the list's, and it shows the states that the list set, over some pages that a clean
-- start shows. Its course led to the list.
pub record XactStands (start : Start) (bank : ℕ) (tells : Bool) (faults last cutoff : ℕ) (bytes : ℕ → List ℕ)
    (led : List Entry → Type 0) (es : List Entry) : Type 0 where
  pub inside : bank < start.banks
  pub count : faults_told start (xact_lock bank) es ≤ faults
  pub last_is : AreXactPagesNear start es → last ≡ last_xact_page start es % 2 ^ 17
  pub cutoff_is : IsCutoff (first_xact_page start) (2 ^ 17) es cutoff
  pub near : (page : ℕ) × (cutoff ≡ page % 2 ^ 17) × IsXactReach start page
  pub shown : IsTrue tells → AreXactPagesNear start es
      → (before : ℕ → Option State) × CleanStart start before
      × ShowsStates start bank cutoff bytes (xact_pages start before es).shows
  pub course : IsTrue tells → led es

-- a parent as it is stored: 0 where none was set
abbrev pub number_of_parent : Option ℕ → ℕ
number_of_parent None = 0
number_of_parent (Some parent) = parent % 2 ^ 32

-- the pages of pg_subtrans that the list leaves; a life begins with none set
abbrev pub subtrans_pages : Start → List Entry → Pages ℕ
subtrans_pages start es = pages_after subtrans_store start.base.next (λ x. None) es

abbrev pub AreSubtransPagesNear : Start → List Entry → Type 0
AreSubtransPagesNear start es = (subtrans_pages start es).last * 2048 < start.base.next + 2 ^ 29

pub record ShowsParents (start : Start) (bank cutoff : ℕ) (bytes : ℕ → List ℕ) (shows : ℕ → Option ℕ) : Type 0 where
  pub each : (x : ℕ) → IsInUse start x → word_page_of x % start.banks ≡ bank
      → is_cut Ids 2048 cutoff (word_page_of x) ≡ false
      → number_in (bytes (word_page_of x)) (word_place_of x) ≡ number_of_parent (shows x)

-- so a bank of pg_subtrans
pub record SubtransStands (start : Start) (bank : ℕ) (tells : Bool) (faults last cutoff : ℕ) (bytes : ℕ → List ℕ)
    (led : List Entry → Type 0) (es : List Entry) : Type 0 where
  pub inside : bank < start.banks
  pub count : faults_told start (subtrans_lock bank) es ≤ faults
  pub last_is : AreSubtransPagesNear start es → last ≡ (subtrans_pages start es).last % 2 ^ 21
  pub cutoff_is : IsCutoff (first_subtrans_page start) (2 ^ 21) es cutoff
  pub near : (page : ℕ) × (cutoff ≡ page % 2 ^ 21) × IsSubtransReach start page
  pub shown : IsTrue tells → AreSubtransPagesNear start es
      → ShowsParents start bank cutoff bytes (subtrans_pages start es).shows
  pub course : IsTrue tells → led es
