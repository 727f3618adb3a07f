-- What a checkpoint between two rounds did, and what stays of those that were told.
use Rattle.std.specs.Prelude.{◌≡◌, ◌≢◌, ℕ, ◌+◌, ◌-◌, ◌<◌, ◌++◌, ◌⊎◌, Bool, List, [], ◌∷◌, Contains, None, Option, Some, length, map, slice_get, take}
use Rattle.std.specs.List.{AllByRecursion, count_by, filter, filter_map}
use Rattle.notes.specs.Lists.{Begins, Grows, Knows, at, own}
use Rattle.tx_events.specs.declared.event.By.{By}
use Rattle.tx_events.specs.declared.event.Event.{Event}
use Rattle.tx_events.specs.declared.multi.MultiEvent.{MultiEvent}
use Rattle.tx_events.specs.declared.record.Counters.{Counters}
use Rattle.tx_events.specs.declared.record.Rec.{Rec}
use Rattle.tx_events.specs.declared.record.Rec.TheVariants as records
use Rattle.tx_events.specs.declared.refusal.Refusal.TheVariants as refusals
use Rattle.tx_events.specs.Places.{EachPlace}
use Rattle.tx_model.specs.declared.reply.Reply.{Reply}
use Rattle.tx_model.specs.declared.reply.Reply.TheVariants as replies
use Rattle.tx_model.specs.declared.report.Step.{Step}
use Rattle.tx_model.specs.declared.report.Step.TheVariants as steps
use Rattle.tx_model.specs.Rounds.{is_round}
use Rattle.life_law.specs.Checkpoints.{MayHaveRecord, checkpoints_in}
use Rattle.life_law.specs.Facts.{is_checkpoint_fault}
use Rattle.life_law.specs.LifeLog.{counters_behind}
use Rattle.life_law.specs.MultiStanding.{none, sure, unfinished}
use Rattle.life_law.specs.Pending.{pending}
use Rattle.life_law.specs.Replies.{IsBank}
use Rattle.tx_core.specs.declared.entry.Entry.{Entry}
use Rattle.tx_core.specs.declared.entry.Kind.TheVariants as kinds
use Rattle.tx_core.specs.declared.entry.Start.{Start}
use Rattle.tx_core.specs.EngineInvariant.{EngineInvariant}
use Rattle.tx_core.specs.Entries.{history, recs_in, session_of}
use Rattle.tx_core.specs.Locks.{log_lock}
use Rattle.tx_core.specs.MultiEntries.{multi_history}
use Rattle.tx_core.specs.StaysDown.{is_put_down}
use Rattle.engine_parts.specs.declared.session.Session.{Session}
use Rattle.engine_parts.specs.Stand.{IsDownAt}
use Rattle.engine_parts.specs.Stages.{pending_in}
use Rattle.session_promise.specs.Promise.{recs_of}
use Rattle.session_promise.specs.Told.{Follow, ToldRound, all_lines, in_events, in_multis, steps_of}

-- one of these sessions is in the midst of a commit, or of a multixact
abbrev pub IsCommitting : List Session → ℕ → Type 0
IsCommitting sessions n = (s : Session) × (slice_get sessions n ≡ Some s) × (pending_in s.stage ≡ Some refusals.CommitPending)

abbrev pub IsMakingMulti : List Session → ℕ → Type 0
IsMakingMulti sessions n = (s : Session) × (slice_get sessions n ≡ Some s) × (s.making ≢ None)

-- the checkpoint that the log takes next
abbrev pub checkpoint_next : Start → List (List Entry) → Rec
checkpoint_next start lists =
    records.Checkpoint (start.from + length (recs_of lists))
    (counters_behind start.base (history lists) (multi_history lists))

-- whether the entry tells a fault of the log's volume that put the log down
abbrev pub is_down_fault : Entry → Bool
is_down_fault e = is_put_down e.kind

-- these entries append these records, and tell so many such faults
pub record Appends (added : List Entry) (recs : List Rec) (faults : ℕ) : Type 0 where
  pub recs_are : recs_in added ≡ recs
  pub faults_are : count_by is_down_fault added ≡ faults

-- What a checkpoint that was answered so, in these lists, added to that of the log.
abbrev pub AddsFor : Start → List (List Entry) → List Entry → Reply → Type 0
AddsFor start before added replies.Done = Appends added (checkpoint_next start before ∷ []) 0
AddsFor start before added (replies.Pending session refusal) = added ≡ []
AddsFor start before added (replies.Refused refusals.LogFault) =
    Appends added [] 1 ⊎ Appends added (checkpoint_next start before ∷ []) 1
AddsFor start before added (replies.Refused (refusals.LogDown down)) =
    (added ≡ []) × IsDownAt start (at before log_lock) down
AddsFor start before added (replies.Refused (refusals.DiskFault lock)) = IsBank start.banks lock × Appends added [] 0
AddsFor start before added (replies.Refused refusals.Full) = Appends added [] 0
AddsFor start before added (replies.Refused refusals.Memory) = Appends added [] 0
AddsFor start before added reply = ⊥

-- The reply names the least session that is in the midst of a commit, else the least that may be of a multixact and none
-- before it is surely so, or none is in the midst of either.
abbrev pub NamesLeast : (ℕ → Type 0) → (ℕ → Type 0) → (ℕ → Type 0) → Reply → Type 0
NamesLeast Commits May Must (replies.Pending session refusals.CommitPending) =
    Commits session × ((n : ℕ) → n < session → Commits n → ⊥)
NamesLeast Commits May Must (replies.Pending session refusals.MultiPending) =
    May session × ((n : ℕ) → n < session → Must n → ⊥) × ((n : ℕ) → Commits n → ⊥)
NamesLeast Commits May Must (replies.Pending session refusal) = ⊥
NamesLeast Commits May Must reply = ((n : ℕ) → Commits n → ⊥) × ((n : ℕ) → Must n → ⊥)

-- by how they stand it is sure
abbrev pub IsNamed : List Session → Reply → Type 0
IsNamed sessions reply = NamesLeast (IsCommitting sessions) (IsMakingMulti sessions) (IsMakingMulti sessions) reply

-- some flush covers all records below this number
abbrev pub IsFlushedBelow : List (List Entry) → ℕ → Type 0
IsFlushedBelow lists number = (by : By) × Contains (at lists log_lock) (record { by = by; kind = kinds.Flush number })

-- A checkpoint that was answered so took the lists from these to those, while these sessions were parked. What it added
-- is the life's host's, and no event of either history. One that is done was flushed.
pub record WentCheckpoint (start : Start) (sessions : List Session) (before after : List (List Entry)) (reply : Reply)
    : Type 0 where
  pub named : IsNamed sessions reply
  pub grows : Grows before after
  pub kept : EngineInvariant start after
  pub idle : (n : ℕ) → n < start.sessions → Knows session_of n before after
  pub same_history : history after ≡ history before
  pub same_multis : multi_history after ≡ multi_history before
  pub added : List Entry
  pub log : at after log_lock ≡ at before log_lock ++ added
  pub theirs : AllByRecursion (λ e. e.by.session ≡ start.sessions) added
  pub adds : AddsFor start before added reply
  pub flushed : reply ≡ replies.Done → IsFlushedBelow after (start.from + length (recs_of after))

-- ---- what was told

-- the session is in the midst of a commit, by the lines of these rounds
abbrev pub IsPendingBehind : List (List Entry) → List ToldRound → ℕ → Type 0
IsPendingBehind lists rounds session =
    pending (recs_of lists) (history lists) (all_lines rounds) session ≡ Some refusals.CommitPending

-- and so of a multixact: it may be, or it is
abbrev pub MayBeMaking : List (List Entry) → List ToldRound → ℕ → Type 0
MayBeMaking lists rounds session = unfinished (multi_history lists) (all_lines rounds) session ≢ none

abbrev pub IsSurelyMaking : List (List Entry) → List ToldRound → ℕ → Type 0
IsSurelyMaking lists rounds session = unfinished (multi_history lists) (all_lines rounds) session ≡ sure

-- what the lists at any later time show of the reply
abbrev pub IsAnsweredIn : Start → List (List Entry) → Reply → Type 0
IsAnsweredIn start lists replies.Done = Unit {0}
IsAnsweredIn start lists (replies.Pending session refusal) = Unit {0}
IsAnsweredIn start lists (replies.Refused refusals.LogFault) = Unit {0}
IsAnsweredIn start lists (replies.Refused (refusals.LogDown down)) = IsDownAt start (at lists log_lock) down
IsAnsweredIn start lists (replies.Refused (refusals.DiskFault lock)) = IsBank start.banks lock
IsAnsweredIn start lists (replies.Refused refusals.Full) = Unit {0}
IsAnsweredIn start lists (replies.Refused refusals.Memory) = Unit {0}
IsAnsweredIn start lists reply = ⊥

-- a record with these counters may be left by it behind this history, or none
abbrev pub MayLeave : Start → List Event → List MultiEvent → Reply → Option Counters → Type 0
MayLeave start h all reply (Some counters) = MayHaveRecord reply × (counters ≡ counters_behind start.base h all)
MayLeave start h all reply None = reply ≢ replies.Done

-- The checkpoint was told behind the first of these rounds. With their events both histories began. It was answered by which
-- sessions are in the midst of a commit or of a multixact by their lines, and left these counters in the log, if any.
pub record IsCheckpointTold (start : Start) (lists : List (List Entry)) (rounds : List ToldRound) (before : List Step)
    (reply : Reply) (left : Option Counters) : Type 0 where
  pub front : List ToldRound
  pub behind : List ToldRound
  pub split : rounds ≡ front ++ behind
  pub steps : filter is_round before ≡ steps_of 1 front
  pub events : List Event
  pub begins : Begins events (history lists)
  pub places : Follow in_events 0 front (length events)
  pub multis : List MultiEvent
  pub multi_begins : Begins multis (multi_history lists)
  pub multi_places : Follow in_multis 0 front (length multis)
  pub named : NamesLeast (IsPendingBehind lists front) (MayBeMaking lists front) (IsSurelyMaking lists front) reply
  pub answer : IsAnsweredIn start lists reply
  pub leaves : MayLeave start events multis reply left

-- a step, and the counters that it left in the log, if any
abbrev pub LeftStep : Type 0
LeftStep = Step × Option Counters

abbrev pub IsStepLeft : Start → List (List Entry) → List ToldRound → List Step → Step → Option Counters → Type 0
IsStepLeft start lists rounds before (steps.Checkpoint reply) left =
    IsCheckpointTold start lists rounds before reply left
IsStepLeft start lists rounds before step left = left ≡ None

-- the host's entries in the list of the log
abbrev pub hosts_entries : Start → List (List Entry) → List Entry
hosts_entries start lists = own session_of start.sessions (at lists log_lock)

-- more checkpoints than these are in the log below some number up to which it was flushed
pub record IsFlushedBehind (start : Start) (lists : List (List Entry)) (before : List LeftStep) : Type 0 where
  pub number : ℕ
  pub flushed : IsFlushedBelow lists number
  pub among : length (filter_map (λ x. x.1) before) < length (checkpoints_in (take (number - start.from) (recs_of lists)))

-- So each checkpoint among the steps of the life. Together they left the records that the host appended, and told the
-- faults at which the host put the log down. The record of one that was answered `ok` was flushed.
pub record AreCheckpointsTold (start : Start) (lists : List (List Entry)) (rounds : List ToldRound) (told : List Step)
    : Type 0 where
  pub left : List LeftStep
  pub steps_are : map (λ x. x.0) left ≡ told
  pub each : EachPlace left (λ before x. IsStepLeft start lists rounds (map (λ y. y.0) before) x.0 x.1)
  pub records : checkpoints_in (recs_in (hosts_entries start lists)) ≡ filter_map (λ x. x.1) left
  pub faults : count_by is_down_fault (hosts_entries start lists) ≡ count_by is_checkpoint_fault told
  pub flushed : EachPlace left (λ before x. x.0 ≡ steps.Checkpoint replies.Done → IsFlushedBehind start lists before)
