-- What a checkpoint did, by what it was answered.
use Rattle.std.specs.Prelude.{◌≡◌, ℕ, ◌+◌, ◌*◌, ◌<◌, ◌≤◌, List, [], ◌∷◌, ◌++◌, length}
use Rattle.std.specs.List.{AllByRecursion}
use Rattle.disk_core.specs.Faults.{HasRisen}
use Rattle.notes.specs.Lists.{Grows, Knows, at}
use Rattle.tx_events.specs.declared.refusal.Lock.{Lock}
use Rattle.tx_events.specs.declared.refusal.Lock.TheVariants as locks
use Rattle.tx_events.specs.declared.refusal.Refusal.TheVariants as refusals
use Rattle.tx_model.specs.declared.reply.Reply.{Reply}
use Rattle.tx_model.specs.declared.reply.Reply.TheVariants as replies
use Rattle.tx_core.specs.declared.entry.Entry.{Entry}
use Rattle.tx_core.specs.declared.entry.Start.{Start}
use Rattle.tx_core.specs.Entries.{history, session_of}
use Rattle.tx_core.specs.FaultsRise.{faults_told}
use Rattle.tx_core.specs.Locks.{log_lock, multi_lock, number_of, proc_lock}
use Rattle.tx_core.specs.MultiEntries.{multi_history}
use Rattle.tx_core.specs.StaysDown.{IsUp}
use Rattle.engine_parts.specs.declared.session.Session.{Session}
use Rattle.host_sections.specs.HostEntries.{flush_by, forget_by, next_number, sync_by}
pub use Rattle.session_promise.specs.Causes.{failed_volume}
use Rattle.session_promise.specs.Checkpoints.{AddsFor, IsCommitting, IsFlushedBelow, IsMakingMulti}
use Rattle.session_promise.specs.Promise.{recs_of}
use Rattle.host_calls.specs.Added.{IsBuiltBank, LacksCheckpointRoom, checkpoint_now, host_by}

abbrev pub IsNoneCommitting : List Session → Type 0
IsNoneCommitting sessions = (n : ℕ) → IsCommitting sessions n → ⊥

-- the least session that is in the midst of a commit
abbrev pub IsFirstCommitting : List Session → ℕ → Type 0
IsFirstCommitting sessions session =
    IsCommitting sessions session × ((n : ℕ) → n < session → IsCommitting sessions n → ⊥)

abbrev pub IsNoneMaking : List Session → Type 0
IsNoneMaking sessions = (n : ℕ) → IsMakingMulti sessions n → ⊥

-- the least session that is at a multixact
abbrev pub IsFirstMaking : List Session → ℕ → Type 0
IsFirstMaking sessions session =
    IsMakingMulti sessions session × ((n : ℕ) → n < session → IsMakingMulti sessions n → ⊥)

-- What a checkpoint that was answered so added, where none is in the midst of a commit or of a multixact: to the log's
-- list what the reply says, to none of both histories, and nothing of the life's sessions. One that is done was flushed.
pub record Went (start : Start) (before after : List (List Entry)) (reply : Reply) : Type 0 where
  pub grows : Grows before after
  pub idle : (n : ℕ) → n < start.sessions → Knows session_of n before after
  pub same_history : history after ≡ history before
  pub same_multis : multi_history after ≡ multi_history before
  pub added : List Entry
  pub log : at after log_lock ≡ at before log_lock ++ added
  pub theirs : AllByRecursion (λ e. e.by.session ≡ start.sessions) added
  pub adds : AddsFor start before added reply
  pub flushed : reply ≡ replies.Done → IsFlushedBelow after (start.from + length (recs_of after))

-- The whole of one that is done: the records were flushed, all banks of the four stores synced, the checkpoint appended
-- and flushed, and the log forgotten before it. Nothing else was added.
pub record IsWholeCheckpoint (start : Start) (before after : List (List Entry)) : Type 0 where
  pub log : at after log_lock ≡ at before log_lock ++ flush_by (host_by start) (next_number start before)
      ∷ checkpoint_now start (host_by start) before ∷ flush_by (host_by start) (next_number start before + 1)
      ∷ forget_by (host_by start) (next_number start before) ∷ []
  pub banks : (lock : ℕ) → 3 ≤ lock → lock < 3 + 4 * start.banks
      → at after lock ≡ at before lock ++ sync_by (host_by start) ∷ []
  pub proc : at after proc_lock ≡ at before proc_lock
  pub multis : at after multi_lock ≡ at before multi_lock
  pub words : (place : ℕ) → 3 + 4 * start.banks ≤ place → at after place ≡ at before place

-- What one leaves that is refused with `Full`: the records were flushed and all banks of the four stores synced, and then
-- the log had no room for the checkpoint's record.
pub record IsFullCheckpoint (start : Start) (before after : List (List Entry)) : Type 0 where
  pub log : at after log_lock ≡ at before log_lock ++ flush_by (host_by start) (next_number start before) ∷ []
  pub banks : (lock : ℕ) → 3 ≤ lock → lock < 3 + 4 * start.banks
      → at after lock ≡ at before lock ++ sync_by (host_by start) ∷ []
  pub lacks : LacksCheckpointRoom start after

-- the volume of the log, or of a bank that is built
abbrev pub IsBuilt : ℕ → Lock → Type 0
IsBuilt banks locks.Log = Unit {0}
IsBuilt banks lock = IsBuiltBank banks lock

-- its count of faults rose
pub record HasFailed (start : Start) (before after : List (List Entry)) (lock : Lock) : Type 0 where
  pub built : IsBuilt start.banks lock
  pub risen : HasRisen (faults_told start (number_of lock) (at before (number_of lock)))
      (faults_told start (number_of lock) (at after (number_of lock)))

-- a reply other than that the log is down, or that a commit is pending, is of a log that was up
abbrev pub IsOfUpLog : List (List Entry) → Reply → Type 0
IsOfUpLog before (replies.Pending session refusal) = Unit {0}
IsOfUpLog before (replies.Refused (refusals.LogDown down)) = Unit {0}
IsOfUpLog before reply = IsUp (at before log_lock)

-- a commit that is pending, or a log that is down, leaves all as it was
abbrev pub IsUntouched : List (List Entry) → List (List Entry) → Reply → Type 0
IsUntouched before after (replies.Pending session refusal) = after ≡ before
IsUntouched before after (replies.Refused (refusals.LogDown down)) = after ≡ before
IsUntouched before after reply = Unit {0}

-- no commit was pending
abbrev pub IsTried : Reply → Type 0
IsTried (replies.Pending session refusal) = ⊥
IsTried reply = Unit {0}
