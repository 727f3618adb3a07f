-- What a checkpoint between two rounds may be answered, and which records the checkpoints of a life leave.
use Rattle.std.specs.Prelude.{◌≡◌, ◌≢◌, ℕ, ◌-◌, ◌<◌, ◌++◌, ◌⊎◌, IsTrue, List, [], ◌∷◌, Option, Some, None, drop, take}
use Rattle.std.specs.List.{filter_map, flat_map}
use Rattle.tx_events.specs.declared.record.Counters.{Counters}
use Rattle.tx_events.specs.declared.record.Rec.{Rec}
use Rattle.tx_events.specs.declared.record.Rec.TheVariants as records
use Rattle.tx_events.specs.declared.refusal.Refusal.TheVariants as refusals
use Rattle.tx_events.specs.Places.{EachPlace}
use Rattle.tx_model.specs.declared.reply.Reply.{Reply}
use Rattle.tx_model.specs.declared.reply.Reply.TheVariants as replies
use Rattle.tx_model.specs.declared.report.Line.{Line}
use Rattle.tx_model.specs.declared.report.Step.{Step}
use Rattle.tx_model.specs.declared.report.Step.TheVariants as steps
use Rattle.tx_model.specs.Rounds.{lines_in}
use Rattle.life_law.specs.Dumps.{events_behind}
use Rattle.life_law.specs.Facts.{Facts}
use Rattle.life_law.specs.LifeLog.{counters_behind}
use Rattle.life_law.specs.MultiPlaces.{multis_behind}
use Rattle.life_law.specs.MultiStanding.{none, sure, unfinished}
use Rattle.life_law.specs.Pending.{pending}
use Rattle.life_law.specs.Replies.{IsBank}

-- the session is in the midst of a commit, behind these lines
abbrev pub IsCommitPending : Facts → List Line → ℕ → Type 0
IsCommitPending f before session = pending f.recs f.events before session ≡ Some refusals.CommitPending

-- no session must be in the midst of a commit or of a multixact
pub record IsNonePending (f : Facts) (before : List Line) : Type 0 where
  pub commits : (session : ℕ) → IsCommitPending f before session → ⊥
  pub multis : (session : ℕ) → unfinished f.multis before session ≢ sure

-- What a checkpoint may be answered behind the rounds with these lines. It names the least session that is in the midst
-- of a commit, else the least that may be of a multixact, or there is none. A log that is down tells the number up to
-- which it is flushed.
abbrev pub MayCheckpoint : Facts → List Line → Reply → Type 0
MayCheckpoint f before replies.Done = IsNonePending f before
MayCheckpoint f before (replies.Pending session refusals.CommitPending) =
    IsCommitPending f before session × ((s : ℕ) → s < session → IsCommitPending f before s → ⊥)
MayCheckpoint f before (replies.Pending session refusals.MultiPending) =
    (unfinished f.multis before session ≢ none)
    × ((s : ℕ) → s < session → unfinished f.multis before s ≢ sure)
    × ((s : ℕ) → IsCommitPending f before s → ⊥)
MayCheckpoint f before (replies.Refused (refusals.DiskFault lock)) = IsNonePending f before × IsBank f.banks lock
MayCheckpoint f before (replies.Refused refusals.LogFault) = IsNonePending f before
MayCheckpoint f before (replies.Refused (refusals.LogDown at)) =
    IsNonePending f before × (at ≡ f.flushed) × IsTrue f.log_failed
MayCheckpoint f before (replies.Refused refusals.Full) = IsNonePending f before
MayCheckpoint f before (replies.Refused refusals.Memory) = IsNonePending f before
MayCheckpoint f before reply = ⊥

abbrev pub IsLawfulCheckpoint : Facts → List Line → Step → Type 0
IsLawfulCheckpoint f before (steps.Checkpoint reply) = MayCheckpoint f before reply
IsLawfulCheckpoint f before step = Unit {0}

-- ---- their records

abbrev pub checkpoint_in : Rec → Option Counters
checkpoint_in (records.Checkpoint number counters) = Some counters
checkpoint_in rec = None

-- the counters of the checkpoints among these records
abbrev pub checkpoints_in : List Rec → List Counters
checkpoints_in recs = filter_map checkpoint_in recs

-- Whether a checkpoint that was answered so may have its record in the log: an `ok` one has it, and one that met a fault
-- of the log's volume has it or hasn't.
abbrev pub MayHaveRecord : Reply → Type 0
MayHaveRecord replies.Done = Unit {0}
MayHaveRecord (replies.Refused refusals.LogFault) = Unit {0}
MayHaveRecord reply = ⊥

-- These steps, behind rounds with these lines, left checkpoints with these counters, in this order: each at most one, with
-- the counters behind the rounds before it.
abbrev pub LeaveCheckpoints : Facts → List Line → List Step → List Counters → Type 0
LeaveCheckpoints f before [] left = left ≡ []
LeaveCheckpoints f before (steps.Checkpoint reply ∷ more) left =
    (MayHaveRecord reply × (rest : List Counters)
    × (left ≡ counters_behind f.base (events_behind f.events before) (multis_behind f.multis before) ∷ rest)
    × LeaveCheckpoints f before more rest)
    ⊎ ((reply ≢ replies.Done) × LeaveCheckpoints f before more left)
LeaveCheckpoints f before (step ∷ more) left = LeaveCheckpoints f (before ++ lines_in step) more left

-- the records that are known to be on disk
abbrev pub flushed_in : Facts → List Rec
flushed_in f = take (f.flushed - f.from) f.recs

-- Each checkpoint is lawful, and those in the log behind the life's first record are theirs. So are those of them that are
-- known to be on disk: an `ok` one's is among these.
pub record AreLawfulCheckpoints (f : Facts) (told : List Step) : Type 0 where
  pub each : EachPlace told (λ before step. IsLawfulCheckpoint f (flat_map lines_in before) step)
  pub left : LeaveCheckpoints f [] told (checkpoints_in (drop 1 f.recs))
  pub flushed : LeaveCheckpoints f [] told (checkpoints_in (drop 1 (flushed_in f)))
