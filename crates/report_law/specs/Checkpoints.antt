-- The rules of a checkpoint's line.
use Rattle.std.specs.Prelude.{◌≡◌, ◌≢◌, ℕ, ◌+◌, ◌<◌, ◌==◌, ◌&&◌, Bool, true, false, cond, IsTrue, List, [], ◌∷◌, ◌++◌, Some, take, drop}
use Rattle.std.specs.List.{count_by, flat_map}
use Rattle.tx_events.specs.declared.event.Event.{Event}
use Rattle.tx_events.specs.declared.multi.MultiEvent.{MultiEvent}
use Rattle.tx_events.specs.declared.record.Counters.{Counters}
use Rattle.tx_events.specs.declared.record.Rec.{Rec}
use Rattle.tx_events.specs.declared.record.Rec.TheVariants as records
use Rattle.tx_events.specs.declared.refusal.Refusal.TheVariants as refusals
use Rattle.tx_events.specs.History.{next_given}
use Rattle.tx_events.specs.Horizon.{oldest_id}
use Rattle.tx_events.specs.Multis.{multi_counters}
use Rattle.tx_model.specs.declared.reply.Reply.{Reply}
use Rattle.tx_model.specs.declared.reply.Reply.TheVariants as replies
use Rattle.tx_model.specs.declared.report.Line.{Line}
use Rattle.tx_model.specs.declared.report.Step.{Step}
use Rattle.tx_model.specs.declared.report.Step.TheVariants as steps
use Rattle.tx_model.specs.Lines.{has_line}
use Rattle.tx_model.specs.Rounds.{lines_in}
use Rattle.life_law.specs.Pending.{pending}
use Rattle.report_law.specs.Answers.{AreLogFaults, HasNoRoom, is_page_lock}
use Rattle.report_law.specs.Places.{has_multi_line}
use Rattle.report_law.specs.Standing.{none, sure, unfinished}
use Rattle.report_law.specs.Steps.{AreJudged, Judged, lines_of}

-- the counters that a base and two histories give
abbrev pub counters_after : Counters → List Event → List MultiEvent → Counters
counters_after base h multis = record (multi_counters base multis) { next = next_given base.next h; oldest = oldest_id base.oldest h }

-- those behind the rounds with these lines, whose events stand first
abbrev pub counters_behind : Judged → List Line → Counters
counters_behind j before =
    counters_after j.begun.counters (take (count_by (has_line before) j.life.events) j.life.events)
    (take (count_by (has_multi_line before) j.life.multis) j.life.multis)

abbrev pub same_counters : Counters → Counters → Bool
same_counters a b =
    (a.next == b.next) && (a.oldest == b.oldest) && (a.multi == b.multi) && (a.offset == b.offset)
    && (a.oldest_multi == b.oldest_multi) && (a.oldest_offset == b.oldest_offset)

abbrev pub is_checkpoint_of : Counters → Rec → Bool
is_checkpoint_of c (records.Checkpoint number counters) = same_counters counters c
is_checkpoint_of c rec = false

abbrev pub is_ok_checkpoint : Step → Bool
is_ok_checkpoint (steps.Checkpoint replies.Done) = true
is_ok_checkpoint step = false

-- how many checkpoints with these counters were answered `ok`, behind these lines
abbrev pub ok_checkpoints : Judged → Counters → List Line → List Step → ℕ
ok_checkpoints j c before [] = 0
ok_checkpoints j c before (s ∷ rest) =
    cond (is_ok_checkpoint s && same_counters (counters_behind j before) c) 1 0 + ok_checkpoints j c (before ++ lines_in s) rest

abbrev pub IsCommitPending : Judged → List Line → ℕ → Type 0
IsCommitPending j before session = pending j.life.recs j.life.events before session ≡ Some refusals.CommitPending

-- no session must be in the midst of a commit or of a multixact
pub record IsNonePending (j : Judged) (before : List Line) : Type 0 where
  pub commits : (session : ℕ) → IsCommitPending j before session → ⊥
  pub multis : (session : ℕ) → unfinished j.life.multis before session ≢ sure

-- What a checkpoint may be answered behind these steps. It names the least session that is in the midst of a commit, else
-- the least that may be of a multixact; an `ok` one has a record of its own.
abbrev pub MayCheckpoint : Judged → List Step → Reply → Type 0
MayCheckpoint j before (replies.Pending session refusals.CommitPending) =
    IsCommitPending j (flat_map lines_in before) session
    × ((s : ℕ) → s < session → IsCommitPending j (flat_map lines_in before) s → ⊥)
MayCheckpoint j before (replies.Pending session refusals.MultiPending) =
    (unfinished j.life.multis (flat_map lines_in before) session ≢ none)
    × ((s : ℕ) → s < session → unfinished j.life.multis (flat_map lines_in before) s ≢ sure)
    × ((s : ℕ) → IsCommitPending j (flat_map lines_in before) s → ⊥)
MayCheckpoint j before replies.Done =
    IsNonePending j (flat_map lines_in before)
    × (AreJudged j (flat_map lines_in before) []
    → ok_checkpoints j (counters_behind j (flat_map lines_in before)) [] before
    < count_by (is_checkpoint_of (counters_behind j (flat_map lines_in before))) (drop 1 j.life.recs))
MayCheckpoint j before (replies.Refused (refusals.LogDown at)) =
    IsNonePending j (flat_map lines_in before) × (at ≡ j.life.flushed) × AreLogFaults (lines_of j) j.steps
MayCheckpoint j before (replies.Refused refusals.LogFault) = IsNonePending j (flat_map lines_in before)
MayCheckpoint j before (replies.Refused (refusals.DiskFault lock)) = IsNonePending j (flat_map lines_in before) × IsTrue (is_page_lock lock)
MayCheckpoint j before (replies.Refused refusals.Full) = IsNonePending j (flat_map lines_in before) × HasNoRoom j.life 57
MayCheckpoint j before (replies.Refused refusals.Memory) = Unit {0}
MayCheckpoint j before reply = ⊥
