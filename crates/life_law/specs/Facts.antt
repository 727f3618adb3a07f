-- What the lines of a life are judged by.
use Rattle.std.specs.Prelude.{ℕ, ◌+◌, ◌||◌, Bool, true, false, List}
use Rattle.std.specs.List.{count_by, flat_map, list_any}
use Rattle.tx_events.specs.declared.event.Event.{Event}
use Rattle.tx_events.specs.declared.multi.MultiEvent.{MultiEvent}
use Rattle.tx_events.specs.declared.record.Counters.{Counters}
use Rattle.tx_events.specs.declared.record.Rec.{Rec}
use Rattle.tx_events.specs.declared.refusal.Refusal.TheVariants as refusals
use Rattle.tx_model.specs.declared.reply.Reply.{Reply}
use Rattle.tx_model.specs.declared.reply.Reply.TheVariants as replies
use Rattle.tx_model.specs.declared.report.Line.{Line}
use Rattle.tx_model.specs.declared.report.Step.{Step}
use Rattle.tx_model.specs.declared.report.Step.TheVariants as steps
use Rattle.tx_model.specs.Rounds.{lines_in}
use Rattle.life_law.specs.MultiPlaces.{Recorded}

-- Whether the page volumes told what they hold, how many banks each store has, what the life begins from, its two
-- histories and its log, with the number of its first record, and whether a command of the life was answered that the
-- log's volume failed.
pub record Facts : Type 0 where
  pub tells : Bool
  pub banks : ℕ
  pub from : ℕ
  pub base : Counters
  pub committed : List ℕ
  pub recorded : List Recorded
  pub events : List Event
  pub multis : List MultiEvent
  pub recs : List Rec
  pub flushed : ℕ
  pub log_failed : Bool

abbrev pub is_log_fault : Reply → Bool
is_log_fault (replies.Refused refusals.LogFault) = true
is_log_fault _ = false

abbrev pub has_log_fault : List Line → Bool
has_log_fault lines = list_any (λ l. is_log_fault l.reply) lines

-- how many commands were answered so
abbrev pub log_faults : List Line → ℕ
log_faults lines = count_by (λ l. is_log_fault l.reply) lines

-- a checkpoint was
abbrev pub is_checkpoint_fault : Step → Bool
is_checkpoint_fault (steps.Checkpoint reply) = is_log_fault reply
is_checkpoint_fault step = false

-- whether a command or a checkpoint of these steps was answered so, and how many were
abbrev pub has_failed_log : List Step → Bool
has_failed_log told = has_log_fault (flat_map lines_in told) || list_any is_checkpoint_fault told

abbrev pub log_faults_in : List Step → ℕ
log_faults_in told = log_faults (flat_map lines_in told) + count_by is_checkpoint_fault told
