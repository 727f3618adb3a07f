-- A worked life, and some that are wrong. Sessions 0 and 1 write, and session 1 commits. At the commit of session 0 the
-- log's volume fails; then that commit is pending, and the log is down. Other wrong ones have one round of session 0.
use Rattle.std.specs.Prelude.{ℕ, false, List, [], ◌∷◌, None}
use Rattle.tx_events.specs.declared.event.By.{By}
use Rattle.tx_events.specs.declared.event.Event.{Event}
use Rattle.tx_events.specs.declared.event.Event.TheVariants as events
use Rattle.tx_events.specs.declared.record.Counters.{Counters}
use Rattle.tx_events.specs.declared.record.Rec.{Rec}
use Rattle.tx_events.specs.declared.record.Rec.TheVariants as records
use Rattle.tx_events.specs.declared.refusal.Lock.TheVariants as locks
use Rattle.tx_events.specs.declared.refusal.Refusal.TheVariants as refusals
use Rattle.tx_events.specs.Snapshots.{snapshot_data}
use Rattle.tx_model.specs.declared.command.Command.{Command}
use Rattle.tx_model.specs.declared.command.Command.TheVariants as commands
use Rattle.tx_model.specs.declared.reply.Reply.{Reply}
use Rattle.tx_model.specs.declared.reply.Reply.TheVariants as replies
use Rattle.tx_model.specs.declared.report.LifeReport.{LifeReport}
use Rattle.tx_model.specs.declared.report.Line.{Line}
use Rattle.tx_model.specs.declared.report.Step.TheVariants as steps
use Rattle.life_law.specs.Laws.{IsLawful}

abbrev pub worked_base : Counters
worked_base = record { next = 3; oldest = 3; multi = 1; offset = 1; oldest_multi = 1; oldest_offset = 1 }

abbrev pub by_at : ℕ → ℕ → By
by_at session number = record { session = session; command = number }

abbrev pub line_of : ℕ → ℕ → Command → Reply → Line
line_of session number command reply = record { by = by_at session number; command = command; reply = reply }

abbrev pub first_lines : List Line
first_lines =
    line_of 0 1 commands.Begin replies.Done ∷ line_of 0 2 commands.Write (replies.Wrote false (3 ∷ []))
    ∷ line_of 1 1 commands.Begin replies.Done ∷ line_of 1 2 commands.Write (replies.Wrote false (4 ∷ []))
    ∷ line_of 1 3 commands.Commit replies.Done ∷ []

-- session 0 asks for its commit, for a savepoint, and for its commit again
abbrev pub second_lines : Reply → Reply → Reply → List Line
second_lines answer saved again =
    line_of 0 3 commands.Commit answer ∷ line_of 0 4 commands.Save saved ∷ line_of 0 5 commands.Commit again ∷ []

abbrev pub worked_events : List Event
worked_events = events.Id (by_at 0 2) 3 ∷ events.Id (by_at 1 2) 4 ∷ events.Commit (by_at 1 3) 4 ∷ []

-- the life with these replies in its second round, and with these records behind the checkpoint
abbrev pub life_with : Reply → Reply → Reply → List Rec → LifeReport
life_with answer saved again recs = record {
  life = record {
    from = 0;
    base = worked_base;
    committed = [];
    recorded = [];
    events = worked_events;
    multis = [];
    recs = records.Checkpoint 0 worked_base ∷ recs;
    flushed = 2;
    end = 80;
  };
  steps = steps.Round 1 first_lines ∷ steps.Round 2 (second_lines answer saved again) ∷ [];
  crash = None;
}

abbrev pub log_fault : Reply
log_fault = replies.Refused refusals.LogFault

abbrev pub no_memory : Reply
no_memory = replies.Refused refusals.Memory

abbrev pub commit_pending : Reply
commit_pending = replies.Refused refusals.CommitPending

abbrev pub log_down : ℕ → Reply
log_down at = replies.Refused (refusals.LogDown at)

abbrev pub both_records : List Rec
both_records = records.Commit 4 [] ∷ records.Commit 3 [] ∷ []

abbrev pub worked_life : LifeReport
worked_life = life_with log_fault commit_pending (log_down 2) both_records

-- the commit that was answered `ok` has no record
abbrev pub lost_life : LifeReport
lost_life = life_with log_fault commit_pending (log_down 2) (records.Commit 3 [] ∷ [])

-- it has one, which isn't below the flushed number
abbrev pub unflushed_life : LifeReport
unflushed_life = life_with log_fault commit_pending (log_down 2) (records.Commit 3 [] ∷ records.Commit 4 [] ∷ [])

-- the commit that is pending has no record
abbrev pub unrecorded_life : LifeReport
unrecorded_life = life_with log_fault commit_pending (log_down 2) (records.Commit 4 [] ∷ [])

-- a commit that was refused before its record has one
abbrev pub unasked_life : LifeReport
unasked_life = life_with no_memory replies.Done no_memory both_records

-- the log is down from another number on
abbrev pub misnumbered_life : LifeReport
misnumbered_life = life_with log_fault commit_pending (log_down 1) both_records

-- the transaction goes on, though its commit is pending
abbrev pub resumed_life : LifeReport
resumed_life = life_with log_fault replies.Done (log_down 2) both_records

-- the log is down, and no command was told that its volume failed
abbrev pub untold_life : LifeReport
untold_life = life_with no_memory replies.Done (log_down 2) (records.Commit 4 [] ∷ [])

-- the log's volume fails once more
abbrev pub refailed_life : LifeReport
refailed_life = life_with log_fault commit_pending log_fault both_records

-- ---- lives of one round of session 0, whose log has the checkpoint alone

abbrev pub short_life : List Event → List Line → LifeReport
short_life events lines = record {
  life = record {
    from = 0;
    base = worked_base;
    committed = [];
    recorded = [];
    events = events;
    multis = [];
    recs = records.Checkpoint 0 worked_base ∷ [];
    flushed = 1;
    end = 62;
  };
  steps = steps.Round 1 lines ∷ [];
  crash = None;
}

abbrev pub bank_fault : Reply
bank_fault = replies.Refused (refusals.DiskFault (locks.Xact 0))

-- the abort of a transaction without an id met a fault of pg_xact
abbrev pub idless_lines : List Line
idless_lines = line_of 0 1 commands.Begin replies.Done ∷ line_of 0 2 commands.Abort bank_fault ∷ []

abbrev pub idless_life : LifeReport
idless_life = short_life [] idless_lines

-- the name `s`
abbrev pub its_name : List ℕ
its_name = 115 ∷ []

-- so did a look at the special id 1
abbrev pub special_lines : List Line
special_lines =
    line_of 0 1 (commands.Snap its_name) (replies.Snapped (snapshot_data 3 []))
    ∷ line_of 0 2 (commands.See its_name (record { number = 1 })) bank_fault ∷ []

abbrev pub special_life : LifeReport
special_life = short_life (events.Snap its_name (by_at 0 1) ∷ []) special_lines

-- a write that was refused for a pending abort gave an id to one of two savepoints
abbrev pub giving_lines : List Line
giving_lines =
    line_of 0 1 commands.Begin replies.Done ∷ line_of 0 2 commands.Write (replies.Wrote false (3 ∷ []))
    ∷ line_of 0 3 commands.Save replies.Done ∷ line_of 0 4 commands.Save replies.Done
    ∷ line_of 0 5 commands.Abort bank_fault
    ∷ line_of 0 6 commands.Write (replies.Refused refusals.AbortPending) ∷ []

abbrev pub giving_life : LifeReport
giving_life = short_life (events.Id (by_at 0 2) 3 ∷ events.Sub (by_at 0 6) 3 4 ∷ []) giving_lines

-- the life is lawful, and the others aren't
pub record WorkedLives : Type 0 where
  pub lawful : IsLawful worked_life
  pub lost : IsLawful lost_life → ⊥
  pub unflushed : IsLawful unflushed_life → ⊥
  pub unrecorded : IsLawful unrecorded_life → ⊥
  pub unasked : IsLawful unasked_life → ⊥
  pub misnumbered : IsLawful misnumbered_life → ⊥
  pub resumed : IsLawful resumed_life → ⊥
  pub untold : IsLawful untold_life → ⊥
  pub refailed : IsLawful refailed_life → ⊥
  pub idless : IsLawful idless_life → ⊥
  pub special : IsLawful special_life → ⊥
  pub giving : IsLawful giving_life → ⊥
