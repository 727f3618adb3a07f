-- A worked life with a checkpoint between two rounds, and some that are wrong. Session 0 writes in the first round, and
-- its commit is asked for in the second.
use Rattle.std.specs.Prelude.{false, List, [], ◌∷◌, ◌++◌, None, length}
use Rattle.tx_events.specs.declared.event.Event.{Event}
use Rattle.tx_events.specs.declared.event.Event.TheVariants as events
use Rattle.tx_events.specs.declared.record.Counters.{Counters}
use Rattle.tx_events.specs.declared.record.Rec.{Rec}
use Rattle.tx_events.specs.declared.record.Rec.TheVariants as records
use Rattle.tx_events.specs.declared.refusal.Refusal.TheVariants as refusals
use Rattle.tx_model.specs.declared.command.Command.TheVariants as commands
use Rattle.tx_model.specs.declared.reply.Reply.{Reply}
use Rattle.tx_model.specs.declared.reply.Reply.TheVariants as replies
use Rattle.tx_model.specs.declared.report.LifeReport.{LifeReport}
use Rattle.tx_model.specs.declared.report.Line.{Line}
use Rattle.tx_model.specs.declared.report.Step.TheVariants as steps
use Rattle.life_law.specs.Laws.{IsLawful}
use Rattle.life_law.specs.Worked.{bank_fault, by_at, line_of, worked_base}

abbrev pub written_lines : List Line
written_lines = line_of 0 1 commands.Begin replies.Done ∷ line_of 0 2 commands.Write (replies.Wrote false (3 ∷ [])) ∷ []

abbrev pub ending_lines : List Line
ending_lines = line_of 0 3 commands.Commit replies.Done ∷ []

abbrev pub checked_events : List Event
checked_events = events.Id (by_at 0 2) 3 ∷ events.Commit (by_at 0 3) 3 ∷ []

-- the counters behind the first round
abbrev pub checked_counters : Counters
checked_counters = record worked_base { next = 4 }

-- the life whose checkpoint was answered so, with these records behind the first
abbrev pub checked_with : Reply → List Rec → LifeReport
checked_with answer recs = record {
  life = record {
    from = 0;
    base = worked_base;
    committed = [];
    recorded = [];
    events = checked_events;
    multis = [];
    recs = records.Checkpoint 0 worked_base ∷ recs;
    flushed = length (records.Checkpoint 0 worked_base ∷ recs);
    end = 140;
  };
  steps = steps.Round 1 written_lines ∷ steps.Checkpoint answer ∷ steps.Round 2 ending_lines ∷ [];
  crash = None;
}

abbrev pub checked_life : LifeReport
checked_life = checked_with replies.Done (records.Checkpoint 1 checked_counters ∷ records.Commit 3 [] ∷ [])

-- the checkpoint that was answered `ok` has no record
abbrev pub unkept_life : LifeReport
unkept_life = checked_with replies.Done (records.Commit 3 [] ∷ [])

-- its record isn't on disk
abbrev pub unflushed_life : LifeReport
unflushed_life = record {
  life = record {
    from = 0;
    base = worked_base;
    committed = [];
    recorded = [];
    events = events.Id (by_at 0 2) 3 ∷ [];
    multis = [];
    recs = records.Checkpoint 0 worked_base ∷ records.Checkpoint 1 checked_counters ∷ [];
    flushed = 1;
    end = 90;
  };
  steps = steps.Round 1 written_lines ∷ steps.Checkpoint replies.Done ∷ [];
  crash = None;
}

-- it has one with the counters of the life's begin
abbrev pub stale_life : LifeReport
stale_life = checked_with replies.Done (records.Checkpoint 1 worked_base ∷ records.Commit 3 [] ∷ [])

-- it has one with the number of another record
abbrev pub renumbered_life : LifeReport
renumbered_life = checked_with replies.Done (records.Checkpoint 2 checked_counters ∷ records.Commit 3 [] ∷ [])

-- a checkpoint that was refused before its record has one
abbrev pub kept_life : LifeReport
kept_life = checked_with (replies.Refused refusals.Full) (records.Checkpoint 1 checked_counters ∷ records.Commit 3 [] ∷ [])

-- the checkpoint went on, though the commit of session 0 was pending
abbrev pub hasty_life : LifeReport
hasty_life = record {
  life = record {
    from = 0;
    base = worked_base;
    committed = [];
    recorded = [];
    events = events.Id (by_at 0 2) 3 ∷ events.Commit (by_at 0 4) 3 ∷ [];
    multis = [];
    recs =
        records.Checkpoint 0 worked_base ∷ records.Commit 3 []
        ∷ records.Checkpoint 2 checked_counters ∷ [];
    flushed = 3;
    end = 140;
  };
  steps =
      steps.Round 1 (written_lines ++ line_of 0 3 commands.Commit bank_fault ∷ [])
      ∷ steps.Checkpoint replies.Done ∷ steps.Round 2 (line_of 0 4 commands.Commit replies.Done ∷ []) ∷ [];
  crash = None;
}

-- the life is lawful, and the others aren't
pub record WorkedCheckpoints : Type 0 where
  pub lawful : IsLawful checked_life
  pub unkept : IsLawful unkept_life → ⊥
  pub unflushed : IsLawful unflushed_life → ⊥
  pub stale : IsLawful stale_life → ⊥
  pub renumbered : IsLawful renumbered_life → ⊥
  pub kept : IsLawful kept_life → ⊥
  pub hasty : IsLawful hasty_life → ⊥
