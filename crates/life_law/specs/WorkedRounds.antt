-- A worked life of two rounds whose second one meets the limit of ids, and some that are wrong: a refusal tells numbers
-- of its own round.
use Rattle.std.specs.Prelude.{true, List, [], ◌∷◌, None}
use Rattle.tx_events.specs.declared.event.Event.{Event}
use Rattle.tx_events.specs.declared.event.Event.TheVariants as events
use Rattle.tx_events.specs.declared.record.Counters.{Counters}
use Rattle.tx_events.specs.declared.record.Rec.TheVariants as records
use Rattle.tx_events.specs.declared.refusal.Refusal.TheVariants as refusals
use Rattle.tx_model.specs.declared.command.Command.TheVariants as commands
use Rattle.tx_model.specs.declared.reply.Reply.TheVariants as replies
use Rattle.tx_model.specs.declared.report.LifeReport.{LifeReport}
use Rattle.tx_model.specs.declared.report.Line.{Line}
use Rattle.tx_model.specs.declared.report.Step.TheVariants as steps
use Rattle.life_law.specs.Laws.{IsLawful}
use Rattle.life_law.specs.Worked.{by_at, line_of, worked_base}

-- the life of these rounds, whose log has the checkpoint alone
abbrev pub rounds_life : Counters → List Event → List Line → List Line → LifeReport
rounds_life base events first second = record {
  life = record {
    from = 0;
    base = base;
    committed = [];
    recorded = [];
    events = events;
    multis = [];
    recs = records.Checkpoint 0 base ∷ [];
    flushed = 1;
    end = 62;
  };
  steps = steps.Round 1 first ∷ steps.Round 2 second ∷ [];
  crash = None;
}

-- one id is left before the stop limit of the oldest id 3
abbrev pub late_base : Counters
late_base = record worked_base { next = 2144483649 }

-- session 1 is given it, with a warning
abbrev pub last_lines : List Line
last_lines =
    line_of 1 1 commands.Begin replies.Done
    ∷ line_of 1 2 commands.Write (replies.Wrote true (2144483649 ∷ [])) ∷ []

abbrev pub last_events : List Event
last_events = events.Id (by_at 1 2) 2144483649 ∷ []

-- session 0 is refused the next one
abbrev pub stopped_lines : List Line
stopped_lines =
    line_of 0 1 commands.Begin replies.Done
    ∷ line_of 0 2 commands.Write (replies.Refused (refusals.Stop 2144483650 2144483650)) ∷ []

abbrev pub stopped_life : LifeReport
stopped_life = rounds_life late_base last_events last_lines stopped_lines

-- it is refused so in the round before
abbrev pub early_stop_life : LifeReport
early_stop_life = rounds_life late_base last_events stopped_lines last_lines

-- the status of an id is asked for, which is older than an oldest id of the next round
abbrev pub old_lines : List Line
old_lines = line_of 0 1 (commands.Status 4) (replies.Refused (refusals.TooOld 5)) ∷ []

abbrev pub raising_lines : List Line
raising_lines = line_of 1 1 (commands.Freeze 5) replies.Done ∷ []

abbrev pub raised_events : List Event
raised_events = events.Ask (by_at 0 1) 4 ∷ events.Oldest (by_at 1 1) 5 ∷ []

abbrev pub early_oldest_life : LifeReport
early_oldest_life = rounds_life (record worked_base { next = 10 }) raised_events old_lines raising_lines

-- the first is lawful, and the others aren't
pub record WorkedRounds : Type 0 where
  pub lawful : IsLawful stopped_life
  pub early_stop : IsLawful early_stop_life → ⊥
  pub early_oldest : IsLawful early_oldest_life → ⊥
