-- Which lives are lawful.
use Rattle.std.specs.Prelude.{ℕ, ◌≤◌, Bool, IsTrue, List}
use Rattle.std.specs.List.{All, filter_map, flat_map}
use Rattle.tx_events.specs.History.{IsLegal}
use Rattle.tx_events.specs.Places.{EachPlace}
use Rattle.tx_model.specs.declared.report.Life.{Life}
use Rattle.tx_model.specs.declared.report.LifeReport.{LifeReport}
use Rattle.tx_model.specs.declared.report.Step.{Step}
use Rattle.tx_model.specs.Asked.{Asked}
use Rattle.tx_model.specs.Rounds.{AreInTurn, AreSteps, lines_in}
use Rattle.tx_model.specs.Lines.{has_line}
use Rattle.life_law.specs.Checkpoints.{AreLawfulCheckpoints}
use Rattle.life_law.specs.Dumps.{AreLawfulDumps}
use Rattle.life_law.specs.Facts.{Facts, has_failed_log, log_faults_in}
use Rattle.life_law.specs.LawfulMultis.{AreLawfulMultis}
use Rattle.life_law.specs.LifeLog.{IsLogOf}
use Rattle.life_law.specs.Lines.{IsLawfulRound}
use Rattle.life_law.specs.MultiPlaces.{recorded_by}
use Rattle.life_law.specs.Pending.{IsOpenAsTold}

-- what a life tells with these steps
abbrev pub facts_of : Bool → ℕ → Life → List Step → Facts
facts_of tells banks life told = record {
  tells = tells;
  banks = banks;
  from = life.from;
  base = life.base;
  committed = life.committed;
  recorded = filter_map recorded_by life.recorded;
  events = life.events;
  multis = life.multis;
  recs = life.recs;
  flushed = life.flushed;
  log_failed = has_failed_log told;
}

-- each line is lawful in its round, and each event is of a line
pub record AreLawfulSteps (f : Facts) (steps : List Step) : Type 0 where
  pub each : EachPlace steps (λ before step. IsLawfulRound f (flat_map lines_in before) (lines_in step))
  pub no_other : All (λ e. IsTrue (has_line (flat_map lines_in steps) e)) f.events

-- One legal history, round by round, and one of multixacts; the steps are what was asked, each line lawful, and each dump
-- and each checkpoint between two rounds; the log of these ends and multixacts, with truncations to announced ids and
-- multixacts, and of a transaction that is still open no more than its session's lines tell. The log's volume fails once
-- at most, since the log stays down. Each store has so many banks, and verdicts are told where the volumes tell.
pub record IsLawfulLife (tells : Bool) (banks : ℕ) (asked : List Asked) (r : LifeReport) : Type 0 where
  pub history : IsLegal r.life.base r.life.events
  pub told : AreSteps 1 asked r.steps
  pub in_turn : AreInTurn r.life.events r.steps
  pub lawful : AreLawfulSteps (facts_of tells banks r.life r.steps) r.steps
  pub dumps : AreLawfulDumps (facts_of tells banks r.life r.steps) r.steps
  pub checkpoints : AreLawfulCheckpoints (facts_of tells banks r.life r.steps) r.steps
  pub multis : AreLawfulMultis (facts_of tells banks r.life r.steps) r.steps
  pub log : IsLogOf r.life.from r.life.base r.life.events r.life.multis r.life.recs r.life.flushed r.life.end
  pub opened : (session : ℕ) → IsOpenAsTold r.life.recs r.life.events (flat_map lines_in r.steps) session
  pub log_fails_once : log_faults_in r.steps ≤ 1
