-- What the promises of all sessions make of a life that is over.
use Rattle.engine_parts.specs.Sessions.{MayCall}
use Rattle.engine_parts.specs.Holds.{Knowledge}
use Rattle.std.specs.Prelude.{◌≡◌, ◌+◌, ℕ, ◌^◌, ◌<◌, Bool, List, [], ◌∷◌, ◌++◌, length}
use Rattle.std.specs.List.{AllByRecursion, count_by, filter}
use Rattle.notes.specs.Lists.{at}
use Rattle.tx_events.specs.declared.record.Rec.TheVariants as records
use Rattle.tx_events.specs.Places.{EachPlace}
use Rattle.tx_model.specs.declared.report.LifeReport.{LifeReport}
use Rattle.tx_model.specs.declared.report.Step.{Step}
use Rattle.tx_model.specs.Asked.{Asked}
use Rattle.tx_model.specs.Rounds.{AreInTurn, AreSteps, is_round}
use Rattle.life_law.specs.LawfulLife.{AreLawfulSteps, IsLawfulLife, facts_of}
use Rattle.life_law.specs.LawfulMultis.{AreLawfulMultis}
use Rattle.life_law.specs.LifeLog.{IsLogOf}
use Rattle.tx_core.specs.declared.entry.Entry.{Entry}
use Rattle.tx_core.specs.declared.entry.Start.{Start}
use Rattle.tx_core.specs.EngineInvariant.{EngineInvariant}
use Rattle.tx_core.specs.Entries.{AreFewIds, flushed_to, history}
use Rattle.tx_core.specs.Locks.{log_lock}
use Rattle.tx_core.specs.MultiEntries.{AreFewMultis, multi_history}
use Rattle.engine_parts.specs.declared.session.Session.{Session}
use Rattle.session_promise.specs.Promise.{IsMadeFor, Promise, is_made_level, is_made_multi, recs_of}
use Rattle.session_promise.specs.Checkpoints.{AreCheckpointsTold}
use Rattle.session_promise.specs.Dumps.{AreDumpsTold}
use Rattle.session_promise.specs.Told.{Follow, ToldRound, all_lines, in_events, in_multis, steps_of, told_by}

-- the session may call in these lists, whatever pass it gets
pub record MayCallIn (start : Start) (lists : List (List Entry)) (n : ℕ) (s : Session) : Type 0 where
  pub pass : Knowledge
  pub seen : pass.seen ≡ lists
  pub may : MayCall start pass n s

-- where each round began, each multixact was done that a line of the rounds before it was given with `ok`
abbrev pub AreMadeBefore : Start → List ToldRound → Type 0
AreMadeBefore start rounds =
    EachPlace rounds (λ before r. AllByRecursion (λ l. IsMadeFor start r.span.begun l.by.session l.reply) (all_lines before))

-- All sessions of the life promise of their lines in its lists, in which its rounds stand one after another, and may
-- call there.
pub record IsOver (tells : Bool) (start : Start) (lists : List (List Entry)) (rounds : List ToldRound) : Type 0 where
  pub kept : EngineInvariant start lists
  pub lines : AllByRecursion (λ l. l.by.session < start.sessions) (all_lines rounds)
  pub places : Follow in_events 0 rounds (length (history lists))
  pub multi_places : Follow in_multis 0 rounds (length (multi_history lists))
  pub made : AreMadeBefore start rounds
  pub each : (n : ℕ) → n < start.sessions → (s : Session) × Promise tells start lists n (told_by n rounds) s × MayCallIn start lists n s

-- fewer than 2,900,000 of the commands make levels
abbrev pub AreFewLevels : List ToldRound → Type 0
AreFewLevels rounds = count_by is_made_level (all_lines rounds) < 2900000

-- then the life gave fewer ids
abbrev pub LevelsBoundIds : Type 0
LevelsBoundIds =
    (tells : Bool) (start : Start) (lists : List (List Entry)) (rounds : List ToldRound)
    → IsOver tells start lists rounds → AreFewLevels rounds → AreFewIds lists

-- and fewer than 2,900,000 ask for multixacts
abbrev pub AreFewMultiLines : List ToldRound → Type 0
AreFewMultiLines rounds = count_by is_made_multi (all_lines rounds) < 2900000

-- then the life gave fewer multixacts
abbrev pub LinesBoundMultis : Type 0
LinesBoundMultis =
    (tells : Bool) (start : Start) (lists : List (List Entry)) (rounds : List ToldRound)
    → IsOver tells start lists rounds → AreFewMultiLines rounds → AreFewMultis lists

-- the life began with the checkpoint of this number, which a new log has as its first record
pub record BeginsAt (number : ℕ) (start : Start) : Type 0 where
  pub from : start.from ≡ number + 1
  pub logged : start.logged ≡ records.Checkpoint number start.base ∷ []

-- the report of the life tells these lists and rounds
pub record IsReportOf (start : Start) (lists : List (List Entry)) (rounds : List ToldRound) (r : LifeReport)
    : Type 0 where
  pub base : r.life.base ≡ start.base
  pub committed : r.life.committed ≡ start.committed
  pub recorded : r.life.recorded ≡ start.recorded
  pub events : r.life.events ≡ history lists
  pub multis : r.life.multis ≡ multi_history lists
  pub recs : r.life.recs ≡ start.logged ++ recs_of lists
  pub flushed : r.life.flushed ≡ flushed_to start (at lists log_lock)
  pub steps : filter is_round r.steps ≡ steps_of 1 rounds

-- the lines are lawful, and the rounds stand one after another
abbrev pub PromisesMakeSteps : Type 0
PromisesMakeSteps =
    (tells : Bool) (start : Start) (lists : List (List Entry)) (rounds : List ToldRound) (r : LifeReport)
    → BeginsAt r.life.from start → IsOver tells start lists rounds → AreFewLevels rounds → AreFewMultiLines rounds
    → AreCheckpointsTold start lists rounds r.steps → IsReportOf start lists rounds r
    → AreLawfulSteps (facts_of tells start.banks r.life r.steps) r.steps × AreInTurn r.life.events r.steps

-- and the multixacts are lawful
abbrev pub PromisesMakeMultis : Type 0
PromisesMakeMultis =
    (tells : Bool) (start : Start) (lists : List (List Entry)) (rounds : List ToldRound) (r : LifeReport)
    → BeginsAt r.life.from start → IsOver tells start lists rounds → AreFewMultiLines rounds
    → IsReportOf start lists rounds r → AreLawfulMultis (facts_of tells start.banks r.life r.steps) r.steps

-- The log is that of the ends, of the multixacts and of the checkpoints.
abbrev pub PromisesMakeLog : Type 0
PromisesMakeLog =
    (tells : Bool) (start : Start) (lists : List (List Entry)) (rounds : List ToldRound) (told : List Step)
    (number end : ℕ)
    → BeginsAt number start → IsOver tells start lists rounds → AreCheckpointsTold start lists rounds told
    → number + length (start.logged ++ recs_of lists) < 2 ^ 64 → end < 2 ^ 64
    → IsLogOf number start.base (history lists) (multi_history lists) (start.logged ++ recs_of lists)
    (flushed_to start (at lists log_lock)) end

-- so the life is lawful
abbrev pub PromisesMakeLife : Type 0
PromisesMakeLife =
    (tells : Bool) (start : Start) (lists : List (List Entry)) (rounds : List ToldRound)
    (asked : List Asked) (r : LifeReport)
    → BeginsAt r.life.from start → IsOver tells start lists rounds → AreFewLevels rounds → AreFewMultiLines rounds → AreSteps 1 asked r.steps → AreDumpsTold start lists rounds r.steps
    → AreCheckpointsTold start lists rounds r.steps
    → IsReportOf start lists rounds r → r.life.from + length r.life.recs < 2 ^ 64 → r.life.end < 2 ^ 64
    → IsLawfulLife tells start.banks asked r
