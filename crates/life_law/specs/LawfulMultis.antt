-- Which multixacts a life may have: one legal history, round by round, of its lines alone, and its trims' records.
use Rattle.std.specs.Prelude.{◌≡◌, ◌≤◌, ℕ, Bool, true, false, IsTrue, List, ◌++◌, Some, Contains, slice_get, take}
use Rattle.std.specs.List.{All, AllByRecursion, flat_map}
use Rattle.tx_events.specs.declared.event.By.{By}
use Rattle.tx_events.specs.declared.multi.MultiEvent.{MultiEvent}
use Rattle.tx_events.specs.declared.record.Rec.TheVariants as records
use Rattle.tx_events.specs.Multis.{AreLegalMultis, InBase, multi_by}
use Rattle.tx_events.specs.Places.{EachPlace}
use Rattle.tx_model.specs.declared.command.Command.{Command}
use Rattle.tx_model.specs.declared.command.Command.TheVariants as commands
use Rattle.tx_model.specs.declared.reply.Reply.{Reply}
use Rattle.tx_model.specs.declared.reply.Reply.TheVariants as replies
use Rattle.tx_model.specs.declared.report.Line.{Line}
use Rattle.tx_model.specs.declared.report.Step.{Step}
use Rattle.tx_model.specs.Rounds.{lines_in}
use Rattle.life_law.specs.Checkpoints.{flushed_in}
use Rattle.life_law.specs.Facts.{Facts}
use Rattle.life_law.specs.MultiLines.{of_records}
use Rattle.life_law.specs.MultiPlaces.{has_multi_line}

-- the events of these lines stand before all others
pub record MultisStandFirst (h : List MultiEvent) (lines : List Line) : Type 0 where
  pub first : List MultiEvent
  pub behind : List MultiEvent
  pub split : h ≡ first ++ behind
  pub theirs : All (λ e. IsTrue (has_multi_line lines e)) first
  pub others : All (λ e. has_multi_line lines e ≡ false) behind

-- the events of each round stand before those of the rounds behind it
abbrev pub AreMultisInTurn : List MultiEvent → List Step → Type 0
AreMultisInTurn h steps = (n : ℕ) → MultisStandFirst h (flat_map lines_in (take n steps))

-- and those of each session go by its commands
abbrev pub MultiComesInTurn : List MultiEvent → MultiEvent → Type 0
MultiComesInTurn before e =
    AllByRecursion (λ f. (multi_by f).session ≡ (multi_by e).session → (multi_by f).command ≤ (multi_by e).command) before

-- ---- trims

abbrev pub is_ok_trim : Line → Bool
is_ok_trim l = trimmed l.command l.reply
  where
    trimmed : Command → Reply → Bool
    trimmed commands.Trim replies.Done = true
    trimmed command reply = false

-- the command by which a record came to the log, and that one is a truncation's and known to be on disk
pub record HasTruncation (f : Facts) (callers : List By) (by : By) : Type 0 where
  pub place : ℕ
  pub by_is : slice_get callers place ≡ Some by
  pub oldest : ℕ
  pub multi : ℕ
  pub offset : ℕ
  pub stands : slice_get (flushed_in f) place ≡ Some (records.Truncate oldest multi offset)

-- Each trim that was answered `ok` has such a record, no two of them the same: the records came from these commands.
pub record AreTrimsFlushed (f : Facts) (lines : List Line) : Type 0 where
  pub callers : List By
  pub each : (l : Line) → Contains lines l → is_ok_trim l ≡ true → HasTruncation f callers l.by

-- ---- the life's

-- One legal history, whatever is known of the offsets with which the life begins, and by the records of these where the
-- page volumes told. Each event is of a line.
pub record AreLawfulMultis (f : Facts) (told : List Step) : Type 0 where
  pub legal : AreLegalMultis f.base (InBase f.base) f.multis
  pub by_records : IsTrue f.tells → AreLegalMultis f.base (of_records f.base f.recorded) f.multis
  pub turns : EachPlace f.multis MultiComesInTurn
  pub in_turn : AreMultisInTurn f.multis told
  pub no_other : All (λ e. IsTrue (has_multi_line (flat_map lines_in told) e)) f.multis
  pub trims : AreTrimsFlushed f (flat_map lines_in told)
