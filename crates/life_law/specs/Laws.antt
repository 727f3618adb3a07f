-- What the definitions say together, of any lawful life.
use Rattle.std.specs.Prelude.{◌≡◌, ◌≢◌, ℕ, ◌-◌, ◌++◌, Bool, true, false, List, ◌∷◌, Contains, None, Option, Some, cond, slice_get, take}
use Rattle.std.specs.List.{filter, flat_map, fold}
use Rattle.tx_events.specs.declared.event.By.{By}
use Rattle.tx_events.specs.declared.event.Event.TheVariants as events
use Rattle.tx_events.specs.declared.record.Rec.TheVariants as records
use Rattle.tx_events.specs.declared.refusal.Refusal.TheVariants as refusals
use Rattle.tx_events.specs.Running.{is_undone, open_ids}
use Rattle.tx_model.specs.declared.command.Command.{Command}
use Rattle.tx_model.specs.declared.command.Command.TheVariants as commands
use Rattle.tx_model.specs.declared.reply.Reply.{Reply}
use Rattle.tx_model.specs.declared.reply.Reply.TheVariants as replies
use Rattle.tx_model.specs.declared.report.LifeReport.{LifeReport}
use Rattle.tx_model.specs.declared.report.Line.{Line}
use Rattle.tx_model.specs.declared.report.Step.{Step}
use Rattle.tx_model.specs.Asked.{Asked}
use Rattle.tx_model.specs.Rounds.{lines_in}
use Rattle.tx_model.specs.Lines.{is_line_of, stance}
use Rattle.tx_model.specs.Stance.{top_level}
use Rattle.life_law.specs.LawfulLife.{IsLawfulLife}
use Rattle.life_law.specs.LifeLog.{IsAmong}
use Rattle.life_law.specs.Pending.{pending}

-- the life is lawful for what it was asked
pub record IsLawful (r : LifeReport) : Type 0 where
  pub tells : Bool
  pub banks : ℕ
  pub asked : List Asked
  pub life : IsLawfulLife tells banks asked r

-- all lines of the life
abbrev pub lines_of : LifeReport → List Line
lines_of r = flat_map lines_in r.steps

-- the line stands in these steps, behind these lines
pub record StandsBehind (steps : List Step) (before : List Line) (l : Line) : Type 0 where
  pub round : ℕ
  pub step : Step
  pub told : slice_get steps round ≡ Some step
  pub place : ℕ
  pub stands : slice_get (lines_in step) place ≡ Some l
  pub before_is : before ≡ flat_map lines_in (take round steps) ++ take place (lines_in step)

-- this command of a transaction with this id was answered `ok`
pub record IsOkOf (r : LifeReport) (l : Line) (command : Command) (id : ℕ) : Type 0 where
  pub before : List Line
  pub stands : StandsBehind r.steps before l
  pub command_is : l.command ≡ command
  pub ok : l.reply ≡ replies.Done
  pub of : top_level (stance r.life.events before l.by.session).levels ≡ Some id

-- A commit that was answered `ok` has its record below the flushed number.
abbrev pub OkCommitsAreFlushed : Type 0
OkCommitsAreFlushed =
    (r : LifeReport) (l : Line) (top : ℕ) → IsLawful r → IsOkOf r l commands.Commit top
    → (subs : List ℕ) × IsAmong (r.life.flushed - r.life.from) r.life.recs (records.Commit top subs)

abbrev pub is_commit : Command → Bool
is_commit commands.Commit = true
is_commit command = false

-- the reply to the last commit among these lines
abbrev pub last_commit : List Line → Option Reply
last_commit lines = fold (λ found l. cond (is_commit l.command) (Some l.reply) found) None lines

-- A session has this transaction open, its commit is pending, and the last one that it asked for wasn't answered `ok`.
pub record IsInDoubt (r : LifeReport) (top : ℕ) (subs : List ℕ) : Type 0 where
  pub session : ℕ
  pub opened : open_ids session r.life.events ≡ top ∷ subs
  pub pending_is : pending r.life.recs r.life.events (lines_of r) session ≡ Some refusals.CommitPending
  pub reply : Reply
  pub last : last_commit (filter (is_line_of session) (lines_of r)) ≡ Some reply
  pub refused : reply ≢ replies.Done

-- A commit record without a commit event is in doubt.
abbrev pub UncommittedRecordsAreInDoubt : Type 0
UncommittedRecordsAreInDoubt =
    (r : LifeReport) (top : ℕ) (subs : List ℕ) → IsLawful r → Contains r.life.recs (records.Commit top subs)
    → ((by : By) → Contains r.life.events (events.Commit by top) → ⊥) → IsInDoubt r top subs

-- An id that was open when its transaction was aborted stands in no commit record.
abbrev pub AbortedIdsAreUnrecorded : Type 0
AbortedIdsAreUnrecorded =
    (r : LifeReport) (place top t id : ℕ) (subs : List ℕ) (by : By) → IsLawful r
    → slice_get r.life.events place ≡ Some (events.Abort by t)
    → Contains (open_ids by.session (take place r.life.events)) id
    → Contains r.life.recs (records.Commit top subs) → Contains (top ∷ subs) id → ⊥

-- So is that of a transaction whose abort was answered `ok`.
abbrev pub OkAbortsAreUnrecorded : Type 0
OkAbortsAreUnrecorded =
    (r : LifeReport) (l : Line) (top id : ℕ) (subs : List ℕ) → IsLawful r → IsOkOf r l commands.Abort id
    → Contains r.life.recs (records.Commit top subs) → Contains (top ∷ subs) id → ⊥

-- An id of which a savepoint was rolled back stands in none either.
abbrev pub UndoneIdsAreUnrecorded : Type 0
UndoneIdsAreUnrecorded =
    (r : LifeReport) (top id : ℕ) (subs : List ℕ) → IsLawful r → is_undone r.life.events id ≡ true
    → Contains r.life.recs (records.Commit top subs) → Contains (top ∷ subs) id → ⊥
