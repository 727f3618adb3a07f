-- The rules of a life's log lines.
use Rattle.std.specs.Prelude.{◌≡◌, ◌≢◌, ℕ, zero, suc, ◌+◌, ◌<◌, ◌≤◌, ◌⊎◌, ◌==◌, Bool, true, false, List, ◌∷◌, Option, Some, None, IfNone, IfSome, length, take, slice_get, Contains}
use Rattle.std.specs.List.{AllByRecursion, filter, flat_map, fold}
use Rattle.tx_events.specs.declared.event.By.{By}
use Rattle.tx_events.specs.declared.event.Event.{Event}
use Rattle.tx_events.specs.declared.multi.MultiEvent.{MultiEvent}
use Rattle.tx_events.specs.declared.multi.MultiEvent.TheVariants as multis
use Rattle.tx_events.specs.declared.record.Counters.{Counters}
use Rattle.tx_events.specs.declared.record.Rec.{Rec}
use Rattle.tx_events.specs.declared.record.Rec.TheVariants as records
use Rattle.tx_events.specs.declared.refusal.Refusal.TheVariants as refusals
use Rattle.tx_events.specs.declared.xact_end.XactEnd.{XactEnd}
use Rattle.tx_events.specs.declared.xact_end.XactEnd.TheVariants as ends
use Rattle.tx_events.specs.After.{after_records}
use Rattle.tx_events.specs.Base.{IsBase}
use Rattle.tx_events.specs.Families.{is_top}
use Rattle.tx_events.specs.Running.{open_ids}
use Rattle.tx_events.specs.XactEnds.{end_event}
use Rattle.tx_model.specs.declared.command.Command.{Command}
use Rattle.tx_model.specs.declared.command.Command.TheVariants as commands
use Rattle.tx_model.specs.declared.reply.Reply.{Reply}
use Rattle.tx_model.specs.declared.reply.Reply.TheVariants as replies
use Rattle.tx_model.specs.declared.report.How.{How}
use Rattle.tx_model.specs.declared.report.Life.{Life}
use Rattle.tx_model.specs.declared.report.Line.{Line}
use Rattle.tx_model.specs.declared.report.Step.TheVariants as steps
use Rattle.tx_model.specs.Lines.{is_line_of}
use Rattle.tx_model.specs.Rounds.{lines_in}
use Rattle.life_law.specs.LifeLog.{IsAnnounced, ends_top}
pub use Rattle.life_law.specs.LifeLog.{IsAnnouncedMulti}
use Rattle.report_law.specs.Checkpoints.{counters_behind}
use Rattle.report_law.specs.Steps.{Judged, lines_of}

-- The flushed number is past the life's first record, and in the last life not past its last. Where a life follows, that
-- one's first line says so.
abbrev pub IsLawfulLog : Option How → Life → Type 0
IsLawfulLog crash life = (life.from < life.flushed) × IfNone crash (life.flushed ≤ life.from + length life.recs)

-- the reply to the last of these commands of a session
abbrev pub last_answer : (Command → Bool) → List Line → ℕ → Option Reply
last_answer is lines session = fold (λ earlier l. pick (is l.command) earlier l) None (filter (is_line_of session) lines)
  where
    pick : Bool → Option Reply → Line → Option Reply
    pick true earlier l = Some l.reply
    pick false earlier l = earlier

abbrev pub is_commit : Command → Bool
is_commit commands.Commit = true
is_commit command = false

abbrev pub is_abort : Command → Bool
is_abort commands.Abort = true
is_abort command = false

abbrev pub IsDiskFault : Reply → Type 0
IsDiskFault (replies.Refused (refusals.DiskFault lock)) = Unit {0}
IsDiskFault reply = ⊥

-- the transaction ended so: its top, and all its subids that weren't rolled back
pub record IsEndedAs (h : List Event) (how : XactEnd) (top : ℕ) (subs : List ℕ) : Type 0 where
  pub place : ℕ
  pub by : By
  pub stands : slice_get h place ≡ Some (end_event how by top)
  pub ids : open_ids by.session (take place h) ≡ top ∷ subs

-- the transaction that a session has open at the life's end
pub record IsOpenOf (h : List Event) (session top : ℕ) (subs : List ℕ) : Type 0 where
  pub root : is_top h top ≡ true
  pub ids : open_ids session h ≡ top ∷ subs

-- no record before is of the same transaction, or the same multixact
abbrev pub is_same_multi : ℕ → Rec → Bool
is_same_multi multi (records.Multi other offset members) = other == multi
is_same_multi multi rec = false

abbrev pub IsFirstOf : List Rec → Rec → Type 0
IsFirstOf before (records.Commit top subs) = (rec : Rec) → Contains before rec → ends_top rec top → ⊥
IsFirstOf before (records.Abort top subs) = (rec : Rec) → Contains before rec → ends_top rec top → ⊥
IsFirstOf before (records.Multi multi offset members) = AllByRecursion (λ rec. is_same_multi multi rec ≡ false) before
IsFirstOf before rec = Unit {0}

-- the counters are those behind the rounds before a checkpoint of the life
pub record AreOfCheckpoint (j : Judged) (counters : Counters) : Type 0 where
  pub place : ℕ
  pub reply : Reply
  pub asked : slice_get j.steps place ≡ Some (steps.Checkpoint reply)
  pub are : counters ≡ counters_behind j (flat_map lines_in (take place j.steps))

-- what a record behind the first one says is so
abbrev pub IsTrueRecord : Judged → Rec → Type 0
IsTrueRecord j (records.Commit top subs) =
    IsEndedAs j.life.events ends.Commit top subs
    ⊎ ((session : ℕ) × IsOpenOf j.life.events session top subs × IfSome (last_answer is_commit (lines_of j) session) (λ r. r ≢ replies.Done)
    × (last_answer is_commit (lines_of j) session ≢ None))
IsTrueRecord j (records.Abort top subs) =
    IsEndedAs j.life.events ends.Abort top subs
    ⊎ ((session : ℕ) × IsOpenOf j.life.events session top subs × IfSome (last_answer is_abort (lines_of j) session) IsDiskFault
    × (last_answer is_abort (lines_of j) session ≢ None))
IsTrueRecord j (records.Multi multi offset members) = (by : By) × Contains j.life.multis (multis.Gen by multi offset members)
IsTrueRecord j (records.Checkpoint number counters) = AreOfCheckpoint j counters
IsTrueRecord j (records.Truncate oldest multi offset) =
    IsAnnounced j.begun.counters j.life.events oldest × IsAnnouncedMulti j.begun.counters j.life.multis multi offset

-- the life's first record is the checkpoint of what it begins from
abbrev pub IsRecordAt : Judged → ℕ → Rec → Type 0
IsRecordAt j zero rec = rec ≡ records.Checkpoint j.life.from j.begun.counters
IsRecordAt j (suc place) rec = IsTrueRecord j rec

-- the record at this place of the life's: it is true, the only one of its transaction or multixact, and the counters
-- behind it are a base
pub record IsLawfulRecord (j : Judged) (place : ℕ) (rec : Rec) : Type 0 where
  pub true_there : IsRecordAt j place rec
  pub alone : IsFirstOf (take place j.life.recs) rec
  pub counters : IsBase (after_records j.begun.counters (take (place + 1) j.life.recs))
