-- What a command adds to the lists of the locks.
use Rattle.std.specs.Prelude.{◌≡◌, ◌⊎◌, ℕ, Bool, false, true, IsTrue, List, ◌∷◌, ◌++◌, None, Option, Result, Ok, Err}
use Rattle.std.specs.List.{AllByRecursion}
use Rattle.notes.specs.Lists.{at, own}
use Rattle.tx_events.specs.declared.event.By.{By}
use Rattle.tx_events.specs.declared.record.Rec.{Rec}
use Rattle.tx_events.specs.declared.record.Rec.TheVariants as records
use Rattle.tx_events.specs.declared.refusal.Lock.{Lock}
use Rattle.tx_events.specs.declared.refusal.Refusal.{Refusal}
use Rattle.tx_events.specs.declared.refusal.Refusal.TheVariants as refusals
use Rattle.tx_model.specs.declared.command.Command.{Command}
use Rattle.tx_model.specs.declared.command.Command.TheVariants as commands
use Rattle.tx_model.specs.declared.reply.Reply.{Reply}
use Rattle.tx_model.specs.declared.reply.Reply.TheVariants as replies
use Rattle.tx_model.specs.Stance.{Stance}
use Rattle.tx_core.specs.declared.entry.Entry.{Entry}
use Rattle.tx_core.specs.declared.entry.Kind.{Kind}
use Rattle.tx_core.specs.declared.entry.Kind.TheVariants as kinds
use Rattle.tx_core.specs.declared.entry.LogCall.TheVariants as calls
use Rattle.tx_core.specs.Entries.{session_of}
use Rattle.tx_core.specs.Locks.{number_of}
use Rattle.engine_parts.specs.declared.session.Stage.{Stage}
use Rattle.engine_parts.specs.Stages.{may_be_aborted}
use Rattle.engine_parts.specs.Standing.{flushes, is_unrecorded}

-- The session's entries of a list are those before and then these, which are the command's, each of such a kind.
pub record AddsTo (by : By) (May : Kind → Type 0) (es more : List Entry) : Type 0 where
  pub added : List Entry
  pub grown : own session_of by.session more ≡ own session_of by.session es ++ added
  pub each : AllByRecursion (λ e. (e.by ≡ by) × May e.kind) added

-- so at each lock
pub record Adds (by : By) (May : ℕ → Kind → Type 0) (lists more : List (List Entry)) : Type 0 where
  pub each : (lock : ℕ) → AddsTo by (May lock) (at lists lock) (at more lock)

-- at none
abbrev pub AddsNothing : By → List (List Entry) → List (List Entry) → Type 0
AddsNothing by lists more = Adds by (λ lock kind. ⊥) lists more

-- whether pages may be cut, and whether a fault may tell of a cut that it stopped
abbrev pub MayCut : Bool → Type 0
MayCut true = Unit {0}
MayCut false = ⊥

abbrev pub MayStopCut : Bool → Option ℕ → Type 0
MayStopCut true cut = Unit {0}
MayStopCut false cut = cut ≡ None

-- What a step of a command may add that appends such records, flushes if at all, tells such refusals, and cuts pages if at
-- all. A fault is one that it tells: of the log's volume in a flush, or of the volume behind this very lock. Nothing is
-- forgotten.
abbrev pub MayAddBy : Bool → (Rec → Type 0) → Type 0 → (Refusal → Type 0) → ℕ → Kind → Type 0
MayAddBy cuts Appends Flushes Tells lock (kinds.Append rec) = Appends rec
MayAddBy cuts Appends Flushes Tells lock (kinds.Flush to) = Flushes
MayAddBy cuts Appends Flushes Tells lock (kinds.Forget number) = ⊥
MayAddBy cuts Appends Flushes Tells lock (kinds.LogFault asked count) = (asked ≡ calls.Flush) × Tells refusals.LogFault
MayAddBy cuts Appends Flushes Tells lock (kinds.Fault callers changes cut count) =
    (named : Lock) × (number_of named ≡ lock) × Tells (refusals.DiskFault named) × MayStopCut cuts cut
MayAddBy cuts Appends Flushes Tells lock (kinds.Cut page) = MayCut cuts
MayAddBy cuts Appends Flushes Tells lock _ = Unit {0}

-- one that cuts no page
abbrev pub MayAdd : (Rec → Type 0) → Type 0 → (Refusal → Type 0) → ℕ → Kind → Type 0
MayAdd = MayAddBy false

-- the refusal that a step was answered
abbrev pub IsToldBy : {T : Type 0} → Result T Refusal → Refusal → Type 0
IsToldBy (Ok x) r = ⊥
IsToldBy (Err told) r = told ≡ r

-- a step that only looks, or sets what is asked of it
abbrev pub IsPlain : ℕ → Kind → Type 0
IsPlain = MayAdd (λ rec. ⊥) ⊥ (λ r. ⊥)

-- one that was refused so otherwise
abbrev pub MayMeet : Refusal → ℕ → Kind → Type 0
MayMeet told = MayAdd (λ rec. ⊥) ⊥ (λ r. told ≡ r)

-- a step that neither appends nor flushes, by its result
abbrev pub MayFault : {T : Type 0} → Result T Refusal → ℕ → Kind → Type 0
MayFault (Ok x) = IsPlain
MayFault (Err told) = MayMeet told

-- it is the commit record of these open ids
pub record IsCommitOf (opened : List ℕ) (rec : Rec) : Type 0 where
  pub top : ℕ
  pub subs : List ℕ
  pub is : rec ≡ records.Commit top subs
  pub ids : opened ≡ top ∷ subs

-- it is their abort record
pub record IsAbortOf (opened : List ℕ) (rec : Rec) : Type 0 where
  pub top : ℕ
  pub subs : List ℕ
  pub is : rec ≡ records.Abort top subs
  pub ids : opened ≡ top ∷ subs

-- it is a truncation's, which says what was announced as the oldest id
abbrev pub IsTruncation : Rec → Type 0
IsTruncation (records.Truncate oldest multi offset) = Unit {0}
IsTruncation rec = ⊥

-- it is the commit record of these open ids, or the truncation before it
abbrev pub IsOfCommit : List ℕ → Rec → Type 0
IsOfCommit opened rec = IsCommitOf opened rec ⊎ IsTruncation rec

-- and so of an abort
abbrev pub IsOfAbort : List ℕ → Rec → Type 0
IsOfAbort opened rec = IsAbortOf opened rec ⊎ IsTruncation rec

-- it is a multixact's, or the truncation before it
abbrev pub IsOfMulti : Rec → Type 0
IsOfMulti (records.Multi multi offset members) = Unit {0}
IsOfMulti rec = IsTruncation rec

-- The record that a command may append: a commit that of all that is open, where it stands not yet, and an abort that
-- of all that is open, where none was begun; either with a truncation before it. A `multi` appends those of multixacts.
abbrev pub IsRecordBy : Command → Stance → Stage → List ℕ → Rec → Type 0
IsRecordBy commands.Commit s stage opened rec = IsTrue (is_unrecorded s stage) × IsOfCommit opened rec
IsRecordBy commands.Abort s stage opened rec = (may_be_aborted stage ≡ false) × IsOfAbort opened rec
IsRecordBy (commands.Multi members) s stage opened rec = IsOfMulti rec
IsRecordBy commands.Trim s stage opened rec = IsTruncation rec
IsRecordBy command s stage opened rec = ⊥

-- whether a command cuts pages
abbrev pub cuts_pages : Command → Bool
cuts_pages commands.Trim = true
cuts_pages command = false

-- what a command may add that was answered so, of a session that stood so, with these ids open
abbrev pub MayLeave : Command → Stance → Stage → List ℕ → Reply → ℕ → Kind → Type 0
MayLeave command s stage opened reply =
    MayAddBy (cuts_pages command) (IsRecordBy command s stage opened) (IsTrue (flushes command s stage))
    (λ r. reply ≡ replies.Refused r)
