-- A committed state has a commit record on disk.
use Rattle.std.specs.Prelude.{◌≡◌, ◌≢◌, ℕ, List, ◌∷◌, Contains}
use Rattle.tx_events.specs.declared.record.Rec.TheVariants as records
use Rattle.tx_core.specs.declared.entry.Entry.{Entry}
use Rattle.tx_core.specs.declared.entry.Start.{Start}
use Rattle.tx_core.specs.declared.entry.State.{State}
use Rattle.tx_core.specs.declared.entry.State.TheVariants as states
use Rattle.tx_core.specs.Lists.{Upheld}
use Rattle.tx_core.specs.Locks.{xact_page}
use Rattle.tx_core.specs.Entries.{EachMark, IsMarked, IsAppended, IsFlushed}

-- the id is one of a commit record of the session that is on disk
abbrev pub IsDurable : Start → List (List Entry) → ℕ → ℕ → Type 0
IsDurable start lists session id = (top : ℕ) × (subs : List ℕ) × IsFlushed start lists session (records.Commit top subs) × Contains (top ∷ subs) id

abbrev pub RecordOf : Start → List (List Entry) → ℕ → ℕ → State → Type 0
RecordOf start lists session id states.Committed = IsDurable start lists session id
RecordOf start lists session id states.SubCommitted = IsDurable start lists session id
RecordOf start lists session id states.Aborted = Unit {0}

abbrev pub NeedsRecords : Start → List (List Entry) → ℕ → List Entry → Entry → Type 0
NeedsRecords start lists lock before e = EachMark (λ mark. RecordOf start lists mark.caller.session mark.id mark.state) e

-- the states on other pages: sub-committed before the top's is committed, and committed only after it
pub record InTree (start : Start) (lists : List (List Entry)) (session id : ℕ) : Type 0 where
  pub top : ℕ
  pub subs : List ℕ
  pub appended : IsAppended lists session (records.Commit top subs)
  pub among : Contains (top ∷ subs) id
  pub before_top : id ≡ top → (sub : ℕ) → Contains subs sub → xact_page sub ≢ xact_page top → IsMarked start lists sub states.SubCommitted
  pub after_top : xact_page id ≢ xact_page top → IsMarked start lists top states.Committed

abbrev pub TreeOf : Start → List (List Entry) → ℕ → ℕ → State → Type 0
TreeOf start lists session id states.Committed = InTree start lists session id
TreeOf start lists session id _ = Unit {0}

abbrev pub NeedsTree : Start → List (List Entry) → ℕ → List Entry → Entry → Type 0
NeedsTree start lists lock before e = EachMark (λ mark. TreeOf start lists mark.caller.session mark.id mark.state) e

-- Each committed or sub-committed state is of an id of a commit record, below a flush, of the session for which it was
-- set. A transaction over several pages becomes committed in one step, that of its top: the subtransactions on other
-- pages are sub-committed before, and committed after.
pub record LogBeforeStatus (start : Start) (lists : List (List Entry)) : Type 0 where
  pub logged : Upheld (NeedsRecords start) lists
  pub tree : Upheld (NeedsTree start) lists

-- what a session knows that adds the entry
pub record MayFollowLog (start : Start) (seen : List (List Entry)) (lock : ℕ) (before : List Entry) (e : Entry) : Type 0 where
  pub logged : NeedsRecords start seen lock before e
  pub tree : NeedsTree start seen lock before e
