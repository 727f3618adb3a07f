-- What is on disk before the log is forgotten.
use Rattle.std.specs.Prelude.{ℕ, ◌<◌, List, ◌∷◌, Contains, None}
use Rattle.notes.specs.Lists.{at}
use Rattle.tx_events.specs.declared.multi.Member.{Member}
use Rattle.tx_events.specs.declared.record.Rec.TheVariants as records
use Rattle.tx_core.specs.declared.entry.Entry.{Entry}
use Rattle.tx_core.specs.declared.entry.Start.{Start}
use Rattle.tx_core.specs.CommitRecordsExact.{HasNoRecord}
use Rattle.tx_core.specs.Entries.{IsAppended}
use Rattle.tx_core.specs.Locks.{members_lock, offsets_lock, xact_lock}
use Rattle.tx_core.specs.OwnMultis.{AreMultisDone}
use Rattle.tx_core.specs.SyncsBeforeForgets.{AreMembersSynced, AreOffsetsSynced, AreStatesSynced}

-- a commit record of the log names the id
abbrev pub IsNamedIn : List (List Entry) → ℕ → Type 0
IsNamedIn lists id =
    (session : ℕ) × (top : ℕ) × (subs : List ℕ) × IsAppended lists session (records.Commit top subs) × Contains (top ∷ subs) id

-- the log has this record of a multixact
abbrev pub IsMultiIn : List (List Entry) → ℕ → ℕ → List Member → Type 0
IsMultiIn lists multi offset members = (session : ℕ) × IsAppended lists session (records.Multi multi offset members)

-- Each bank of pg_xact was synced behind the committed states of all ids that a commit record names, and each bank of the
-- multixacts' stores behind the offsets and the members of all that have a record.
pub record AreAllSynced (start : Start) (lists : List (List Entry)) : Type 0 where
  pub states : (bank : ℕ) → bank < start.banks → AreStatesSynced start (at lists (xact_lock bank)) bank (IsNamedIn lists)
  pub offsets : (bank : ℕ) → bank < start.banks → AreOffsetsSynced start (at lists (offsets_lock bank)) bank (IsMultiIn lists)
  pub members : (bank : ℕ) → bank < start.banks → AreMembersSynced start (at lists (members_lock bank)) bank (IsMultiIn lists)

-- no session is in the midst of a commit
abbrev pub IsNoneWaiting : Start → List (List Entry) → Type 0
IsNoneWaiting start lists = (session : ℕ) → session < start.sessions → HasNoRecord lists session

-- nor of a multixact: all that were given are done
abbrev pub AreAllMade : Start → List (List Entry) → Type 0
AreAllMade start lists = (session : ℕ) → session < start.sessions → AreMultisDone start lists session None
