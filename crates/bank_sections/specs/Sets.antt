-- What setting states of a session's open ids needs, and what it asks for.
use Rattle.std.specs.Prelude.{◌≡◌, ℕ, ◌⊎◌, List, Contains}
use Rattle.notes.specs.Lists.{Knows}
use Rattle.tx_core.specs.declared.entry.Entry.{Entry}
use Rattle.tx_core.specs.declared.entry.Start.{Start}
use Rattle.tx_core.specs.declared.entry.State.{State}
use Rattle.tx_core.specs.AbortRule.{AskUnrecorded, Asks}
use Rattle.tx_core.specs.EngineInvariant.{EngineInvariant}
use Rattle.tx_core.specs.Entries.{session_of}
use Rattle.tx_core.specs.Laws.{IsOnly}
use Rattle.tx_core.specs.Locks.{xact_lock, xact_lock_of, xact_page}
use Rattle.tx_core.specs.LogBeforeStatus.{RecordOf, TreeOf}

-- The ids share a page of the bank and may get the state: a committed one stands on the record and on the tree, a
-- sub-committed one on the record, an aborted one on there being no record. No other final state was set: not in any
-- lists either in which others went on.
pub record MaySet (start : Start) (seen : List (List Entry)) (n bank : ℕ) (ids : List ℕ) (state : State) : Type 0 where
  pub page : ℕ
  pub share : (id : ℕ) → Contains ids id → xact_page id ≡ page
  pub here : (id : ℕ) → Contains ids id → xact_lock_of start id ≡ xact_lock bank
  pub logged : (id : ℕ) → Contains ids id → RecordOf start seen n id state
  pub tree : (id : ℕ) → Contains ids id → TreeOf start seen n id state
  pub unrecorded : (id : ℕ) → Contains ids id → AskUnrecorded seen n n id state
  pub only : (lists : List (List Entry)) → EngineInvariant start lists → Knows session_of n seen lists
      → IsOnly start lists bank ids state

-- between two moments the session asked for no other state than this one of these ids
abbrev pub AsksOnly : ℕ → List ℕ → State → List (List Entry) → List (List Entry) → Type 0
AsksOnly n ids state lists more =
    (id : ℕ) (asked : State) → Asks more n id asked → Asks lists n id asked ⊎ (Contains ids id × (asked ≡ state))
