-- What the stores alone tell of an id that is asked for.
use Rattle.std.specs.Prelude.{◌≡◌, ℕ, ◌<◌, ◌++◌, ◌⊎◌, Bool, true, false, List, Contains}
use Rattle.tx_events.specs.Visible.{is_visible}
use Rattle.life_law.specs.DidCommit.{IsRecorded}
use Rattle.tx_core.specs.declared.entry.Entry.{Entry}
use Rattle.tx_core.specs.declared.entry.Start.{Start}
use Rattle.tx_core.specs.Entries.{AreFewIds, history, recs_in}
use Rattle.tx_core.specs.Locks.{log_lock}
use Rattle.notes.specs.Lists.{at}
use Rattle.engine_parts.specs.Stand.{IsInUse}
use Rattle.xact_reads.specs.declared.dids.Step.{Step}
use Rattle.xact_reads.specs.declared.dids.Step.TheVariants as steps

-- Where an id in use was said to have committed the life began with it so, or a commit record names it. Else it didn't
-- count as committed behind what the command had seen when it began.
pub record DidAsTold (start : Start) (before lists : List (List Entry)) (x : ℕ) (answer : Bool) : Type 0 where
  pub for_yes : answer ≡ true → Contains start.committed x ⊎ IsRecorded (start.logged ++ recs_in (at lists log_lock)) x
  pub for_no : answer ≡ false → is_visible start.committed (history before) x ≡ false

abbrev pub IsDidIn : Start → List (List Entry) → List (List Entry) → ℕ → Bool → Type 0
IsDidIn start before lists x answer = IsInUse start x → AreFewIds lists → DidAsTold start before lists x answer

-- what the stores say of an ancestor: it is asked further from an id below this one
abbrev pub IsBelow : ℕ → Step → Type 0
IsBelow x (steps.Ends committed) = Unit {0}
IsBelow x (steps.Further parent) = parent < x
