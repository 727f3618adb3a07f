-- The counts of faults that a list tells rise.
use Rattle.std.specs.Prelude.{ℕ, List, Option, Some, None, IfSome, get_or}
use Rattle.std.specs.List.{filter_map}
use Rattle.disk_core.specs.Faults.{HasRisen}
use Rattle.tx_core.specs.declared.entry.Entry.{Entry}
use Rattle.tx_core.specs.declared.entry.Kind.{Kind}
use Rattle.tx_core.specs.declared.entry.Kind.TheVariants as kinds
use Rattle.tx_core.specs.declared.entry.Start.{Start}
use Rattle.tx_core.specs.Entries.{last_from}
use Rattle.tx_core.specs.Lists.{Upheld}

-- the count of faults that an entry tells
abbrev pub count_in : Kind → Option ℕ
count_in (kinds.LogFault asked count) = Some count
count_in (kinds.Fault callers changes cut count) = Some count
count_in _ = None

-- the count of a lock's volume when the life began
abbrev pub faults_at : Start → ℕ → ℕ
faults_at start lock = get_or start.faults lock 0

-- the counts that a list tells, one after the other
abbrev pub counts_in : List Entry → List ℕ
counts_in es = filter_map (λ e. count_in e.kind) es

-- the count that the list tells last, or that of the start
abbrev pub faults_told : Start → ℕ → List Entry → ℕ
faults_told start lock es = last_from (faults_at start lock) (counts_in es)

-- what the entry tells has risen past what was told before it
abbrev pub NeedsCount : Start → List (List Entry) → ℕ → List Entry → Entry → Type 0
NeedsCount start lists lock before e = IfSome (count_in e.kind) (HasRisen (faults_told start lock before))

-- In each list the count of each fault has risen past that of the fault before it, and past the volume's count with
-- which the life began. So a list has no more faults than its volume.
pub record FaultsRise (start : Start) (lists : List (List Entry)) : Type 0 where
  pub each : Upheld (NeedsCount start) lists
