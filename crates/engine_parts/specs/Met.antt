-- Which faults a command met, by the lists.
use Rattle.std.specs.Prelude.{ℕ, List, Option, Contains}
use Rattle.notes.specs.Lists.{at}
use Rattle.tx_events.specs.declared.event.By.{By}
use Rattle.tx_core.specs.declared.entry.Change.{Change}
use Rattle.tx_core.specs.declared.entry.Entry.{Entry}
use Rattle.tx_core.specs.declared.entry.Kind.TheVariants as kinds
use Rattle.tx_core.specs.Locks.{log_lock}
use Rattle.engine_parts.specs.Faults.{flush_fault_by}

-- the volume behind a bank failed, and this command was hit
pub record MetFault (lists : List (List Entry)) (lock : ℕ) (by : By) : Type 0 where
  pub adder : By
  pub callers : List By
  pub changes : List Change
  pub cut : Option ℕ
  pub count : ℕ
  pub hit : Contains callers by
  pub stands : Contains (at lists lock) (record { by = adder; kind = kinds.Fault callers changes cut count })

-- the log's volume failed in a flush of this command
pub record MetLogFault (lists : List (List Entry)) (by : By) : Type 0 where
  pub count : ℕ
  pub stands : Contains (at lists log_lock) (flush_fault_by by count)
