-- The entries of critical sections in which nothing was changed: the command looked, or the volume failed before.
use Rattle.std.specs.Prelude.{ℕ, [], ◌∷◌, None}
use Rattle.tx_events.specs.declared.event.By.{By}
use Rattle.tx_core.specs.declared.entry.Entry.{Entry}
use Rattle.tx_core.specs.declared.entry.Kind.TheVariants as kinds
use Rattle.tx_core.specs.declared.entry.LogCall.TheVariants as calls

abbrev pub look_of : By → Entry
look_of by = record { by = by; kind = kinds.Look }

-- a fault of a bank, which hit this command alone
abbrev pub fault_by : By → ℕ → Entry
fault_by by count = record { by = by; kind = kinds.Fault (by ∷ []) [] None count }

-- and of the log, in a flush
abbrev pub flush_fault_by : By → ℕ → Entry
flush_fault_by by count = record { by = by; kind = kinds.LogFault calls.Flush count }
