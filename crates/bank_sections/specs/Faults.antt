-- The refusals of a command that met the fault of a bank's volume.
use Rattle.std.specs.Prelude.{List}
use Rattle.tx_events.specs.declared.event.By.{By}
use Rattle.tx_events.specs.declared.refusal.Lock.TheVariants as locks
use Rattle.tx_events.specs.declared.refusal.Refusal.{Refusal}
use Rattle.tx_events.specs.declared.refusal.Refusal.TheVariants as refusals
use Rattle.tx_core.specs.declared.entry.Entry.{Entry}
use Rattle.tx_core.specs.Locks.{subtrans_lock, xact_lock}
use Rattle.engine_parts.specs.Answers.{MetFault}

-- a volume of pg_xact failed in this command
abbrev pub IsXactFault : List (List Entry) → By → Refusal → Type 0
IsXactFault lists by (refusals.DiskFault (locks.Xact bank)) = MetFault lists (xact_lock bank) by
IsXactFault lists by _ = ⊥

-- a volume of pg_subtrans
abbrev pub IsSubtransFault : List (List Entry) → By → Refusal → Type 0
IsSubtransFault lists by (refusals.DiskFault (locks.Subtrans bank)) = MetFault lists (subtrans_lock bank) by
IsSubtransFault lists by _ = ⊥

-- a volume of either
abbrev pub IsBankFault : List (List Entry) → By → Refusal → Type 0
IsBankFault lists by (refusals.DiskFault (locks.Xact bank)) = MetFault lists (xact_lock bank) by
IsBankFault lists by (refusals.DiskFault (locks.Subtrans bank)) = MetFault lists (subtrans_lock bank) by
IsBankFault lists by _ = ⊥
