-- One critical section in which a bank is cut, by what it answered.
use Rattle.std.specs.Prelude.{ℕ, [], ◌∷◌, Some, Result, Ok, Err}
use Rattle.slru_bank.specs.declared.refusal.BankRefusal.{BankRefusal}
use Rattle.slru_bank.specs.declared.refusal.BankRefusal.TheVariants as refused
use Rattle.tx_events.specs.declared.event.By.{By}
use Rattle.tx_core.specs.declared.entry.Entry.{Entry}
use Rattle.tx_core.specs.declared.entry.Kind.{Kind}
use Rattle.tx_core.specs.declared.entry.Kind.TheVariants as kinds
use Rattle.tx_core.specs.declared.entry.Start.{Start}
use Rattle.engine_parts.specs.Holds.{Knowledge, Section}

-- A fault of a removal, which hit this command alone. The cut before the page stands all the same.
abbrev pub cut_fault_by : By → ℕ → ℕ → Entry
cut_fault_by by page count = record { by = by; kind = kinds.Fault (by ∷ []) [] (Some page) count }

-- a fault, with the cut
abbrev pub kind_too : ℕ → Kind → Kind
kind_too page (kinds.Fault callers changes cut count) = kinds.Fault callers changes (Some page) count
kind_too page kind = kind

abbrev pub cut_too : ℕ → Entry → Entry
cut_too page e = record { by = e.by; kind = kind_too page e.kind }

-- What lies before a page in full is removed. Only a volume that fails refuses it, and the entry is the fault with the
-- cut.
abbrev pub CutSection : {T : Type 0} → Start → ℕ → By → ℕ → Knowledge → Knowledge → Result T BankRefusal → Type 0
CutSection start lock by page v w (Ok x) = Section start lock (record { by = by; kind = kinds.Cut page }) v w
CutSection start lock by page v w (Err refused.DiskFault) =
    (count : ℕ) × Section start lock (cut_fault_by by page count) v w
CutSection start lock by page v w (Err (refused.Cut cutoff)) = ⊥
