-- What the list of a bank has of a call that the bank refused.
use Rattle.std.specs.Prelude.{ℕ, [], ◌∷◌, Some}
use Rattle.disk_core.specs.declared.log_disk.LogDisk as logs
use Rattle.disk_core.specs.declared.page_disk.PageDisk as disks
use Rattle.slru_bank.specs.declared.refusal.BankRefusal.{BankRefusal}
use Rattle.slru_bank.specs.declared.refusal.BankRefusal.TheVariants as refused
use Rattle.slru_bank.specs.Calls.{faults_of}
use Rattle.tx_events.specs.declared.event.By.{By}
use Rattle.tx_core.specs.declared.entry.Entry.{Entry}
use Rattle.tx_core.specs.declared.entry.Kind.{Kind}
use Rattle.tx_core.specs.declared.entry.Kind.TheVariants as kinds
use Rattle.engine_parts.specs.declared.part.Part.{Part}
use Rattle.engine_parts.specs.declared.part.Part.TheVariants as parts
use Rattle.engine_parts.specs.Faults.{fault_by, look_of}

module _ {L P : Type 0} {l : logs.Ghosts L} {p : disks.Ghosts P} where
  -- the faults that the volume behind a bank has counted
  abbrev pub faults_in : Part L P l p → ℕ
  faults_in (parts.Offsets store) = faults_of store.value
  faults_in (parts.Members store) = faults_of store.value
  faults_in _ = 0

  -- it is a bank of offsets or of members
  abbrev pub IsOfMultis : Part L P l p → Type 0
  IsOfMultis (parts.Offsets store) = Unit {0}
  IsOfMultis (parts.Members store) = Unit {0}
  IsOfMultis _ = ⊥

-- the fault of the volume, or only a look where the page is cut
abbrev pub entry_of_refusal : By → ℕ → BankRefusal → Entry
entry_of_refusal by count refused.DiskFault = fault_by by count
entry_of_refusal by count (refused.Cut cutoff) = look_of by

-- A fault of a removal, which hit this command alone. The cut before the page stands all the same.
abbrev pub cut_fault_by : By → ℕ → ℕ → Entry
cut_fault_by by page count = record { by = by; kind = kinds.Fault (by ∷ []) [] (Some page) count }

-- a fault, with the cut
abbrev pub kind_too : ℕ → Kind → Kind
kind_too page (kinds.Fault callers changes cut count) = kinds.Fault callers changes (Some page) count
kind_too page kind = kind

abbrev pub cut_too : ℕ → Entry → Entry
cut_too page e = record { by = e.by; kind = kind_too page e.kind }
