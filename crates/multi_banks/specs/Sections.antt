-- One critical section of a bank of offsets or of members, by what it answered.
use Rattle.std.specs.Prelude.{◌≡◌, ℕ, List, Result, Ok, Err, true}
use Rattle.notes.specs.Lists.{at}
use Rattle.tx_events.specs.PageOrder.{Multis, Offsets, is_cut}
use Rattle.slru_bank.specs.declared.refusal.BankRefusal.{BankRefusal}
use Rattle.slru_bank.specs.declared.refusal.BankRefusal.TheVariants as refused
use Rattle.tx_events.specs.declared.event.By.{By}
use Rattle.tx_core.specs.declared.entry.Entry.{Entry}
use Rattle.tx_core.specs.declared.entry.Kind.{Kind}
use Rattle.tx_core.specs.declared.entry.Kind.TheVariants as kinds
use Rattle.tx_core.specs.declared.entry.Start.{Start}
use Rattle.tx_core.specs.Locks.{members_lock, offsets_lock}
use Rattle.engine_parts.specs.Faults.{fault_by, look_of}
use Rattle.engine_parts.specs.Holds.{Knowledge, Section}
use Rattle.engine_parts.specs.Shelf.{IsCutoffOf}
use Rattle.engine_parts.specs.Shelves.{member_shelf, offset_shelf}
use Rattle.multi_banks.specs.Refusals.{cut_fault_by}

-- Where the bank's volume failed the entry is the fault. Where the page is cut, which this cutoff says, it is only a
-- look.
abbrev pub BankRefused : Start → ℕ → By → (ℕ → Type 0) → Knowledge → Knowledge → BankRefusal → Type 0
BankRefused start lock by cut v w refused.DiskFault = (count : ℕ) × Section start lock (fault_by by count) v w
BankRefused start lock by cut v w (refused.Cut cutoff) = Section start lock (look_of by) v w × cut cutoff

-- And else it is what was done.
abbrev pub BankSection : {T : Type 0} → Start → ℕ → By → (ℕ → Type 0) → Kind → Knowledge → Knowledge
    → Result T BankRefusal → Type 0
BankSection start lock by cut done v w (Ok x) = Section start lock (record { by = by; kind = done }) v w
BankSection start lock by cut done v w (Err refusal) = BankRefused start lock by cut v w refusal

-- What lies before a page in full is removed. Only a volume that fails refuses it, and the entry is the fault with the
-- cut.
abbrev pub CutSection : {T : Type 0} → Start → ℕ → By → ℕ → Knowledge → Knowledge → Result T BankRefusal → Type 0
CutSection start lock by page v w (Ok x) = Section start lock (record { by = by; kind = kinds.Cut page }) v w
CutSection start lock by page v w (Err refused.DiskFault) =
    (count : ℕ) × Section start lock (cut_fault_by by page count) v w
CutSection start lock by page v w (Err (refused.Cut cutoff)) = ⊥

-- the cutoff of the bank, one that its list has, cuts this stored page of offsets
abbrev pub IsOffsetCut : Start → List (List Entry) → ℕ → ℕ → ℕ → Type 0
IsOffsetCut start lists bank page cutoff =
    IsCutoffOf (offset_shelf start) (at lists (offsets_lock bank)) cutoff × (is_cut Multis 2048 cutoff page ≡ true)

-- and of members
abbrev pub IsMemberCut : Start → List (List Entry) → ℕ → ℕ → ℕ → Type 0
IsMemberCut start lists bank page cutoff =
    IsCutoffOf (member_shelf start) (at lists (members_lock bank)) cutoff × (is_cut Offsets 1636 cutoff page ≡ true)
