-- One critical section of a bank, by what it answered.
use Rattle.std.specs.Prelude.{◌≡◌, ℕ, ◌^◌, List, Result, Ok, Err, true}
use Rattle.notes.specs.Lists.{at}
use Rattle.tx_events.specs.PageOrder.{Ids, is_cut}
use Rattle.slru_bank.specs.declared.refusal.BankRefusal.{BankRefusal}
use Rattle.slru_bank.specs.declared.refusal.BankRefusal.TheVariants as refused
use Rattle.tx_events.specs.declared.event.By.{By}
use Rattle.tx_core.specs.declared.entry.Entry.{Entry}
use Rattle.tx_core.specs.declared.entry.Kind.{Kind}
use Rattle.tx_core.specs.declared.entry.Start.{Start}
use Rattle.tx_core.specs.Locks.{subtrans_lock, xact_lock}
use Rattle.engine_parts.specs.Faults.{fault_by, look_of}
use Rattle.engine_parts.specs.Holds.{Knowledge, Section}
use Rattle.engine_parts.specs.Stand.{IsCutoff, first_subtrans_page, first_xact_page}

-- Where the bank's volume failed the entry is the fault. Where the page is cut, which this cutoff says, it is only a
-- look.
abbrev pub BankRefused : Start → ℕ → By → (ℕ → Type 0) → Knowledge → Knowledge → BankRefusal → Type 0
BankRefused start lock by cut v w refused.DiskFault = (count : ℕ) × Section start lock (fault_by by count) v w
BankRefused start lock by cut v w (refused.Cut cutoff) = Section start lock (look_of by) v w × cut cutoff

-- And else it is what was done.
abbrev pub BankSection : {T : Type 0} → Start → ℕ → By → (ℕ → Type 0) → Kind → Knowledge → Knowledge
    → Result T BankRefusal → Type 0
BankSection start lock by cut done v w (Ok x) = Section start lock (record { by = by; kind = done }) v w
BankSection start lock by cut done v w (Err refusal) = BankRefused start lock by cut v w refusal

-- the cutoff of the bank, one that its list has, cuts this stored page of pg_xact
abbrev pub IsXactCut : Start → List (List Entry) → ℕ → ℕ → ℕ → Type 0
IsXactCut start lists bank page cutoff =
    IsCutoff (first_xact_page start) (2 ^ 17) (at lists (xact_lock bank)) cutoff
    × (is_cut Ids 32768 cutoff page ≡ true)

-- and of pg_subtrans
abbrev pub IsSubtransCut : Start → List (List Entry) → ℕ → ℕ → ℕ → Type 0
IsSubtransCut start lists bank page cutoff =
    IsCutoff (first_subtrans_page start) (2 ^ 21) (at lists (subtrans_lock bank)) cutoff
    × (is_cut Ids 2048 cutoff page ≡ true)
