-- Entries without an event and without a record that change nothing but what they cut.
use Rattle.std.proofs.Common.{None, Some, ◌≡◌, ℕ, ◌≤◌, ◌<◌, List, [], ◌∷◌, ◌++◌, refl, length, arith}
use Rattle.slru_bank.specs.declared.refusal.BankRefusal.{BankRefusal}
use Rattle.slru_bank.specs.declared.refusal.BankRefusal.TheVariants as refused
use Rattle.tx_events.specs.declared.event.By.{By}
use Rattle.tx_core.specs.declared.entry.Entry.{Entry}
use Rattle.tx_core.specs.declared.entry.Kind.TheVariants as kinds
use Rattle.tx_core.specs.declared.entry.Start.{Start}
use Rattle.tx_core.specs.Entries.{appended, asks_in, cut_in, event_of}
use Rattle.tx_core.specs.MultiEntries.{multi_of, offsets_in, slots_in}
use Rattle.tx_core.specs.Pages.{zeroed_in}
use Rattle.tx_core.specs.FaultsRise.{count_in, faults_at, faults_told}
use Rattle.tx_core.proofs.LastNumbers.{number_push, number_same}
use Rattle.engine_parts.specs.Answers.{MetFault}
use Rattle.engine_parts.specs.Holds.{Knowledge, Leaves}
use Rattle.engine_parts.proofs.May.{met_fault}
use Rattle.multi_banks.specs.Refusals.{entry_of_refusal}

-- it has no event and no record, asks for no state, sets nothing and makes no page, and is no sync
pub record IsStillEntry (e : Entry) : Type 0 where
  pub event : event_of e ≡ None
  pub multi : multi_of e ≡ None
  pub appended : appended e ≡ None
  pub asks : asks_in e ≡ []
  pub offsets : offsets_in e ≡ []
  pub slots : slots_in e ≡ []
  pub zeroed : zeroed_in e.kind ≡ None
  pub cut : cut_in e.kind ≡ None
  pub other : e.kind ≡ kinds.Sync → ⊥

pub refused_still : (by : By) (count : ℕ) (refusal : BankRefusal) → IsStillEntry (entry_of_refusal by count refusal)
refused_still by count refused.DiskFault = record {
  event = refl;
  multi = refl;
  appended = refl;
  asks = refl;
  offsets = refl;
  slots = refl;
  zeroed = refl;
  cut = refl;
  other = λ sync. let apart : kinds.Fault (by ∷ []) [] None count ≡ kinds.Sync = sync in absurd cc;
}
refused_still by count (refused.Cut cutoff) = record {
  event = refl;
  multi = refl;
  appended = refl;
  asks = refl;
  offsets = refl;
  slots = refl;
  zeroed = refl;
  cut = refl;
  other = λ sync. let apart : kinds.Look ≡ kinds.Sync = sync in absurd cc;
}

pub met_refusal : (start : Start) (v w : Knowledge) (lock : ℕ) (by : By) (count : ℕ) (refusal : BankRefusal) → lock < length v.seen → Leaves start lock (entry_of_refusal by count refusal) v w → refusal ≡ refused.DiskFault → MetFault w.seen lock by
met_refusal start v w lock by count refused.DiskFault inside l is = met_fault start v w lock by count inside l
met_refusal start v w lock by count (refused.Cut cutoff) inside l is = absurd cc

-- ---- the count of faults that the list tells then

pub refused_told : (start : Start) (lock : ℕ) (by : By) (count : ℕ) (refusal : BankRefusal) (es : List Entry) → faults_told start lock es ≤ count → faults_told start lock (es ++ entry_of_refusal by count refusal ∷ []) ≤ count
refused_told start lock by count refused.DiskFault es le = let a = number_push count_in (faults_at start lock) es (entry_of_refusal by count refused.DiskFault) count refl in omega arith
refused_told start lock by count (refused.Cut cutoff) es le = let a = number_same count_in (faults_at start lock) es (entry_of_refusal by count (refused.Cut cutoff)) refl in omega arith

-- of an entry that is no fault
pub same_told : (start : Start) (lock : ℕ) (e : Entry) (before count : ℕ) (es : List Entry) → count_in e.kind ≡ None → faults_told start lock es ≤ before → before ≤ count → faults_told start lock (es ++ e ∷ []) ≤ count
same_told start lock e before count es none le up = let a = number_same count_in (faults_at start lock) es e none in omega arith

-- and of one that tells the volume's count
pub now_told : (start : Start) (lock : ℕ) (e : Entry) (count : ℕ) (es : List Entry) → count_in e.kind ≡ Some count → faults_told start lock (es ++ e ∷ []) ≤ count
now_told start lock e count es is = let a = number_push count_in (faults_at start lock) es e count is in omega arith
