-- What a command adds in one critical section of a bank of offsets or of members, and how far these stores reach.
use Rattle.std.proofs.Common.{◌≡◌, ◌<◌, ◌≤◌, ⊎_elim, ℕ, List, arith, length, refl, subst, sym, take_all}
use Rattle.notes.specs.Lists.{Grows}
use Rattle.tx_events.specs.declared.event.By.{By}
use Rattle.tx_events.specs.declared.multi.MultiEvent.{MultiEvent}
use Rattle.tx_events.specs.declared.refusal.Lock.{Lock}
use Rattle.tx_events.specs.declared.refusal.Refusal.TheVariants as refusals
use Rattle.tx_events.specs.Base.{IsBase}
use Rattle.tx_events.specs.Multis.{free_offset}
use Rattle.tx_events.proofs.ListSteps.{le_or_over}
use Rattle.tx_core.specs.declared.entry.Entry.{Entry}
use Rattle.tx_core.specs.declared.entry.Kind.TheVariants as kinds
use Rattle.tx_core.specs.declared.entry.Start.{Start}
use Rattle.tx_core.specs.EngineInvariant.{EngineInvariant}
use Rattle.tx_core.specs.Locks.{IsPageLock, number_of}
use Rattle.tx_core.specs.MultiEntries.{multi_history}
use Rattle.tx_core.proofs.MultiOrder.{ordered}
use Rattle.tx_core.proofs.Nearness.{multis_are_legal}
use Rattle.slru_bank.specs.declared.refusal.BankRefusal.{BankRefusal}
use Rattle.slru_bank.specs.declared.refusal.BankRefusal.TheVariants as refused
use Rattle.engine_parts.specs.declared.session.Session.{Session}
use Rattle.engine_parts.specs.Adding.{Adds, IsPlain, MayMeet}
use Rattle.engine_parts.specs.Faults.{fault_by}
use Rattle.engine_parts.specs.Holds.{Knowledge, Section}
use Rattle.engine_parts.specs.Sessions.{IsAt}
use Rattle.engine_parts.proofs.Sectioning.{section_adds}
use Rattle.bank_sections.proofs.Visiting.{below_locks}
use Rattle.multi_banks.specs.Sections.{BankRefused}
use Rattle.multi_banks.proofs.Later.{offset_at_later}
use Rattle.xact_reads.specs.Apart.{StaysApart}
use Rattle.xact_reads.proofs.Aparting.{section_apart}

module _ (start : Start) (v w : Knowledge) (lock : ℕ) (by : By) (t : Session) (a : IsAt start v by.session t) (pages : IsPageLock start lock) where
  pub looked_adds : Section start lock (record { by = by; kind = kinds.Look }) v w → Adds by IsPlain v.seen w.seen
  looked_adds s = section_adds start v w lock (record { by = by; kind = kinds.Look }) s (below_locks start v by.session lock t a pages) by t IsPlain a refl tt

  pub failed_adds : (cut : ℕ → Type 0) (refusal : BankRefusal) (named : Lock) → number_of named ≡ lock → refusal ≡ refused.DiskFault → BankRefused start lock by cut v w refusal → Adds by (MayMeet (refusals.DiskFault named)) v.seen w.seen
  failed_adds cut refusal named place is s =
      let met = subst (λ z. BankRefused start lock by cut v w z) is s in
      section_adds start v w lock (fault_by by met.0) met.1 (below_locks start v by.session lock t a pages) by t (MayMeet (refusals.DiskFault named)) a refl (named, place, refl, refl)

  pub cut_adds : (cut : ℕ → Type 0) (refusal : BankRefusal) (cutoff : ℕ) → refusal ≡ refused.Cut cutoff → BankRefused start lock by cut v w refusal → Adds by IsPlain v.seen w.seen
  cut_adds cut refusal cutoff is s = looked_adds (subst (λ z. BankRefused start lock by cut v w z) is s).0

  -- it stays away from the ProcArray
  pub looked_apart : Section start lock (record { by = by; kind = kinds.Look }) v w → StaysApart by.session v.seen w.seen
  looked_apart s = let from = pages.from in section_apart start v w lock (record { by = by; kind = kinds.Look }) by.session a.name (omega (arith, from)) s

  pub failed_apart : (cut : ℕ → Type 0) (refusal : BankRefusal) → refusal ≡ refused.DiskFault → BankRefused start lock by cut v w refusal → StaysApart by.session v.seen w.seen
  failed_apart cut refusal is s =
      let met = subst (λ z. BankRefused start lock by cut v w z) is s in
      let from = pages.from in
      section_apart start v w lock (fault_by by met.0) by.session a.name (omega (arith, from)) met.1

  pub cut_apart : (cut : ℕ → Type 0) (refusal : BankRefusal) (cutoff : ℕ) → refusal ≡ refused.Cut cutoff → BankRefused start lock by cut v w refusal → StaysApart by.session v.seen w.seen
  cut_apart cut refusal cutoff is s = looked_apart (subst (λ z. BankRefused start lock by cut v w z) is s).0

-- an offset that isn't past the free one isn't later
pub free_later : (start : Start) (lists more : List (List Entry)) (offset : ℕ) → IsBase start.base → EngineInvariant start more → Grows lists more → offset ≤ free_offset start.base.offset (multi_history lists) → offset ≤ free_offset start.base.offset (multi_history more)
free_later start lists more offset base k g upto =
    let h = multi_history lists in
    ⊎_elim
    (λ (from : start.base.offset ≤ offset).
    (offset_at_later start lists more offset base k g (from, length h, omega arith, subst (λ (t : List MultiEvent). offset ≤ free_offset start.base.offset t) (sym (take_all (length h) h (omega arith))) upto)).1)
    (λ (below : offset < start.base.offset).
    let free = (ordered start.base base (multi_history more) (multis_are_legal start more k)).from in
    omega (arith, below, free))
    (le_or_over start.base.offset offset)
