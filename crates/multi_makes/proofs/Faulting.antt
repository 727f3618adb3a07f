-- What a critical section of a bank of offsets or of members adds, and what its refusal tells.
use Rattle.std.proofs.Common.{◌≡◌, ℕ, refl, subst}
use Rattle.slru_bank.specs.declared.refusal.BankRefusal.{BankRefusal}
use Rattle.slru_bank.specs.declared.refusal.BankRefusal.TheVariants as refused
use Rattle.tx_events.specs.declared.event.By.{By}
use Rattle.tx_events.specs.declared.refusal.Lock.{Lock}
use Rattle.tx_events.specs.declared.refusal.Refusal.TheVariants as refusals
use Rattle.tx_core.specs.declared.entry.Kind.{Kind}
use Rattle.tx_core.specs.declared.entry.Kind.TheVariants as kinds
use Rattle.tx_core.specs.declared.entry.Start.{Start}
use Rattle.tx_core.specs.Locks.{IsPageLock, number_of}
use Rattle.engine_parts.specs.declared.session.Session.{Session}
use Rattle.engine_parts.specs.Adding.{Adds, IsPlain, MayMeet}
use Rattle.engine_parts.specs.Faults.{fault_by}
use Rattle.engine_parts.specs.Holds.{Knowledge, Section}
use Rattle.engine_parts.specs.Sessions.{IsAt}
use Rattle.engine_parts.proofs.Sectioning.{section_adds}
use Rattle.bank_sections.proofs.Visiting.{below_locks}
use Rattle.multi_banks.specs.Sections.{BankRefused}

module _ (start : Start) (v w : Knowledge) (lock : ℕ) (by : By) (t : Session) (a : IsAt start v by.session t) (pages : IsPageLock start lock) where
  -- what it was entered for
  pub done_adds : (done : Kind) → IsPlain lock done → Section start lock (record { by = by; kind = done }) v w → Adds by IsPlain v.seen w.seen
  done_adds done plain s = section_adds start v w lock (record { by = by; kind = done }) s (below_locks start v by.session lock t a pages) by t IsPlain a refl plain

  -- a fault, which the command tells by the lock's name
  pub fault_adds : (cut : ℕ → Type 0) (refusal : BankRefusal) (named : Lock) → number_of named ≡ lock → refusal ≡ refused.DiskFault → BankRefused start lock by cut v w refusal → Adds by (MayMeet (refusals.DiskFault named)) v.seen w.seen
  fault_adds cut refusal named place is s =
      let met = subst (λ z. BankRefused start lock by cut v w z) is s in
      section_adds start v w lock (fault_by by met.0) met.1 (below_locks start v by.session lock t a pages) by t (MayMeet (refusals.DiskFault named)) a refl (named, place, refl, refl)

  -- only a look
  pub cut_adds : (cut : ℕ → Type 0) (refusal : BankRefusal) (cutoff : ℕ) → refusal ≡ refused.Cut cutoff → BankRefused start lock by cut v w refusal → Adds by IsPlain v.seen w.seen
  cut_adds cut refusal cutoff is s = done_adds kinds.Look tt (subst (λ z. BankRefused start lock by cut v w z) is s).0
