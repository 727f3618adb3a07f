-- Which parent is still to be recorded behind a write that was refused.
use Rattle.std.proofs.Common.{◌≡◌, List, Option, None, inl, inr}
use Rattle.tx_events.specs.declared.event.By.{By}
use Rattle.tx_events.specs.declared.refusal.Lock.TheVariants as locks
use Rattle.tx_events.specs.declared.refusal.Refusal.{Refusal}
use Rattle.tx_events.specs.declared.refusal.Refusal.TheVariants as refusals
use Rattle.tx_core.specs.declared.entry.Entry.{Entry}
use Rattle.engine_parts.specs.declared.session.Unlinked.{Unlinked}
use Rattle.bank_sections.specs.Faults.{IsSubtransFault}
use Rattle.xact_writes.specs.Writes.{IsFiledBehind}

-- none
pub filed_none : (old new : Option Unlinked) (r : Refusal) → new ≡ None → IsFiledBehind old new r
filed_none old new (refusals.DiskFault (locks.Subtrans bank)) none = tt
filed_none old new r none = inl none

-- the same
pub filed_same : (old new : Option Unlinked) (r : Refusal) → new ≡ old → IsFiledBehind old new r
filed_same old new (refusals.DiskFault (locks.Subtrans bank)) same = tt
filed_same old new r same = inr same

-- one of which pg_subtrans met a fault
pub filed_fault : (lists : List (List Entry)) (by : By) (old new : Option Unlinked) (r : Refusal) → IsSubtransFault lists by r → IsFiledBehind old new r
filed_fault lists by old new (refusals.DiskFault (locks.Subtrans bank)) met = tt
filed_fault lists by old new r met = absurd met
