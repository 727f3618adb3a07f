-- What appending a record adds.
use Rattle.std.proofs.Common.{◌≡◌, ℕ, Result, Ok, Err, arith, refl}
use Rattle.tx_events.specs.declared.event.By.{By}
use Rattle.tx_events.specs.declared.record.Rec.{Rec}
use Rattle.tx_events.specs.declared.refusal.Refusal.{Refusal}
use Rattle.tx_core.specs.declared.entry.Start.{Start}
use Rattle.tx_core.specs.Locks.{log_lock}
use Rattle.engine_parts.specs.declared.session.Session.{Session}
use Rattle.engine_parts.specs.Adding.{Adds, MayAdd}
use Rattle.engine_parts.specs.Faults.{look_of}
use Rattle.engine_parts.specs.Holds.{Knowledge}
use Rattle.engine_parts.specs.Sessions.{IsAt}
use Rattle.engine_parts.proofs.Sectioning.{shared_adds}
use Rattle.log_sections.specs.declared.appending.Appended.{Appended}
use Rattle.log_sections.specs.declared.appending.Appended.TheVariants as came
use Rattle.log_sections.specs.LogSections.{AppendSection, TruncationSection}
use Rattle.log_sections.proofs.Sections.{append_entry}

-- a record, or none
pub append_adds : (start : Start) (v w : Knowledge) (by : By) (s : Session) (rec : Rec) (result : Result Appended Refusal) → IsAt start v by.session s → AppendSection start by rec v w result → Adds by (MayAdd (λ r. r ≡ rec) ⊥ (λ r. ⊥)) v.seen w.seen
append_adds start v w by s rec (Ok (came.At number)) a section = shared_adds start v w log_lock (append_entry by rec) by s (MayAdd (λ r. r ≡ rec) ⊥ (λ r. ⊥)) (omega arith) a section refl refl
append_adds start v w by s rec (Ok came.NoBase) a section = shared_adds start v w log_lock (look_of by) by s (MayAdd (λ r. r ≡ rec) ⊥ (λ r. ⊥)) (omega arith) a section refl tt
append_adds start v w by s rec (Err r) a section = shared_adds start v w log_lock (look_of by) by s (MayAdd (λ r. r ≡ rec) ⊥ (λ r. ⊥)) (omega arith) a section refl tt

-- so of a truncation
pub truncation_adds : (start : Start) (v w : Knowledge) (by : By) (s : Session) (rec : Rec) (result : Result ℕ Refusal) → IsAt start v by.session s → TruncationSection start by rec v w result → Adds by (MayAdd (λ r. r ≡ rec) ⊥ (λ r. ⊥)) v.seen w.seen
truncation_adds start v w by s rec (Ok number) a section = append_adds start v w by s rec (Ok (came.At number)) a section
truncation_adds start v w by s rec (Err r) a section = append_adds start v w by s rec (Err r) a section
