-- What the log or a bank answered, where it refused.
use Rattle.std.proofs.Common.{Err, IfSome, List, None, Option, Result, Some, refl, subst, ℕ, ◌∙◌, ◌≡◌}
use Rattle.notes.specs.Lists.{at}
use Rattle.tx_events.specs.declared.event.By.{By}
use Rattle.tx_events.specs.declared.record.Counters.{Counters}
use Rattle.tx_events.specs.declared.record.Rec.TheVariants as records
use Rattle.tx_core.specs.declared.entry.Entry.{Entry}
use Rattle.tx_core.specs.declared.entry.Start.{Start}
use Rattle.tx_core.specs.Locks.{log_lock}
use Rattle.tx_core.specs.StaysDown.{IsUp}
use Rattle.engine_parts.specs.LogTail.{LacksRoom, tail_of}
use Rattle.engine_parts.specs.Stand.{IsDownAt}
use Rattle.host_sections.specs.HostEntries.{AddsCheckpoint, next_number}
use Rattle.slru_bank.specs.declared.refusal.BankRefusal.{BankRefusal}
use Rattle.wal_core.specs.declared.checkpoint.LastCheckpoint.{LastCheckpoint}
use Rattle.wal_core.specs.declared.refusal.LogRefusal.{LogRefusal}
use Rattle.wal_core.specs.declared.refusal.LogRefusal.TheVariants as refusals

pub not_down : (down : Option ℕ) → ((n : ℕ) → down ≡ Some n → ⊥) → down ≡ None
not_down None other = refl
not_down (Some n) other = absurd (other n refl)

abbrev same_result : {T : Type 0} → Result T LogRefusal → Result T LogRefusal → Type 0
same_result r s = r ≡ s

pub same_err : {T : Type 0} {a b : LogRefusal} → same_result {T = T} (Err a) (Err b) → a ≡ b
same_err q = cc

-- a flush or a forget that met no fault found the log down
pub refused_down : (r : LogRefusal) → (r ≡ refusals.LogFault → ⊥) → (r ≡ refusals.Full → ⊥) → (r ≡ refusals.Memory → ⊥) → ((place : ℕ) → r ≡ refusals.Damaged place → ⊥) → (down : ℕ) × (r ≡ refusals.LogDown down)
refused_down refusals.LogFault fault full memory damaged = absurd (fault refl)
refused_down refusals.Full fault full memory damaged = absurd (full refl)
refused_down refusals.Memory fault full memory damaged = absurd (memory refl)
refused_down (refusals.Damaged place) fault full memory damaged = absurd (damaged place refl)
refused_down (refusals.LogDown down) fault full memory damaged = (down, refl)

-- so of a bank
abbrev same_answer : {T : Type 0} → Result T BankRefusal → Result T BankRefusal → Type 0
same_answer x y = x ≡ y

pub same_bank_err : {T : Type 0} {a b : BankRefusal} → same_answer {T = T} (Err a) (Err b) → a ≡ b
same_bank_err q = cc

-- why no checkpoint was appended
pub append_refused : (start : Start) (by : By) (counters : Counters) (old new : List (List Entry)) (r : LogRefusal) → new ≡ old → ((down : ℕ) → r ≡ refusals.LogDown down → IsDownAt start (at old log_lock) down) → (((down : ℕ) → r ≡ refusals.LogDown down → ⊥) → IsUp (at old log_lock))
    → (r ≡ refusals.LogFault → ⊥) → ((place : ℕ) → r ≡ refusals.Damaged place → ⊥) → (r ≡ refusals.Full → LacksRoom (tail_of start (at old log_lock)) (records.Checkpoint (next_number start old) counters)) → AddsCheckpoint start by counters old new (Err r)
append_refused start by counters old new refusals.LogFault same down up fault damaged lacks = absurd (fault refl)
append_refused start by counters old new (refusals.Damaged place) same down up fault damaged lacks = absurd (damaged place refl)
append_refused start by counters old new (refusals.LogDown place) same down up fault damaged lacks = record { same = same; is_down = down place refl }
append_refused start by counters old new refusals.Full same down up fault damaged lacks = (same, up (λ place q. cc), lacks refl)
append_refused start by counters old new refusals.Memory same down up fault damaged lacks = (same, up (λ place q. cc))

-- the first record that is kept behind a forget is the checkpoint's
pub first_is : (number : ℕ) (checkpoint : Option LastCheckpoint) (first : ℕ) → ((k : LastCheckpoint) × (checkpoint ≡ Some k) × (k.number ≡ number)) → IfSome checkpoint (λ k. first ≡ k.number) → first ≡ number
first_is number checkpoint first k is = subst (λ (o : Option LastCheckpoint). IfSome o (λ c. first ≡ c.number)) k.1 is ∙ k.2
