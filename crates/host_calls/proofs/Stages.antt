-- The stages of a checkpoint: the engine invariant holds behind each section, so what follows its lists fits, and so do volumes.
use Rattle.std.proofs.Common.{◌≡◌, ◌≢◌, ℕ, ◌<◌, IsTrue, List, [], ◌∷◌, ◌++◌, Err, Ok, None, Option, Result, Some, arith, subst}
use Rattle.disk_core.specs.Pages.{Pages}
use Rattle.disk_core.specs.declared.log_disk.LogDisk as logs
use Rattle.disk_core.specs.declared.page_disk.PageDisk as disks
use Rattle.tx_events.specs.declared.event.By.{By}
use Rattle.tx_events.specs.declared.record.Counters.{Counters}
use Rattle.tx_core.specs.declared.entry.Entry.{Entry}
use Rattle.tx_core.specs.declared.entry.Start.{Start}
use Rattle.tx_core.specs.EngineInvariant.{EngineInvariant}
use Rattle.tx_core.specs.Locks.{log_lock, multi_lock, proc_lock}
use Rattle.recoverable.specs.Whole.{BeganRight, IsShort}
use Rattle.recoverable.proofs.LifeBases.{list_fits}
use Rattle.recoverable.proofs.Whole.{image_fits}
use Rattle.slru_bank.specs.declared.refusal.BankRefusal.{BankRefusal}
use Rattle.slru_bank.specs.declared.refusal.BankRefusal.TheVariants as bank_refusals
use Rattle.wal_core.specs.declared.refusal.LogRefusal.{LogRefusal}
use Rattle.wal_core.specs.declared.refusal.LogRefusal.TheVariants as refusals
use Rattle.engine_parts.specs.Faults.{fault_by, flush_fault_by}
use Rattle.bank_follows.proofs.Fitting.{parts_fit}
use Rattle.host_sections.specs.Asked.{AsksVolume}
use Rattle.host_sections.specs.HostEntries.{AddsCheckpoint, AddsFlush, AddsForget, AddsSync, checkpoint_by, flush_by, forget_by, forget_fault_by, next_number, sync_by}
use Rattle.host_calls.specs.Moments.{FitBy, FitThroughout, KeptBy, KeptThroughout, ListsFit, Step, add_more, behind}
use Rattle.host_calls.proofs.Inside.{log_apart, section_fits, short_still}

module _ {L P : Type 0} (l : logs.Ghosts L) (p : disks.Ghosts P) (start : Start) where
  joined : (mid after : List (List Entry)) (more : List Step) → KeptBy l p start mid more after → (steps : List Step) (before : List (List Entry)) → KeptBy l p start before steps mid → KeptBy l p start before (steps ++ more) after
  joined mid after more rest [] before same = subst (λ z. KeptBy l p start z more after) same rest
  joined mid after more rest (s ∷ steps) before k = (k.0, k.1, k.2, k.3, joined mid after more rest steps (behind before s) k.4)

module _ {L P : Type 0} {l : logs.Ghosts L} {p : disks.Ghosts P} (start : Start) where
  -- no section ran that asks a volume
  pub stays : (before after : List (List Entry)) → after ≡ before → KeptThroughout l p start before after
  stays before after same = record { steps = []; kept = same }

  one : (lock : ℕ) (more : Option Entry) (before after : List (List Entry)) → lock ≢ proc_lock → lock ≢ multi_lock → AsksVolume l p start lock before after → after ≡ add_more before lock more → EngineInvariant start after → KeptThroughout l p start before after
  one lock more before after no_event no_multi asks is kept = record {
    steps = record { lock = lock; more = more } ∷ [];
    kept = (no_event, no_multi, subst (AsksVolume l p start lock before) is asks, subst (EngineInvariant start) is kept, is);
  }

  -- one stage after another
  pub followed : (before mid after : List (List Entry)) → KeptThroughout l p start before mid → KeptThroughout l p start mid after → KeptThroughout l p start before after
  followed before mid after first second = record { steps = first.steps ++ second.steps; kept = joined l p start mid after second.steps second.kept first.steps before first.kept }

  -- ---- what the sections add

  at_log : (more : Option Entry) (before after : List (List Entry)) → AsksVolume l p start log_lock before after → after ≡ add_more before log_lock more → EngineInvariant start after → KeptThroughout l p start before after
  at_log more before after asks is kept = one log_lock more before after (log_apart proc_lock (omega arith)) (log_apart multi_lock (omega arith)) asks is kept

  pub flushed : {T : Type 0} (by : By) (before after : List (List Entry)) (result : Result T LogRefusal) → AsksVolume l p start log_lock before after → AddsFlush start by before after result → EngineInvariant start after → KeptThroughout l p start before after
  flushed by before after (Ok done) asks is kept = at_log (Some (flush_by by (next_number start before))) before after asks is kept
  flushed by before after (Err refusals.LogFault) asks r kept = at_log (Some (flush_fault_by by r.count)) before after asks r.adds kept
  flushed by before after (Err (refusals.LogDown down)) asks r kept = at_log None before after asks r.same kept
  flushed by before after (Err refusals.Full) asks r kept = absurd r
  flushed by before after (Err refusals.Memory) asks r kept = absurd r
  flushed by before after (Err (refusals.Damaged place)) asks r kept = absurd r

  pub appended : (by : By) (counters : Counters) (before after : List (List Entry)) (result : Result ℕ LogRefusal) → AsksVolume l p start log_lock before after → AddsCheckpoint start by counters before after result → EngineInvariant start after → KeptThroughout l p start before after
  appended by counters before after (Ok number) asks is kept = at_log (Some (checkpoint_by by number counters)) before after asks is.1 kept
  appended by counters before after (Err refusals.LogFault) asks r kept = absurd r
  appended by counters before after (Err (refusals.LogDown down)) asks r kept = at_log None before after asks r.same kept
  appended by counters before after (Err refusals.Full) asks r kept = at_log None before after asks r.0 kept
  appended by counters before after (Err refusals.Memory) asks r kept = at_log None before after asks r.0 kept
  appended by counters before after (Err (refusals.Damaged place)) asks r kept = absurd r

  -- a flush before more stages, and a checkpoint that is appended behind a look at the counters
  pub flushed_first : {T : Type 0} (by : By) (before mid after : List (List Entry)) (result : Result T LogRefusal) → AsksVolume l p start log_lock before mid → AddsFlush start by before mid result → EngineInvariant start mid → KeptThroughout l p start mid after → KeptThroughout l p start before after
  flushed_first by before mid after result asks adds kept rest = followed before mid after (flushed by before mid result asks adds kept) rest

  pub appended_first : (by : By) (counters : Counters) (before read mid : List (List Entry)) (result : Result ℕ LogRefusal) → read ≡ before → AsksVolume l p start log_lock read mid → AddsCheckpoint start by counters read mid result → EngineInvariant start mid → KeptThroughout l p start before mid
  appended_first by counters before read mid result same asks adds kept = followed before read mid (stays before read same) (appended by counters read mid result asks adds kept)

  pub forgotten : {T : Type 0} (by : By) (number : ℕ) (before after : List (List Entry)) (result : Result T LogRefusal) → AsksVolume l p start log_lock before after → AddsForget start by number before after result → EngineInvariant start after → KeptThroughout l p start before after
  forgotten by number before after (Ok done) asks is kept = at_log (Some (forget_by by number)) before after asks is kept
  forgotten by number before after (Err refusals.LogFault) asks r kept = at_log (Some (forget_fault_by by number r.count)) before after asks r.adds kept
  forgotten by number before after (Err (refusals.LogDown down)) asks r kept = at_log None before after asks r.same kept
  forgotten by number before after (Err refusals.Full) asks r kept = absurd r
  forgotten by number before after (Err refusals.Memory) asks r kept = absurd r
  forgotten by number before after (Err (refusals.Damaged place)) asks r kept = absurd r

  pub synced : {T : Type 0} (by : By) (lock : ℕ) (before after : List (List Entry)) (result : Result T BankRefusal) → 2 < lock → AsksVolume l p start lock before after → AddsSync start by lock before after result → EngineInvariant start after → KeptThroughout l p start before after
  synced by lock before after (Ok done) far asks is kept = one lock (Some (sync_by by)) before after (λ e. absurd (omega (arith, far, e))) (λ e. absurd (omega (arith, far, e))) asks is kept
  synced by lock before after (Err bank_refusals.DiskFault) far asks r kept = one lock (Some (fault_by by r.count)) before after (λ e. absurd (omega (arith, far, e))) (λ e. absurd (omega (arith, far, e))) asks r.adds kept
  synced by lock before after (Err (bank_refusals.Cut cutoff)) far asks r kept = absurd r

-- ---- so all fit

lists_fit : (start : Start) (lists : List (List Entry)) → EngineInvariant start lists → BeganRight start → IsShort lists → ListsFit start lists
lists_fit start lists k right short kept f = record {
  list = list_fits start lists kept k right.told right.full right.base f;
  each = λ left follows. image_fits start lists kept left k right short f follows;
}

short_behind : (lists : List (List Entry)) (lock : ℕ) (more : Option Entry) → lock ≢ proc_lock → lock ≢ multi_lock → IsShort lists → IsShort (add_more lists lock more)
short_behind lists lock None no_event no_multi short = short
short_behind lists lock (Some e) no_event no_multi short = short_still lists lock e no_event no_multi short

module _ {L P : Type 0} (l : logs.Ghosts L) (p : disks.Ghosts P) (start : Start) (only_now : IsTrue p.tells → (d : P) (c : Pages) → p.left_at d (p.moment d) c → p.images d c) (right : BeganRight start) where
  fit_by : (steps : List Step) (before after : List (List Entry)) → EngineInvariant start before → IsShort before → KeptBy l p start before steps after → FitBy l p start before steps after
  fit_by [] before after k short same = (lists_fit start before k right short, parts_fit l p only_now start before k right short, same)
  fit_by (s ∷ steps) before after k short by = (
    lists_fit start before k right short,
    parts_fit l p only_now start before k right short,
    record { asks = by.2; fit = section_fits l p only_now start before k right short s.lock s.more by.3 by.2 },
    fit_by steps (behind before s) after by.3 (short_behind before s.lock s.more by.0 by.1 short) by.4,
  )

  pub all_fit : (before after : List (List Entry)) → EngineInvariant start before → KeptThroughout l p start before after → IsShort before → FitThroughout l p start before after
  all_fit before after k throughout short = record { steps = throughout.steps; fit = fit_by throughout.steps before after k short throughout.kept }
