-- The volumes of a store's banks, all of them or as far as it went.
use Rattle.std.proofs.Common.{List, Ok, Err, Result, Some, ap, arith, inl, inr, length, refl, subst, sym, ℕ, ⊎_elim, IsTrue, ◌∙◌, ◌≡◌, ◌≤◌}
use Rattle.std.specs.List.{slice_get}
use Rattle.disk_core.specs.Faults.{HasRisen}
use Rattle.disk_core.specs.Pages.{Pages}
use Rattle.disk_core.specs.declared.page_disk.PageDisk as disks
use Rattle.tx_events.specs.declared.refusal.Lock.{Lock}
use Rattle.slru_bank.specs.Crash.{CrashLeaves, no_call}
use Rattle.replay_multis.specs.declared.refusal.RestoreRefusal.{RestoreRefusal}
use Rattle.replay_multis.specs.declared.refusal.RestoreRefusal.TheVariants as restores
use Rattle.replay_core.specs.Restore.{bytes_on}
use Rattle.replay_core.specs.Banks.{AreLeaving, Becoming, ChangesAt, EmptiesBanks, Emptying, IsCause, IsRefusalAt, IsStoreRefusal, Leaving, NoCountFell, RestoresBanks, Restoring}
use Rattle.replay_core.specs.declared.refusal.RecoverRefusal.{RecoverRefusal}
use Rattle.replay_core.specs.declared.refusal.RecoverRefusal.TheVariants as refusals
use Rattle.replay_core.proofs.Rows.{Progress, count_more, each_done, each_so_far, first_was, had, some_same}

-- what a refusal of a bank means, with its cause
pub bank_cause : {P : Type 0} (p : disks.Ghosts P) (lock : Lock) (told : RestoreRefusal) (refusal : RecoverRefusal) (old new : P) → IsRefusalAt lock told refusal → (told ≡ restores.DiskFault → HasRisen (p.faults old) (p.faults new))
    → IsCause p lock (Err refusal) old new
bank_cause p lock restores.DiskFault refusal old new is fault = inr (is, fault refl)
bank_cause p lock restores.Memory refusal old new is fault = inl is

module _ {P : Type 0} (p : disks.Ghosts P) where
  same_count : (before now : P) → now ≡ before → p.faults before ≤ p.faults now
  same_count before now same = let e = ap p.faults same in omega (arith, e)

  store_refused : (lock : ℕ → Lock) (n : ℕ) (old new : List P) (before now : P) (e : RecoverRefusal) → slice_get old n ≡ Some before → slice_get new n ≡ Some now → IsCause p (lock n) (Err e) before now → IsStoreRefusal p lock old new e
  store_refused lock n old new before now e was is cause = ⊎_elim
      (λ (m : e ≡ refusals.Memory). inl m)
      (λ (f : (e ≡ refusals.DiskFault (lock n)) × HasRisen (p.faults before) (p.faults now)). inr (n, f.0, record { before = before; now = now; was = was; is = is; risen = f.1 }))
      cause

  abbrev pub OnlyNow : Type 0
  OnlyNow = (d : P) (c : Pages) → IsTrue p.tells → p.left_at d (p.moment d) c → p.images d c

  abbrev pub StaysSame : (ℕ → Leaving) → Type 0
  StaysSame leaves = (bank : ℕ) (m : ℕ → List ℕ) (c : Pages) → leaves bank m c c

  -- a volume that wasn't asked
  untouched : (Leaves : Leaving) → ((m : ℕ → List ℕ) (c : Pages) → Leaves m c c) → OnlyNow → IsTrue p.tells → (disk new : P) → new ≡ disk → CrashLeaves (Leaves (bytes_on p disk)) p.images p.moment p.left_at disk new
  untouched Leaves same only_now told disk new is = subst (λ d. CrashLeaves (Leaves (bytes_on p disk)) p.images p.moment p.left_at disk d) (sym is)
      (no_call p.images p.moment p.left_at (Leaves (bytes_on p disk)) disk (same (bytes_on p disk)) (λ c left. only_now disk c told left))

  -- volumes that weren't asked
  pub left_same : (leaves : ℕ → Leaving) → StaysSame leaves → OnlyNow → IsTrue p.tells → (volumes : List P) → AreLeaving p leaves volumes volumes
  left_same leaves same only_now told volumes bank before now was is = untouched (leaves bank) (same bank) only_now told before now (some_same now before (sym is ∙ was))

  module _ (lock : ℕ → Lock) (leaves : ℕ → Leaving) (becomes : ℕ → Becoming) (old : List P) where
    abbrev pub restoring : ℕ → Result (Unit {0}) RecoverRefusal → P → P → Type 0
    restoring n result before now = Restoring p (lock n) (leaves n) (becomes n) result before now

    pub all_restored : (n : ℕ) (new : List P) → Progress restoring old n new → n ≡ length old → RestoresBanks p lock leaves becomes old new (Ok (tt {0}))
    all_restored n new done all = record {
      count = done.count;
      moments = λ told bank before now was is. (each_done restoring old n new done all bank before now was is).moments told;
      restored = λ told bank before now was is. let r = each_done restoring old n new done all bank before now was is in (r.shows told, r.durable told);
      refused = tt;
      counted = λ bank before now was is. (each_done restoring old n new done all bank before now was is).count;
    }

    pub restore_failed : (n : ℕ) (mid new : List P) (e : RecoverRefusal) → StaysSame leaves → OnlyNow → Progress restoring old n mid
        → ChangesAt (restoring n (Err e)) n mid new → RestoresBanks p lock leaves becomes old new (Err e)
    restore_failed n mid new e same only_now done step = record {
      count = count_more restoring old n mid new done (Err e) step;
      moments = λ told bank before now was is. ⊎_elim
          (λ r. r.moments told)
          (λ h. ⊎_elim
          (λ (k : (bank ≡ n) × Restoring p (lock n) (leaves n) (becomes n) (Err e) before now). subst (λ z. CrashLeaves (leaves z (bytes_on p before)) p.images p.moment p.left_at before now) (sym k.0) (k.1.moments told))
          (λ (is_same : now ≡ before). untouched (leaves bank) (same bank) only_now told before now is_same)
          h)
          (each_so_far restoring old n mid new done (Err e) step bank before now was is);
      restored = λ told. tt;
      refused = store_refused lock n old new step.before step.now e (first_was restoring old n mid new done (Err e) step) step.is step.changed.cause;
      counted = λ bank before now was is. ⊎_elim
          (λ r. r.count)
          (λ h. ⊎_elim (λ (k : (bank ≡ n) × Restoring p (lock n) (leaves n) (becomes n) (Err e) before now). k.1.count) (λ (is_same : now ≡ before). same_count before now is_same) h)
          (each_so_far restoring old n mid new done (Err e) step bank before now was is);
    }

  module _ (lock : ℕ → Lock) (old : List P) where
    abbrev pub emptying : ℕ → Result (Unit {0}) RecoverRefusal → P → P → Type 0
    emptying n result before now = Emptying p (lock n) result before now

    pub empty_failed : (n : ℕ) (mid new : List P) (e : RecoverRefusal) → Progress emptying old n mid → ChangesAt (emptying n (Err e)) n mid new → EmptiesBanks p lock old new (Err e)
    empty_failed n mid new e done step = record {
      count = count_more emptying old n mid new done (Err e) step;
      empty = λ told. tt;
      refused = store_refused lock n old new step.before step.now e (first_was emptying old n mid new done (Err e) step) step.is step.changed.cause;
      counted = λ bank before now was is. ⊎_elim
          (λ r. r.count)
          (λ h. ⊎_elim (λ (k : (bank ≡ n) × Emptying p (lock n) (Err e) before now). k.1.count) (λ (same : now ≡ before). same_count before now same) h)
          (each_so_far emptying old n mid new done (Err e) step bank before now was is);
    }

    pub all_empty : (n : ℕ) (new : List P) → Progress emptying old n new → n ≡ length old → EmptiesBanks p lock old new (Ok (tt {0}))
    all_empty n new done all = record {
      count = done.count;
      empty = λ told bank now is. let was = had old new done.count bank now is in (each_done emptying old n new done all bank was.0 now was.1 is).empty told;
      refused = tt;
      counted = λ bank before now was is. (each_done emptying old n new done all bank before now was is).count;
    }

  pub same_volumes : (volumes : List P) → NoCountFell p volumes volumes
  same_volumes volumes bank before now was is = let e = ap p.faults (some_same before now (sym was ∙ is)) in omega (arith, e)
