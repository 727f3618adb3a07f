-- Redo, trimming and writing, one after another.
use Rattle.std.proofs.Common.{◌≡◌, ◌≢◌, ◌⊎◌, inl, inr, ⊎_elim, ℕ, zero, suc, ◌+◌, ◌/◌, ◌%◌, ◌^◌, ◌<◌, ◌≤◌, Bool, true, false, List, slice_index, Result, Ok, Err, OnOk, IsTrue, refl, sym, ap, subst, arith, ◌∙◌}
use Rattle.tx_events.specs.PageOrder.{Ids, is_cut, page_precedes}
use Rattle.tx_events.specs.PageWindow.{id_is_kept}
use Rattle.store_pages.specs.Layouts.{bits_at, state_in, xact_page_of, xact_place_of}
use Rattle.store_pages.specs.declared.page_rule.PageRule as rules
use Rattle.disk_core.specs.Faults.{HasRisen}
use Rattle.disk_core.specs.Pages.{Pages, zero_page}
use Rattle.disk_core.specs.declared.page_disk.PageDisk as disks
use Rattle.slru_bank.proofs.ZeroBytes.{zero_byte}
use Rattle.slru_bank.specs.Calls.{CrashKeeps, CrashMayLack, IsDurable, SamePages, SweepsBank, faults_of, pages_of, volume_of}
use Rattle.slru_bank.specs.Crash.{IsMixture, IsMixtureOrGone, SameMap, byte_at, runs_then, wider}
use Rattle.slru_bank.specs.declared.bank.SlruBank.{SlruBank}
use Rattle.slru_bank.specs.declared.refusal.BankRefusal.{BankRefusal}
use Rattle.slru_bank.specs.declared.refusal.BankRefusal.TheVariants.{Cut, DiskFault}
use Rattle.slru_bank.specs.Changes.{TrimsStates}
use Rattle.tx_events.proofs.ListSteps.{not_both}
use Rattle.recoverable.specs.XactImages.{code_at}
use Rattle.replay_core.specs.Redo.{HasPlace, MayRedo, Redoes, RedoesBank, code_in}
use Rattle.replay_core.specs.Restore.{IsPast, MayBecome, MayRestore, Restores, RestoresAll, RestoresBank}
use Rattle.replay_core.proofs.OneId.{code_byte}
use Rattle.replay_core.proofs.Redoing.{risen_since}

same_or_not : (a b : ℕ) → (a ≡ b) ⊎ (a ≢ b)
same_or_not a b = grind arith

way : (m n : ℕ) → (m < n) ⊎ (n ≤ m)
way m n = grind arith

zero_bits : (k : ℕ) → bits_at 0 k ≡ 0
zero_bits zero = refl
zero_bits (suc k) = zero_bits k

pub zero_state : (n : ℕ) → state_in zero_page n ≡ 0
zero_state n = ap (λ b. bits_at b (n % 4)) (zero_byte (n / 4)) ∙ zero_bits (n % 4)

-- the page of an id of the window isn't cut by the oldest one's
pub page_kept : (oldest x : ℕ) → oldest ≤ x → x + 2 ^ 15 < oldest + 2 ^ 31 → is_cut Ids 32768 (xact_page_of oldest) (xact_page_of x) ≡ true → ⊥
page_kept oldest x from near cut = not_both (is_cut Ids 32768 (xact_page_of oldest) (xact_page_of x)) cut (id_is_kept oldest x from near)

module _ (A : ℕ → Type 0) (next : ℕ) where
  restores_redone : (m m1 : ℕ → List ℕ) → Redoes A m m1 → Restores A next m m1
  restores_redone m m1 r x = ⊎_elim inl (λ (h : (code_in m1 x ≡ 1) × HasPlace A x). inr (inl h)) (r x)

  may_redone : (m : ℕ → List ℕ) (c d : Pages) → MayRedo A m c d → MayRestore A next m c d
  may_redone m c d r = record {
    each = λ x. ⊎_elim inl (λ (h : (code_at d x ≡ code_in m x) ⊎ ((code_at d x ≡ 1) × HasPlace A x)). inr (⊎_elim inl (λ (k : (code_at d x ≡ 1) × HasPlace A x). inr (inl k)) h)) (r.each x);
  }

  restores_then : (m m1 m2 : ℕ → List ℕ) → Restores A next m m1 → Restores A next m1 m2 → Restores A next m m2
  restores_then m m1 m2 first second x =
      ⊎_elim
      (λ (e : code_in m2 x ≡ code_in m1 x). ⊎_elim (λ (f : code_in m1 x ≡ code_in m x). inl (e ∙ f)) (λ (f : MayBecome A next x (code_in m1 x)). inr (subst (MayBecome A next x) (sym e) f)) (first x))
      (λ (h : MayBecome A next x (code_in m2 x)). inr h)
      (second x)

  may_then : (m m1 : ℕ → List ℕ) (c d e : Pages) → Restores A next m m1 → MayRestore A next m c d → MayRestore A next m1 d e → MayRestore A next m c e
  may_then m m1 c d e between first second = record {
    each = λ x.
        ⊎_elim
        (λ (h : code_at e x ≡ code_at d x).
        ⊎_elim (λ (f : code_at d x ≡ code_at c x). inl (h ∙ f))
        (λ (f : (code_at d x ≡ code_in m x) ⊎ MayBecome A next x (code_at d x)). inr (⊎_elim (λ (k : code_at d x ≡ code_in m x). inl (h ∙ k)) (λ (k : MayBecome A next x (code_at d x)). inr (subst (MayBecome A next x) (sym h) k)) f))
        (first.each x))
        (λ (h : (code_at e x ≡ code_in m1 x) ⊎ MayBecome A next x (code_at e x)).
        inr (⊎_elim
        (λ (k : code_at e x ≡ code_in m1 x). ⊎_elim (λ (f : code_in m1 x ≡ code_in m x). inl (k ∙ f)) (λ (f : MayBecome A next x (code_in m1 x)). inr (subst (MayBecome A next x) (sym k) f)) (between x))
        (λ (k : MayBecome A next x (code_at e x)). inr k) h))
        (second.each x);
  }

  -- ---- trimming

  IsStill : ℕ → Type 0
  IsStill x = ((xact_page_of x ≡ xact_page_of next) × (xact_place_of x < xact_place_of next)) ⊎ ((xact_page_of x ≢ xact_page_of next) × (page_precedes Ids 32768 (xact_page_of next) (xact_page_of x) ≡ false))

  past_or_not : (x : ℕ) → IsPast next x ⊎ IsStill x
  unfolding IsStill
  past_or_not x =
      ⊎_elim
      (λ (page : xact_page_of x ≡ xact_page_of next). ⊎_elim (λ (low : xact_place_of x < xact_place_of next). inr (inl (page, low))) (λ (high : xact_place_of next ≤ xact_place_of x). inl (inl (page, high))) (way (xact_place_of x) (xact_place_of next)))
      (λ (differs : xact_page_of x ≢ xact_page_of next).
      let step : (b : Bool) → page_precedes Ids 32768 (xact_page_of next) (xact_page_of x) ≡ b → IsPast next x ⊎ IsStill x = elim [
        | true ↦ λ q. inl (inr q)
        | false ↦ λ q. inr (inr (differs, q))
      ] in
      step (page_precedes Ids 32768 (xact_page_of next) (xact_page_of x)) refl)
      (same_or_not (xact_page_of x) (xact_page_of next))

  trim_cleared : (m m1 : ℕ → List ℕ) → TrimsStates (xact_page_of next) (xact_place_of next) m m1 → (x : ℕ) → IsPast next x → code_in m1 x ≡ 0
  trim_cleared m m1 t x past =
      ⊎_elim
      (λ (h : (xact_page_of x ≡ xact_page_of next) × (xact_place_of next ≤ xact_place_of x)). ap (λ q. state_in (m1 q) (xact_place_of x)) h.0 ∙ t.cleared (xact_place_of x) h.1 (omega arith))
      (λ (h : page_precedes Ids 32768 (xact_page_of next) (xact_page_of x) ≡ true). ap (λ (l : List ℕ). state_in l (xact_place_of x)) (t.zeros (xact_page_of x) (omega arith) h) ∙ zero_state (xact_place_of x))
      past

  trim_kept : (m m1 : ℕ → List ℕ) → TrimsStates (xact_page_of next) (xact_place_of next) m m1 → (x : ℕ) → IsStill x → code_in m1 x ≡ code_in m x
  unfolding IsStill
  trim_kept m m1 t x h =
      ⊎_elim
      (λ (k : (xact_page_of x ≡ xact_page_of next) × (xact_place_of x < xact_place_of next)). ap (λ q. state_in (m1 q) (xact_place_of x)) k.0 ∙ t.kept (xact_place_of x) k.1 ∙ ap (λ q. state_in (m q) (xact_place_of x)) (sym k.0))
      (λ (k : (xact_page_of x ≢ xact_page_of next) × (page_precedes Ids 32768 (xact_page_of next) (xact_page_of x) ≡ false)). ap (λ (l : List ℕ). state_in l (xact_place_of x)) (t.stay (xact_page_of x) k.0 k.1))
      h

  restores_trimmed : (m m1 : ℕ → List ℕ) → TrimsStates (xact_page_of next) (xact_place_of next) m m1 → Restores A next m m1
  restores_trimmed m m1 t x = ⊎_elim (λ past. inr (inr (trim_cleared m m1 t x past, past))) (λ h. inl (trim_kept m m1 t x h)) (past_or_not x)

  -- a crash within the trimming
  may_trimmed : (m : ℕ → List ℕ) (c d : Pages) → IsMixtureOrGone (page_precedes Ids 32768 (xact_page_of next)) m m c d → MayRestore A next m c d
  may_trimmed m c d mix = record {
    each = λ x.
        let old : byte_at d (xact_page_of x) (xact_place_of x / 4) ≡ slice_index (m (xact_page_of x)) (xact_place_of x / 4) → code_at d x ≡ code_in m x = code_byte d x (slice_index (m (xact_page_of x)) (xact_place_of x / 4)) in
        ⊎_elim
        (λ (e : byte_at d (xact_page_of x) (xact_place_of x / 4) ≡ byte_at c (xact_page_of x) (xact_place_of x / 4)). inl (code_byte d x (byte_at c (xact_page_of x) (xact_place_of x / 4)) e))
        (λ h. inr (⊎_elim (λ e. inl (old e)) (λ k. ⊎_elim (λ e. inl (old e))
        (λ (e : (page_precedes Ids 32768 (xact_page_of next) (xact_page_of x) ≡ true) × (byte_at d (xact_page_of x) (xact_place_of x / 4) ≡ 0)). inr (inr (code_byte d x 0 e.1 ∙ zero_bits (xact_place_of x % 4), inr e.0)))
        k) h))
        (mix.each (xact_page_of x) (xact_place_of x / 4));
  }

  -- a crash within writing
  may_written : (m : ℕ → List ℕ) (c d : Pages) → IsMixture m m c d → MayRestore A next m c d
  may_written m c d mix = record {
    each = λ x.
        let old : byte_at d (xact_page_of x) (xact_place_of x / 4) ≡ slice_index (m (xact_page_of x)) (xact_place_of x / 4) → code_at d x ≡ code_in m x = code_byte d x (slice_index (m (xact_page_of x)) (xact_place_of x / 4)) in
        ⊎_elim
        (λ (e : byte_at d (xact_page_of x) (xact_place_of x / 4) ≡ byte_at c (xact_page_of x) (xact_place_of x / 4)). inl (code_byte d x (byte_at c (xact_page_of x) (xact_place_of x / 4)) e))
        (λ h. inr (inl (⊎_elim old old h)))
        (mix.each (xact_page_of x) (xact_place_of x / 4));
  }

  restores_same : (m m1 : ℕ → List ℕ) → SameMap m m1 → Restores A next m m1
  restores_same m m1 same x = inl (ap (λ (l : List ℕ). state_in l (xact_place_of x)) (same (xact_page_of x)))

  pub may_same : (m : ℕ → List ℕ) (c : Pages) → MayRestore A next m c c
  may_same m c = record { each = λ x. inl refl }

  -- the same of a map that has the same bytes
  pub may_from : (m0 m : ℕ → List ℕ) (c d : Pages) → SameMap m0 m → MayRestore A next m c d → MayRestore A next m0 c d
  may_from m0 m c d same r = record {
    each = λ x. ⊎_elim inl (λ (h : (code_at d x ≡ code_in m x) ⊎ MayBecome A next x (code_at d x)). inr (⊎_elim (λ (e : code_at d x ≡ code_in m x). inl (e ∙ ap (λ (l : List ℕ). state_in l (xact_place_of x)) (same (xact_page_of x)))) inr h)) (r.each x);
  }

  pub all_from : (m0 m m1 m2 : ℕ → List ℕ) → SameMap m0 m → SameMap m1 m2 → RestoresAll A next m m1 → RestoresAll A next m0 m2
  all_from m0 m m1 m2 same same' r =
      let last : (x : ℕ) → code_in m2 x ≡ code_in m1 x = λ x. ap (λ (l : List ℕ). state_in l (xact_place_of x)) (same' (xact_page_of x)) in
      record {
        each = restores_then m0 m m2 (restores_same m0 m same) (restores_then m m1 m2 r.each (restores_same m1 m2 same'));
        done = λ y named still. last y ∙ r.done y named still;
        cleared = λ x past. last x ∙ r.cleared x past;
      }

  -- all three
  all_restored : (m m1 m2 m3 : ℕ → List ℕ) → Redoes A m m1 → ((y : ℕ) → A y → code_in m1 y ≡ 1) → TrimsStates (xact_page_of next) (xact_place_of next) m1 m2 → SameMap m2 m3 → RestoresAll A next m m3
  all_restored m m1 m2 m3 redo done trim same =
      let last : (x : ℕ) → code_in m3 x ≡ code_in m2 x = λ x. ap (λ (l : List ℕ). state_in l (xact_place_of x)) (same (xact_page_of x)) in
      record {
        each = restores_then m m2 m3 (restores_then m m1 m2 (restores_redone m m1 redo) (restores_trimmed m1 m2 trim)) (restores_same m2 m3 same);
        done = λ y named still. ⊎_elim (λ past. absurd (still past)) (λ h. last y ∙ trim_kept m1 m2 trim y h ∙ done y named) (past_or_not y);
        cleared = λ x past. last x ∙ trim_cleared m1 m2 trim x past;
      }

  -- ---- the bank

  module _ {P O : Type 0} {g : disks.Ghosts P} {r : rules.Ghosts O} where
    -- the redo failed
    pub redo_failed : (b0 b1 : SlruBank P O g r) (e : BankRefusal) → RedoesBank A b0 b1 (Err e) → RestoresBank A next b0 b1 (Err e)
    redo_failed b0 b1 e s = record {
      fault = s.fault;
      count = s.count;
      shows = λ told. tt;
      durable = λ told. tt;
      moments = λ told. wider g.images g.moment g.left_at (MayRedo A (pages_of b0)) (MayRestore A next (pages_of b0)) (volume_of b0) (volume_of b1) (may_redone (pages_of b0)) (s.moments told);
    }

    module _ (b0 b1 b2 : SlruBank P O g r) (redo : RedoesBank A b0 b1 (Ok (tt {0}))) (lacks : CrashMayLack (page_precedes Ids 32768 (xact_page_of next)) b1 b2) where
      two_moments : IsTrue g.tells → Rattle.slru_bank.specs.Crash.CrashLeaves (MayRestore A next (pages_of b0)) g.images g.moment g.left_at (volume_of b0) (volume_of b2)
      two_moments told = runs_then g.images g.moment g.left_at (MayRedo A (pages_of b0)) (IsMixtureOrGone (page_precedes Ids 32768 (xact_page_of next)) (pages_of b1) (pages_of b1)) (MayRestore A next (pages_of b0))
          (volume_of b0) (volume_of b1) (volume_of b2) (may_redone (pages_of b0))
          (λ p q t u v. may_then (pages_of b0) (pages_of b1) p q t (restores_redone (pages_of b0) (pages_of b1) (redo.each told)) (may_redone (pages_of b0) p q u) (may_trimmed (pages_of b1) q t v))
          (redo.moments told) (lacks told)

      -- the trimming failed, which no cut page does
      pub trim_failed : (e : BankRefusal) → ((c : ℕ) → e ≡ Cut c → ⊥) → (e ≡ DiskFault → HasRisen (faults_of b1) (faults_of b2)) → faults_of b1 ≤ faults_of b2 → RestoresBank A next b0 b2 (Err e)
      trim_failed (Cut c) uncut fault count = absurd (uncut c refl)
      trim_failed DiskFault uncut fault count = record {
        fault = λ e. (refl, risen_since (faults_of b0) (faults_of b1) (faults_of b2) redo.count (fault refl));
        count = omega (arith, redo.count, count);
        shows = λ told. tt;
        durable = λ told. tt;
        moments = two_moments;
      }

      -- all is written, or that failed
      pub flushed : (b3 : SlruBank P O g r) (result : Result (Unit {0}) BankRefusal) → faults_of b1 ≤ faults_of b2 → (IsTrue g.tells → TrimsStates (xact_page_of next) (xact_place_of next) (pages_of b1) (pages_of b2))
          → (IsTrue g.tells → OnOk result (IsDurable b3)) → (IsTrue g.tells → SamePages b2 b3) → SweepsBank b2 b3 result → CrashKeeps b2 b3 → RestoresBank A next b0 b3 result
      flushed b3 result count trim durable same sweeps crash = record {
        fault = λ e. let f = sweeps.fault e in (f.0, risen_since (faults_of b0) (faults_of b2) (faults_of b3) (omega (arith, redo.count, count)) f.1);
        count = omega (arith, redo.count, count, sweeps.count);
        shows = λ told. on result (all_restored (pages_of b0) (pages_of b1) (pages_of b2) (pages_of b3) (redo.each told) (redo.done told) (trim told) (same told));
        durable = durable;
        moments = λ told. runs_then g.images g.moment g.left_at (MayRestore A next (pages_of b0)) (IsMixture (pages_of b2) (pages_of b2)) (MayRestore A next (pages_of b0)) (volume_of b0) (volume_of b2) (volume_of b3)
            (λ p q t. t)
            (λ p q t u v. may_then (pages_of b0) (pages_of b2) p q t (restores_then (pages_of b0) (pages_of b1) (pages_of b2) (restores_redone (pages_of b0) (pages_of b1) (redo.each told)) (restores_trimmed (pages_of b1) (pages_of b2) (trim told))) u (may_written (pages_of b2) q t v))
            (two_moments told) (crash told);
      }
        where
          on : {X : Type 0} (result : Result (Unit {0}) BankRefusal) → X → OnOk result X
          on (Ok u) x = x
          on (Err e) x = tt
