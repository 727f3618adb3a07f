-- Steps one after another, each of which changes bytes of a bank's pages.
use Rattle.std.proofs.Common.{◌≡◌, ◌⊎◌, inl, inr, ⊎_elim, ℕ, ◌<◌, ◌≤◌, Bool, true, false, List, slice_index, Result, Ok, Err, OnOk, OnErr, IsTrue, refl, sym, ap, subst, arith, ◌∙◌}
use Rattle.disk_core.specs.Faults.{HasRisen}
use Rattle.disk_core.specs.Pages.{Pages, zero_page}
use Rattle.disk_core.specs.declared.page_disk.PageDisk as disks
use Rattle.store_pages.specs.declared.page_rule.PageRule as rules
use Rattle.tx_events.specs.PageOrder.{page_precedes}
use Rattle.slru_bank.proofs.ZeroBytes.{zero_byte}
use Rattle.slru_bank.specs.ByteRange.{cleared_before, cleared_past}
use Rattle.slru_bank.specs.Calls.{CallsBank, CrashKeeps, IsCut, SamePages, SweepsBank, TrimsBank, cutoff_of, faults_of, pages_of, volume_of}
use Rattle.slru_bank.specs.Crash.{IsMixture, IsMixtureOrGone, no_call, runs_then, wider}
use Rattle.slru_bank.specs.Removal.{ClearsAfter, MayDrop}
use Rattle.slru_bank.specs.declared.bank.SlruBank.{SlruBank}
use Rattle.slru_bank.specs.declared.refusal.BankRefusal.{BankRefusal}
use Rattle.slru_bank.specs.declared.refusal.BankRefusal.TheVariants.{Cut, DiskFault}
use Rattle.replay_multis.specs.Restore.{IsBehind, IsCleared}
use Rattle.replay_multis.specs.Steps.{Changes, HoldsNamed, MayLeave, MayStand, RedoesBank, StepsBank}

abbrev pub IsAmong : MayStand → MayStand → Type 0
IsAmong A C = (q i b : ℕ) → A q i b → C q i b

pub same_or_not : (a b : ℕ) → (a ≡ b) ⊎ ((a ≡ b) → ⊥)
same_or_not a b = grind arith

pub way : (i at : ℕ) → (i < at) ⊎ (at ≤ i)
way i at = grind arith

module _ (A C : MayStand) (wide : IsAmong A C) where
  pub changes_wider : (m m1 : ℕ → List ℕ) → Changes A m m1 → Changes C m m1
  changes_wider m m1 s q i lt = ⊎_elim inl (λ (h : A q i (slice_index (m1 q) i)). inr (wide q i (slice_index (m1 q) i) h)) (s q i lt)

  may_wider : (m : ℕ → List ℕ) (c d : Pages) → MayLeave A m c d → MayLeave C m c d
  may_wider m c d s = record {
    each = λ q i lt. ⊎_elim inl (λ h. inr (⊎_elim inl (λ k. inr (wide q i _ k)) h)) (s.each q i lt);
  }

module _ (M : MayStand) where
  pub changes_none : (m m1 : ℕ → List ℕ) → ((q : ℕ) → m1 q ≡ m q) → Changes M m m1
  changes_none m m1 same q i lt = inl (ap (λ (l : List ℕ). slice_index l i) (same q))

  pub may_same : (m : ℕ → List ℕ) (c : Pages) → MayLeave M m c c
  may_same m c = record { each = λ q i lt. inl refl }

  pub changes_then : (m m1 m2 : ℕ → List ℕ) → Changes M m m1 → Changes M m1 m2 → Changes M m m2
  changes_then m m1 m2 first second q i lt = ⊎_elim
      (λ (e : slice_index (m2 q) i ≡ slice_index (m1 q) i). ⊎_elim
      (λ (f : slice_index (m1 q) i ≡ slice_index (m q) i). inl (e ∙ f))
      (λ (h : M q i (slice_index (m1 q) i)). inr (subst (M q i) (sym e) h))
      (first q i lt))
      inr
      (second q i lt)

  may_then : (m m1 : ℕ → List ℕ) (c d e : Pages) → Changes M m m1 → MayLeave M m c d → MayLeave M m1 d e → MayLeave M m c e
  may_then m m1 c d e between first second = record {
    each = λ q i lt. ⊎_elim
        (λ h. ⊎_elim
        (λ f. inl (h ∙ f))
        (λ f. inr (⊎_elim (λ k. inl (h ∙ k)) (λ k. inr (subst (M q i) (sym h) k)) f))
        (first.each q i lt))
        (λ h. inr (⊎_elim
        (λ k. ⊎_elim (λ f. inl (k ∙ f)) (λ f. inr (subst (M q i) (sym k) f)) (between q i lt))
        inr
        h))
        (second.each q i lt);
  }

  mixture_may : (m : ℕ → List ℕ) (c d : Pages) → IsMixture m m c d → MayLeave M m c d
  mixture_may m c d mix = record { each = λ q i lt. ⊎_elim inl (λ h. inr (inl (⊎_elim (λ e. e) (λ e. e) h))) (mix.each q i) }

-- pages that may be gone have zeros
gone_may : (gone : ℕ → Bool) (F : ℕ → ℕ → Type 0) → ((q i : ℕ) → gone q ≡ true → F q i) → (m : ℕ → List ℕ) (c d : Pages) → IsMixtureOrGone gone m m c d → MayLeave (IsCleared F) m c d
gone_may gone F behind m c d mix = record {
  each = λ q i lt. ⊎_elim inl (λ h. inr (⊎_elim inl (λ k. ⊎_elim inl (λ z. inr (z.1, behind q i z.0)) k) h)) (mix.each q i);
}

pub risen_since : (a b c : ℕ) → a ≤ b → HasRisen b c → HasRisen a c
risen_since a b c le risen = grind arith

module _ {P O : Type 0} {g : disks.Ghosts P} {r : rules.Ghosts O} where
  pub steps_wider : (A C : MayStand) (b0 b1 : SlruBank P O g r) (result : Result (Unit {0}) BankRefusal) → IsAmong A C → StepsBank A b0 b1 result → StepsBank C b0 b1 result
  steps_wider A C b0 b1 result wide s = record {
    cutoff = s.cutoff;
    fault = s.fault;
    count = s.count;
    each = λ told. changes_wider A C wide (pages_of b0) (pages_of b1) (s.each told);
    moments = λ told. wider g.images g.moment g.left_at (MayLeave A (pages_of b0)) (MayLeave C (pages_of b0)) (volume_of b0) (volume_of b1) (may_wider A C wide (pages_of b0)) (s.moments told);
  }

  -- nothing was done
  pub steps_none : (M : MayStand) (b : SlruBank P O g r) → ((c : Pages) → IsTrue g.tells → g.left_at (volume_of b) (g.moment (volume_of b)) c → g.images (volume_of b) c) → StepsBank M b b (Ok (tt {0}))
  steps_none M b only_now = record {
    cutoff = refl;
    fault = λ e. absurd cc;
    count = omega arith;
    each = λ told. changes_none M (pages_of b) (pages_of b) (λ q. refl);
    moments = λ told. no_call g.images g.moment g.left_at (MayLeave M (pages_of b)) (volume_of b) (may_same M (pages_of b)) (λ c left. only_now c told left);
  }

  pub steps_then : (M : MayStand) (b0 b1 b2 : SlruBank P O g r) (first second : Result (Unit {0}) BankRefusal) → StepsBank M b0 b1 first → StepsBank M b1 b2 second → StepsBank M b0 b2 second
  steps_then M b0 b1 b2 first second s t = record {
    cutoff = t.cutoff ∙ s.cutoff;
    fault = λ e. let f = t.fault e in (f.0, risen_since (faults_of b0) (faults_of b1) (faults_of b2) s.count f.1);
    count = omega (arith, s.count, t.count);
    each = λ told. changes_then M (pages_of b0) (pages_of b1) (pages_of b2) (s.each told) (t.each told);
    moments = λ told. runs_then g.images g.moment g.left_at (MayLeave M (pages_of b0)) (MayLeave M (pages_of b1)) (MayLeave M (pages_of b0)) (volume_of b0) (volume_of b1) (volume_of b2)
        (λ p q t. t)
        (λ p q t u v. may_then M (pages_of b0) (pages_of b1) p q t (s.each told) u v)
        (s.moments told) (t.moments told);
  }

  -- a call on a page that isn't cut
  pub steps_call : (M : MayStand) (page : ℕ) (b0 b1 : SlruBank P O g r) (result : Result (Unit {0}) BankRefusal) → (IsCut page b0 → ⊥)
      → (IsTrue g.tells → OnOk result (Changes M (pages_of b0) (pages_of b1))) → (IsTrue g.tells → OnErr result (SamePages b0 b1)) → CallsBank page b0 b1 result → StepsBank M b0 b1 result
  steps_call M page b0 b1 (Ok u) kept changes same calls = record {
    cutoff = calls.calls.cutoff;
    fault = λ e. absurd cc;
    count = calls.calls.count;
    each = changes;
    moments = λ told. wider g.images g.moment g.left_at (IsMixture (pages_of b0) (pages_of b0)) (MayLeave M (pages_of b0)) (volume_of b0) (volume_of b1) (mixture_may M (pages_of b0)) (calls.calls.crash told);
  }
  steps_call M page b0 b1 (Err (Cut c)) kept changes same calls = absurd (kept (calls.calls.only_cut c refl).1)
  steps_call M page b0 b1 (Err DiskFault) kept changes same calls = record {
    cutoff = calls.calls.cutoff;
    fault = λ e. (refl, calls.calls.fault refl);
    count = calls.calls.count;
    each = λ told. changes_none M (pages_of b0) (pages_of b1) (same told);
    moments = λ told. wider g.images g.moment g.left_at (IsMixture (pages_of b0) (pages_of b0)) (MayLeave M (pages_of b0)) (volume_of b0) (volume_of b1) (mixture_may M (pages_of b0)) (calls.calls.crash told);
  }

  -- all is written
  pub steps_flush : (M : MayStand) (b0 b1 : SlruBank P O g r) (result : Result (Unit {0}) BankRefusal) → cutoff_of b1 ≡ cutoff_of b0 → (IsTrue g.tells → SamePages b0 b1) → SweepsBank b0 b1 result → CrashKeeps b0 b1 → StepsBank M b0 b1 result
  steps_flush M b0 b1 result cutoff same sweeps crash = record {
    cutoff = cutoff;
    fault = sweeps.fault;
    count = sweeps.count;
    each = λ told. changes_none M (pages_of b0) (pages_of b1) (same told);
    moments = λ told. wider g.images g.moment g.left_at (IsMixture (pages_of b0) (pages_of b0)) (MayLeave M (pages_of b0)) (volume_of b0) (volume_of b1) (mixture_may M (pages_of b0)) (crash told);
  }

  -- pages and the rest of one are cleared
  pub steps_clear : (page at : ℕ) (b0 b1 : SlruBank P O g r) (result : Result (Unit {0}) BankRefusal) → (IsTrue g.tells → OnOk result (ClearsAfter r.shape r.per_page page at (pages_of b0) (pages_of b1)))
      → TrimsBank (page_precedes r.shape r.per_page page) b0 b1 result → StepsBank (IsCleared (IsBehind r.shape r.per_page page at)) b0 b1 result
  steps_clear page at b0 b1 result clears trims = record {
    cutoff = trims.cutoff;
    fault = trims.sweeps.fault;
    count = trims.sweeps.count;
    each = λ told. changed result (clears told) (trims.err told);
    moments = λ told. wider g.images g.moment g.left_at (IsMixtureOrGone (page_precedes r.shape r.per_page page) (pages_of b0) (pages_of b0)) (MayLeave (IsCleared (IsBehind r.shape r.per_page page at)) (pages_of b0)) (volume_of b0) (volume_of b1)
        (gone_may (page_precedes r.shape r.per_page page) (IsBehind r.shape r.per_page page at) (λ q i e. inr e) (pages_of b0)) (trims.crash told);
  }
    where
      zero_at : (m : ℕ → List ℕ) (q i : ℕ) → m q ≡ zero_page → slice_index (m q) i ≡ 0
      zero_at m q i e = ap (λ (l : List ℕ). slice_index l i) e ∙ zero_byte i

      changed : (result : Result (Unit {0}) BankRefusal) → OnOk result (ClearsAfter r.shape r.per_page page at (pages_of b0) (pages_of b1)) → OnErr result (MayDrop (page_precedes r.shape r.per_page page) (pages_of b0) (pages_of b1))
          → Changes (IsCleared (IsBehind r.shape r.per_page page at)) (pages_of b0) (pages_of b1)
      changed (Ok u) c d q i lt = ⊎_elim
          (λ (here : q ≡ page). ⊎_elim
          (λ (low : i < at). inl (ap (λ z. slice_index (pages_of b1 z) i) here ∙ ap (λ (l : List ℕ). slice_index l i) c.here ∙ cleared_before (pages_of b0 page) at i low ∙ ap (λ z. slice_index (pages_of b0 z) i) (sym here)))
          (λ (high : at ≤ i). inr (ap (λ z. slice_index (pages_of b1 z) i) here ∙ ap (λ (l : List ℕ). slice_index l i) c.here ∙ cleared_past (pages_of b0 page) at i high, inl (here, high)))
          (way i at))
          (λ (away : q ≡ page → ⊥). other (page_precedes r.shape r.per_page page q) refl away)
          (same_or_not q page)
        where
          other : (t : Bool) → page_precedes r.shape r.per_page page q ≡ t → (q ≡ page → ⊥) → (slice_index (pages_of b1 q) i ≡ slice_index (pages_of b0 q) i) ⊎ IsCleared (IsBehind r.shape r.per_page page at) q i (slice_index (pages_of b1 q) i)
          other true e away = inr (zero_at (pages_of b1) q i (c.zeros q lt e), inr e)
          other false e away = inl (ap (λ (l : List ℕ). slice_index l i) (c.stay q away e))
      changed (Err e) c d q i lt = other (page_precedes r.shape r.per_page page q) refl
        where
          other : (t : Bool) → page_precedes r.shape r.per_page page q ≡ t → (slice_index (pages_of b1 q) i ≡ slice_index (pages_of b0 q) i) ⊎ IsCleared (IsBehind r.shape r.per_page page at) q i (slice_index (pages_of b1 q) i)
          other true p = ⊎_elim (λ (z : pages_of b1 q ≡ zero_page). inr (zero_at (pages_of b1) q i z, inr p)) (λ (s : pages_of b1 q ≡ pages_of b0 q). inl (ap (λ (l : List ℕ). slice_index l i) s)) (d.zero_or_same q)
          other false p = inl (ap (λ (l : List ℕ). slice_index l i) (d.stay q p))

  -- ---- what is redone

  pub none_redone : (A : MayStand) (b : SlruBank P O g r) → ((q i x : ℕ) → A q i x → ⊥) → ((c : Pages) → IsTrue g.tells → g.left_at (volume_of b) (g.moment (volume_of b)) c → g.images (volume_of b) c) → RedoesBank A b b (Ok (tt {0}))
  none_redone A b none only_now = record { steps = steps_none A b only_now; done = λ told q i x lt a. absurd (none q i x a) }

  -- what failed may be said of more
  pub failed_wider : (A C : MayStand) (b0 b1 : SlruBank P O g r) (e : BankRefusal) → IsAmong A C → RedoesBank A b0 b1 (Err e) → RedoesBank C b0 b1 (Err e)
  failed_wider A C b0 b1 e wide s = record { steps = steps_wider A C b0 b1 (Err e) wide s.steps; done = λ told. tt }

  -- and what is done of the same
  pub same_named : (A C : MayStand) (b0 b1 : SlruBank P O g r) (result : Result (Unit {0}) BankRefusal) → IsAmong A C → IsAmong C A → RedoesBank A b0 b1 result → RedoesBank C b0 b1 result
  same_named A C b0 b1 result wide back s = record { steps = steps_wider A C b0 b1 result wide s.steps; done = λ told. of result (s.done told) }
    where
      of : (result : Result (Unit {0}) BankRefusal) → OnOk result (HoldsNamed A (pages_of b1)) → OnOk result (HoldsNamed C (pages_of b1))
      of (Ok u) done = λ q i b lt c. wide q i _ (done q i b lt (back q i b c))
      of (Err e) done = tt

  module _ (A B C : MayStand) (b0 b1 b2 : SlruBank P O g r) (a : IsAmong A C) (b : IsAmong B C) (first : RedoesBank A b0 b1 (Ok (tt {0}))) where
    -- two runs one after another
    pub both_redone : (second : Result (Unit {0}) BankRefusal) → ((q i x : ℕ) → C q i x → A q i x ⊎ B q i x) → RedoesBank B b1 b2 second → RedoesBank C b0 b2 second
    both_redone second parts s = record {
      steps = steps_then C b0 b1 b2 (Ok (tt {0})) second (steps_wider A C b0 b1 (Ok (tt {0})) a first.steps) (steps_wider B C b1 b2 second b s.steps);
      done = λ told. of second (first.done told) (s.steps.each told) (s.done told);
    }
      where
        of : (second : Result (Unit {0}) BankRefusal) → HoldsNamed A (pages_of b1) → Changes B (pages_of b1) (pages_of b2) → OnOk second (HoldsNamed B (pages_of b2)) → OnOk second (HoldsNamed C (pages_of b2))
        of (Ok u) old changes new = λ q i x lt c. ⊎_elim
            (λ (h : A q i x). ⊎_elim
            (λ (e : slice_index (pages_of b2 q) i ≡ slice_index (pages_of b1 q) i). subst (C q i) (sym e) (a q i _ (old q i x lt h)))
            (λ (k : B q i (slice_index (pages_of b2 q) i)). b q i _ k)
            (changes q i lt))
            (λ (h : B q i x). b q i _ (new q i x lt h))
            (parts q i x c)
        of (Err e) old changes new = tt

    pub both_failed : (e : BankRefusal) → RedoesBank B b1 b2 (Err e) → RedoesBank C b0 b2 (Err e)
    both_failed e s = record {
      steps = steps_then C b0 b1 b2 (Ok (tt {0})) (Err e) (steps_wider A C b0 b1 (Ok (tt {0})) a first.steps) (steps_wider B C b1 b2 (Err e) b s.steps);
      done = λ told. tt;
    }
