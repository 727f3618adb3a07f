-- Redone ids one after another.
use Rattle.std.proofs.Common.{◌≡◌, ◌⊎◌, inl, inr, ⊎_elim, ℕ, zero, suc, ◌+◌, ◌%◌, ◌<◌, ◌≤◌, List, [], ◌∷◌, ◌++◌, length, take, get_or, Result, Ok, Err, OnOk, IsTrue, refl, sym, ap, subst, arith, append-nil, ◌∙◌}
use Rattle.std.proofs.lemmas.Grind.{flat_map-append}
use Rattle.std.proofs.lemmas.List.{take_more}
use Rattle.tx_events.proofs.Membership.{Has, contains_has, has_cases, has_contains, has_left, has_right}
use Rattle.tx_events.specs.declared.record.Rec.{Rec}
use Rattle.disk_core.specs.Faults.{HasRisen}
use Rattle.disk_core.specs.Pages.{Pages}
use Rattle.disk_core.specs.declared.page_disk.PageDisk as disks
use Rattle.store_pages.specs.declared.page_rule.PageRule as rules
use Rattle.store_pages.specs.Layouts.{xact_page_of}
use Rattle.slru_bank.specs.Calls.{faults_of, pages_of, volume_of}
use Rattle.slru_bank.specs.Crash.{no_call, runs_then, wider}
use Rattle.slru_bank.specs.declared.bank.SlruBank.{SlruBank}
use Rattle.slru_bank.specs.declared.refusal.BankRefusal.{BankRefusal}
use Rattle.tx_events.specs.LifeBase.{committed_by, committed_in}
use Rattle.recoverable.specs.XactImages.{code_at}
use Rattle.recoverable.proofs.Stretches.{flat_map_has}
use Rattle.replay_multis.specs.declared.share.Share.{Share}
use Rattle.replay_core.specs.Redo.{AreNear, HasPlace, IsNamed, IsOne, MayRedo, Redoes, RedoesBank, code_in}

module _ (A C : ℕ → Type 0) (wide : (y : ℕ) → A y → C y) where
  place_wider : (x : ℕ) → HasPlace A x → HasPlace C x
  place_wider x h = (h.0, wide h.0 h.1, h.2)

  pub redoes_wider : (m m1 : ℕ → List ℕ) → Redoes A m m1 → Redoes C m m1
  redoes_wider m m1 r x = ⊎_elim inl (λ (h : (code_in m1 x ≡ 1) × HasPlace A x). inr (h.0, place_wider x h.1)) (r x)

  pub may_wider : (m : ℕ → List ℕ) (c d : Pages) → MayRedo A m c d → MayRedo C m c d
  may_wider m c d r = record {
    each = λ x. ⊎_elim inl (λ (h : (code_at d x ≡ code_in m x) ⊎ ((code_at d x ≡ 1) × HasPlace A x)).
        inr (⊎_elim inl (λ (k : (code_at d x ≡ 1) × HasPlace A x). inr (k.0, place_wider x k.1)) h)) (r.each x);
  }

may_same : (A : ℕ → Type 0) (m : ℕ → List ℕ) (c : Pages) → MayRedo A m c c
may_same A m c = record { each = λ x. inl refl }

module _ (A : ℕ → Type 0) where
  redoes_then : (m m1 m2 : ℕ → List ℕ) → Redoes A m m1 → Redoes A m1 m2 → Redoes A m m2
  redoes_then m m1 m2 first second x =
      ⊎_elim
      (λ (e : code_in m2 x ≡ code_in m1 x). ⊎_elim (λ (f : code_in m1 x ≡ code_in m x). inl (e ∙ f)) (λ (f : (code_in m1 x ≡ 1) × HasPlace A x). inr (e ∙ f.0, f.1)) (first x))
      (λ (h : (code_in m2 x ≡ 1) × HasPlace A x). inr h)
      (second x)

  may_then : (m m1 : ℕ → List ℕ) (c d e : Pages) → Redoes A m m1 → MayRedo A m c d → MayRedo A m1 d e → MayRedo A m c e
  may_then m m1 c d e between first second = record {
    each = λ x.
        ⊎_elim
        (λ (h : code_at e x ≡ code_at d x).
        ⊎_elim (λ (f : code_at d x ≡ code_at c x). inl (h ∙ f))
        (λ (f : (code_at d x ≡ code_in m x) ⊎ ((code_at d x ≡ 1) × HasPlace A x)). inr (⊎_elim (λ (k : code_at d x ≡ code_in m x). inl (h ∙ k)) (λ (k : (code_at d x ≡ 1) × HasPlace A x). inr (h ∙ k.0, k.1)) f))
        (first.each x))
        (λ (h : (code_at e x ≡ code_in m1 x) ⊎ ((code_at e x ≡ 1) × HasPlace A x)).
        inr (⊎_elim
        (λ (k : code_at e x ≡ code_in m1 x). ⊎_elim (λ (f : code_in m1 x ≡ code_in m x). inl (k ∙ f)) (λ (f : (code_in m1 x ≡ 1) × HasPlace A x). inr (k ∙ f.0, f.1)) (between x))
        (λ (k : (code_at e x ≡ 1) × HasPlace A x). inr k) h))
        (second.each x);
  }

pub risen_since : (a b c : ℕ) → a ≤ b → HasRisen b c → HasRisen a c
risen_since a b c le risen = grind arith

module _ {P O : Type 0} {g : disks.Ghosts P} {r : rules.Ghosts O} where
  -- nothing was named, and nothing done
  pub none_redone : (A : ℕ → Type 0) (b : SlruBank P O g r) → ((y : ℕ) → A y → ⊥) → ((c : Pages) → IsTrue g.tells → g.left_at (volume_of b) (g.moment (volume_of b)) c → g.images (volume_of b) c)
      → RedoesBank A b b (Ok (tt {0}))
  none_redone A b none only_now = record {
    cutoff = refl;
    fault = λ e. absurd cc;
    count = omega arith;
    each = λ told x. inl refl;
    done = λ told y named. absurd (none y named);
    moments = λ told. no_call g.images g.moment g.left_at (MayRedo A (pages_of b)) (volume_of b) (may_same A (pages_of b)) (λ c left. only_now c told left);
  }

  module _ (A B C : ℕ → Type 0) (b0 b1 b2 : SlruBank P O g r) (a : (y : ℕ) → A y → C y) (b : (y : ℕ) → B y → C y) (first : RedoesBank A b0 b1 (Ok (tt {0}))) where
    both_each : (second : Result (Unit {0}) BankRefusal) → RedoesBank B b1 b2 second → IsTrue g.tells → Redoes C (pages_of b0) (pages_of b2)
    both_each second s told = redoes_then C (pages_of b0) (pages_of b1) (pages_of b2) (redoes_wider A C a (pages_of b0) (pages_of b1) (first.each told)) (redoes_wider B C b (pages_of b1) (pages_of b2) (s.each told))

    both_done : (second : Result (Unit {0}) BankRefusal) → RedoesBank B b1 b2 second → ((y : ℕ) → C y → A y ⊎ B y) → IsTrue g.tells
        → OnOk second ((y : ℕ) → B y → code_in (pages_of b2) y ≡ 1) → OnOk second ((y : ℕ) → C y → code_in (pages_of b2) y ≡ 1)
    both_done (Ok u) s parts told done = λ y named. ⊎_elim
        (λ (h : A y). ⊎_elim (λ (e : code_in (pages_of b2) y ≡ code_in (pages_of b1) y). e ∙ first.done told y h) (λ (k : (code_in (pages_of b2) y ≡ 1) × HasPlace B y). k.0) (s.each told y))
        (λ (h : B y). done y h)
        (parts y named)
    both_done (Err e) s parts told done = tt

    -- two runs one after another, the first of which answered Ok
    pub both_redone : (second : Result (Unit {0}) BankRefusal) → ((y : ℕ) → C y → A y ⊎ B y) → RedoesBank B b1 b2 second → RedoesBank C b0 b2 second
    both_redone second parts s = record {
      cutoff = s.cutoff ∙ first.cutoff;
      fault = λ e. let f = s.fault e in (f.0, risen_since (faults_of b0) (faults_of b1) (faults_of b2) first.count f.1);
      count = omega (arith, first.count, s.count);
      each = both_each second s;
      done = λ told. both_done second s parts told (s.done told);
      moments = λ told. runs_then g.images g.moment g.left_at (MayRedo A (pages_of b0)) (MayRedo B (pages_of b1)) (MayRedo C (pages_of b0)) (volume_of b0) (volume_of b1) (volume_of b2)
          (may_wider A C a (pages_of b0))
          (λ p q t u v. may_then C (pages_of b0) (pages_of b1) p q t (redoes_wider A C a (pages_of b0) (pages_of b1) (first.each told)) (may_wider A C a (pages_of b0) p q u) (may_wider B C b (pages_of b1) q t v))
          (first.moments told) (s.moments told);
    }

    -- the second of which didn't
    pub both_failed : (e : BankRefusal) → RedoesBank B b1 b2 (Err e) → RedoesBank C b0 b2 (Err e)
    both_failed e s = record {
      cutoff = s.cutoff ∙ first.cutoff;
      fault = λ q. let f = s.fault q in (f.0, risen_since (faults_of b0) (faults_of b1) (faults_of b2) first.count f.1);
      count = omega (arith, first.count, s.count);
      each = both_each (Err e) s;
      done = λ told. tt;
      moments = λ told. runs_then g.images g.moment g.left_at (MayRedo A (pages_of b0)) (MayRedo B (pages_of b1)) (MayRedo C (pages_of b0)) (volume_of b0) (volume_of b1) (volume_of b2)
          (may_wider A C a (pages_of b0))
          (λ p q t u v. may_then C (pages_of b0) (pages_of b1) p q t (redoes_wider A C a (pages_of b0) (pages_of b1) (first.each told)) (may_wider A C a (pages_of b0) p q u) (may_wider B C b (pages_of b1) q t v))
          (first.moments told) (s.moments told);
    }

  -- what failed may be said of more ids
  pub failed_wider : (A C : ℕ → Type 0) (b0 b1 : SlruBank P O g r) (e : BankRefusal) → ((y : ℕ) → A y → C y) → RedoesBank A b0 b1 (Err e) → RedoesBank C b0 b1 (Err e)
  failed_wider A C b0 b1 e a s = record {
    cutoff = s.cutoff;
    fault = s.fault;
    count = s.count;
    each = λ told. redoes_wider A C a (pages_of b0) (pages_of b1) (s.each told);
    done = λ told. tt;
    moments = λ told. wider g.images g.moment g.left_at (MayRedo A (pages_of b0)) (MayRedo C (pages_of b0)) (volume_of b0) (volume_of b1) (may_wider A C a (pages_of b0)) (s.moments told);
  }

  -- and what is done, of the same ids
  pub same_named : (A C : ℕ → Type 0) (b0 b1 : SlruBank P O g r) (result : Result (Unit {0}) BankRefusal) → ((y : ℕ) → A y → C y) → ((y : ℕ) → C y → A y) → RedoesBank A b0 b1 result → RedoesBank C b0 b1 result
  same_named A C b0 b1 result a back s = record {
    cutoff = s.cutoff;
    fault = s.fault;
    count = s.count;
    each = λ told. redoes_wider A C a (pages_of b0) (pages_of b1) (s.each told);
    done = λ told. of result (s.done told);
    moments = λ told. wider g.images g.moment g.left_at (MayRedo A (pages_of b0)) (MayRedo C (pages_of b0)) (volume_of b0) (volume_of b1) (may_wider A C a (pages_of b0)) (s.moments told);
  }
    where
      of : (result : Result (Unit {0}) BankRefusal) → OnOk result ((y : ℕ) → A y → code_in (pages_of b1) y ≡ 1) → OnOk result ((y : ℕ) → C y → code_in (pages_of b1) y ≡ 1)
      of (Ok u) done = λ y named. done y (back y named)
      of (Err e) done = tt

-- ---- which ids

module _ (share : Share) (oldest : ℕ) where
  pub named_in : (xs ys : List ℕ) → ((y : ℕ) → Has xs y → Has ys y) → (y : ℕ) → IsNamed share oldest xs y → IsNamed share oldest ys y
  named_in xs ys more y h = record { among = has_contains ys y (more y (contains_has xs y h.among)); from = h.from; on = h.on }

  pub named_cases : (xs ys : List ℕ) (y : ℕ) → IsNamed share oldest (xs ++ ys) y → IsNamed share oldest xs y ⊎ IsNamed share oldest ys y
  named_cases xs ys y h = ⊎_elim
      (λ k. inl (record { among = has_contains xs y k; from = h.from; on = h.on }))
      (λ k. inr (record { among = has_contains ys y k; from = h.from; on = h.on }))
      (has_cases xs ys y (contains_has (xs ++ ys) y h.among))

  pub named_none : (y : ℕ) → IsNamed share oldest [] y → ⊥
  named_none y h = contains_has [] y h.among

  pub named_one : (id y : ℕ) → IsNamed share oldest (id ∷ []) y → id ≡ y
  named_one id y h = ⊎_elim (λ (q : id ≡ y). q) (λ z. absurd z) (contains_has (id ∷ []) y h.among)

  pub one_named : (id : ℕ) → oldest ≤ id → xact_page_of id % share.banks ≡ share.bank → (y : ℕ) → IsOne id y → IsNamed share oldest (id ∷ []) y
  one_named id from on y q = subst (IsNamed share oldest (id ∷ [])) (sym q) (record { among = (0, omega arith, refl); from = from; on = on })

pub near_in : (oldest : ℕ) (xs ys : List ℕ) → ((y : ℕ) → Has xs y → Has ys y) → AreNear oldest ys → AreNear oldest xs
near_in oldest xs ys more near y among = near y (has_contains ys y (more y (contains_has xs y among)))

-- ---- beginnings of lists

module _ {X : Type 0} where
  pub take_at : (xs : List X) (i : ℕ) (x : X) → i < length xs → x ≡ get_or xs i x → take (i + 1) xs ≡ take i xs ++ x ∷ []
  take_at xs i x lt e = take_more xs i x lt ∙ ap (λ (z : X). take i xs ++ z ∷ []) (sym e)

  pub take_whole : (xs : List X) (n : ℕ) → n ≡ length xs → take n xs ≡ xs
  take_whole xs n e = ap (λ k. take k xs) e ∙ whole xs
    where
      whole : (xs : List X) → take (length xs) xs ≡ xs
      whole [] = refl
      whole (x ∷ xs) = ap (λ (t : List X). x ∷ t) (whole xs)

  pub has_item : (xs : List X) (i : ℕ) (x : X) → i < length xs → x ≡ get_or xs i x → (y : X) → Has (x ∷ []) y → Has xs y
  has_item xs i x lt e y h = ⊎_elim (λ (q : x ≡ y). subst (Has xs) q (contains_has xs x (i, lt, sym e))) (λ z. absurd z) h

pub committed_push : (recs : List Rec) (r : Rec) → committed_in (recs ++ r ∷ []) ≡ committed_in recs ++ committed_by r
committed_push recs r = flat_map-append committed_by recs (r ∷ []) ∙ ap (λ (t : List ℕ). committed_in recs ++ t) (append-nil (committed_by r))

pub committed_taken : (i : ℕ) (recs : List Rec) (y : ℕ) → Has (committed_in (take i recs)) y → Has (committed_in recs) y
committed_taken zero recs y k = absurd k
committed_taken (suc i) [] y k = absurd k
committed_taken (suc i) (r ∷ recs) y k = ⊎_elim (λ a. has_left (committed_by r) (committed_in recs) y a) (λ b. has_right (committed_by r) (committed_in recs) y (committed_taken i recs y b)) (has_cases (committed_by r) (committed_in (take i recs)) y k)

pub committed_item : (recs : List Rec) (i : ℕ) (r : Rec) → i < length recs → r ≡ get_or recs i r → (y : ℕ) → Has (committed_by r) y → Has (committed_in recs) y
committed_item recs i r lt e y h = flat_map_has committed_by recs r y (contains_has recs r (i, lt, sym e)) h
