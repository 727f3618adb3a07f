-- What a crash leaves of a bank's pages: mixtures of what its map held.
use Rattle.std.specs.Prelude.{◌≡◌, ◌⊎◌, ℕ, Bool, true, List, slice_index, refl}
use Rattle.std.proofs.Common.{inl, inr, ⊎_elim, ap, ◌∙◌}
use Rattle.disk_core.specs.Images.{Follows, Elapses, LeavesOnly}
use Rattle.disk_core.specs.Moments.{started, goes_on, run_then, leaves_weaker}
use Rattle.disk_core.specs.Pages.{Pages, page_bytes}

-- two maps of pages are the same
abbrev pub SameMap : (ℕ → List ℕ) → (ℕ → List ℕ) → Type 0
SameMap old new = (q : ℕ) → new q ≡ old q

-- a byte of a page of an image; an absent page has zeros
abbrev pub byte_at : Pages → ℕ → ℕ → ℕ
byte_at c q i = slice_index (page_bytes (c q)) i

-- each byte of an image is as in one of before, or as the map had it before or after
pub record IsMixture (old new : ℕ → List ℕ) (c d : Pages) : Type 0 where
  pub each : (q i : ℕ) → (byte_at d q i ≡ byte_at c q i) ⊎ ((byte_at d q i ≡ slice_index (old q) i) ⊎ (byte_at d q i ≡ slice_index (new q) i))

-- the same, or 0 on a page whose removal was asked for
pub record IsMixtureOrGone (gone : ℕ → Bool) (old new : ℕ → List ℕ) (c d : Pages) : Type 0 where
  pub each : (q i : ℕ) → (byte_at d q i ≡ byte_at c q i)
      ⊎ ((byte_at d q i ≡ slice_index (old q) i) ⊎ ((byte_at d q i ≡ slice_index (new q) i) ⊎ ((gone q ≡ true) × (byte_at d q i ≡ 0))))

-- each byte of an image is as in one of before, or as one of these maps had it
pub record IsMixtureOf (held : (ℕ → List ℕ) → Type 0) (c d : Pages) : Type 0 where
  pub each : (q i : ℕ) → (byte_at d q i ≡ byte_at c q i) ⊎ ((m : ℕ → List ℕ) × held m × (byte_at d q i ≡ slice_index (m q) i))

-- an image is what a step makes of an image of before
abbrev pub IsStepOf : (Pages → Pages → Type 0) → (Pages → Type 0) → Pages → Type 0
IsStepOf step images c = (d : Pages) × images d × step d c

-- a crash at the end of a call, or at a moment of it, leaves what a step makes of an image of before
pub record CrashLeaves {D : Type 0} (step : Pages → Pages → Type 0) (images : D → Pages → Type 0) (moment : D → ℕ) (left_at : D → ℕ → Pages → Type 0) (before after : D) : Type 0 where
  pub now : (c : Pages) → images after c → IsStepOf step (images before) c
  pub each : LeavesOnly moment left_at before after (IsStepOf step (images before))

pub mixture_same : (old new : ℕ → List ℕ) (c : Pages) → IsMixture old new c c
mixture_same old new c = record { each = λ q i. inl refl }

-- a mixture of a mixture, over a map that didn't change first
pub mixture_then : (m m1 new : ℕ → List ℕ) (c d e : Pages) → SameMap m m1 → IsMixture m m c d → IsMixture m1 new d e → IsMixture m new c e
mixture_then m m1 new c d e same first second = record {
  each = λ q i. ⊎_elim
      (λ (h : byte_at e q i ≡ byte_at d q i). ⊎_elim (λ (k : byte_at d q i ≡ byte_at c q i). inl (h ∙ k)) (⊎_elim (λ (k : byte_at d q i ≡ slice_index (m q) i). inr (inl (h ∙ k))) (λ (k : byte_at d q i ≡ slice_index (m q) i). inr (inl (h ∙ k)))) (first.each q i))
      (⊎_elim (λ (h : byte_at e q i ≡ slice_index (m1 q) i). inr (inl (h ∙ ap (λ (l : List ℕ). slice_index l i) (same q)))) (λ (h : byte_at e q i ≡ slice_index (new q) i). inr (inr h)))
      (second.each q i);
}

-- where the map stays, it may be said of any later map
pub mixture_wide : (m new : ℕ → List ℕ) (c d : Pages) → IsMixture m m c d → IsMixture m new c d
mixture_wide m new c d first = mixture_then m m new c d d (λ q. refl) first (mixture_same m new d)

pub mixture_of-same : (held : (ℕ → List ℕ) → Type 0) (c : Pages) → IsMixtureOf held c c
mixture_of-same held c = record { each = λ q i. inl refl }

-- a mixture more, over two of the maps
pub mixture_of-then : (held : (ℕ → List ℕ) → Type 0) (m1 m2 : ℕ → List ℕ) (c d e : Pages) → held m1 → held m2 → IsMixtureOf held c d → IsMixture m1 m2 d e → IsMixtureOf held c e
mixture_of-then held m1 m2 c d e first second so_far step = record {
  each = λ q i. ⊎_elim
      (λ (h : byte_at e q i ≡ byte_at d q i). ⊎_elim
      (λ (k : byte_at d q i ≡ byte_at c q i). inl (h ∙ k))
      (λ (k : (m : ℕ → List ℕ) × held m × (byte_at d q i ≡ slice_index (m q) i)). inr (k.0, k.1, h ∙ k.2))
      (so_far.each q i))
      (λ (h : (byte_at e q i ≡ slice_index (m1 q) i) ⊎ (byte_at e q i ≡ slice_index (m2 q) i)). ⊎_elim
      (λ (k : byte_at e q i ≡ slice_index (m1 q) i). inr (m1, first, k))
      (λ (k : byte_at e q i ≡ slice_index (m2 q) i). inr (m2, second, k))
      h)
      (step.each q i);
}

-- each byte of a map is as in one map or as in another
abbrev pub IsBetween : (ℕ → List ℕ) → (ℕ → List ℕ) → (ℕ → List ℕ) → Type 0
IsBetween m new m1 = (q i : ℕ) → (slice_index (m1 q) i ≡ slice_index (m q) i) ⊎ (slice_index (m1 q) i ≡ slice_index (new q) i)

pub between_same : (m new m1 : ℕ → List ℕ) → SameMap m m1 → IsBetween m new m1
between_same m new m1 same q i = inl (ap (λ (l : List ℕ). slice_index l i) (same q))

-- two mixtures, over a map between the first and the last
pub mixture_through : (m m1 new : ℕ → List ℕ) (c d e : Pages) → IsBetween m new m1 → IsMixture m m1 c d → IsMixture m1 new d e → IsMixture m new c e
mixture_through m m1 new c d e between first second = record {
  each = λ q i.
      let of : byte_at e q i ≡ slice_index (m1 q) i → (byte_at e q i ≡ byte_at c q i) ⊎ ((byte_at e q i ≡ slice_index (m q) i) ⊎ (byte_at e q i ≡ slice_index (new q) i)) = λ h.
      ⊎_elim (λ (k : slice_index (m1 q) i ≡ slice_index (m q) i). inr (inl (h ∙ k))) (λ (k : slice_index (m1 q) i ≡ slice_index (new q) i). inr (inr (h ∙ k))) (between q i) in
      ⊎_elim
      (λ (h : byte_at e q i ≡ byte_at d q i). ⊎_elim
      (λ (k : byte_at d q i ≡ byte_at c q i). inl (h ∙ k))
      (λ (k : (byte_at d q i ≡ slice_index (m q) i) ⊎ (byte_at d q i ≡ slice_index (m1 q) i)). ⊎_elim (λ (n : byte_at d q i ≡ slice_index (m q) i). inr (inl (h ∙ n))) (λ (n : byte_at d q i ≡ slice_index (m1 q) i). of (h ∙ n)) k)
      (first.each q i))
      (λ (h : (byte_at e q i ≡ slice_index (m1 q) i) ⊎ (byte_at e q i ≡ slice_index (new q) i)). ⊎_elim of (λ (k : byte_at e q i ≡ slice_index (new q) i). inr (inr k)) h)
      (second.each q i);
}

-- the same after a removal
pub gone_through : (gone : ℕ → Bool) (m m1 new : ℕ → List ℕ) (c d e : Pages) → IsBetween m new m1 → IsMixtureOrGone gone m m1 c d → IsMixture m1 new d e → IsMixtureOrGone gone m new c e
gone_through gone m m1 new c d e between first second = record {
  each = λ q i.
      let of : byte_at e q i ≡ slice_index (m1 q) i → (byte_at e q i ≡ byte_at c q i) ⊎ ((byte_at e q i ≡ slice_index (m q) i) ⊎ ((byte_at e q i ≡ slice_index (new q) i) ⊎ ((gone q ≡ true) × (byte_at e q i ≡ 0)))) = λ h.
      ⊎_elim (λ (k : slice_index (m1 q) i ≡ slice_index (m q) i). inr (inl (h ∙ k))) (λ (k : slice_index (m1 q) i ≡ slice_index (new q) i). inr (inr (inl (h ∙ k)))) (between q i) in
      ⊎_elim
      (λ (h : byte_at e q i ≡ byte_at d q i). ⊎_elim
      (λ (k : byte_at d q i ≡ byte_at c q i). inl (h ∙ k))
      (λ (k : (byte_at d q i ≡ slice_index (m q) i) ⊎ ((byte_at d q i ≡ slice_index (m1 q) i) ⊎ ((gone q ≡ true) × (byte_at d q i ≡ 0)))). ⊎_elim
      (λ (n : byte_at d q i ≡ slice_index (m q) i). inr (inl (h ∙ n)))
      (λ (n : (byte_at d q i ≡ slice_index (m1 q) i) ⊎ ((gone q ≡ true) × (byte_at d q i ≡ 0))). ⊎_elim
      (λ (r : byte_at d q i ≡ slice_index (m1 q) i). of (h ∙ r))
      (λ (r : (gone q ≡ true) × (byte_at d q i ≡ 0)). inr (inr (inr (r.0, h ∙ r.1)))) n) k)
      (first.each q i))
      (λ (h : (byte_at e q i ≡ slice_index (m1 q) i) ⊎ (byte_at e q i ≡ slice_index (new q) i)). ⊎_elim of (λ (k : byte_at e q i ≡ slice_index (new q) i). inr (inr (inl k))) h)
      (second.each q i);
}

module _ {D : Type 0} (images : D → Pages → Type 0) (moment : D → ℕ) (left_at : D → ℕ → Pages → Type 0) where
  -- no call
  pub no_call : (step : Pages → Pages → Type 0) (d : D) → ((c : Pages) → step c c) → ((c : Pages) → left_at d (moment d) c → images d c) → CrashLeaves step images moment left_at d d
  no_call step d same only_now = record {
    now = λ c left. (c, left, same c);
    each = started moment left_at d (IsStepOf step (images d)) (λ c left. (c, only_now c left, same c));
  }

  -- one call of the disk
  pub one_call : (step : Pages → Pages → Type 0) (d0 d1 : D) → ((c : Pages) → step c c) → Elapses (moment d0) (moment d1) (left_at d0) (left_at d1) (images d1)
      → ((c : Pages) → left_at d0 (moment d0) c → images d0 c) → Follows step (images d0) (images d1) → CrashLeaves step images moment left_at d0 d1
  one_call step d0 d1 same time only_now follows = record {
    now = follows;
    each = goes_on moment left_at d0 d0 d1 (IsStepOf step (images d0)) (images d1) (no_call step d0 same only_now).each time follows;
  }

  -- a run of calls after which another step fits too
  pub wider : (narrow wide : Pages → Pages → Type 0) (d0 d1 : D) → ((c d : Pages) → narrow c d → wide c d) → CrashLeaves narrow images moment left_at d0 d1 → CrashLeaves wide images moment left_at d0 d1
  wider narrow wide d0 d1 fits run =
      let widen : (c : Pages) → IsStepOf narrow (images d0) c → IsStepOf wide (images d0) c = λ c is. (is.0, is.1, fits is.0 c is.2) in
      record {
        now = λ c left. widen c (run.now c left);
        each = leaves_weaker moment left_at d0 d1 (IsStepOf narrow (images d0)) (IsStepOf wide (images d0)) run.each widen;
      }

  -- one run after another
  pub runs_then : (s t all : Pages → Pages → Type 0) (d0 d1 d2 : D) → ((c d : Pages) → s c d → all c d) → ((c d e : Pages) → s c d → t d e → all c e)
      → CrashLeaves s images moment left_at d0 d1 → CrashLeaves t images moment left_at d1 d2 → CrashLeaves all images moment left_at d0 d2
  runs_then s t all d0 d1 d2 fits both first second =
      let joined : (c : Pages) → IsStepOf t (images d1) c → IsStepOf all (images d0) c = λ c is.
      let from = first.now is.0 is.1 in (from.0, from.1, both from.0 is.0 c from.2 is.2) in
      record {
        now = λ c left. joined c (second.now c left);
        each = run_then moment left_at d0 d1 d2 (IsStepOf all (images d0)) (IsStepOf t (images d1)) (wider s all d0 d1 fits first).each second.each joined;
      }

  -- two runs, the first of which didn't change the map
  pub mixtures_then : (d0 d1 d2 : D) (m m1 new : ℕ → List ℕ) → SameMap m m1 → CrashLeaves (IsMixture m m) images moment left_at d0 d1 → CrashLeaves (IsMixture m1 new) images moment left_at d1 d2
      → CrashLeaves (IsMixture m new) images moment left_at d0 d2
  mixtures_then d0 d1 d2 m m1 new same first second =
      runs_then (IsMixture m m) (IsMixture m1 new) (IsMixture m new) d0 d1 d2 (mixture_wide m new) (λ c d e s t. mixture_then m m1 new c d e same s t) first second

  -- one call after which a crash leaves a mixture
  pub mixture_call : (d0 d1 : D) (m new : ℕ → List ℕ) → Elapses (moment d0) (moment d1) (left_at d0) (left_at d1) (images d1)
      → ((c : Pages) → left_at d0 (moment d0) c → images d0 c) → Follows (IsMixture m new) (images d0) (images d1) → CrashLeaves (IsMixture m new) images moment left_at d0 d1
  mixture_call d0 d1 m new time only_now follows = one_call (IsMixture m new) d0 d1 (mixture_same m new) time only_now follows

  -- no call, and a change of the map
  pub mixture_kept : (d : D) (m new : ℕ → List ℕ) → ((c : Pages) → left_at d (moment d) c → images d c) → CrashLeaves (IsMixture m new) images moment left_at d d
  mixture_kept d m new only_now = no_call (IsMixture m new) d (mixture_same m new) only_now

  -- two runs, over a map between the first and the last
  pub mixtures_through : (d0 d1 d2 : D) (m m1 new : ℕ → List ℕ) → IsBetween m new m1 → CrashLeaves (IsMixture m m1) images moment left_at d0 d1 → CrashLeaves (IsMixture m1 new) images moment left_at d1 d2
      → CrashLeaves (IsMixture m new) images moment left_at d0 d2
  mixtures_through d0 d1 d2 m m1 new between first second =
      runs_then (IsMixture m m1) (IsMixture m1 new) (IsMixture m new) d0 d1 d2 (λ c d s. mixture_through m m1 new c d d between s (mixture_same m1 new d)) (λ c d e s t. mixture_through m m1 new c d e between s t) first second

  -- the same, the first a removal
  pub gone_mixtures_through : (gone : ℕ → Bool) (d0 d1 d2 : D) (m m1 new : ℕ → List ℕ) → IsBetween m new m1 → CrashLeaves (IsMixtureOrGone gone m m1) images moment left_at d0 d1 → CrashLeaves (IsMixture m1 new) images moment left_at d1 d2
      → CrashLeaves (IsMixtureOrGone gone m new) images moment left_at d0 d2
  gone_mixtures_through gone d0 d1 d2 m m1 new between first second =
      runs_then (IsMixtureOrGone gone m m1) (IsMixture m1 new) (IsMixtureOrGone gone m new) d0 d1 d2 (λ c d s. gone_through gone m m1 new c d d between s (mixture_same m1 new d)) (λ c d e s t. gone_through gone m m1 new c d e between s t) first second
