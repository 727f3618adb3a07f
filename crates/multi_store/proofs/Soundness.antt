-- What every legal history of multixacts keeps.
use Rattle.std.proofs.Common.{◌≡◌, ℕ, ◌<◌, ◌≤◌, List, [], ◌∷◌, ◌++◌, length, Some, None, refl, sym, ap, ◌∙◌, subst, arith}
use Rattle.std.specs.List.{slice_get}
use Rattle.tx_events.specs.declared.multi.MultiEvent.{MultiEvent}
use Rattle.tx_events.specs.declared.record.Counters.{Counters}
use Rattle.tx_events.specs.Base.{IsBase}
use Rattle.tx_events.specs.Multis.{made, made_at, next_made, nth_multi, free_offset, oldest_multi, oldest_offset, multi_counters}
use Rattle.multi_store.specs.State.{made_offsets}
use Rattle.multi_store.proofs.MadeSteps.{IsQuiet, made_quiet, offsets_quiet, next_quiet, made_at_quiet}

pub record IsSound (base : Counters) (h : List MultiEvent) : Type 0 where
  pub counters : IsBase (multi_counters base h)
  pub next : base.multi ≤ next_made base.multi h
  pub free : base.offset ≤ free_offset base.offset h
  -- one begins in this life exactly where it is from the base's next one to below the next one
  pub older : (m : ℕ) → m < base.multi → made_at m h ≡ None
  pub newer : (m : ℕ) → next_made base.multi h ≤ m → made_at m h ≡ None
  pub each : (n : ℕ) → n < length (made h) → made_at (nth_multi base.multi n) h ≡ slice_get (made_offsets h) n
  pub as_many : length (made_offsets h) ≡ length (made h)
  -- offsets rise
  pub within : (m x : ℕ) → made_at m h ≡ Some x → (base.offset ≤ x) × (x ≤ free_offset base.offset h)
  pub rise : (m n x y : ℕ) → m ≤ n → made_at m h ≡ Some x → made_at n h ≡ Some y → x ≤ y
  pub kept : (m x : ℕ) → oldest_multi base.oldest_multi h ≤ m → made_at m h ≡ Some x → oldest_offset base.oldest_offset h ≤ x

-- the counters of a base with these of multixacts
abbrev pub with_counters : Counters → ℕ → ℕ → ℕ → ℕ → Counters
with_counters base multi offset oldest oldest_at = record base {
  multi = multi;
  offset = offset;
  oldest_multi = oldest;
  oldest_offset = oldest_at;
}

pub base_same : (base : Counters) (m m' f f' o o' p p' : ℕ) → m ≡ m' → f ≡ f' → o ≡ o' → p ≡ p' → IsBase (with_counters base m' f' o' p') → IsBase (with_counters base m f o p)
base_same base m m' f f' o o' p p' a b c d i = rw (a, b, c, d) i

pub sound_nothing : (base : Counters) → IsBase base → IsSound base []
sound_nothing base b = record {
  counters = b;
  next = omega arith;
  free = omega arith;
  older = λ m l. refl;
  newer = λ m l. refl;
  each = λ n l. absurd (omega arith);
  as_many = refl;
  within = λ m x e. absurd cc;
  rise = λ m n x y l e f. absurd cc;
  kept = λ m x l e. absurd cc;
}

-- an event that gives no multixact, with the oldest one and its offset after it
pub sound_quiet : (base : Counters) (h : List MultiEvent) (e : MultiEvent) → IsSound base h → IsQuiet e →
    free_offset base.offset (h ++ e ∷ []) ≡ free_offset base.offset h → IsBase (multi_counters base (h ++ e ∷ [])) →
    ((m x : ℕ) → oldest_multi base.oldest_multi (h ++ e ∷ []) ≤ m → made_at m h ≡ Some x → oldest_offset base.oldest_offset (h ++ e ∷ []) ≤ x) → IsSound base (h ++ e ∷ [])
sound_quiet base h e s q same counters kept =
    let next : next_made base.multi (h ++ e ∷ []) ≡ next_made base.multi h = next_quiet base.multi h e q in
    let at : (m : ℕ) → made_at m (h ++ e ∷ []) ≡ made_at m h = λ m. made_at_quiet m h e q in
    let long : length (made (h ++ e ∷ [])) ≡ length (made h) = ap length (made_quiet h e q) in
    record {
      counters = counters;
      next = subst (λ n. base.multi ≤ n) (sym next) s.next;
      free = subst (λ n. base.offset ≤ n) (sym same) s.free;
      older = λ m l. at m ∙ s.older m l;
      newer = λ m l. at m ∙ s.newer m (subst (λ n. n ≤ m) next l);
      each = λ n l. at (nth_multi base.multi n) ∙ s.each n (subst (λ k. n < k) long l) ∙ ap (λ os. slice_get os n) (sym (offsets_quiet h e q));
      as_many = ap length (offsets_quiet h e q) ∙ s.as_many ∙ sym long;
      within = λ m x f. subst (λ n. (base.offset ≤ x) × (x ≤ n)) (sym same) (s.within m x (sym (at m) ∙ f));
      rise = λ m n x y l f g. s.rise m n x y l (sym (at m) ∙ f) (sym (at n) ∙ g);
      kept = λ m x l f. kept m x l (sym (at m) ∙ f);
    }
