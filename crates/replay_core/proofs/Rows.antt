-- A row of volumes, of which one after another is changed in its place.
use Rattle.std.proofs.Common.{List, None, Ok, Option, Result, Some, [], ap, arith, inl, inr, length, refl, slice_index_or, subst, suc, sym, zero, ℕ, ⊎_elim, ◌++◌, ◌+◌, ◌-◌, ◌<◌, ◌∙◌, ◌∷◌, ◌≡◌, ◌≢◌, ◌≤◌, ◌⊎◌}
use Rattle.std.specs.List.{SwappedAt, slice_get}
use Rattle.replay_core.specs.Banks.{ChangesAt}
use Rattle.replay_core.specs.declared.refusal.RecoverRefusal.{RecoverRefusal}

now_or_before : (m n : ℕ) → m < n + 1 → (m ≡ n) ⊎ (m < n)
now_or_before m n h = grind arith

lower_here_higher : (m n : ℕ) → (m < n) ⊎ ((m ≡ n) ⊎ (n < m))
lower_here_higher m n = grind arith

module _ {P : Type 0} where
  pub some_same : (x y : P) → Some x ≡ Some y → x ≡ y
  some_same x y e = ap (λ (z : Option P). elim z [ None ↦ x | Some v ↦ v ]) e

  get_here : (xs : List P) (n : ℕ) (x : P) → n < length xs → x ≡ slice_index_or xs n x → slice_get xs n ≡ Some x
  get_here [] n x l e = absurd (omega arith)
  get_here (y ∷ ys) zero x l e = ap (λ (z : P). Some z) (sym e)
  get_here (y ∷ ys) (suc n) x l e = get_here ys n x (omega arith) e

  get_is : (xs : List P) (n : ℕ) (d : P) → n < length xs → slice_get xs n ≡ Some (slice_index_or xs n d)
  get_is [] n d l = absurd (omega arith)
  get_is (y ∷ ys) zero d l = refl
  get_is (y ∷ ys) (suc n) d l = get_is ys n d (omega arith)

  get_none : (xs : List P) (n : ℕ) → length xs ≤ n → slice_get xs n ≡ None
  get_none [] zero l = refl
  get_none [] (suc n) l = refl
  get_none (y ∷ ys) zero l = absurd (omega arith)
  get_none (y ∷ ys) (suc n) l = get_none ys n (omega arith)

  push_last : (xs : List P) (x d : P) → slice_index_or (xs ++ x ∷ []) (length xs) d ≡ x
  push_last [] x d = refl
  push_last (y ∷ ys) x d = push_last ys x d

  push_before : (xs : List P) (x d : P) (n : ℕ) → n < length xs → slice_index_or (xs ++ x ∷ []) n d ≡ slice_index_or xs n d
  push_before [] x d n l = absurd (omega arith)
  push_before (y ∷ ys) x d zero l = refl
  push_before (y ∷ ys) x d (suc n) l = push_before ys x d n (omega arith)

  -- One was taken out, and the last one put in its place; then another was put there, and that one last again.
  pub changed_at : (R : P → P → Type 0) (old mid new : List P) (long at : ℕ) (before now : P) → long ≡ length old → at < length old → before ≡ slice_index_or old at before → length mid + 1 ≡ length old
      → ((d : P) → at + 1 < long → slice_index_or mid at d ≡ slice_index_or old (long - 1) d) × ((k : ℕ) (d : P) → k ≢ at → k + 1 < long → slice_index_or mid k d ≡ slice_index_or old k d)
      → length new ≡ length mid + 1 → SwappedAt (mid ++ now ∷ []) new at (length mid)
      → R before now → ChangesAt R at old new
  changed_at R old mid new long at before now size inside was less moved more swapped r =
      let last : ℕ = length mid in
      record {
        count = more ∙ less;
        before = before;
        now = now;
        was = get_here old at before inside was;
        is = get_is new at now (omega (arith, inside, less, more)) ∙ ap (λ (x : P). Some x) (swapped.0 now ∙ push_last mid now now);
        changed = r;
        others = λ n differs. ⊎_elim
            (λ (below : n < last). same n (omega (arith, below, less, more)) (omega (arith, below, less))
            (swapped.2 n now differs (λ e. absurd (omega (arith, below, e))) ∙ (push_before mid now now n below ∙ moved.1 n now differs (omega (arith, below, less, size)))))
            (λ rest. ⊎_elim
            (λ (here : n ≡ last).
            let far : at < last = (let le : at ≤ last = omega (arith, inside, less) in let other : at ≢ last = λ e. differs (here ∙ sym e) in above at last le other) in
            let end : long - 1 ≡ n = omega (arith, here, less, size) in
            same n (omega (arith, here, more)) (omega (arith, here, less))
            (ap (λ k. slice_index_or new k now) here ∙ (swapped.1 now ∙ (push_before mid now now at far ∙ (moved.0 now (omega (arith, far, less, size)) ∙ ap (λ k. slice_index_or old k now) end)))))
            (λ (past : last < n). get_none new n (omega (arith, past, more)) ∙ sym (get_none old n (omega (arith, past, less))))
            rest)
            (lower_here_higher n last);
      }
    where
      same : (n : ℕ) → n < length new → n < length old → slice_index_or new n now ≡ slice_index_or old n now → slice_get new n ≡ slice_get old n
      same n a b e = get_is new n now a ∙ (ap (λ (x : P). Some x) e ∙ sym (get_is old n now b))

      above : (m n : ℕ) → m ≤ n → m ≢ n → m < n
      above m n le other = ⊎_elim (λ l. l) (λ h. ⊎_elim (λ e. absurd (other e)) (λ over. absurd (omega (arith, le, over))) h) (lower_here_higher m n)

  -- rows of one length have volumes at the same places
  pub had : (xs ys : List P) → length ys ≡ length xs → (m : ℕ) (y : P) → slice_get ys m ≡ Some y → (x : P) × (slice_get xs m ≡ Some x)
  had xs [] long m y e = absurd cc
  had [] (z ∷ ys) long m y e = absurd (omega arith)
  had (x ∷ xs) (z ∷ ys) long zero y e = (x, refl)
  had (x ∷ xs) (z ∷ ys) long (suc m) y e = had xs ys (omega arith) m y e

  module _ (R : ℕ → Result (Unit {0}) RecoverRefusal → P → P → Type 0) (old : List P) where
    -- the first n are changed, and the others stay
    pub record Progress (n : ℕ) (mid : List P) : Type 0 where
      pub count : length mid ≡ length old
      pub done : (m : ℕ) (before now : P) → m < n → slice_get old m ≡ Some before → slice_get mid m ≡ Some now → R m (Ok (tt {0})) before now
      pub rest : (m : ℕ) → n ≤ m → slice_get mid m ≡ slice_get old m

    pub progress_none : Progress 0 old
    progress_none = record { count = refl; done = λ m before now l. absurd (omega arith); rest = λ m l. refl }

    module _ (n : ℕ) (mid new : List P) (p : Progress n mid) (result : Result (Unit {0}) RecoverRefusal) (step : ChangesAt (R n result) n mid new) where
      -- the one that is changed is as it was at first
      here : (before now : P) → slice_get old n ≡ Some before → slice_get new n ≡ Some now → R n result before now
      here before now was is =
          let a : step.before ≡ before = some_same step.before before (sym step.was ∙ p.rest n (omega arith) ∙ was) in
          let b : step.now ≡ now = some_same step.now now (sym step.is ∙ is) in
          subst (λ z. R n result z now) a (subst (λ z. R n result step.before z) b step.changed)

      pub first_was : slice_get old n ≡ Some step.before
      first_was = sym (p.rest n (omega arith)) ∙ step.was

      -- of each volume: it is done, or it is the one at hand, or it wasn't touched
      pub each_so_far : (m : ℕ) (before now : P) → slice_get old m ≡ Some before → slice_get new m ≡ Some now → R m (Ok (tt {0})) before now ⊎ (((m ≡ n) × R n result before now) ⊎ (now ≡ before))
      each_so_far m before now was is = ⊎_elim
          (λ (l : m < n). inl (p.done m before now l was (sym (step.others m (omega arith)) ∙ is)))
          (λ h. inr (⊎_elim
          (λ (e : m ≡ n). inl (e, here before now (ap (slice_get old) (sym e) ∙ was) (ap (slice_get new) (sym e) ∙ is)))
          (λ (l : n < m). inr (some_same now before (sym is ∙ step.others m (omega arith) ∙ p.rest m (omega arith) ∙ was)))
          h))
          (lower_here_higher m n)

      pub count_more : length new ≡ length old
      count_more = step.count ∙ p.count

    pub progress_more : (n : ℕ) (mid new : List P) → Progress n mid → ChangesAt (R n (Ok (tt {0}))) n mid new → Progress (n + 1) new
    progress_more n mid new p step = record {
      count = step.count ∙ p.count;
      done = λ m before now l was is. ⊎_elim
          (λ (e : m ≡ n). subst (λ z. R z (Ok (tt {0})) before now) (sym e) (here n mid new p (Ok (tt {0})) step before now (ap (slice_get old) (sym e) ∙ was) (ap (slice_get new) (sym e) ∙ is)))
          (λ (l : m < n). p.done m before now l was (sym (step.others m (omega arith)) ∙ is))
          (now_or_before m n l);
      rest = λ m l. step.others m (omega arith) ∙ p.rest m (omega arith);
    }

    get_inside : (xs : List P) (n : ℕ) (x : P) → slice_get xs n ≡ Some x → n < length xs
    get_inside [] n x e = absurd cc
    get_inside (y ∷ ys) zero x e = omega arith
    get_inside (y ∷ ys) (suc n) x e = let a = get_inside ys n x e in omega arith

    pub each_done : (n : ℕ) (new : List P) → Progress n new → n ≡ length old → (m : ℕ) (before now : P) → slice_get old m ≡ Some before → slice_get new m ≡ Some now → R m (Ok (tt {0})) before now
    each_done n new p all m before now was is = let l = get_inside old m before was in p.done m before now (omega arith) was is
