-- Names that a host and its members have.
use Rattle.std.proofs.Common.{◌≡◌, ◌||◌, ℕ, ◌<◌, List, [], ◌∷◌, ◌++◌, true, false, sym, ap, subst, ◌∙◌, arith, inl, inr, ⊎_elim, length, get_or, replicate, get_or-set_same, get_or-set_other, suc, take, drop, append-nil}
use Rattle.std.proofs.lemmas.List.{length-replicate, get_or-replicate, take_all, drop_all}
use Rattle.hall.specs.declared.view.View.{View}
use Rattle.hall.specs.Rule.{Holds}
use Rattle.hall.specs.Told.{asking, giving, given, either_of}
use Rattle.notes.proofs.Names.{true_inside}
use Rattle.hall.proofs.Merging.{either_at, or_true}
use Rattle.parts_bench.specs.Crew.{HeldIn, AllNames, SameNames}
use mathlib.Core.Logic.{dite}
use native.Mathlib.Decide.{ℕ_discrete}

module _ {S E X : Type 0} (f : X → View S E) where
  pub held_front : (xs : List X) (x : X) (m : ℕ) → HeldIn f xs m → HeldIn f (xs ++ x ∷ []) m
  held_front [] x m h = absurd h
  held_front (y ∷ xs) x m h = ⊎_elim (λ a. inl a) (λ a. inr (held_front xs x m a)) h

  pub held_last : (xs : List X) (x : X) (m : ℕ) → Holds (f x) m → HeldIn f (xs ++ x ∷ []) m
  held_last [] x m h = inl h
  held_last (y ∷ xs) x m h = inr (held_last xs x m h)

  -- a pass was given
  pub names_given : (passes n : ℕ) (host host' : View S E) (xs : List X) (x : X) → host' ≡ giving (asking n host) → f x ≡ given (asking n host) → AllNames f passes host xs → AllNames f passes host' (xs ++ x ∷ [])
  names_given passes n host host' xs x e g a = λ m lt.
      ⊎_elim
      (λ (h : Holds host m).
      dite (ℕ_discrete m n)
      (λ (q : m ≡ n).
      let inside : n < length host.holds = subst (λ k. k < length host.holds) q (true_inside host.holds m h) in
      let new : Holds (f x) n = ap (λ (v : View S E). get_or v.holds n false) g ∙ get_or-set_same (replicate (length host.holds) false) n true false (subst (λ k. n < k) (sym (length-replicate (length host.holds) false)) inside) in
      inr (held_last xs x m (subst (λ k. Holds (f x) k) (sym q) new)))
      (λ q. inl (ap (λ (v : View S E). get_or v.holds m false) e ∙ get_or-set_other host.holds n m false false q ∙ h)))
      (λ h. inr (held_front xs x m h))
      (a m lt)

  held_same : (xs ys : List X) (m : ℕ) → length ys ≡ length xs → SameNames f xs ys → HeldIn f xs m → HeldIn f ys m
  held_same [] ys m l e h = absurd h
  held_same (x ∷ xs) [] m l e h = absurd (omega (arith, l))
  held_same (x ∷ xs) (y ∷ ys) m l e h =
      let first : (f y).holds ≡ (f x).holds = e 0 x (omega arith) in
      ⊎_elim (λ (k : Holds (f x) m). inl (ap (λ bs. get_or bs m false) first ∙ k)) (λ k. inr (held_same xs ys m (omega (arith, l)) (λ i d b. e (suc i) d (omega arith)) k)) h

  -- the members went on
  pub names_same : (passes : ℕ) (host : View S E) (xs ys : List X) → length ys ≡ length xs → SameNames f xs ys → AllNames f passes host xs → AllNames f passes host ys
  names_same passes host xs ys l e a = λ m lt. ⊎_elim (λ h. inl h) (λ h. inr (held_same xs ys m l e h)) (a m lt)

  -- a member was taken in
  pub names_joined : (passes : ℕ) (host host' : View S E) (x : X) (xs : List X) → host'.holds ≡ either_of host.holds (f x).holds → AllNames f passes host (x ∷ xs) → AllNames f passes host' xs
  names_joined passes host host' x xs e a = λ m lt.
      let both : get_or host'.holds m false ≡ (get_or host.holds m false || get_or (f x).holds m false) = ap (λ bs. get_or bs m false) e ∙ either_at host.holds (f x).holds m in
      ⊎_elim
      (λ (h : Holds host m). inl (both ∙ ap (λ b. b || get_or (f x).holds m false) h))
      (λ h. ⊎_elim (λ (k : Holds (f x) m). inl (both ∙ ap (λ b. get_or host.holds m false || b) k ∙ or_true (get_or host.holds m false))) (λ k. inr k) h)
      (a m lt)

  pub names_removed : (passes : ℕ) (host host' : View S E) (x : X) (xs rest : List X) → 0 < length xs → x ≡ get_or xs 0 x → rest ≡ drop 1 xs → host'.holds ≡ either_of host.holds (f x).holds → AllNames f passes host xs → AllNames f passes host' rest
  names_removed passes host host' x [] rest l e r h a = absurd (omega (arith, l))
  names_removed passes host host' x (y ∷ xs) rest l e r h a =
      subst (AllNames f passes host') (sym r) (names_joined passes host host' x xs h (subst (λ z. AllNames f passes host (z ∷ xs)) (sym e) a))

-- what a slice of a whole vector wrote back
pub written_back : {X : Type 0} (n : ℕ) (xs ys : List X) → length ys ≡ length xs → n ≡ length xs → take n (ys ++ drop (length ys) xs) ≡ ys
written_back n xs ys e l =
    ap (λ t. take n (ys ++ t)) (drop_all (length ys) xs (omega (arith, e)))
    ∙ ap (take n) (append-nil ys)
    ∙ take_all n ys (omega (arith, e, l))

module _ {S E X : Type 0} (f : X → View S E) where
  pub names_first : (passes : ℕ) (host : View S E) (xs : List X) → host.holds ≡ replicate passes true → AllNames f passes host xs
  names_first passes host xs e = λ m lt. inl (ap (λ bs. get_or bs m false) e ∙ get_or-replicate passes m true false lt)
