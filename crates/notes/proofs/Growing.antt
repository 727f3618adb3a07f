-- Lists that begin others, the entries of a session, and lists with one entry more.
use Rattle.std.proofs.Common.{◌≡◌, ℕ, ◌<◌, ◌≤◌, ◌≢◌, ◌==◌, false, ne_eqb, List, [], ◌∷◌, ◌++◌, length, get_or, refl, sym, ◌∙◌, ap, subst, append_assoc, append-nil, length-append, get_or-set_same, get_or-set_other, arith}
use Rattle.std.proofs.lemmas.List.Elements.{filter-append}
use mathlib.Core.Logic.{dite}
use native.Mathlib.Decide.{ℕ_discrete}
use Rattle.notes.specs.Lists.{at, add, Begins, Grows, own}

module _ {A : Type 0} where
  pub begins_same : (xs : List A) → Begins xs xs
  begins_same xs = ([], append-nil xs)

  pub begins_push : (xs : List A) (x : A) → Begins xs (xs ++ x ∷ [])
  begins_push xs x = (x ∷ [], refl)

  pub begins_then : (xs ys zs : List A) → Begins xs ys → Begins ys zs → Begins xs zs
  begins_then xs ys zs b d = (b.0 ++ d.0, sym (append_assoc xs b.0 d.0) ∙ (ap (λ (t : List A). t ++ d.0) b.1 ∙ d.1))

  pub begins_more : (xs ys zs : List A) → Begins xs ys → Begins xs (ys ++ zs)
  begins_more xs ys zs b = begins_then xs ys (ys ++ zs) b (zs, refl)

  pub begins_length : (xs ys : List A) → Begins xs ys → length xs ≤ length ys
  begins_length xs ys b = let e : length (xs ++ b.0) ≡ length ys = ap length b.1 in omega (arith, length-append xs b.0)

  nothing_more : (xs r : List A) → length (xs ++ r) ≤ length xs → xs ≡ xs ++ r
  nothing_more xs [] h = sym (append-nil xs)
  nothing_more xs (x ∷ r) h = absurd (omega (arith, length-append xs (x ∷ r)))

  pub begins_whole : (xs ys : List A) → Begins xs ys → length ys ≤ length xs → xs ≡ ys
  begins_whole xs ys b h = nothing_more xs b.0 (subst (λ (t : List A). length t ≤ length xs) (sym b.1) h) ∙ b.1

  pub begins_shorter : (xs ys zs : List A) → Begins xs zs → Begins ys zs → length xs ≤ length ys → Begins xs ys
  begins_shorter [] ys zs b d h = (ys, refl)
  begins_shorter (x ∷ xs) [] zs b d h = absurd (omega arith)
  begins_shorter (x ∷ xs) (y ∷ ys) [] b d h = absurd (let e : length (x ∷ (xs ++ b.0)) ≡ 0 = ap length b.1 in omega arith)
  begins_shorter (x ∷ xs) (y ∷ ys) (z ∷ zs) b d h =
      let head : List A → A = λ l. get_or l 0 z in let tail : List A → List A = λ l. elim l [ [] ↦ [] | ◌∷◌ _ t ↦ t ] in
      let t = begins_shorter xs ys zs (b.0, ap tail b.1) (d.0, ap tail d.1) (omega arith) in
      (t.0, λ i. (ap head b.1 ∙ sym (ap head d.1)) i ∷ t.1 i)

  -- where all of a session's entries stand in a beginning, they do in a longer one
  pub own_between : (session : A → ℕ) (n : ℕ) (xs ys zs : List A) → Begins xs ys → Begins ys zs → own session n zs ≡ own session n xs → own session n zs ≡ own session n ys
  own_between session n xs ys zs b d e =
      let o : List A → List A = own session n in
      let oy : o ys ≡ o xs ++ o b.0 = ap o (sym b.1) ∙ filter-append (λ a. session a == n) xs b.0 in
      let oz : o zs ≡ o ys ++ o d.0 = ap o (sym d.1) ∙ filter-append (λ a. session a == n) ys d.0 in
      sym (begins_whole (o ys) (o zs) (o d.0, sym oz) (let e1 : length (o zs) ≡ length (o xs) = ap length e in let e2 : length (o ys) ≡ length (o xs ++ o b.0) = ap length oy in omega (arith, length-append (o xs) (o b.0))))

  own_none : (session : A → ℕ) (n : ℕ) (e : A) → session e ≢ n → own session n (e ∷ []) ≡ []
  own_none session n e ne = let f : (session e == n) ≡ false = ne_eqb (session e) n ne in rw f refl

  pub own_other : (session : A → ℕ) (n : ℕ) (xs : List A) (e : A) → session e ≢ n → own session n (xs ++ e ∷ []) ≡ own session n xs
  own_other session n xs e ne = filter-append (λ a. session a == n) xs (e ∷ []) ∙ (ap (λ (z : List A). own session n xs ++ z) (own_none session n e ne) ∙ append-nil (own session n xs))

module _ {E : Type 0} where
  pub at_here : (lists : List (List E)) (place : ℕ) (e : E) → place < length lists → at (add lists place e) place ≡ at lists place ++ e ∷ []
  at_here lists place e h = get_or-set_same lists place (at lists place ++ e ∷ []) [] h

  pub at_else : (lists : List (List E)) (place other : ℕ) (e : E) → other ≢ place → at (add lists place e) other ≡ at lists other
  at_else lists place other e n = get_or-set_other lists place other (at lists place ++ e ∷ []) [] n

  pub grows_add : (lists : List (List E)) (place : ℕ) (e : E) → place < length lists → Grows lists (add lists place e)
  grows_add lists place e h = record {
    begins = λ other. dite (ℕ_discrete other place)
        (λ (q : other ≡ place). subst (λ z. Begins (at lists z) (at (add lists place e) z)) (sym q) (subst (λ (t : List E). Begins (at lists place) t) (sym (at_here lists place e h)) (begins_push (at lists place) e)))
        (λ n. subst (λ (t : List E). Begins (at lists other) t) (sym (at_else lists place other e n)) (begins_same (at lists other)));
  }
