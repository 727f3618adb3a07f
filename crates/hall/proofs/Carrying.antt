-- Names that may be given, and values in slots.
use Rattle.std.proofs.Common.{◌≡◌, zero, suc, List, [], ◌∷◌, map, get_or, refl, sym, ap, subst, arith, All, rules, Option, Some, None, IsSome}
use Rattle.hall.specs.declared.view.Held.{Held}

first_of : {A : Type 0} (x : A) (xs ys : List A) → x ∷ xs ≡ ys → get_or ys 0 x ≡ x
first_of x xs ys e = sym (ap (λ (z : List _). get_or z 0 x) e)

tail_of : {A : Type 0} → List A → List A
tail_of [] = []
tail_of (x ∷ xs) = xs

pub all_full : {V E : Type 0} (hs : List (Held V E)) (xs : List V) → map (λ h. h.value) hs ≡ map Some xs → All (λ h. IsSome h.value) hs
unfolding tail_of
all_full [] xs e k d lt = absurd (omega arith)
all_full {V} {E} (h ∷ hs) [] e k d lt = absurd (let P : List (Option V) → Type 0 = λ z. elim z [ [] ↦ ⊥ | ◌∷◌ _ _ ↦ Unit {0} ] in subst P e tt)
all_full {V} {E} (h ∷ hs) (x ∷ xs) e zero d lt = let f : h.value ≡ Some x = ap (λ (z : List (Option V)). get_or z 0 None) e in subst IsSome (sym f) (search rules)
all_full {V} {E} (h ∷ hs) (x ∷ xs) e (suc k) d lt = all_full hs xs (ap tail_of e) k d (omega arith)

-- values that were put into slots and came back
pub some_same : {V : Type 0} (xs ys : List V) → map Some xs ≡ map Some ys → xs ≡ ys
unfolding tail_of
some_same [] [] e = refl
some_same {V} [] (y ∷ ys) e = absurd (let P : List (Option V) → Type 0 = λ z. elim z [ [] ↦ Unit {0} | ◌∷◌ _ _ ↦ ⊥ ] in subst P e tt)
some_same {V} (x ∷ xs) [] e = absurd (let P : List (Option V) → Type 0 = λ z. elim z [ [] ↦ ⊥ | ◌∷◌ _ _ ↦ Unit {0} ] in subst P e tt)
some_same {V} (x ∷ xs) (y ∷ ys) e = let f : x ≡ y = ap (λ (z : List (Option V)). elim (get_or z 0 None) [ None ↦ x | Some v ↦ v ]) e in λ i. f i ∷ some_same xs ys (ap tail_of e) i
