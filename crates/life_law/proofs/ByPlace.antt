-- What holds at each place, told place by place.
use Rattle.std.proofs.Common.{◌≡◌, ℕ, zero, suc, List, [], ◌∷◌, ◌++◌, Some, sym, subst, take, append-nil, append_assoc, slice_get}
use Rattle.tx_events.specs.Places.{EachPlace}

abbrev pub Placed : {X : Type 0} → (List X → X → Type 0) → List X → List X → Type 0
Placed P before [] = Unit {0}
Placed P before (x ∷ xs) = P before x × Placed P (before ++ x ∷ []) xs

placed_at : {X : Type 0} (P : List X → X → Type 0) (before xs : List X) → Placed P before xs → (p : ℕ) (x : X) → slice_get xs p ≡ Some x → P (before ++ take p xs) x
placed_at P before [] a p x e = absurd cc
placed_at P before (y ∷ xs) a zero x e = let same : y ≡ x = cc in subst (P (before ++ [])) same (subst (λ b. P b y) (sym (append-nil before)) a.0)
placed_at P before (y ∷ xs) a (suc p) x e = subst (λ b. P b x) (append_assoc before (y ∷ []) (take p xs)) (placed_at P (before ++ y ∷ []) xs a.1 p x e)

pub places : {X : Type 0} (P : List X → X → Type 0) (xs : List X) → Placed P [] xs → EachPlace xs P
places P xs a = placed_at P [] xs a
