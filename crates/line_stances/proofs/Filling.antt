-- Ids go to the levels that lack one, as many as there are.
use Rattle.std.proofs.Common.{◌≡◌, ℕ, zero, suc, ◌-◌, min, List, [], ◌∷◌, ◌++◌, length, take, Some, Option, sym, ap, ◌∙◌, arith}
use Rattle.std.proofs.lemmas.List.{take_min}
use Rattle.tx_model.specs.Stance.{filled}
use Rattle.session_levels.specs.Stands.{levels_of, nameless}

fill_nameless : (m : ℕ) (ids : List ℕ) → filled (nameless m) ids ≡ levels_of (take m ids) (m - length ids)
fill_nameless zero ids = let z : 0 ≡ 0 - length ids = omega arith in ap nameless z
fill_nameless (suc m) [] = let z : suc m ≡ suc m - 0 = omega arith in ap nameless z
fill_nameless (suc m) (id ∷ ids) =
    let z : m - length ids ≡ suc m - suc (length ids) = omega arith in
    ap (λ (t : List (Option ℕ)). Some id ∷ t) (fill_nameless m ids ∙ ap (levels_of (take m ids)) z)

pub fill_is : (named : List ℕ) (m : ℕ) (ids : List ℕ) → filled (levels_of named m) ids ≡ levels_of (named ++ take m ids) (m - length ids)
fill_is [] m ids = fill_nameless m ids
fill_is (x ∷ named) m ids = ap (λ (t : List (Option ℕ)). Some x ∷ t) (fill_is named m ids)

-- as many as there are of both
pub fill_upto : (named : List ℕ) (m : ℕ) (ids : List ℕ) (count : ℕ) → count ≡ min m (length ids) → filled (levels_of named m) ids ≡ levels_of (named ++ take count ids) (m - count)
fill_upto named m ids count is =
    fill_is named m ids ∙ ap (λ t. levels_of (named ++ t) (m - length ids)) (same_take m ids count is) ∙ ap (levels_of (named ++ take count ids)) (left m ids count is)
  where
    left : (m : ℕ) (ids : List ℕ) (count : ℕ) → count ≡ min m (length ids) → m - length ids ≡ m - count
    left m ids count is = omega arith

    same_take : (m : ℕ) (ids : List ℕ) (count : ℕ) → count ≡ min m (length ids) → take m ids ≡ take count ids
    same_take m ids count is = sym (take_min m ids) ∙ ap (λ n. take n ids) (sym is)
