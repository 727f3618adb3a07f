-- Places in steps, and one more.
use Rattle.std.proofs.Common.{◌≡◌, ℕ, suc, zero, ◌+◌, ◌<◌, ◌≤◌, List, [], ◌∷◌, ◌++◌, refl, sym, ap, subst, ◌∙◌, arith, append-nil, length, min}
use Rattle.script_rounds.specs.Stepped.{EndAt, places_from, step_from}

-- the places of more steps behind these
places_both : (end last : ℕ) (steps more far behind : List ℕ) → EndAt end last steps far
    → places_from last (steps ++ more) (far ++ behind) ≡ places_from last steps far ++ places_from end more behind
places_both end last [] more far behind e =
    ap (λ (f : List ℕ). places_from last more (f ++ behind)) e.1 ∙ ap (λ l. places_from l more behind) (sym e.0)
places_both end last (zero ∷ steps) more [] behind e = absurd e
places_both end last (zero ∷ steps) more (place ∷ far) behind e = ap (λ (t : List ℕ). place ∷ t) (places_both end place steps more far behind e)
places_both end last (suc n ∷ steps) more far behind e =
    let place = min (last + suc n) 4294967295 in
    ap (λ (t : List ℕ). place ∷ t) (places_both end place steps more far behind e)

end_both : (end middle last : ℕ) (steps more far behind : List ℕ) → EndAt middle last steps far → EndAt end middle more behind
    → EndAt end last (steps ++ more) (far ++ behind)
end_both end middle last [] more far behind e f =
    subst (λ (l : List ℕ). EndAt end last more (l ++ behind)) (sym e.1) (subst (λ l. EndAt end l more behind) e.0 f)
end_both end middle last (zero ∷ steps) more [] behind e f = absurd e
end_both end middle last (zero ∷ steps) more (place ∷ far) behind e f = end_both end middle place steps more far behind e f
end_both end middle last (suc n ∷ steps) more far behind e f = end_both end middle (min (last + suc n) 4294967295) steps more far behind e f

-- the places with this one more, which is the last one
pub record IsOneMore (place : ℕ) (steps far new_steps new_far : List ℕ) : Type 0 where
  pub end : EndAt place 0 new_steps new_far
  pub places : places_from 0 new_steps new_far ≡ places_from 0 steps far ++ place ∷ []

-- one in full
pub far_more : (end place : ℕ) (steps far new_steps new_far : List ℕ) → EndAt end 0 steps far → new_steps ≡ steps ++ 0 ∷ [] → new_far ≡ far ++ place ∷ []
    → IsOneMore place steps far new_steps new_far
far_more end place steps far new_steps new_far e f h = subst (λ (s : List ℕ). IsOneMore place steps far s new_far) (sym f) (
    subst (λ (t : List ℕ). IsOneMore place steps far (steps ++ 0 ∷ []) t) (sym h) (record {
      end = end_both place end 0 steps (0 ∷ []) far (place ∷ []) e (refl, refl);
      places = places_both end 0 steps (0 ∷ []) far (place ∷ []) e;
    }))

-- one that lies so far behind
near_place : (end step place : ℕ) → 0 < step → end + step ≡ place → place ≤ 4294967295 → places_from end (step ∷ []) [] ≡ place ∷ []
near_place end zero place l e m = absurd (omega (arith, l))
near_place end (suc n) place l e m = ap (λ k. k ∷ []) (omega (arith, e, m))

near_end : (end step place : ℕ) → 0 < step → end + step ≡ place → place ≤ 4294967295 → EndAt place end (step ∷ []) []
near_end end zero place l e m = absurd (omega (arith, l))
near_end end (suc n) place l e m = (omega (arith, e, m), refl)

pub near_more : (end step place : ℕ) (steps far new_steps : List ℕ) → EndAt end 0 steps far → new_steps ≡ steps ++ step ∷ []
    → 0 < step → end + step ≡ place → place ≤ 4294967295 → IsOneMore place steps far new_steps far
near_more end step place steps far new_steps e f l g m = subst (λ (s : List ℕ). IsOneMore place steps far s far) (sym f) (
    subst (λ (t : List ℕ). IsOneMore place steps far (steps ++ step ∷ []) t) (append-nil far) (record {
      end = end_both place end 0 steps (step ∷ []) far [] e (near_end end step place l g m);
      places =
          places_both end 0 steps (step ∷ []) far [] e
          ∙ ap (λ (t : List ℕ). places_from 0 steps far ++ t) (near_place end step place l g m);
    }))

-- there are as many places as steps
pub as_many : (last : ℕ) (steps far : List ℕ) → length (places_from last steps far) ≡ length steps
as_many last [] far = refl
as_many last (step ∷ steps) far = ap (λ n. suc n) (as_many (step_from last step far).0 steps (step_from last step far).1)
