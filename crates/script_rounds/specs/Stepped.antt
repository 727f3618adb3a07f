-- Places in steps of a byte each.
use Rattle.std.specs.Prelude.{◌≡◌, ℕ, suc, zero, ◌+◌, List, [], ◌∷◌, min}

-- The place to which a step leads, and the far ones behind it. A step of 0 leads to the next far one.
abbrev pub step_from : ℕ → ℕ → List ℕ → ℕ × List ℕ
step_from last zero [] = (0, [])
step_from last zero (place ∷ far) = (place, far)
step_from last (suc n) far = (min (last + suc n) 4294967295, far)

-- the places to which steps lead from a place on
abbrev pub places_from : ℕ → List ℕ → List ℕ → List ℕ
places_from last [] far = []
places_from last (step ∷ steps) far = (step_from last step far).0 ∷ places_from (step_from last step far).0 steps (step_from last step far).1

-- they lead to this place, and take all the far ones
abbrev pub EndAt : ℕ → ℕ → List ℕ → List ℕ → Type 0
EndAt end last [] far = (end ≡ last) × (far ≡ [])
EndAt end last (zero ∷ steps) [] = ⊥
EndAt end last (zero ∷ steps) (place ∷ far) = EndAt end place steps far
EndAt end last (suc n ∷ steps) far = EndAt end (min (last + suc n) 4294967295) steps far
