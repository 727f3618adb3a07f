-- How many events a line's command has, by their places.
use Rattle.std.proofs.Common.{◌≡◌, ℕ, suc, ◌<◌, List, [], ◌∷◌, length, get_or, refl, ap, arith, ⊎_elim}
use Rattle.std.proofs.lemmas.Option.{slice_get_cases}
use Rattle.place_columns.proofs.Copying.{picked}

pub as_many : {X : Type 0} (xs : List X) (ps : List ℕ) → ((j : ℕ) → j < length ps → get_or ps j 0 < length xs) → length ps ≡ length (picked xs ps)
as_many xs [] f = refl
as_many {X} xs (p ∷ ps) f =
    ⊎_elim
    (λ s. rw s.2 (ap (λ n. suc n) (as_many xs ps (λ j l. f (suc j) (omega arith)))))
    (λ n. let l : p < length xs = f 0 (omega arith) in let m = n.0 in absurd (omega arith))
    (slice_get_cases xs p).1
