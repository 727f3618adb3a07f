-- A text written piece by piece.
use Rattle.std.proofs.Common.{◌≡◌, ℕ, ◌+◌, List, Option, sym, subst, take, drop, length, arith}
use Rattle.std.proofs.KnownBytes.{Appends-trans}
use Rattle.std.proofs.Math.Seq.{take-add}
use Rattle.std.proofs.lemmas.Slice.{between_to_end}
use Rattle.std.specs.Io.KnownBytes.{Appends}
use Rattle.std.specs.List.{between}

-- a front, and then a front of what is left
pub appends_on : (a b c : Option (List ℕ)) (xs : List ℕ) (at n : ℕ) → Appends a b (take at xs) → Appends b c (take n (drop at xs)) → Appends a c (take (at + n) xs)
appends_on a b c xs at n f g = subst (Appends a c) (sym (take-add at n xs)) (Appends-trans a b c (take at xs) (take n (drop at xs)) f g)

pub appends_on_rest : (a b c : Option (List ℕ)) (xs : List ℕ) (at n : ℕ) → Appends a b (take at xs) → Appends b c (take n (between at (length xs) xs)) → Appends a c (take (at + n) xs)
appends_on_rest a b c xs at n f g = appends_on a b c xs at n f (subst (λ t. Appends b c (take n t)) (between_to_end xs at (length xs) (omega arith)) g)
