-- A text that is read again is that of one value.
use Rattle.std.proofs.Common.{◌≡◌, ℕ, ◌-◌, ◌≤◌, List, ◌∷◌, Option, Some, refl, sym, ◌∙◌, arith, length, take, drop}
use Rattle.report_words.specs.Words.{behind}

pub some_same : {X : Type 0} (x y : X) → Some x ≡ Some y → x ≡ y
some_same x y e = cc

-- it is enough that the line with a byte before it is read
pub apart : {X : Type 0} (read : List (List ℕ) → Option X) (text : X → List ℕ) (fits : X → Type 0) → ((bytes : List ℕ) (x : X) → 1 ≤ length bytes → fits x → drop 1 bytes ≡ text x → read (behind (take (length bytes - 1) bytes)) ≡ Some x) → (x y : X) → fits x → fits y → text x ≡ text y → x ≡ y
apart {X} read text fits again x y f g e =
    let l : 1 ≤ length (10 ∷ text x) = omega arith in
    some_same x y (sym (again (10 ∷ text x) x l f refl) ∙ again (10 ∷ text x) y l g e)
