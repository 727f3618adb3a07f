-- What holds behind the steps of reading.
use Rattle.std.proofs.Common.{◌≡◌, ◌||◌, not, Bool, true, false, cond, Result, Ok, Err, IfOk, refl, sym, subst}
use Rattle.std.proofs.lemmas.Bool.{false≢true}
use Rattle.script_lines.specs.Kinds.{◌>>=◌, fault_if}

pub then_holds : {A B F : Type 0} (P : A → Type 0) (Q : B → Type 0) (r : Result A F) (f : A → Result B F) → IfOk r P → ((x : A) → P x → IfOk (f x) Q) → IfOk (r >>= f) Q
then_holds P Q (Ok x) f p g = g x p
then_holds P Q (Err k) f p g = tt

pub behind : {A B F : Type 0} (Q : B → Type 0) (r : Result A F) (f : A → Result B F) → ((x : A) → IfOk (f x) Q) → IfOk (r >>= f) Q
behind Q (Ok x) f g = g x
behind Q (Err k) f g = tt

pub either_holds : {A F : Type 0} (P : A → Type 0) (b : Bool) (r s : Result A F) → (b ≡ true → IfOk r P) → (b ≡ false → IfOk s P) → IfOk (cond b r s) P
either_holds P true r s p q = p refl
either_holds P false r s p q = q refl

pub no_fault : {F : Type 0} (b : Bool) (k : F) → IfOk (fault_if b k) (λ _. b ≡ false)
no_fault true k = tt
no_fault false k = refl

pub not_false : (b : Bool) → not b ≡ false → b ≡ true
not_false true e = refl
not_false false e = absurd (false≢true (sym e))

pub both_false : (a b : Bool) → (a || b) ≡ false → (a ≡ false) × (b ≡ false)
both_false true b e = absurd (false≢true (sym e))
both_false false b e = (refl, e)

pub went : {A B F : Type 0} (r : Result A F) (f : A → Result B F) (y : B) → (r >>= f) ≡ Ok y → (x : A) × (r ≡ Ok x) × (f x ≡ Ok y)
went (Ok x) f y e = (x, refl, e)
went (Err k) f y e = absurd cc

pub of_ok : {A F : Type 0} (P : A → Type 0) (r : Result A F) (x : A) → IfOk r P → r ≡ Ok x → P x
of_ok P r x p e = subst (λ r. IfOk r P) e p
