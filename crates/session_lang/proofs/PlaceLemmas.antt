-- Where a name stands.
use Rattle.std.proofs.Common.{◌≡◌, ℕ, List, [], ◌∷◌, Bool, true, false, refl, sym, ap, ◌∙◌, zero, suc, one-add, length, Some}
use Rattle.std.specs.List.{IsDistinct, AllByRecursion, slice_get}
use Rattle.tx_events.specs.Events.{same_name}
use Rattle.tx_events.proofs.Names.{same_name_equal, same_name_refl}
use Rattle.session_lang.specs.Reading.{IsNew}
use Rattle.session_lang.specs.Script.{place_of}

no_name : (w v : List ℕ) (b : Bool) → same_name v w ≡ b → (v ≡ w → ⊥) → same_name v w ≡ false
no_name w v true e n = absurd (n (same_name_equal v w e))
no_name w v false e n = e

pub place_new : (names : List (List ℕ)) (w : List ℕ) → IsNew names w → place_of names w ≡ length names
place_new [] w n = refl
place_new (v ∷ names) w n =
    rw (no_name w v (same_name v w) refl (λ e. n 0 (ap Some e)), one-add) (ap suc (place_new names w (λ k. n (suc k))))

place_first : (v w : List ℕ) (names : List (List ℕ)) → v ≡ w → place_of (v ∷ names) w ≡ 0
place_first v w names e = rw (ap (λ x. same_name x w) e ∙ same_name_refl w) refl

found_false : (v w : List ℕ) (names : List (List ℕ)) (k : ℕ) → AllByRecursion (λ y. same_name v y ≡ false) names → slice_get names k ≡ Some w → same_name v w ≡ false
found_false v w [] k a e = absurd cc
found_false v w (x ∷ names) zero a e = let same : x ≡ w = cc in ap (same_name v) (sym same) ∙ a.0
found_false v w (x ∷ names) (suc k) a e = found_false v w names k a.1 e

pub place_old : (names : List (List ℕ)) (w : List ℕ) (k : ℕ) → IsDistinct same_name names → slice_get names k ≡ Some w → place_of names w ≡ k
unfolding IsDistinct
place_old [] w k d e = absurd cc
place_old (v ∷ names) w zero d e = let same : v ≡ w = cc in place_first v w names same
place_old (v ∷ names) w (suc k) d e =
    rw (found_false v w names k d.0 e, one-add) (ap suc (place_old names w k d.1 e))
