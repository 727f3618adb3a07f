-- Lists of items, word by word.
use Rattle.std.proofs.Common.{◌≡◌, ℕ, ◌<◌, List, [], ◌∷◌, ◌++◌, cond, Option, Some, None, refl, ap, length, arith}
use Rattle.report_words.specs.Reading.{◌>>=◌, word_at}
use Rattle.report_words.specs.Members.{is_arrow, until_arrow}

pair_is : (p q : List ℕ × List (List ℕ)) → Some p ≡ Some q → p ≡ q
pair_is p q e = cc

-- a word at the front
pub word_front : (ws : List (List ℕ)) (w : List ℕ) (vs : List (List ℕ)) → word_at ws ≡ Some (w, vs) → ws ≡ w ∷ vs
word_front [] w vs e = absurd cc
word_front (v ∷ ws) w vs e =
    let same : (v, ws) ≡ (w, vs) = pair_is (v, ws) (w, vs) e in
    ap (λ (p : List ℕ × List (List ℕ)). p.0 ∷ p.1) same

pub word_shorter : (ws : List (List ℕ)) (w : List ℕ) (vs : List (List ℕ)) → word_at ws ≡ Some (w, vs) → length vs < length ws
word_shorter ws w vs e = let l : length ws ≡ length (w ∷ vs) = ap length (word_front ws w vs e) in omega arith

pub item_step : {X : Type 0} (item : List ℕ → Option X) (so_far : List X) (ws : List (List ℕ)) (w : List ℕ) (vs : List (List ℕ)) → word_at ws ≡ Some (w, vs) → until_arrow item so_far ws ≡ cond (is_arrow w) (Some (so_far, w ∷ vs)) (item w >>= λ x. until_arrow item (so_far ++ x ∷ []) vs)
item_step item so_far ws w vs e = ap (until_arrow item so_far) (word_front ws w vs e)

pub item_end : {X : Type 0} (item : List ℕ → Option X) (so_far : List X) (ws : List (List ℕ)) → word_at ws ≡ None → until_arrow item so_far ws ≡ Some (so_far, ws)
item_end item so_far [] e = refl
item_end item so_far (w ∷ ws) e = absurd cc
