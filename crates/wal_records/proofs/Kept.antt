-- Bytes that grow at their end keep their front.
use Rattle.std.proofs.Common.{◌≡◌, ℕ, ◌≤◌, List, ◌++◌, ap, arith, length, min, sym, take, take-take, ◌∙◌}
use Rattle.std.proofs.lemmas.List.{length-take, take-append-le, take_all}

pub kept_after : (a b x : List ℕ) → b ≡ a ++ x → take (length a) b ≡ a
kept_after a b x e = ap (take (length a)) e ∙ take-append-le (length a) a x (same (length a)) ∙ take_all (length a) a (same (length a)) where
  same : (n : ℕ) → n ≤ n
  same n = omega arith

pub kept_same : (a b : List ℕ) → b ≡ a → take (length a) b ≡ a
kept_same a b e = ap (take (length a)) e ∙ take_all (length a) a (same (length a)) where
  same : (n : ℕ) → n ≤ n
  same n = omega arith

shorter : (a b : List ℕ) → take (length a) b ≡ a → length a ≤ length b
shorter a b e = let m : min (length a) (length b) ≡ length a = sym (length-take (length a) b) ∙ ap length e in omega (arith, m)

pub kept_then : (a b c : List ℕ) → take (length a) b ≡ a → take (length b) c ≡ b → take (length a) c ≡ a
kept_then a b c e f = sym (take-take (length a) (length b) c (shorter a b e)) ∙ ap (take (length a)) f ∙ e
