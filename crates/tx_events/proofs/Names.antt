-- Names that are the same.
use Rattle.std.proofs.Common.{◌≡◌, ℕ, ◌+◌, List, [], ◌++◌, refl, sym, ap, ◌∙◌, length, drop, arith, true, ◌&&◌, nat_eq, append-nil, length-append}
use Rattle.std.proofs.lemmas.Bool.{and_parts}
use Rattle.std.proofs.lemmas.Bool.Decides.{Decides-eqb}
use Rattle.std.proofs.lemmas.List.{nil_from_length}
use Rattle.std.proofs.lemmas.Slice.Eq.{starts_is}
use Rattle.std.specs.List.{starts_with}
use Rattle.tx_events.specs.Events.{same_name}

starts : (a b : List ℕ) → (starts_with nat_eq a b ≡ true → a ≡ b ++ drop (length b) a) × ((rest : List ℕ) → a ≡ b ++ rest → starts_with nat_eq a b ≡ true)
starts a b = starts_is (λ x y. Decides-eqb x y) a b (starts_with nat_eq a b) refl

both_start : (a b u v : List ℕ) → a ≡ b ++ u → b ≡ a ++ v → a ≡ b
both_start a b u v e f =
    let l : length a ≡ length b + length u = ap length e ∙ length-append b u in
    let m : length b ≡ length a + length v = ap length f ∙ length-append a v in
    e ∙ ap (λ t. b ++ t) (nil_from_length u (omega arith)) ∙ append-nil b

pub same_name_refl : (a : List ℕ) → same_name a a ≡ true
same_name_refl a = let e = (starts a a).1 [] (sym (append-nil a)) in ap (λ t. t && starts_with nat_eq a a) e ∙ e

pub same_name_equal : (a b : List ℕ) → same_name a b ≡ true → a ≡ b
same_name_equal a b e =
    let both = and_parts (starts_with nat_eq a b) (starts_with nat_eq b a) e in
    both_start a b (drop (length b) a) (drop (length a) b) ((starts a b).0 both.0) ((starts b a).0 both.1)
