-- What is left after a front was read.
use Rattle.std.proofs.Common.{◌≡◌, ℕ, List, [], ◌++◌, ◌+◌, ◌≤◌, length, take, drop, sym, ap, ◌∙◌}
use Rattle.std.proofs.lemmas.List.{take-append-drop, drop-drop}
use Rattle.std.proofs.Math.ListN.{drop_of_length-le}

pub front_and_rest : (bs : List ℕ) (at n : ℕ) → take n (drop at bs) ++ drop (at + n) bs ≡ drop at bs
front_and_rest bs at n = ap (λ t. take n (drop at bs) ++ t) (sym (drop-drop n at bs)) ∙ take-append-drop n (drop at bs)

pub no_rest : (bs : List ℕ) (at n : ℕ) → length bs ≤ at + n → drop (at + n) bs ≡ []
no_rest bs at n h = drop_of_length-le bs h
