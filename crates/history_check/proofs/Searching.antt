-- A binary search of a list by a key that rises.
use Rattle.std.proofs.Common.{◌≡◌, ℕ, suc, zero, ◌<◌, ◌≤◌, List, [], ◌∷◌, length, get_or, map, refl, ap, sym, ◌∙◌, arith, ◌==◌, cond, Some, None, Result, Ok, Err, eq-eqb, ne_eqb, ⊎_elim}
use Rattle.std.proofs.lemmas.Bool.{cases_lt}
use Rattle.std.proofs.lemmas.Bool.Decides.{nat_tests}
use Rattle.std.proofs.lemmas.Cmp.{ranked}
use Rattle.std.specs.List.{AllByRecursion, HoldsAt, find}
use Rattle.std.specs.List.Sorted.{IsBinarySearchResult, IsNonDecreasingBy, IsSearchInRange}
use Rattle.std.specs.Ordering.{nat_cmp, ordering_index}
use Rattle.std.specs.Prelude.{IfNone, IfSome, MatchResult}
use Rattle.std.specs.Result.{result_ok}
use Rattle.tx_events.specs.IdLists.{Ascending}

module _ {X : Type 0} (key : X → ℕ) where
  abbrev pub StandsAt : List X → ℕ → ℕ → Type 0
  StandsAt xs x i = (i < length xs) × HoldsAt (λ (g : X). key g ≡ x) xs i

  abbrev pub StandsNowhere : List X → ℕ → Type 0
  StandsNowhere xs x = (k : ℕ) → k < length xs → HoldsAt (λ (g : X). key g ≡ x → ⊥) xs k

  pub all_at : (P : ℕ → Type 0) (xs : List X) (k : ℕ) (d : X) → AllByRecursion P (map key xs) → k < length xs → P (key (get_or xs k d))
  all_at P [] k d a l = absurd (omega arith)
  all_at P (s ∷ xs) zero d a l = a.0
  all_at P (s ∷ xs) (suc k) d a l = all_at P xs k d a.1 (omega arith)

  pub rises : (xs : List X) → Ascending (map key xs) → (i j : ℕ) (d : X) → i ≤ j → j < length xs → key (get_or xs i d) ≤ key (get_or xs j d)
  rises [] a i j d l m = absurd (omega arith)
  rises (s ∷ xs) a zero zero d l m = omega arith
  rises (s ∷ xs) a zero (suc j) d l m = let f : key s < key (get_or xs j d) = all_at (λ y. key s < y) xs j d a.0 (omega arith) in omega arith
  rises (s ∷ xs) a (suc i) zero d l m = absurd (omega arith)
  rises (s ∷ xs) a (suc i) (suc j) d l m = rises xs a.1 i j d (omega arith) (omega arith)

  comparisons_rise : (xs : List X) (x : ℕ) → Ascending (map key xs) → IsNonDecreasingBy (λ s. ordering_index (nat_cmp (key s) x)) xs
  comparisons_rise xs x a i j d l m = let f : key (get_or xs i d) ≤ key (get_or xs j d) = rises xs a i j d l m in grind (arith, nat_tests)

  -- a binary search finds the place of a key, or that it stands nowhere
  pub searched : (xs : List X) (x : ℕ) (r : Result ℕ ℕ) → Ascending (map key xs) → IsSearchInRange r (length xs) → IsBinarySearchResult (λ s. nat_cmp (key s) x) xs r → MatchResult r (StandsAt xs x) (λ i. StandsNowhere xs x)
  searched xs x (Ok i) a b f = (b, λ d. ranked _ x _ (sym (f d)))
  searched xs x (Err i) a b f = λ k l d e. ⊎_elim
      (λ (u : k < i). let g : key (get_or xs k d) < x = ranked _ x _ (sym ((f (comparisons_rise xs x a)).0 k d (omega arith) u)) in omega arith)
      (λ (u : i ≤ k). let g : x < key (get_or xs k d) = ranked _ x _ (sym ((f (comparisons_rise xs x a)).1 k d u l)) in omega arith)
      (cases_lt k i)

  pub as_option : (xs : List X) (x : ℕ) (r : Result ℕ ℕ) → MatchResult r (StandsAt xs x) (λ i. StandsNowhere xs x) → record { some : IfSome (result_ok r) (StandsAt xs x); none : IfNone (result_ok r) (StandsNowhere xs x) }
  as_option xs x (Ok i) m = record { some = m; none = tt }
  as_option xs x (Err i) m = record { some = tt; none = m }

  pub further : (s : X) (xs : List X) (x k : ℕ) → StandsAt (s ∷ xs) x (suc k) → StandsAt xs x k
  further s xs x k p = (omega (arith, p.0), λ d. p.1 d)

  pub find_at : (xs : List X) (x k : ℕ) (d : X) → Ascending (map key xs) → StandsAt xs x k → find (λ s. key s == x) xs ≡ Some (get_or xs k d)
  find_at [] x k d a p = absurd (omega (arith, p.0))
  find_at (s ∷ xs) x zero d a p = ap (λ b. cond b (Some s) (find (λ s. key s == x) xs)) (eq-eqb (key s) x (p.1 d))
  find_at (s ∷ xs) x (suc k) d a p =
      let next = further s xs x k p in
      let f : key s < key (get_or xs k d) = all_at (λ y. key s < y) xs k d a.0 next.0 in
      ap (λ b. cond b (Some s) (find (λ s. key s == x) xs)) (ne_eqb (key s) x (λ q. omega (arith, next.1 d))) ∙ find_at xs x k d a.1 next

  pub find_missing : (xs : List X) (x : ℕ) → StandsNowhere xs x → find (λ s. key s == x) xs ≡ None
  find_missing [] x f = refl
  find_missing (s ∷ xs) x f =
      ap (λ b. cond b (Some s) (find (λ s. key s == x) xs)) (ne_eqb (key s) x (λ q. f 0 (omega arith) s q)) ∙ find_missing xs x (λ k l d e. f (suc k) (omega arith) d e)
