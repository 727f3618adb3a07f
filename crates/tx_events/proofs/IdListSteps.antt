-- Lists of ids, id by id.
use Rattle.std.proofs.Common.{◌≡◌, ℕ, suc, ◌<◌, ◌≤◌, List, [], ◌∷◌, ◌++◌, length, refl, ap, sym, ◌∙◌, arith, Bool, true, false, ◌&&◌, ◌==◌, ◌||◌, cond, Contains, subst, ◌+◌, eqb-true}
use Rattle.std.proofs.lemmas.Bool.{false≢true}
use Rattle.std.specs.List.{filter, AllByRecursion}
use Rattle.std.proofs.Math.Bool.{and-false}
use Rattle.tx_events.proofs.ListSteps.{filter_length, eqb-refl, not_both, all_filter, all_push}
use Rattle.tx_events.specs.IdLists.{has, Ascending}
use Rattle.tx_events.proofs.Membership.{Has, all_at, any_has, contains_has, has_any}

-- the two notions of membership
pub has_true : (xs : List ℕ) (x : ℕ) → Has xs x → has xs x ≡ true
has_true xs x k = any_has (λ y. x == y) xs x k (eqb-refl x)

pub true_has : (xs : List ℕ) (x : ℕ) → has xs x ≡ true → Has xs x
true_has xs x t = let r = has_any (λ y. x == y) xs t in subst (λ y. Has xs y) (sym (eqb-true x r.0 r.2)) r.1

pub contains_true : (xs : List ℕ) (x : ℕ) → Contains xs x → has xs x ≡ true
contains_true xs x c = has_true xs x (contains_has xs x c)

pub all_has : (P : ℕ → Type 0) (xs : List ℕ) (x : ℕ) → AllByRecursion P xs → has xs x ≡ true → P x
all_has P xs x f h = all_at P xs x f (true_has xs x h)

-- what a filter keeps
pub has-filter : (q : ℕ → Bool) (xs : List ℕ) (x : ℕ) → has (filter q xs) x ≡ (has xs x && q x)
has-filter q [] x = refl
has-filter q (y ∷ xs) x = split (x == y) refl (q y) refl (has-filter q xs x)
  where
    split : (b : Bool) → (x == y) ≡ b → (c : Bool) → q y ≡ c → has (filter q xs) x ≡ (has xs x && q x) → has (cond c (y ∷ filter q xs) (filter q xs)) x ≡ (((x == y) || has xs x) && q x)
    split true e true f h = rw e (sym (ap q (eqb-true x y e) ∙ f))
    split true e false f h = h ∙ ap (λ b. has xs x && b) (ap q (eqb-true x y e) ∙ f) ∙ and-false (has xs x) ∙ sym (ap (λ b. ((x == y) || has xs x) && b) (ap q (eqb-true x y e) ∙ f) ∙ and-false ((x == y) || has xs x))
    split false e true f h = rw e h
    split false e false f h = h ∙ sym (ap (λ b. (b || has xs x) && q x) e)

pub ascending_push : (xs : List ℕ) (n : ℕ) → Ascending xs → AllByRecursion (λ x. x < n) xs → Ascending (xs ++ n ∷ [])
ascending_push [] n f g = (tt, tt)
ascending_push (x ∷ xs) n f g = (all_push (λ y. x < y) xs n f.0 g.0, ascending_push xs n f.1 g.1)

pub ascending_filtered : (q : ℕ → Bool) (xs : List ℕ) → Ascending xs → Ascending (filter q xs)
ascending_filtered q [] a = tt
ascending_filtered q (x ∷ xs) a =
    one (q x) (all_filter (λ y. x < y) q xs a.0) (ascending_filtered q xs a.1)
  where
    one : (c : Bool) → AllByRecursion (λ y. x < y) (filter q xs) → Ascending (filter q xs) → Ascending (cond c (x ∷ filter q xs) (filter q xs))
    one true l r = (l, r)
    one false l r = r

pub one_less : (q : ℕ → Bool) (xs : List ℕ) (x : ℕ) → has xs x ≡ true → q x ≡ false → length (filter q xs) + 1 ≤ length xs
one_less q [] x f g = absurd (false≢true f)
one_less q (y ∷ xs) x f g = split (x == y) refl (q y) refl f (one_less q xs x)
  where
    split : (c : Bool) → (x == y) ≡ c → (d : Bool) → q y ≡ d → (c || has xs x) ≡ true → (has xs x ≡ true → q x ≡ false → length (filter q xs) + 1 ≤ length xs) → length (cond d (y ∷ filter q xs) (filter q xs)) + 1 ≤ suc (length xs)
    split true e true d k i = not_both (q x) (ap q (eqb-true x y e) ∙ d) g
    split true e false d k i = let l : length (filter q xs) ≤ length xs = filter_length q xs in omega arith
    split false e true d k i = let l : length (filter q xs) + 1 ≤ length xs = i k g in omega arith
    split false e false d k i = let l : length (filter q xs) + 1 ≤ length xs = i k g in omega arith

pub some_had : (xs : List ℕ) (x : ℕ) → has xs x ≡ true → 1 ≤ length xs
some_had [] x f = absurd (false≢true f)
some_had (y ∷ xs) x f = omega arith
