-- Tests and lists, item by item.
use Rattle.std.proofs.Math.Bool.{or-false}
use Rattle.std.proofs.Common.{◌+◌, ◌≡◌, ℕ, suc, zero, ◌<◌, ◌≤◌, List, [], ◌∷◌, ◌++◌, length, refl, ap, sym, ◌∙◌, arith, Bool, true, false, ◌&&◌, ◌==◌, ◌||◌, add-one, add-zero, length-append, subst, inl, inr, ⊎_elim, ◌⊎◌}
use Rattle.std.proofs.lemmas.Bool.{false≢true, cases_lt}
use Rattle.std.proofs.lemmas.Bool.Decides.{nat_tests}
use Rattle.std.proofs.lemmas.List.Folds.{list_any-append}
use Rattle.std.specs.List.{filter, AllByRecursion, list_any, range_with_len}
use Rattle.std.proofs.lemmas.List.Sums.{count_by-le-length, length-filter}
use Rattle.tx_events.proofs.Membership.{all_at, filter_agree_on, all_from, has_filter, filter_none_on}
use mathlib.Core.List.{reverse_aux}

pub list_any-push : {X : Type 0} (p : X → Bool) (xs : List X) (x : X) → list_any p (xs ++ x ∷ []) ≡ (list_any p xs || p x)
list_any-push p xs x = list_any-append p xs (x ∷ []) ∙ ap (λ b. list_any p xs || b) (or-false (p x))

pub eqb-refl : (n : ℕ) → (n == n) ≡ true
eqb-refl n = grind (arith, nat_tests)

-- a test cannot answer both
pub not_both : {P : Type 0} (b : Bool) → b ≡ true → b ≡ false → P
not_both b t f = absurd (false≢true (sym f ∙ t))

pub below_not : (a b : ℕ) → a < b → (a == b) ≡ false
below_not a b f = grind (arith, nat_tests)

pub above_not : (a b : ℕ) → a < b → (b == a) ≡ false
above_not a b f = grind (arith, nat_tests)

pub le_or_over : (a b : ℕ) → (a ≤ b) ⊎ (b < a)
le_or_over a b = ⊎_elim inr inl (cases_lt b a)

pub equal_swap : (a b : ℕ) → (a == b) ≡ (b == a)
equal_swap a b = grind (arith, nat_tests)

-- tests of one fact agree
pub same_tests : (a b : Bool) → (a ≡ true → b ≡ true) → (b ≡ true → a ≡ true) → a ≡ b
same_tests true b f g = sym (f refl)
same_tests false true f g = g refl
same_tests false false f g = refl

pub length_push : {X : Type 0} (xs : List X) (x : X) → length (xs ++ x ∷ []) ≡ suc (length xs)
length_push xs x = length-append xs (x ∷ []) ∙ add-one (length xs)

pub range_push : (a n : ℕ) → range_with_len a (suc n) ≡ range_with_len a n ++ (a + n) ∷ []
range_push a zero = ap (λ k. k ∷ []) (sym (add-zero a))
range_push a (suc n) =
    let e : a + 1 + n ≡ a + suc n = omega arith in
    ap (λ t. a ∷ t) (range_push (a + 1) n ∙ ap (λ k. range_with_len (a + 1) n ++ k ∷ []) e)

pub both_all : {X : Type 0} (P : X → Type 0) (xs ys : List X) → AllByRecursion P xs → AllByRecursion P ys → AllByRecursion P (xs ++ ys)
both_all P [] ys a b = b
both_all P (x ∷ xs) ys a b = (a.0, both_all P xs ys a.1 b)

pub all_push : {X : Type 0} (P : X → Type 0) (xs : List X) (x : X) → AllByRecursion P xs → P x → AllByRecursion P (xs ++ x ∷ [])
all_push P xs x f g = both_all P xs (x ∷ []) f (g, tt)

pub all_weaker : {X : Type 0} (P Q : X → Type 0) → ((x : X) → P x → Q x) → (xs : List X) → AllByRecursion P xs → AllByRecursion Q xs
all_weaker P Q f xs a = all_from Q xs (λ x k. f x (all_at P xs x a k))

pub all_filter : {X : Type 0} (P : X → Type 0) (p : X → Bool) (xs : List X) → AllByRecursion P xs → AllByRecursion P (filter p xs)
all_filter P p xs a = all_from P (filter p xs) (λ x k. all_at P xs x a (has_filter p xs x k).0)

pub all_reverse_aux : {X : Type 0} (P : X → Type 0) (xs ys : List X) → AllByRecursion P xs → AllByRecursion P ys → AllByRecursion P (reverse_aux xs ys)
all_reverse_aux P [] ys a b = b
all_reverse_aux P (x ∷ xs) ys a b = all_reverse_aux P xs (x ∷ ys) a.1 (a.0, b)

pub filter_in_turn : {X : Type 0} (a b : X → Bool) (xs : List X) → filter (λ x. a x && b x) xs ≡ filter b (filter a xs)
filter_in_turn a b [] = refl
filter_in_turn a b (x ∷ xs) = grind (arith, filter_in_turn a b xs)

pub filter_swap : {X : Type 0} (a b : X → Bool) (xs : List X) → filter a (filter b xs) ≡ filter b (filter a xs)
filter_swap a b [] = refl
filter_swap a b (x ∷ xs) = grind (arith, filter_swap a b xs)

-- two tests that agree wherever P holds keep the same
pub filter_agree_where : {X : Type 0} (P : X → Type 0) (p q : X → Bool) → ((x : X) → P x → p x ≡ q x) → (xs : List X) → AllByRecursion P xs → filter p xs ≡ filter q xs
filter_agree_where P p q f xs a = filter_agree_on p q xs (λ x k. f x (all_at P xs x a k))

pub filter_passes : {X : Type 0} (q : X → Bool) (xs : List X) → AllByRecursion (λ x. q x ≡ true) (filter q xs)
filter_passes q xs = all_from (λ x. q x ≡ true) (filter q xs) (λ x k. (has_filter q xs x k).1)

pub filter_yes : {X : Type 0} (xs : List X) → filter (λ x. true) xs ≡ xs
filter_yes [] = refl
filter_yes (x ∷ xs) = ap (λ t. x ∷ t) (filter_yes xs)

pub filter_all : {X : Type 0} (P : X → Type 0) (q : X → Bool) (xs : List X) → ((x : X) → P x → q x ≡ true) → AllByRecursion P xs → filter q xs ≡ xs
filter_all P q xs f a = filter_agree_where P q (λ x. true) f xs a ∙ filter_yes xs

pub filter_none : {X : Type 0} (P : X → Type 0) (q : X → Bool) (xs : List X) → ((x : X) → P x → q x ≡ false) → AllByRecursion P xs → filter q xs ≡ []
filter_none P q xs f a = filter_none_on q xs (λ x k. f x (all_at P xs x a k))

pub filter_length : {X : Type 0} (q : X → Bool) (xs : List X) → length (filter q xs) ≤ length xs
filter_length q xs = subst (λ n. n ≤ length xs) (sym (length-filter q xs)) (count_by-le-length q xs)
