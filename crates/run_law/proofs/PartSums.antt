-- Counts of parts: where each item is of one part, the parts have together what the whole has.
use Rattle.std.proofs.Common.{◌≡◌, ℕ, ◌+◌, ◌*◌, ◌≤◌, ◌==◌, ◌||◌, not, Bool, true, false, cond, List, [], ◌∷◌, ◌++◌, refl, sym, ap, subst, ◌∙◌, arith, length, map, eqb-true}
use Rattle.std.proofs.lemmas.Bool.{false≢true}
use Rattle.std.proofs.lemmas.List.Sums.{sum_by-append, sum_by-cons, sum_by_push}
use Rattle.std.specs.List.{AllByRecursion, count_by, filter, sum_by}
use Rattle.tx_events.specs.Places.{first_seen}
use Rattle.tx_events.proofs.ListSteps.{eqb-refl}
use Rattle.session_lang.proofs.SeenLemmas.{is_in}

-- 1 for true
abbrev pub one : Bool → ℕ
one b = cond b 1 0

pub is_one : (b : Bool) → b ≡ true → one b ≡ 1
is_one b e = ap one e

pub is_nil : (b : Bool) → b ≡ false → one b ≡ 0
is_nil b e = ap one e

pub count_cons : {X : Type 0} (p : X → Bool) (x : X) (xs : List X) → count_by p (x ∷ xs) ≡ cond (p x) 1 0 + count_by p xs
count_cons p x xs = sum_by-cons (λ x. cond (p x) 1 0) x xs

pub count_join : {X : Type 0} (p : X → Bool) (xs ys : List X) → count_by p (xs ++ ys) ≡ count_by p xs + count_by p ys
count_join p xs ys = sum_by-append (λ x. cond (p x) 1 0) xs ys

pub count_push : {X : Type 0} (p : X → Bool) (xs : List X) (x : X) → count_by p (xs ++ x ∷ []) ≡ count_by p xs + cond (p x) 1 0
count_push p xs x = sum_by_push (λ x. cond (p x) 1 0) xs x

sum_none : {K : Type 0} (ks : List K) → sum_by (λ k. 0) ks ≡ 0
sum_none [] = refl
sum_none (k ∷ ks) = let s = sum_by-cons (λ k. 0) k ks in let i = sum_none ks in omega arith

sum_both : {K : Type 0} (f g : K → ℕ) (ks : List K) → sum_by (λ k. f k + g k) ks ≡ sum_by f ks + sum_by g ks
sum_both f g [] = refl
sum_both f g (k ∷ ks) =
    let s = sum_by-cons (λ k. f k + g k) k ks in
    let a = sum_by-cons f k ks in
    let b = sum_by-cons g k ks in
    let i = sum_both f g ks in
    omega arith

pub sum_same : {K : Type 0} (f g : K → ℕ) (ks : List K) → AllByRecursion (λ k. f k ≡ g k) ks → sum_by f ks ≡ sum_by g ks
sum_same f g [] a = refl
sum_same f g (k ∷ ks) a =
    let s = sum_by-cons f k ks in
    let t = sum_by-cons g k ks in
    let i = sum_same f g ks a.1 in
    let e = a.0 in
    omega arith

sum_where : {K : Type 0} (t : K → Bool) (w : ℕ) (ks : List K) → sum_by (λ k. cond (t k) w 0) ks ≡ count_by t ks * w
sum_where t w [] = omega arith
sum_where t w (k ∷ ks) =
    let s = sum_by-cons (λ k. cond (t k) w 0) k ks in
    let c = count_cons t k ks in
    let i = sum_where t w ks in
    step (t k) refl s c i
  where
    step : (b : Bool) → t k ≡ b → sum_by (λ k. cond (t k) w 0) (k ∷ ks) ≡ cond (t k) w 0 + sum_by (λ k. cond (t k) w 0) ks → count_by t (k ∷ ks) ≡ cond (t k) 1 0 + count_by t ks → sum_by (λ k. cond (t k) w 0) ks ≡ count_by t ks * w → sum_by (λ k. cond (t k) w 0) (k ∷ ks) ≡ count_by t (k ∷ ks) * w
    step true e s c i =
        let a : cond (t k) w 0 ≡ w = ap (λ b. cond b w 0) e in
        let n : count_by t (k ∷ ks) ≡ 1 + count_by t ks = c ∙ ap (λ b. cond b 1 0 + count_by t ks) e in
        let m : count_by t (k ∷ ks) * w ≡ (1 + count_by t ks) * w = ap (λ n. n * w) n in
        omega arith
    step false e s c i =
        let a : cond (t k) w 0 ≡ 0 = ap (λ b. cond b w 0) e in
        let n : count_by t (k ∷ ks) ≡ 0 + count_by t ks = c ∙ ap (λ b. cond b 1 0 + count_by t ks) e in
        let m : count_by t (k ∷ ks) * w ≡ (0 + count_by t ks) * w = ap (λ n. n * w) n in
        omega arith

-- an item in front: it is of the parts that it fits
in_front : {X : Type 0} (w : X → ℕ) (x : X) (xs : List X) (b : Bool) → sum_by w (cond b (x ∷ xs) xs) ≡ cond b (w x) 0 + sum_by w xs
in_front w x xs true = sum_by-cons w x xs
in_front w x xs false = omega arith

pub parts_sum : {X K : Type 0} (w : X → ℕ) (fits : X → K → Bool) (ks : List K) (xs : List X) → AllByRecursion (λ x. count_by (fits x) ks ≡ 1) xs → sum_by (λ k. sum_by w (filter (λ x. fits x k) xs)) ks ≡ sum_by w xs
parts_sum w fits ks [] a = sum_none ks
parts_sum {K = K} w fits ks (x ∷ xs) a =
    let split = sum_same (λ k. sum_by w (filter (λ x. fits x k) (x ∷ xs))) (λ k. cond (fits x k) (w x) 0 + sum_by w (filter (λ x. fits x k) xs)) ks (each ks) in
    let both = sum_both (λ k. cond (fits x k) (w x) 0) (λ k. sum_by w (filter (λ x. fits x k) xs)) ks in
    let here = sum_where (fits x) (w x) ks ∙ ap (λ n. n * w x) a.0 in
    let rest = parts_sum w fits ks xs a.1 in
    let whole = sum_by-cons w x xs in
    omega arith
  where
    each : (ks : List K) → AllByRecursion (λ k. sum_by w (filter (λ x. fits x k) (x ∷ xs)) ≡ cond (fits x k) (w x) 0 + sum_by w (filter (λ x. fits x k) xs)) ks
    each [] = tt
    each (k ∷ ks) = (in_front w x (filter (λ x. fits x k) xs) (fits x k), each ks)

pub parts_count : {X K : Type 0} (p : X → Bool) (fits : X → K → Bool) (ks : List K) (xs : List X) → AllByRecursion (λ x. count_by (fits x) ks ≡ 1) xs → sum_by (λ k. count_by p (filter (λ x. fits x k) xs)) ks ≡ count_by p xs
parts_count p fits ks xs a = parts_sum (λ x. cond (p x) 1 0) fits ks xs a

pub sum_less : {K : Type 0} (f g : K → ℕ) (ks : List K) → ((k : K) → f k ≤ g k) → sum_by f ks ≤ sum_by g ks
sum_less f g [] l = omega arith
sum_less f g (k ∷ ks) l =
    let s = sum_by-cons f k ks in
    let t = sum_by-cons g k ks in
    let i = sum_less f g ks l in
    let e = l k in
    omega arith

pub count_map : {X Y : Type 0} (p : Y → Bool) (f : X → Y) (xs : List X) → count_by p (map f xs) ≡ count_by (λ x. p (f x)) xs
count_map p f [] = refl
count_map p f (x ∷ xs) =
    let a = count_cons p (f x) (map f xs) in
    let b = count_cons (λ x. p (f x)) x xs in
    let i = count_map p f xs in
    omega arith

pub count_all : {X : Type 0} (xs : List X) → count_by (λ x. true) xs ≡ length xs
count_all [] = refl
count_all (x ∷ xs) = let a = count_cons (λ x. true) x xs in let i = count_all xs in omega arith

-- ---- a number that appears is seen once

count_others : (z x : ℕ) (ys : List ℕ) → (z == x) ≡ false → count_by (λ s. z == s) (filter (λ y. not (y == x)) ys) ≡ count_by (λ s. z == s) ys
count_others z x [] e = refl
count_others z x (y ∷ ys) e = step (y == x) refl (count_others z x ys e)
  where
    step : (b : Bool) → (y == x) ≡ b → count_by (λ s. z == s) (filter (λ y. not (y == x)) ys) ≡ count_by (λ s. z == s) ys → count_by (λ s. z == s) (cond (not b) (y ∷ filter (λ y. not (y == x)) ys) (filter (λ y. not (y == x)) ys)) ≡ count_by (λ s. z == s) (y ∷ ys)
    step true f i =
        let same : y ≡ x = eqb-true y x f in
        let other : (z == y) ≡ false = ap (λ t. z == t) same ∙ e in
        let c = count_cons (λ s. z == s) y ys in
        let n = is_nil (z == y) other in
        omega arith
    step false f i =
        let c = count_cons (λ s. z == s) y ys in
        let d = count_cons (λ s. z == s) y (filter (λ y. not (y == x)) ys) in
        omega arith

count_without : (z : ℕ) (ys : List ℕ) → count_by (λ s. z == s) (filter (λ y. not (y == z)) ys) ≡ 0
count_without z [] = refl
count_without z (y ∷ ys) = step (y == z) refl (count_without z ys)
  where
    step : (b : Bool) → (y == z) ≡ b → count_by (λ s. z == s) (filter (λ y. not (y == z)) ys) ≡ 0 → count_by (λ s. z == s) (cond (not b) (y ∷ filter (λ y. not (y == z)) ys) (filter (λ y. not (y == z)) ys)) ≡ 0
    step true f i = i
    step false f i =
        let c = count_cons (λ s. z == s) y (filter (λ y. not (y == z)) ys) in
        let n = is_nil (z == y) (differs (z == y) refl) in
        omega arith
      where
        differs : (b : Bool) → (z == y) ≡ b → (z == y) ≡ false
        differs true g = absurd (false≢true (sym f ∙ ap (λ t. y == t) (eqb-true z y g) ∙ eqb-refl y))
        differs false g = g

pub seen_once : (z : ℕ) (xs : List ℕ) → is_in z xs ≡ true → count_by (λ s. z == s) (first_seen xs) ≡ 1
seen_once z [] i = absurd (false≢true i)
seen_once z (x ∷ xs) i = step (z == x) refl i (λ k. seen_once z xs k)
  where
    step : (b : Bool) → (z == x) ≡ b → b || is_in z xs ≡ true → (is_in z xs ≡ true → count_by (λ s. z == s) (first_seen xs) ≡ 1) → count_by (λ s. z == s) (x ∷ filter (λ y. not (y == x)) (first_seen xs)) ≡ 1
    step true e i rest =
        let same : z ≡ x = eqb-true z x e in
        let c = count_cons (λ s. z == s) x (filter (λ y. not (y == x)) (first_seen xs)) in
        let here = is_one (z == x) e in
        let none : count_by (λ s. z == s) (filter (λ y. not (y == x)) (first_seen xs)) ≡ 0 = subst (λ x. count_by (λ s. z == s) (filter (λ y. not (y == x)) (first_seen xs)) ≡ 0) same (count_without z (first_seen xs)) in
        omega arith
    step false e i rest =
        let c = count_cons (λ s. z == s) x (filter (λ y. not (y == x)) (first_seen xs)) in
        let none = is_nil (z == x) e in
        let others = count_others z x (first_seen xs) e in
        let j = rest i in
        omega arith
