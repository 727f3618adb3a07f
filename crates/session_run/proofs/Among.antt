-- Numbers, none of which stands twice.
use Rattle.std.proofs.Common.{◌≡◌, ◌≢◌, ◌||◌, ◌==◌, ℕ, zero, suc, ◌<◌, Bool, true, false, not, cond, Contains, List, [], ◌∷◌, ◌++◌, refl, sym, ap, subst, ◌∙◌, arith, eqb-true, get_or, length, take}
use Rattle.std.proofs.lemmas.Bool.{false≢true}
use Rattle.std.proofs.lemmas.Bool.Decides.{nat_tests}
use Rattle.std.proofs.lemmas.List.Elements.{filter-append}
use Rattle.std.specs.List.{filter}
use Rattle.tx_events.specs.Places.{first_seen}
use Rattle.tx_events.proofs.ListSteps.{eqb-refl}
use Rattle.engine_host.specs.Hosts.{without}
use Rattle.session_run.specs.Rounds.{AreApart, is_among}

pub eqb-swap : (a b : ℕ) → (a == b) ≡ (b == a)
eqb-swap a b = grind (arith, nat_tests)

or_true : (b : Bool) → (b || true) ≡ true
or_true false = refl
or_true true = refl

pub or_false_left : (a b : Bool) → (a || b) ≡ false → a ≡ false
or_false_left false b e = refl
or_false_left true b e = absurd (false≢true (sym e))

pub or_false_right : (a b : Bool) → (a || b) ≡ false → b ≡ false
or_false_right false b e = e
or_false_right true b e = absurd (false≢true (sym e))

pub among_append : (xs ys : List ℕ) (n : ℕ) → is_among (xs ++ ys) n ≡ (is_among xs n || is_among ys n)
among_append [] ys n = refl
among_append (x ∷ xs) ys n = step (x == n) (among_append xs ys n)
  where
    step : (b : Bool) → is_among (xs ++ ys) n ≡ (is_among xs n || is_among ys n) → (b || is_among (xs ++ ys) n) ≡ ((b || is_among xs n) || is_among ys n)
    step true e = refl
    step false e = e

pub among_last : (xs : List ℕ) (n : ℕ) → is_among (xs ++ n ∷ []) n ≡ true
among_last xs n = among_append xs (n ∷ []) n ∙ ap (λ b. is_among xs n || (b || false)) (eqb-refl n) ∙ or_true (is_among xs n)

pub among_front : (xs ys : List ℕ) (n : ℕ) → is_among xs n ≡ true → is_among (xs ++ ys) n ≡ true
among_front xs ys n e = among_append xs ys n ∙ ap (λ b. b || is_among ys n) e

-- what isn't among the first and the next
pub not_next : (xs : List ℕ) (x n : ℕ) → is_among (xs ++ x ∷ []) n ≡ false → (is_among xs n ≡ false) × (n ≢ x)
not_next xs x n e =
    let both = sym (among_append xs (x ∷ []) n) ∙ e in
    let last = or_false_left (x == n) false (or_false_right (is_among xs n) (is_among (x ∷ []) n) both) in
    (or_false_left (is_among xs n) (is_among (x ∷ []) n) both, (λ q. false≢true (sym last ∙ ap (λ k. x == k) q ∙ eqb-refl x)))

pub among_both : (xs : List ℕ) (x n : ℕ) → is_among xs n ≡ false → n ≢ x → is_among (xs ++ x ∷ []) n ≡ false
among_both xs x n e q =
    let other : (x == n) ≡ false = grind (arith, nat_tests) in
    among_append xs (x ∷ []) n ∙ ap (λ b. b || ((x == n) || false)) e ∙ ap (λ b. b || false) other

pub contains_among : (xs : List ℕ) (n : ℕ) → Contains xs n → is_among xs n ≡ true
contains_among [] n c = absurd (omega (arith, c.1))
contains_among (x ∷ xs) n (zero, l, e) = ap (λ b. b || is_among xs n) (ap (λ k. k == n) e ∙ eqb-refl n)
contains_among (x ∷ xs) n (suc k, l, e) = ap (λ b. (x == n) || b) (contains_among xs n (k, omega (arith, l), e)) ∙ or_true (x == n)

pub among_contains : (xs : List ℕ) (n : ℕ) → is_among xs n ≡ true → Contains xs n
among_contains [] n e = absurd (false≢true e)
among_contains (x ∷ xs) n e = step (x == n) refl e (among_contains xs n)
  where
    step : (b : Bool) → (x == n) ≡ b → (b || is_among xs n) ≡ true → (is_among xs n ≡ true → Contains xs n) → Contains (x ∷ xs) n
    step true q e i = (0, omega arith, eqb-true x n q)
    step false q e i = let c = i e in (suc c.0, omega (arith, c.1), c.2)

pub contains_moved : (xs : List ℕ) (x n : ℕ) → Contains (x ∷ xs) n → Contains (xs ++ x ∷ []) n
contains_moved xs x n c =
    among_contains (xs ++ x ∷ []) n (among_append xs (x ∷ []) n ∙ turn (x == n) (is_among xs n) (contains_among (x ∷ xs) n c))
  where
    turn : (a b : Bool) → (a || b) ≡ true → (b || (a || false)) ≡ true
    turn true b e = or_true b
    turn false b e = ap (λ c. c || false) e

-- the place of a number that is among these
pub among_place : (xs : List ℕ) (n : ℕ) → is_among xs n ≡ true → (k : ℕ) × (k < length xs) × (get_or xs k 0 ≡ n)
among_place [] n e = absurd (false≢true e)
among_place (x ∷ xs) n e = step (x == n) refl e (among_place xs n)
  where
    step : (b : Bool) → (x == n) ≡ b → (b || is_among xs n) ≡ true → (is_among xs n ≡ true → (k : ℕ) × (k < length xs) × (get_or xs k 0 ≡ n)) → (k : ℕ) × (k < length (x ∷ xs)) × (get_or (x ∷ xs) k 0 ≡ n)
    step true q e i = (0, omega arith, eqb-true x n q)
    step false q e i = let c = i e in (suc c.0, omega (arith, c.1), c.2)

-- each is among them
pub at_among : (xs : List ℕ) (k : ℕ) → k < length xs → is_among xs (get_or xs k 0) ≡ true
at_among [] k l = absurd (omega (arith, l))
at_among (x ∷ xs) zero l = ap (λ b. b || is_among xs x) (eqb-refl x)
at_among (x ∷ xs) (suc k) l = ap (λ b. (x == get_or xs k 0) || b) (at_among xs k (omega (arith, l))) ∙ or_true (x == get_or xs k 0)

other_than : (xs : List ℕ) (n k : ℕ) → is_among xs n ≡ false → k < length xs → (n == get_or xs k 0) ≡ false
other_than [] n k e l = absurd (omega (arith, l))
other_than (x ∷ xs) n zero e l = eqb-swap n x ∙ or_false_left (x == n) (is_among xs n) e
other_than (x ∷ xs) n (suc k) e l = other_than xs n k (or_false_right (x == n) (is_among xs n) e) (omega (arith, l))

-- a number isn't among those before it
pub apart_front : (xs : List ℕ) (k : ℕ) → AreApart xs → k < length xs → is_among (take k xs) (get_or xs k 0) ≡ false
apart_front [] k a l = absurd (omega (arith, l))
apart_front (x ∷ xs) zero a l = refl
apart_front (x ∷ xs) (suc k) a l =
    ap (λ b. b || is_among (take k xs) (get_or xs k 0)) (other_than xs x k a.0 (omega (arith, l)))
    ∙ apart_front xs k a.1 (omega (arith, l))

pub apart_last : (xs : List ℕ) (n : ℕ) → AreApart (xs ++ n ∷ []) → AreApart xs × (is_among xs n ≡ false)
apart_last [] n a = (tt, refl)
apart_last (x ∷ xs) n a =
    let rest = apart_last xs n a.1 in
    let both = sym (among_append xs (n ∷ []) x) ∙ a.0 in
    let here = or_false_left (n == x) false (or_false_right (is_among xs x) (is_among (n ∷ []) x) both) in
    ((or_false_left (is_among xs x) (is_among (n ∷ []) x) both, rest.0), ap (λ b. b || is_among xs n) (eqb-swap x n ∙ here) ∙ rest.1)

-- those but the last
among_without : (xs : List ℕ) (n m : ℕ) → is_among (without n xs) m ≡ true → is_among xs m ≡ true
among_without [] n m e = e
among_without (x ∷ xs) n m e = step (x == n) e (among_without xs n m)
  where
    keep : (b : Bool) → (b || is_among (without n xs) m) ≡ true → (is_among (without n xs) m ≡ true → is_among xs m ≡ true) → (b || is_among xs m) ≡ true
    keep true e i = refl
    keep false e i = i e

    step : (b : Bool) → is_among (cond (not b) (x ∷ without n xs) (without n xs)) m ≡ true → (is_among (without n xs) m ≡ true → is_among xs m ≡ true) → ((x == m) || is_among xs m) ≡ true
    step true e i = ap (λ b. (x == m) || b) (i e) ∙ or_true (x == m)
    step false e i = keep (x == m) e i

pub without_last : (xs : List ℕ) (n m : ℕ) → Contains (without n (xs ++ n ∷ [])) m → Contains xs m
without_last xs n m c =
    let none : without n (n ∷ []) ≡ [] = ap (λ b. cond (not b) (n ∷ []) []) (eqb-refl n) in
    let same : without n (xs ++ n ∷ []) ≡ without n xs ++ [] =
    filter-append (λ k. not (k == n)) xs (n ∷ []) ∙ ap (λ t. without n xs ++ t) none in
    let found = contains_among (without n xs ++ []) m (subst (λ t. Contains t m) same c) in
    among_contains xs m (among_without xs n m (no_more (is_among (without n xs) m) (sym (among_append (without n xs) [] m) ∙ found)))
  where
    no_more : (b : Bool) → (b || false) ≡ true → b ≡ true
    no_more true e = refl
    no_more false e = e

-- ---- the sessions of a round

not_among : (x : ℕ) (ys : List ℕ) → is_among (filter (λ y. not (y == x)) ys) x ≡ false
not_among x [] = refl
not_among x (y ∷ ys) = step (y == x) refl (not_among x ys)
  where
    step : (b : Bool) → (y == x) ≡ b → is_among (filter (λ y. not (y == x)) ys) x ≡ false → is_among (cond (not b) (y ∷ filter (λ y. not (y == x)) ys) (filter (λ y. not (y == x)) ys)) x ≡ false
    step true e i = i
    step false e i = ap (λ b. b || is_among (filter (λ y. not (y == x)) ys) x) e ∙ i

fewer_among : (x k : ℕ) (ys : List ℕ) → is_among ys k ≡ false → is_among (filter (λ y. not (y == x)) ys) k ≡ false
fewer_among x k [] e = refl
fewer_among x k (y ∷ ys) e = step (y == x) (y == k) refl e (fewer_among x k ys)
  where
    step : (b c : Bool) → (y == k) ≡ c → (c || is_among ys k) ≡ false → (is_among ys k ≡ false → is_among (filter (λ y. not (y == x)) ys) k ≡ false) → is_among (cond (not b) (y ∷ filter (λ y. not (y == x)) ys) (filter (λ y. not (y == x)) ys)) k ≡ false
    step b true q e i = absurd (false≢true (sym e))
    step true false q e i = i e
    step false false q e i = ap (λ c. c || is_among (filter (λ y. not (y == x)) ys) k) q ∙ i e

apart_filter : (x : ℕ) (ys : List ℕ) → AreApart ys → AreApart (filter (λ y. not (y == x)) ys)
apart_filter x [] d = tt
apart_filter x (y ∷ ys) d = step (y == x) (apart_filter x ys d.1)
  where
    step : (b : Bool) → AreApart (filter (λ y. not (y == x)) ys) → AreApart (cond (not b) (y ∷ filter (λ y. not (y == x)) ys) (filter (λ y. not (y == x)) ys))
    step true i = i
    step false i = (fewer_among x y ys d.0, i)

pub first_apart : (xs : List ℕ) → AreApart (first_seen xs)
first_apart [] = tt
first_apart (x ∷ xs) = (not_among x (first_seen xs), apart_filter x (first_seen xs) (first_apart xs))
