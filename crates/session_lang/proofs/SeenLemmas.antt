-- Numbers in the order in which they first appear.
use Rattle.std.proofs.Common.{◌≡◌, ℕ, ◌+◌, ◌<◌, ◌≤◌, List, [], ◌∷◌, ◌++◌, refl, sym, ap, ◌∙◌, length, get_or, zero, suc, arith, Bool, true, false, not, ◌||◌, ◌==◌, length-append, eqb-true, eq-eqb, ◌≢◌}
use Rattle.std.proofs.lemmas.List.{append-nil}
use Rattle.std.proofs.lemmas.Bool.{false≢true}
use Rattle.std.proofs.lemmas.List.Elements.{filter-append}
use Rattle.std.proofs.lemmas.List.FromFn.{get_or-range_with_len, length-range_with_len}
use Rattle.std.proofs.Math.Seq.{get_or-append_seam}
use Rattle.std.specs.List.{filter, range_with_len}
use Rattle.tx_events.specs.Places.{first_seen}

abbrev pub is_in : ℕ → List ℕ → Bool
is_in y [] = false
is_in y (x ∷ xs) = (y == x) || is_in y xs

filter_all : (xs : List ℕ) → filter (λ y. not (is_in y [])) xs ≡ xs
filter_all [] = refl
filter_all (x ∷ xs) = ap (λ t. x ∷ t) (filter_all xs)

both_step : (x z : ℕ) (ys zs : List ℕ) (a b : Bool) → (z == x) ≡ a → is_in z ys ≡ b → filter (λ y. not (y == x)) (filter (λ y. not (is_in y ys)) zs) ≡ filter (λ y. not (is_in y (x ∷ ys))) zs → filter (λ y. not (y == x)) (filter (λ y. not (is_in y ys)) (z ∷ zs)) ≡ filter (λ y. not (is_in y (x ∷ ys))) (z ∷ zs)
both_step x z ys zs true true e f i = rw (f, e) i
both_step x z ys zs true false e f i = rw (f, e) i
both_step x z ys zs false true e f i = rw (f, e) i
both_step x z ys zs false false e f i = rw (f, e) (ap (λ t. z ∷ t) i)

filter_both : (x : ℕ) (ys zs : List ℕ) → filter (λ y. not (y == x)) (filter (λ y. not (is_in y ys)) zs) ≡ filter (λ y. not (is_in y (x ∷ ys))) zs
filter_both x ys [] = refl
filter_both x ys (z ∷ zs) = both_step x z ys zs (z == x) (is_in z ys) refl refl (filter_both x ys zs)

pub seen-append : (xs ys : List ℕ) → first_seen (xs ++ ys) ≡ first_seen xs ++ filter (λ y. not (is_in y xs)) (first_seen ys)
seen-append [] ys = sym (filter_all (first_seen ys))
seen-append (x ∷ xs) ys = ap (λ t. x ∷ t) (
    ap (filter (λ y. not (y == x))) (seen-append xs ys)
    ∙ filter-append (λ y. not (y == x)) (first_seen xs) (filter (λ y. not (is_in y xs)) (first_seen ys))
    ∙ ap (λ t. filter (λ y. not (y == x)) (first_seen xs) ++ t) (filter_both x xs (first_seen ys))
    )

others_step : (k x z : ℕ) (zs : List ℕ) (b : Bool) → (k == x) ≡ false → (z == x) ≡ b → is_in k (filter (λ y. not (y == x)) zs) ≡ is_in k zs → is_in k (filter (λ y. not (y == x)) (z ∷ zs)) ≡ is_in k (z ∷ zs)
others_step k x z zs true e f i =
    let same : z ≡ x = eqb-true z x f in
    let other : (k == z) ≡ false = ap (λ t. k == t) same ∙ e in
    rw (f, other) i
others_step k x z zs false e f i = rw f (ap (λ t. (k == z) || t) i)

is_in_others : (k x : ℕ) (zs : List ℕ) → (k == x) ≡ false → is_in k (filter (λ y. not (y == x)) zs) ≡ is_in k zs
is_in_others k x [] e = refl
is_in_others k x (z ∷ zs) e = others_step k x z zs (z == x) e refl (is_in_others k x zs e)

seen_step : (k x : ℕ) (xs : List ℕ) (b : Bool) → (k == x) ≡ b → is_in k (first_seen xs) ≡ is_in k xs → is_in k (first_seen (x ∷ xs)) ≡ is_in k (x ∷ xs)
seen_step k x xs true e i = rw e refl
seen_step k x xs false e i = rw e (is_in_others k x (first_seen xs) e ∙ i)

pub is_in_seen : (k : ℕ) (xs : List ℕ) → is_in k (first_seen xs) ≡ is_in k xs
is_in_seen k [] = refl
is_in_seen k (x ∷ xs) = seen_step k x xs (k == x) refl (is_in_seen k xs)

range_step : (k a n : ℕ) (b : Bool) → (k == a) ≡ b → b || is_in k (range_with_len (a + 1) n) ≡ true → (is_in k (range_with_len (a + 1) n) ≡ true → k < a + 1 + n) → k < a + suc n
range_step k a n true e h i = let same : k ≡ a = eqb-true k a e in omega arith
range_step k a n false e h i = let l = i h in omega arith

pub is_in_range : (k a n : ℕ) → is_in k (range_with_len a n) ≡ true → k < a + n
is_in_range k a zero e = absurd (false≢true e)
is_in_range k a (suc n) e = range_step k a n (k == a) refl e (is_in_range k (a + 1) n)

-- the next number
pub next_number : (k n m : ℕ) (xs ys : List ℕ) → first_seen xs ≡ range_with_len 0 n → is_in k xs ≡ false → first_seen (xs ++ k ∷ ys) ≡ range_with_len 0 m → k ≡ n
next_number k n m xs ys e o f =
    let rest = filter (λ y. not (is_in y xs)) (filter (λ y. not (y == k)) (first_seen ys)) in
    let t : range_with_len 0 m ≡ range_with_len 0 n ++ k ∷ rest = sym f ∙ seen-append xs (k ∷ ys) ∙ rw (e, o) refl in
    let front : length (range_with_len 0 n) ≡ n = length-range_with_len 0 n in
    let total : length (range_with_len 0 n ++ k ∷ rest) ≡ m = sym (ap length t) ∙ length-range_with_len 0 m in
    let sizes : length (range_with_len 0 n) + suc (length rest) ≡ m = sym (length-append (range_with_len 0 n) (k ∷ rest)) ∙ total in
    let there : get_or (range_with_len 0 m) n 0 ≡ 0 + n = get_or-range_with_len 0 m n 0 (omega arith) in
    let seam : get_or (range_with_len 0 n ++ k ∷ rest) (length (range_with_len 0 n)) 0 ≡ k = get_or-append_seam (range_with_len 0 n) k rest 0 in
    let here : get_or (range_with_len 0 m) n 0 ≡ k = ap (λ l. get_or l n 0) t ∙ (rw front at seam) in
    omega arith

-- a number that has appeared
pub old_number : (k n : ℕ) (xs : List ℕ) → first_seen xs ≡ range_with_len 0 n → is_in k xs ≡ true → k < n
old_number k n xs e o = let w = is_in_range k 0 n (ap (is_in k) (sym e) ∙ is_in_seen k xs ∙ o) in omega arith

-- one more number
pub push_old : (k : ℕ) (xs : List ℕ) → is_in k xs ≡ true → first_seen (xs ++ k ∷ []) ≡ first_seen xs
push_old k xs o = seen-append xs (k ∷ []) ∙ rw o (append-nil (first_seen xs))

pub push_next : (k : ℕ) (xs : List ℕ) → is_in k xs ≡ false → first_seen (xs ++ k ∷ []) ≡ first_seen xs ++ k ∷ []
push_next k xs o = seen-append xs (k ∷ []) ∙ rw o refl

reach_step : (k a n : ℕ) (b : Bool) → (k == a) ≡ b → (k ≢ a → is_in k (range_with_len (a + 1) n) ≡ true) → b || is_in k (range_with_len (a + 1) n) ≡ true
reach_step k a n true e i = refl
reach_step k a n false e i = i (λ same. false≢true (sym e ∙ eq-eqb k a same))

pub in_range : (k a n : ℕ) → a ≤ k → k < a + n → is_in k (range_with_len a n) ≡ true
in_range k a zero l m = absurd (omega arith)
in_range k a (suc n) l m = reach_step k a n (k == a) refl (λ other. in_range k (a + 1) n (omega arith) (omega arith))

-- each number below has appeared
pub has_appeared : (k n : ℕ) (xs : List ℕ) → first_seen xs ≡ range_with_len 0 n → k < n → is_in k xs ≡ true
has_appeared k n xs e l = sym (is_in_seen k xs) ∙ ap (is_in k) e ∙ in_range k 0 n (omega arith) (omega arith)

not_yet_step : (k n : ℕ) (xs : List ℕ) (b : Bool) → is_in k xs ≡ b → first_seen xs ≡ range_with_len 0 n → n ≤ k → is_in k xs ≡ false
not_yet_step k n xs true i e l = let w = old_number k n xs e i in absurd (omega arith)
not_yet_step k n xs false i e l = i

pub not_yet : (k n : ℕ) (xs : List ℕ) → first_seen xs ≡ range_with_len 0 n → n ≤ k → is_in k xs ≡ false
not_yet k n xs e l = not_yet_step k n xs (is_in k xs) refl e l
