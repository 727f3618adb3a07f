-- Lists, item by item and side by side.
use Rattle.proc_table.specs.Entries.{IsEach}
use Rattle.proc_table.specs.Lists.{entries_below, some_overflowed}
use Rattle.proc_table.specs.declared.entry.Entry.{Entry}
use Rattle.std.proofs.Common.{◌≡◌, ℕ, suc, zero, ◌<◌, ◌≤◌, List, [], ◌∷◌, length, refl, ap, sym, ◌∙◌, arith, Bool, true, false, ◌==◌, ◌||◌, cond, subst, ⊎_elim, nat_lt, map, Less, Equal, Greater}
use Rattle.std.proofs.lemmas.Bool.{false≢true, or_cases}
use Rattle.std.proofs.lemmas.Bool.Decides.{nat_tests}
use Rattle.std.proofs.lemmas.List.Elements.{All-from_recursion, recursion_from_All}
use Rattle.std.specs.List.{filter, AllByRecursion, list_any, AllZip, slice_index_or, Any, All}
use Rattle.std.specs.Ordering.{nat_cmp, is_lt}
use Rattle.std.proofs.Math.Bool.{or-true}
use Rattle.tx_events.proofs.ListSteps.{all_filter}

pub all-filter : {X : Type 0} (P : X → Type 0) (q : X → Bool) (xs : List X) → All P xs → All P (filter q xs)
all-filter P q xs a = All-from_recursion P (filter q xs) (all_filter P q xs (recursion_from_All P xs a))

zip_from : {X : Type 0} (R : X → X → Type 0) (xs ys : List X) → length ys ≡ length xs → ((k : ℕ) (d : X) → k < length xs → R (slice_index_or xs k d) (slice_index_or ys k d)) → AllZip R xs ys
zip_from R [] [] e f = tt
zip_from R [] (y ∷ ys) e f = absurd (omega arith)
zip_from R (x ∷ xs) [] e f = absurd (omega arith)
zip_from R (x ∷ xs) (y ∷ ys) e f = (f 0 x (omega arith), zip_from R xs ys (omega arith) (λ k d l. f (suc k) d (omega arith)))

pub zip_from_each : {X : Type 0} (R : X → X → Type 0) (xs ys : List X) → IsEach R xs ys → AllZip R xs ys
zip_from_each R xs ys i = zip_from R xs ys i.same_length i.at

pub any_all : {X : Type 0} (P Q : X → Type 0) (xs : List X) → Any P xs → AllByRecursion Q xs → (x : X) × (P x × Q x)
any_all P Q xs a b = (a.1, (a.4, subst Q a.3 (All-from_recursion Q xs b a.0 a.1 a.2)))

pub each_zip : {X : Type 0} (P Q : X → Type 0) (R : X → X → Type 0) → ((x y : X) → P x → R x y → Q y) → (xs ys : List X) → AllByRecursion P xs → AllZip R xs ys → AllByRecursion Q ys
each_zip P Q R f [] [] a z = tt
each_zip P Q R f [] (y ∷ ys) a z = absurd z
each_zip P Q R f (x ∷ xs) [] a z = absurd z
each_zip P Q R f (x ∷ xs) (y ∷ ys) a z = (f x y a.0 z.0, each_zip P Q R f xs ys a.1 z.1)

pub same_zip : {X Y : Type 0} (g : X → Y) (R : X → X → Type 0) → ((x y : X) → R x y → g y ≡ g x) → (xs ys : List X) → AllZip R xs ys → map g ys ≡ map g xs
same_zip g R f [] [] z = refl
same_zip g R f [] (y ∷ ys) z = absurd z
same_zip g R f (x ∷ xs) [] z = absurd z
same_zip g R f (x ∷ xs) (y ∷ ys) z = rw (f x y z.0) (ap (λ t. g x ∷ t) (same_zip g R f xs ys z.1))

pub any_zip : {X : Type 0} (p : X → Bool) (R : X → X → Type 0) → ((x y : X) → R x y → p y ≡ p x) → (xs ys : List X) → AllZip R xs ys → list_any p ys ≡ list_any p xs
any_zip p R f [] [] z = refl
any_zip p R f [] (y ∷ ys) z = absurd z
any_zip p R f (x ∷ xs) [] z = absurd z
any_zip p R f (x ∷ xs) (y ∷ ys) z = rw (f x y z.0) (ap (λ t. p x || t) (any_zip p R f xs ys z.1))

-- at an end: the entries of other tops stay
kept_one : {X : Type 0} (P Q : X → Type 0) (q : X → Bool) (x : X) (ys : List X) (c : Bool) → q x ≡ c → ((x : X) → P x → q x ≡ true → Q x) → P x → AllByRecursion Q ys → AllByRecursion Q (cond c (x ∷ ys) ys)
kept_one P Q q x ys true e f a b = (f x a e, b)
kept_one P Q q x ys false e f a b = b

pub all_kept : {X : Type 0} (P Q : X → Type 0) (q : X → Bool) → ((x : X) → P x → q x ≡ true → Q x) → (xs : List X) → AllByRecursion P xs → AllByRecursion Q (filter q xs)
all_kept P Q q f [] a = tt
all_kept P Q q f (x ∷ xs) a = kept_one P Q q x (filter q xs) (q x) refl f a.0 (all_kept P Q q f xs a.1)

pub map_filter : {X Y : Type 0} (g : X → Y) (q : Y → Bool) (xs : List X) → map g (filter (λ x. q (g x)) xs) ≡ filter q (map g xs)
map_filter g q [] = refl
map_filter g q (x ∷ xs) = one (q (g x)) (map_filter g q xs)
  where
    one : (c : Bool) → map g (filter (λ x. q (g x)) xs) ≡ filter q (map g xs) → map g (cond c (x ∷ filter (λ x. q (g x)) xs) (filter (λ x. q (g x)) xs)) ≡ cond c (g x ∷ filter q (map g xs)) (filter q (map g xs))
    one true e = ap (λ t. g x ∷ t) e
    one false e = e

pub pick : {X : Type 0} (P : X → Type 0) (q : X → Bool) (xs : List X) → AllByRecursion P xs → list_any q xs ≡ true → (x : X) × (P x × (q x ≡ true))
pick P q [] a f = absurd (false≢true f)
pick P q (x ∷ xs) a f = ⊎_elim (λ e. (x, (a.0, e))) (λ e. pick P q xs a.1 e) (or_cases (q x) (list_any q xs) f)

-- an entry at a place that has overflowed and whose top is below the limit
pub over_at : (es : List Entry) (limit k : ℕ) (e : Entry) → k < length es → e ≡ slice_index_or es k e → nat_lt e.top limit ≡ true → e.overflowed ≡ true → some_overflowed (entries_below es limit) ≡ true
over_at [] limit k e l i t o = absurd (omega arith)
over_at (x ∷ es) limit zero e l i t o =
    ap (λ b. some_overflowed (cond b (x ∷ entries_below es limit) (entries_below es limit))) (ap (λ (y : Entry). nat_lt y.top limit) (sym i) ∙ t)
    ∙ ap (λ b. b || some_overflowed (entries_below es limit)) (ap (λ (y : Entry). y.overflowed) (sym i) ∙ o)
over_at (x ∷ es) limit (suc k) e l i t o = one (nat_lt x.top limit) (over_at es limit k e (omega arith) i t o)
  where
    one : (b : Bool) → some_overflowed (entries_below es limit) ≡ true → some_overflowed (cond b (x ∷ entries_below es limit) (entries_below es limit)) ≡ true
    one true f = ap (λ b. x.overflowed || b) f ∙ or-true x.overflowed
    one false f = f

-- what the order of two numbers tells
pub cmp_lt : (a b : ℕ) → is_lt (nat_cmp a b) ≡ nat_lt a b
cmp_lt a b = one (nat_lt a b) (a == b)
  where
    one : (c d : Bool) → is_lt (cond c Less (cond d Equal Greater)) ≡ c
    one true d = refl
    one false true = refl
    one false false = refl
