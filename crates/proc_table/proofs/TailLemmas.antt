-- The last ids of a list that ascends are taken off.
use Rattle.std.proofs.Common.{◌≡◌, ℕ, ◌<◌, List, [], ◌∷◌, ◌++◌, refl, ap, sym, ◌∙◌, Bool, true, false, not, cond, ◌==◌, ◌||◌, subst, take, drop, take-append-drop}
use Rattle.std.specs.List.{AllByRecursion, filter}
use Rattle.tx_events.proofs.IdListSteps.{has_true}
use Rattle.tx_events.proofs.ListSteps.{below_not}
use Rattle.tx_events.proofs.Membership.{filter_none_on}
use Rattle.tx_events.specs.IdLists.{Ascending, has}

missing_below : (x : ℕ) (ys : List ℕ) → AllByRecursion (λ y. x < y) ys → has ys x ≡ false
missing_below x [] a = refl
missing_below x (y ∷ ys) a = ap (λ b. b || has ys x) (below_not x y a.0) ∙ missing_below x ys a.1

all_behind : (P : ℕ → Type 0) (front ids : List ℕ) → AllByRecursion P (front ++ ids) → AllByRecursion P ids
all_behind P [] ids a = a
all_behind P (x ∷ front) ids a = all_behind P front ids a.1

tail_taken : (front ids : List ℕ) → Ascending (front ++ ids) → filter (λ x. not (has ids x)) (front ++ ids) ≡ front
tail_taken [] ids a = filter_none_on (λ x. not (has ids x)) ids (λ x k. ap not (has_true ids x k))
tail_taken (x ∷ front) ids a =
    let rest = filter (λ y. not (has ids y)) (front ++ ids) in
    ap (λ b. cond (not b) (x ∷ rest) rest) (missing_below x ids (all_behind (λ y. x < y) front ids a.0))
    ∙ ap (λ l. x ∷ l) (tail_taken front ids a.1)

pub taken_off : (items ids : List ℕ) (from : ℕ) → Ascending items → drop from items ≡ ids → filter (λ x. not (has ids x)) items ≡ take from items
taken_off items ids from a is =
    let whole : take from items ++ ids ≡ items = ap (λ l. take from items ++ l) (sym is) ∙ take-append-drop from items in
    subst (λ l. filter (λ x. not (has ids x)) l ≡ take from items) whole (tail_taken (take from items) ids (subst Ascending (sym whole) a))
