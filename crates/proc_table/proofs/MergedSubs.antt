-- The subids of some tops, top by top, are those of them all in another order.
use Rattle.std.proofs.Math.Bool.{and-false}
use Rattle.std.proofs.Common.{◌≡◌, ℕ, ◌<◌, List, [], ◌∷◌, ◌++◌, refl, ap, sym, ◌∙◌, arith, Bool, true, false, not, ◌&&◌, ◌==◌, ◌||◌, subst}
use Rattle.std.proofs.lemmas.Bool.Decides.{nat_tests}
use Rattle.std.proofs.lemmas.List.Elements.{filter_agree}
use Rattle.std.proofs.lemmas.List.Sorted.{IsPermutation-refl, IsPermutation-sym, IsPermutation-trans, IsPermutation-append, IsPermutation-filter_both}
use Rattle.std.specs.List.{filter, AllByRecursion, list_any, flat_map}
use Rattle.std.specs.List.Sorted.{IsPermutation}
use Rattle.tx_events.proofs.ListSteps.{filter_in_turn, equal_swap}
use Rattle.tx_events.specs.Families.{top, is_top}
use Rattle.tx_events.specs.IdLists.{Ascending}
use Rattle.tx_events.specs.Running.{running}
use Rattle.tx_events.specs.Snapshots.{running_subs}
use Rattle.tx_events.specs.declared.event.Event.{Event}

-- a top of the rest isn't t
not_of_rest : (t u : ℕ) (ts : List ℕ) → AllByRecursion (λ y. t < y) ts → (u == t) ≡ true → list_any (λ t. t == u) ts ≡ false
not_of_rest t u [] a e = refl
not_of_rest t u (v ∷ ts) a e = rw (apart t u v a.0 e) (not_of_rest t u ts a.1 e)
  where
    apart : (t u v : ℕ) → t < v → (u == t) ≡ true → (v == u) ≡ false
    apart t u v f g = grind (arith, nat_tests)

never : (xs : List ℕ) (q : ℕ → Bool) → ((x : ℕ) → q x ≡ false) → filter q xs ≡ []
never [] q f = refl
never (x ∷ xs) q f = rw (f x) (never xs q f)

mine_of : (xs : List ℕ) (b c d c' : ℕ → Bool) → ((x : ℕ) → c' x ≡ c x) → filter c (filter (λ x. not (b x) && (c' x || d x)) xs) ≡ filter (λ x. c x && not (b x)) xs
mine_of xs b c d c' e =
    sym (filter_in_turn (λ x. not (b x) && (c' x || d x)) c xs)
    ∙ filter_agree (λ x. (not (b x) && (c' x || d x)) && c x) (λ x. c x && not (b x)) (λ x. ap (λ v. (not (b x) && (v || d x)) && c x) (e x) ∙ bools (b x) (c x) (d x)) xs
  where
    bools : (b c d : Bool) → ((not b && (c || d)) && c) ≡ (c && not b)
    bools true true d = refl
    bools true false d = refl
    bools false true d = refl
    bools false false true = refl
    bools false false false = refl

rest_of : (xs : List ℕ) (b c d c' : ℕ → Bool) → ((x : ℕ) → c' x ≡ c x) → ((x : ℕ) → c x ≡ true → d x ≡ false) → filter (λ x. not (c x)) (filter (λ x. not (b x) && (c' x || d x)) xs) ≡ filter (λ x. not (b x) && d x) xs
rest_of xs b c d c' e f =
    sym (filter_in_turn (λ x. not (b x) && (c' x || d x)) (λ x. not (c x)) xs)
    ∙ filter_agree (λ x. (not (b x) && (c' x || d x)) && not (c x)) (λ x. not (b x) && d x) (λ x. ap (λ v. (not (b x) && (v || d x)) && not (c x)) (e x) ∙ bools (b x) (c x) (d x) (f x)) xs
  where
    bools : (b c d : Bool) → (c ≡ true → d ≡ false) → ((not b && (c || d)) && not c) ≡ (not b && d)
    bools true c d f = refl
    bools false true d f = sym (f refl)
    bools false false true f = refl
    bools false false false f = refl

joined : (us vs ws whole : List ℕ) (own other : ℕ → Bool) → ((x : ℕ) → other x ≡ not (own x)) → filter own whole ≡ us → filter other whole ≡ ws → IsPermutation vs ws → IsPermutation (us ++ vs) whole
joined us vs ws whole own other o mine rest p =
    IsPermutation-trans (us ++ vs) (filter own whole ++ filter other whole) whole
    (subst (λ l. IsPermutation (us ++ vs) (l ++ filter other whole)) (sym mine)
    (subst (λ l. IsPermutation (us ++ vs) (us ++ l)) (sym rest) (IsPermutation-append us us vs ws (IsPermutation-refl us) p)))
    (IsPermutation-sym whole (filter own whole ++ filter other whole) (IsPermutation-filter_both own other o whole))

pub grouped : (h : List Event) (ts : List ℕ) → Ascending ts → IsPermutation (flat_map (running_subs h) ts) (filter (λ x. not (is_top h x) && list_any (λ t. t == top h x) ts) (running h))
grouped h [] a = subst (IsPermutation []) (sym (never (running h) (λ x. not (is_top h x) && false) (λ x. and-false (not (is_top h x))))) (IsPermutation-refl [])
grouped h (t ∷ ts) a =
    let any : ℕ → Bool = λ x. list_any (λ t. t == top h x) ts in
    let own : ℕ → Bool = λ x. top h x == t in
    let other : ℕ → Bool = λ x. not (top h x == t) in
    joined (running_subs h t) (flat_map (running_subs h) ts) (filter (λ x. not (is_top h x) && any x) (running h)) (filter (λ x. not (is_top h x) && ((t == top h x) || any x)) (running h)) own other
    (λ x. refl) (mine_of (running h) (is_top h) own any (λ x. t == top h x) (λ x. equal_swap t (top h x)))
    (rest_of (running h) (is_top h) own any (λ x. t == top h x) (λ x. equal_swap t (top h x)) (λ x e. not_of_rest t (top h x) ts a.0 e))
    (grouped h ts a.1)
