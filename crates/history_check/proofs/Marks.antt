-- What a commit changes of what is kept, one id after another.
use Rattle.std.proofs.Common.{◌≡◌, ℕ, suc, zero, ◌<◌, List, [], ◌∷◌, ◌++◌, get_or, set, map, refl, ap, sym, ◌∙◌, arith, Bool, true, false, ◌||◌, ◌==◌, cond, Some, eq-eqb, ne_eqb}
use Rattle.std.proofs.lemmas.List.Folds.{list_any-append}
use Rattle.tx_events.specs.IdLists.{has, Ascending}
use Rattle.history_check.specs.declared.given.GivenId.{GivenId}
use Rattle.history_check.specs.GivenIds.{IsMissing, IsPlaceOf, given_ids, with_place}
use Rattle.history_check.proofs.Searching.{all_at, further}

abbrev pub key : GivenId → ℕ
key g = g.id

-- the place is set where the test says so
abbrev pub placed : Bool → ℕ → GivenId → GivenId
placed b p g = cond b (record g { committed = Some p }) g

pub mark_missing : (xs : List GivenId) (p x : ℕ) → IsMissing xs x → xs ≡ map (with_place (x ∷ []) p) xs
mark_missing [] p x f = refl
mark_missing (s ∷ xs) p x f =
    let g : (s.id == x) ≡ false = ne_eqb s.id x (λ q. f 0 (omega arith) s q) in
    ap (λ b. placed (b || false) p s ∷ xs) (sym g) ∙ ap (λ t. with_place (x ∷ []) p s ∷ t) (mark_missing xs p x (λ k l d e. f (suc k) (omega arith) d e))

pub mark_at : (xs : List GivenId) (p x k : ℕ) (d : GivenId) → Ascending (given_ids xs) → IsPlaceOf xs x k → set xs k (record (get_or xs k d) { committed = Some p }) ≡ map (with_place (x ∷ []) p) xs
mark_at [] p x k d a i = absurd (omega (arith, i.0))
mark_at (s ∷ xs) p x zero d a i =
    let g : (s.id == x) ≡ true = eq-eqb s.id x (i.1 d) in
    let e : s.id ≡ x = i.1 d in
    ap (λ b. placed (b || false) p s ∷ xs) (sym g)
    ∙ ap (λ t. with_place (x ∷ []) p s ∷ t) (mark_missing xs p x (λ k l d f. let u : s.id < (get_or xs k d).id = all_at key (λ y. s.id < y) xs k d a.0 l in omega arith))
mark_at (s ∷ xs) p x (suc k) d a i =
    let next = further key s xs x k i in
    let f : s.id < (get_or xs k d).id = all_at key (λ y. s.id < y) xs k d a.0 next.0 in
    let g : (s.id == x) ≡ false = ne_eqb s.id x (λ q. omega (arith, next.1 d)) in
    ap (λ b. placed (b || false) p s ∷ set xs k (record (get_or xs k d) { committed = Some p })) (sym g)
    ∙ ap (λ t. with_place (x ∷ []) p s ∷ t) (mark_at xs p x k d a.1 next)

-- one id more, at the same place
pub mark_more : (xs : List GivenId) (ids : List ℕ) (p x : ℕ) → map (with_place (x ∷ []) p) (map (with_place ids p) xs) ≡ map (with_place (ids ++ x ∷ []) p) xs
mark_more [] ids p x = refl
mark_more (s ∷ xs) ids p x =
    ap (λ t. t ∷ map (with_place (x ∷ []) p) (map (with_place ids p) xs)) (one (has ids s.id) ∙ ap (λ b. placed b p s) (sym (list_any-append (λ y. s.id == y) ids (x ∷ []))))
    ∙ ap (λ t. with_place (ids ++ x ∷ []) p s ∷ t) (mark_more xs ids p x)
  where
    twice : (c : Bool) → placed c p (record s { committed = Some p }) ≡ record s { committed = Some p }
    twice true = refl
    twice false = refl

    one : (b : Bool) → with_place (x ∷ []) p (placed b p s) ≡ placed (b || (has (x ∷ []) s.id)) p s
    one true = twice (has (x ∷ []) s.id)
    one false = refl

pub mark_none : (xs : List GivenId) (p : ℕ) → xs ≡ map (with_place [] p) xs
mark_none [] p = refl
mark_none (s ∷ xs) p = ap (λ t. s ∷ t) (mark_none xs p)
