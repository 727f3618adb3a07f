-- Lists of numbers: who stands in them, by recursion and by std's words.
use Rattle.std.proofs.Common.{◌≡◌, ◌≢◌, ℕ, zero, suc, ◌+◌, ◌<◌, ◌≤◌, ◌⊎◌, List, [], ◌∷◌, ◌++◌, length, get_or, All, Contains, refl, sym, ◌∙◌, subst, inl, inr, ⊎_elim, arith}
use Rattle.std.proofs.lemmas.List.Kept.{AllPairs-cons}
use Rattle.group_list.specs.Log.{without, EachOnce}
use Rattle.group_list.proofs.Cases.{if_case}

abbrev pub In : ℕ → List ℕ → Type 0
In j [] = ⊥
In j (x ∷ xs) = (j ≡ x) ⊎ In j xs

abbrev pub Once : List ℕ → Type 0
Once [] = Unit {0}
Once (x ∷ xs) = (In x xs → ⊥) × Once xs

in_at : (xs : List ℕ) (k j : ℕ) → k < length xs → get_or xs k j ≡ j → In j xs
in_at [] k j lt e = absurd (omega arith)
in_at (x ∷ xs) zero j lt e = inl (sym e)
in_at (x ∷ xs) (suc k) j lt e = inr (in_at xs k j (omega arith) e)

pub contains_in : (xs : List ℕ) (j : ℕ) → Contains xs j → In j xs
contains_in xs j c = in_at xs c.0 j c.1 c.2

pub in_contains : (xs : List ℕ) (j : ℕ) → In j xs → Contains xs j
in_contains [] j t = absurd t
in_contains (x ∷ xs) j t = ⊎_elim (λ (e : j ≡ x). (0, omega arith, sym e)) (λ u. let c = in_contains xs j u in let lt = c.1 in (suc c.0, omega arith, c.2)) t

pub none_contained : (j : ℕ) → Contains [] j → ⊥
none_contained j c = let lt = c.1 in omega arith

in_get : (xs : List ℕ) (k d : ℕ) → k < length xs → In (get_or xs k d) xs
in_get [] k d lt = absurd (omega arith)
in_get (x ∷ xs) zero d lt = inl refl
in_get (x ∷ xs) (suc k) d lt = inr (in_get xs k d (omega arith))

pub all_in : (P : ℕ → Type 0) (xs : List ℕ) → ((j : ℕ) → In j xs → P j) → All P xs
all_in P xs each k d lt = each (get_or xs k d) (in_get xs k d lt)

pub once_pairs : (xs : List ℕ) → Once xs → EachOnce xs
once_pairs [] o = λ i j d lt inside. absurd (omega arith)
once_pairs (x ∷ xs) o = AllPairs-cons (λ a b. a ≢ b) x xs (λ k d lt q. o.0 (subst (λ (z : ℕ). In z xs) (sym q) (in_get xs k d lt))) (once_pairs xs o.1)

pub in_last : (k j : ℕ) (xs : List ℕ) → In k (xs ++ j ∷ []) → In k xs ⊎ (k ≡ j)
in_last k j [] t = ⊎_elim (λ e. inr e) (λ z. absurd z) t
in_last k j (x ∷ xs) t = ⊎_elim (λ e. inl (inl e)) (λ u. ⊎_elim (λ a. inl (inr a)) (λ b. inr b) (in_last k j xs u)) t

pub in_left : (j : ℕ) (xs ys : List ℕ) → In j xs → In j (xs ++ ys)
in_left j [] ys t = absurd t
in_left j (x ∷ xs) ys t = ⊎_elim (λ e. inl e) (λ u. inr (in_left j xs ys u)) t

pub in_right : (j : ℕ) (xs ys : List ℕ) → In j ys → In j (xs ++ ys)
in_right j [] ys t = t
in_right j (x ∷ xs) ys t = inr (in_right j xs ys t)

pub in_either : (j : ℕ) (xs ys : List ℕ) → In j (xs ++ ys) → In j xs ⊎ In j ys
in_either j [] ys t = inr t
in_either j (x ∷ xs) ys t = ⊎_elim (λ e. inl (inl e)) (λ u. ⊎_elim (λ a. inl (inr a)) (λ b. inr b) (in_either j xs ys u)) t

pub in_without : (k j : ℕ) (xs : List ℕ) → In k (without j xs) → In k xs × (k ≢ j)
in_without k j [] t = absurd t
in_without k j (x ∷ xs) t = if_case (λ (ys : List ℕ). In k ys → In k (x ∷ xs) × (k ≢ j)) x j (without j xs) (x ∷ without j xs)
    (λ e u. let w = in_without k j xs u in (inr w.0, w.1))
    (λ ne u. ⊎_elim (λ (q : k ≡ x). (inl q, λ z. ne (sym q ∙ z))) (λ a. let w = in_without k j xs a in (inr w.0, w.1)) u) t

pub still_in : (k j : ℕ) (xs : List ℕ) → k ≢ j → In k xs → In k (without j xs)
still_in k j [] ne t = t
still_in k j (x ∷ xs) ne t = if_case (In k) x j (without j xs) (x ∷ without j xs)
    (λ e. ⊎_elim (λ (q : k ≡ x). absurd (ne (q ∙ e))) (λ u. still_in k j xs ne u) t)
    (λ _. ⊎_elim (λ (q : k ≡ x). inl q) (λ u. inr (still_in k j xs ne u)) t)

pub once_without : (j : ℕ) (xs : List ℕ) → Once xs → Once (without j xs)
once_without j [] o = tt
once_without j (x ∷ xs) o = if_case Once x j (without j xs) (x ∷ without j xs) (λ _. once_without j xs o.1) (λ _. ((λ t. o.0 (in_without x j xs t).0), once_without j xs o.1))

pub once_both : (xs ys : List ℕ) → Once xs → Once ys → ((j : ℕ) → In j xs → In j ys → ⊥) → Once (xs ++ ys)
once_both [] ys a b apart = b
once_both (x ∷ xs) ys a b apart = ((λ t. ⊎_elim a.0 (λ u. apart x (inl refl) u) (in_either x xs ys t)), once_both xs ys a.1 b (λ j t u. apart j (inr t) u))

-- a number that another than j is stays, and j goes
pub without_contains : (xs : List ℕ) (k j : ℕ) → Contains (without j xs) k → Contains xs k × (k ≢ j)
without_contains xs k j c = let w = in_without k j xs (contains_in (without j xs) k c) in (in_contains xs k w.0, w.1)

pub contains_without : (xs : List ℕ) (k j : ℕ) → k ≢ j → Contains xs k → Contains (without j xs) k
contains_without xs k j ne c = in_contains (without j xs) k (still_in k j xs ne (contains_in xs k c))

pub contains_last : (xs : List ℕ) (k j : ℕ) → Contains (xs ++ j ∷ []) k → Contains xs k ⊎ (k ≡ j)
contains_last xs k j c = ⊎_elim (λ t. inl (in_contains xs k t)) (λ e. inr e) (in_last k j xs (contains_in (xs ++ j ∷ []) k c))

-- for a loop that hands a batch back: once the one at i went, those after it are owed still
pub still_owed : (batch owes : List ℕ) (i : ℕ) → i < length batch → EachOnce batch → ((k : ℕ) → i ≤ k → k < length batch → Contains owes (get_or batch k 0))
    → (k : ℕ) → i + 1 ≤ k → k < length batch → Contains (without (get_or batch i 0) owes) (get_or batch k 0)
still_owed batch owes i inside once owed k later lt = contains_without owes (get_or batch k 0) (get_or batch i 0) (λ q. once i k 0 (omega arith) lt (sym q)) (owed k (omega arith) lt)
