-- What a life's log holds.
use Rattle.std.proofs.Common.{◌≡◌, ℕ, zero, suc, ◌-◌, ◌↔◌, Bool, true, false, ◌||◌, ◌==◌, List, [], ◌∷◌, length, min, take, drop, refl, sym, ap, ◌∙◌, inl, inr, ⊎_elim, arith, eqb-true}
use Rattle.std.specs.List.{flat_map, list_any}
use Rattle.std.proofs.Math.Seq.{take-length}
use Rattle.std.proofs.lemmas.List.{length-drop}
use Rattle.std.proofs.lemmas.List.Folds.{list_any-append}
use Rattle.tx_events.proofs.ListSteps.{eqb-refl}
use Rattle.tx_events.proofs.Membership.{Has, contains_has, has_contains}
use Rattle.tx_events.specs.declared.record.Rec.{Rec}
use Rattle.tx_events.specs.declared.record.Rec.TheVariants as records
use Rattle.life_law.specs.DidCommit.{IsRecorded}
use Rattle.report_law.specs.Begun.{committed_by}

any_has : (x : ℕ) (xs : List ℕ) → list_any (λ z. z == x) xs ≡ true → Has xs x
any_has x [] t = absurd cc
any_has x (y ∷ xs) t = one (λ r. any_has x xs r) (y == x) refl t
  where
    one : (list_any (λ z. z == x) xs ≡ true → Has xs x) → (b : Bool) → (y == x) ≡ b → (b || list_any (λ z. z == x) xs) ≡ true → Has (y ∷ xs) x
    one rest true is t = inl (eqb-true y x is)
    one rest false is t = inr (rest t)

has_any : (x : ℕ) (xs : List ℕ) → Has xs x → list_any (λ z. z == x) xs ≡ true
has_any x [] k = absurd k
has_any x (y ∷ xs) k = ⊎_elim
    (λ (e : y ≡ x). ap (λ b. b || list_any (λ z. z == x) xs) (ap (λ z. z == x) e ∙ eqb-refl x))
    (λ t. either (y == x) (has_any x xs t))
    k
  where
    either : (b : Bool) → list_any (λ z. z == x) xs ≡ true → (b || list_any (λ z. z == x) xs) ≡ true
    either true r = refl
    either false r = r

further : (r : Rec) (recs : List Rec) (x : ℕ) → IsRecorded recs x → IsRecorded (r ∷ recs) x
further r recs x i =
    let c = i.stands in
    let l = c.1 in
    record { top = i.top; subs = i.subs; stands = (suc c.0, omega arith, c.2); among = i.among }

recorded_first : (r : Rec) (recs : List Rec) (x : ℕ) → Has (committed_by r) x → IsRecorded (r ∷ recs) x
recorded_first (records.Commit top subs) recs x k = record { top = top; subs = subs; stands = (0, omega arith, refl); among = has_contains (top ∷ subs) x k }
recorded_first (records.Abort top subs) recs x k = absurd k
recorded_first (records.Multi multi offset members) recs x k = absurd k
recorded_first (records.Checkpoint redo base) recs x k = absurd k
recorded_first (records.Truncate oldest multi offset) recs x k = absurd k

to_recorded : (recs : List Rec) (x : ℕ) → list_any (λ z. z == x) (flat_map committed_by recs) ≡ true → IsRecorded recs x
to_recorded [] x t = absurd cc
to_recorded (r ∷ recs) x t = one (λ s. to_recorded recs x s) (list_any (λ z. z == x) (committed_by r)) refl (sym (list_any-append (λ z. z == x) (committed_by r) (flat_map committed_by recs)) ∙ t)
  where
    one : (list_any (λ z. z == x) (flat_map committed_by recs) ≡ true → IsRecorded recs x) → (b : Bool) → list_any (λ z. z == x) (committed_by r) ≡ b → (b || list_any (λ z. z == x) (flat_map committed_by recs)) ≡ true → IsRecorded (r ∷ recs) x
    one rest true is t = recorded_first r recs x (any_has x (committed_by r) is)
    one rest false is t = further r recs x (rest t)

of_commit : (recs : List Rec) (x top : ℕ) (subs : List ℕ) → Has recs (records.Commit top subs) → Has (top ∷ subs) x → list_any (λ z. z == x) (flat_map committed_by recs) ≡ true
of_commit [] x top subs k m = absurd k
of_commit (r ∷ recs) x top subs k m = list_any-append (λ z. z == x) (committed_by r) (flat_map committed_by recs) ∙ ⊎_elim
    (λ (e : r ≡ records.Commit top subs). ap (λ b. b || list_any (λ z. z == x) (flat_map committed_by recs)) (ap (λ (r : Rec). list_any (λ z. z == x) (committed_by r)) e ∙ has_any x (top ∷ subs) m))
    (λ t. either (list_any (λ z. z == x) (committed_by r)) (of_commit recs x top subs t m))
    k
  where
    either : (b : Bool) → list_any (λ z. z == x) (flat_map committed_by recs) ≡ true → (b || list_any (λ z. z == x) (flat_map committed_by recs)) ≡ true
    either true s = refl
    either false s = s

pub recorded_iff : (recs : List Rec) (x : ℕ) → (list_any (λ z. z == x) (flat_map committed_by recs) ≡ true) ↔ IsRecorded recs x
recorded_iff recs x = (
  λ t. to_recorded recs x t,
  λ i. of_commit recs x i.top i.subs (contains_has recs (records.Commit i.top i.subs) i.stands) (contains_has (i.top ∷ i.subs) x i.among),
)

-- a front of at most all
pub take_most : {X : Type 0} (n : ℕ) (xs : List X) → take (min n (length xs)) xs ≡ take n xs
take_most zero xs = let z : min 0 (length xs) ≡ 0 = omega arith in ap (λ k. take k xs) z
take_most (suc n) [] = let z : min (suc n) 0 ≡ 0 = omega arith in ap (λ k. take k []) z
take_most (suc n) (x ∷ xs) = let z : min (suc n) (suc (length xs)) ≡ suc (min n (length xs)) = omega arith in ap (λ k. take k (x ∷ xs)) z ∙ ap (λ t. x ∷ t) (take_most n xs)

-- and what stands behind one
pub tail_is : {X : Type 0} (n : ℕ) (xs : List X) → take (length xs - n) (drop n xs) ≡ drop n xs
tail_is n xs = ap (λ k. take k (drop n xs)) (sym (length-drop n xs)) ∙ take-length (drop n xs)
