-- Items of lists, and records of a multixact among those of a start.
use Rattle.std.proofs.Common.{◌≡◌, ◌⊎◌, ⊎_elim, inl, inr, ℕ, ◌==◌, Bool, true, false, List, [], ◌∷◌, Option, None, Some, refl, sym, ap, subst, ◌∙◌, eqb-true, eq-eqb}
use Rattle.std.proofs.lemmas.Bool.{false≢true}
use Rattle.std.specs.List.{cons_option, filter_map}
use Rattle.tx_events.proofs.Membership.{Has}
use Rattle.tx_events.specs.declared.multi.Member.{Member}
use Rattle.tx_events.specs.declared.record.Rec.{Rec}
use Rattle.tx_events.specs.declared.record.Rec.TheVariants as records

-- an item that is kept
pub filter_map_has : {A B : Type 0} (f : A → Option B) (xs : List A) (x : A) (y : B) → Has xs x → f x ≡ Some y → Has (filter_map f xs) y
filter_map_has {A = A} {B = B} f [] x y k q = absurd k
filter_map_has {A = A} {B = B} f (z ∷ zs) x y k q = ⊎_elim
    (λ (e : z ≡ x). subst (λ o. Has (cons_option o (filter_map f zs)) y) (sym (ap f e ∙ q)) (inl refl))
    (λ r. keep (f z) (filter_map_has f zs x y r q))
    k
  where
    keep : (o : Option B) → Has (filter_map f zs) y → Has (cons_option o (filter_map f zs)) y
    keep None h = h
    keep (Some w) h = inr h

-- a record of this multixact is among them, or none
abbrev Recorded : ℕ → List Rec → Type 0
Recorded multi recs = (offset : ℕ) × (members : List Member) × Has recs (records.Multi multi offset members)

abbrev Unrecorded : ℕ → List Rec → Type 0
Unrecorded multi recs = (offset : ℕ) (members : List Member) → Has recs (records.Multi multi offset members) → ⊥

head_or_not : (multi : ℕ) (rec : Rec) → ((offset : ℕ) × (members : List Member) × (rec ≡ records.Multi multi offset members)) ⊎ ((offset : ℕ) (members : List Member) → rec ≡ records.Multi multi offset members → ⊥)
head_or_not multi (records.Multi other offset members) = by_test (other == multi) refl
  where
    by_test : (b : Bool) → (other == multi) ≡ b → ((x : ℕ) × (ms : List Member) × (records.Multi other offset members ≡ records.Multi multi x ms)) ⊎ ((x : ℕ) (ms : List Member) → records.Multi other offset members ≡ records.Multi multi x ms → ⊥)
    by_test true q = inl (offset, members, ap (λ z. records.Multi z offset members) (eqb-true other multi q))
    by_test false q = inr (λ x ms e. let same : other ≡ multi = cc in false≢true (sym q ∙ eq-eqb other multi same))
head_or_not multi _ = inr (λ x ms e. absurd cc)

pub recorded_or_not : (multi : ℕ) (recs : List Rec) → Recorded multi recs ⊎ Unrecorded multi recs
recorded_or_not multi [] = inr (λ offset members k. k)
recorded_or_not multi (rec ∷ recs) = ⊎_elim
    (λ (h : (offset : ℕ) × (members : List Member) × (rec ≡ records.Multi multi offset members)). inl (h.0, h.1, inl h.2))
    (λ (no : (offset : ℕ) (members : List Member) → rec ≡ records.Multi multi offset members → ⊥). ⊎_elim
    (λ (r : Recorded multi recs). inl (r.0, r.1, inr r.2))
    (λ (none : Unrecorded multi recs). inr (λ offset members k. ⊎_elim (λ q. no offset members q) (λ t. none offset members t) k))
    (recorded_or_not multi recs))
    (head_or_not multi rec)
