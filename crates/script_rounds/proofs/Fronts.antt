-- A front of a text, also of one that is written in pieces.
use Rattle.std.proofs.Common.{Err, List, Ok, Option, Result, [], ap, arith, drop, get_or, length, refl, subst, suc, sym, take, zero, ℕ, ◌++◌, ◌+◌, ◌<◌, ◌∙◌, ◌∷◌, ◌≡◌}
use Rattle.std.proofs.KnownBytes.{Appends-trans}
use Rattle.std.proofs.Math.Seq.{drop-cons, take-append-add}
use Rattle.std.proofs.lemmas.Grind.{flat_map-append}
use Rattle.std.proofs.lemmas.List.{take-append-drop}
use Rattle.std.specs.Io.KnownBytes.{Appends}
use Rattle.std.specs.List.{flat_map}
use Rattle.std.specs.Prelude.{OnErr}

-- a front of a front is one
pub front_within : (n : ℕ) (xs ys : List ℕ) → (k : ℕ) × (take k (xs ++ ys) ≡ take n xs)
front_within zero [] ys = (0, refl)
front_within zero (x ∷ xs) ys = (0, refl)
front_within (suc n) [] [] = (0, refl)
front_within (suc n) [] (y ∷ ys) = (0, refl)
front_within (suc n) (x ∷ xs) ys = let k = front_within n xs ys in (suc k.0, ap (λ (t : List ℕ). x ∷ t) k.1)

pub where_err : {T E X : Type 0} (r : Result T E) → X → OnErr r X
where_err (Ok y) x = tt
where_err (Err e) x = x

-- the first piece was written in part
pub first_stopped : {T E : Type 0} (r : Result T E) (held held' : Option (List ℕ)) (first rest piece : List ℕ) → piece ≡ first → (n : ℕ) × Appends held held' (take n piece)
    → OnErr r ((n : ℕ) × Appends held held' (take n (first ++ rest)))
first_stopped r held held' first rest piece is f =
    let k = front_within f.0 first rest in
    where_err r (k.0, subst (Appends held held') (ap (take f.0) is ∙ sym k.1) f.1)

-- it was written, and of the others a front
pub then_stopped : (held mid held' : Option (List ℕ)) (first rest : List ℕ) → Appends held mid first → (n : ℕ) × Appends mid held' (take n rest)
    → (n : ℕ) × Appends held held' (take n (first ++ rest))
then_stopped held mid held' first rest wrote f = (
  length first + f.0,
  subst (Appends held held') (sym (take-append-add first rest f.0)) (Appends-trans held mid held' first (take f.0 rest) wrote f.1),
)

plus_one : (i : ℕ) → suc i ≡ i + 1
plus_one i = omega arith

-- the texts from one on
from_text : (texts : List (List ℕ)) (i : ℕ) (text : List ℕ) → i < length texts → text ≡ get_or texts i text
    → flat_map (λ t. t) (drop i texts) ≡ text ++ flat_map (λ t. t) (drop (i + 1) texts)
from_text texts i text l e =
    ap (λ (ts : List (List ℕ)). flat_map (λ t. t) ts)
    (drop-cons texts i text l ∙ (ap (λ (x : List ℕ). x ∷ drop (suc i) texts) (sym e) ∙ ap (λ k. text ∷ drop k texts) (plus_one i)))

-- texts were written up to one, and of that a front
pub stopped_at : {T E : Type 0} (r : Result T E) (held mid held' : Option (List ℕ)) (texts : List (List ℕ)) (i : ℕ) (text piece : List ℕ) → i < length texts → text ≡ get_or texts i text → piece ≡ text
    → Appends held mid (flat_map (λ t. t) (take i texts)) → (n : ℕ) × Appends mid held' (take n piece) → OnErr r ((n : ℕ) × Appends held held' (take n (flat_map (λ t. t) texts)))
stopped_at r held mid held' texts i text piece l e is before f =
    let first : List ℕ = flat_map (λ t. t) (take i texts) in
    let rest : List ℕ = flat_map (λ t. t) (drop (i + 1) texts) in
    let k = front_within f.0 text rest in
    let whole : first ++ (text ++ rest) ≡ flat_map (λ t. t) texts =
    ap (λ (t : List ℕ). first ++ t) (sym (from_text texts i text l e))
    ∙ (sym (flat_map-append (λ t. t) (take i texts) (drop i texts)) ∙ ap (λ (ts : List (List ℕ)). flat_map (λ t. t) ts) (take-append-drop i texts)) in
    where_err r (subst (λ (t : List ℕ). (n : ℕ) × Appends held held' (take n t)) whole
    (then_stopped held mid held' first (text ++ rest) before (k.0, subst (Appends mid held') (ap (take f.0) is ∙ sym k.1) f.1)))
