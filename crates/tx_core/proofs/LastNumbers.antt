-- The last of the numbers that the entries of a list tell.
use Rattle.std.proofs.Common.{List, None, Option, Some, [], ap, append-nil, refl, ℕ, ◌++◌, ◌∙◌, ◌∷◌, ◌≡◌}
use Rattle.std.proofs.lemmas.List.Elements.{filter_map-append}
use Rattle.std.specs.List.{cons_option, filter_map}
use Rattle.tx_core.specs.declared.entry.Entry.{Entry}
use Rattle.tx_core.specs.declared.entry.Kind.{Kind}
use Rattle.tx_core.specs.Entries.{last_from}

pub last_push : (n : ℕ) (xs : List ℕ) (x : ℕ) → last_from n (xs ++ x ∷ []) ≡ x
last_push n [] x = refl
last_push n (y ∷ xs) x = last_push y xs x

-- an entry that tells one
pub number_push : (f : Kind → Option ℕ) (n : ℕ) (es : List Entry) (e : Entry) (x : ℕ) → f e.kind ≡ Some x → last_from n (filter_map (λ (d : Entry). f d.kind) (es ++ e ∷ [])) ≡ x
number_push f n es e x is =
    ap (last_from n) (filter_map-append (λ (d : Entry). f d.kind) es (e ∷ []) ∙ ap (λ o. filter_map (λ (d : Entry). f d.kind) es ++ cons_option o []) is) ∙ last_push n (filter_map (λ (d : Entry). f d.kind) es) x

-- and one that tells none
pub number_same : (f : Kind → Option ℕ) (n : ℕ) (es : List Entry) (e : Entry) → f e.kind ≡ None → last_from n (filter_map (λ (d : Entry). f d.kind) (es ++ e ∷ [])) ≡ last_from n (filter_map (λ (d : Entry). f d.kind) es)
number_same f n es e is =
    ap (last_from n) (filter_map-append (λ (d : Entry). f d.kind) es (e ∷ []) ∙ (ap (λ o. filter_map (λ (d : Entry). f d.kind) es ++ cons_option o []) is ∙ append-nil (filter_map (λ (d : Entry). f d.kind) es)))
