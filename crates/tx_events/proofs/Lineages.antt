-- Families while the history grows.
use Rattle.std.proofs.Common.{◌≡◌, ℕ, suc, ◌-◌, ◌⊎◌, ◌==◌, List, [], ◌∷◌, ◌++◌, length, take, Some, refl, sym, ap, subst, ◌∙◌, inl, inr, ⊎_elim, arith, true, false, cond, reverse, ne_eqb}
use Rattle.std.proofs.lemmas.List.{reverse-append}
use Rattle.std.specs.List.{last_or}
use Rattle.std.specs.Option.{unwrap_or}
use Rattle.tx_events.proofs.ListSteps.{eqb-refl}
use Rattle.tx_events.proofs.Membership.{Has, has_take}
use Rattle.tx_events.specs.declared.event.By.{By}
use Rattle.tx_events.specs.declared.event.Event.{Event}
use Rattle.tx_events.specs.Events.{given_by}
use Rattle.tx_events.specs.Families.{line_up, lineage, top, enclosing}
use Rattle.tx_events.specs.declared.event.Event.TheVariants as events

module _ {A : Type 0} where
  pub reverse_push : (xs : List A) (x : A) → reverse (xs ++ x ∷ []) ≡ x ∷ reverse xs
  reverse_push xs x = reverse-append xs (x ∷ [])

-- a line begins with its id
pub line_head : (older : List Event) (x : ℕ) → (rest : List ℕ) × (line_up older x ≡ x ∷ rest)
line_head [] x = ([], refl)
line_head (events.Sub by parent id ∷ older) x = elim (id == x) as (λ b. (rest : List ℕ) × (cond b (x ∷ line_up older parent) (line_up older x) ≡ x ∷ rest)) [ true ↦ (line_up older parent, refl) | false ↦ line_head older x ]
line_head (e ∷ older) x = line_head older x

pub line_up_self : (older : List Event) (x : ℕ) → Has (line_up older x) x
line_up_self older x = subst (λ l. Has l x) (sym (line_head older x).1) (inl refl)

abbrev pub top_line : List ℕ → ℕ → ℕ
top_line line x = unwrap_or (last_or (Some x) line) x

abbrev pub enclosing_line : List ℕ → List ℕ
enclosing_line line = take (length line - 1) line

last_has : (o : ℕ) (xs : List ℕ) (d : ℕ) → (unwrap_or (last_or (Some o) xs) d ≡ o) ⊎ Has xs (unwrap_or (last_or (Some o) xs) d)
last_has o [] d = inl refl
last_has o (y ∷ xs) d = inr (⊎_elim (λ e. inl (sym e)) inr (last_has y xs d))

-- the top is one of the family, and what encloses x too
pub top_in : (h : List Event) (x : ℕ) → Has (lineage h x) (top h x)
top_in h x = ⊎_elim (λ (e : top h x ≡ x). subst (λ z. Has (lineage h x) z) (sym e) (line_up_self (reverse h) x)) (λ k. k) (last_has x (lineage h x) x)

pub enclosing_in : (h : List Event) (x y : ℕ) → Has (enclosing h x) y → Has (lineage h x) y
enclosing_in h x y k = has_take (length (lineage h x) - 1) (lineage h x) y k

sub_sub : (n : ℕ) → suc (suc n) - 1 ≡ suc (suc n - 1)
sub_sub n = omega arith

last_any : (o : ℕ) (xs : List ℕ) (a b : ℕ) → unwrap_or (last_or (Some o) xs) a ≡ unwrap_or (last_or (Some o) xs) b
last_any o [] a b = refl
last_any o (x ∷ xs) a b = last_any x xs a b

pub top_of_sub : (h : List Event) (parent x : ℕ) → top_line (x ∷ lineage h parent) x ≡ top h parent
top_of_sub h parent x =
    let l = line_head (reverse h) parent in
    ap (λ (t : List ℕ). top_line (x ∷ t) x) l.1 ∙ last_any parent l.0 x parent ∙ sym (ap (λ (t : List ℕ). top_line t parent) l.1)

pub enclosing_of_sub : (h : List Event) (parent x : ℕ) → enclosing_line (x ∷ lineage h parent) ≡ x ∷ enclosing h parent
enclosing_of_sub h parent x =
    let l = line_head (reverse h) parent in
    ap (λ (t : List ℕ). enclosing_line (x ∷ t)) l.1 ∙ ap (λ n. take n (x ∷ parent ∷ l.0)) (sub_sub (length l.0)) ∙ sym (ap (λ (t : List ℕ). x ∷ enclosing_line t) l.1)

-- an event leaves the family of x
abbrev pub KeepsFamily : List Event → Event → ℕ → Type 0
KeepsFamily h e x = lineage (h ++ e ∷ []) x ≡ lineage h x

pub top_kept : (h : List Event) (e : Event) (x : ℕ) → KeepsFamily h e x → top (h ++ e ∷ []) x ≡ top h x
top_kept h e x k = ap (λ (l : List ℕ). top_line l x) k

pub enclosing_kept : (h : List Event) (e : Event) (x : ℕ) → KeepsFamily h e x → enclosing (h ++ e ∷ []) x ≡ enclosing h x
enclosing_kept h e x k = ap enclosing_line k

-- an event that names no parent
abbrev pub IsNoSub : Event → Type 0
IsNoSub (events.Sub by parent id) = ⊥
IsNoSub e = Unit {0}

line_up_kept : (e : Event) (older : List Event) (x : ℕ) → IsNoSub e → line_up (e ∷ older) x ≡ line_up older x
line_up_kept (events.Sub by parent id) older x f = absurd f
line_up_kept e older x f = refl

pub family_kept : (h : List Event) (e : Event) (x : ℕ) → IsNoSub e → KeepsFamily h e x
family_kept h e x f = ap (λ (t : List Event). line_up t x) (reverse_push h e) ∙ line_up_kept e (reverse h) x f

pub family_sub : (h : List Event) (by : By) (parent id x : ℕ) → lineage (h ++ events.Sub by parent id ∷ []) x ≡ cond (id == x) (x ∷ lineage h parent) (lineage h x)
family_sub h by parent id x = ap (λ (t : List Event). line_up t x) (reverse_push h (events.Sub by parent id))

pub family_sub_kept : (h : List Event) (by : By) (parent id x : ℕ) → (id == x) ≡ false → KeepsFamily h (events.Sub by parent id) x
family_sub_kept h by parent id x f = family_sub h by parent id x ∙ ap (λ b. cond b (x ∷ lineage h parent) (lineage h x)) f

-- an event that doesn't give x leaves its family
pub lineage_push : (h : List Event) (e : Event) (x : ℕ) → (given_by e ≡ Some x → ⊥) → KeepsFamily h e x
lineage_push h (events.Sub by parent id) x n = family_sub_kept h by parent id x (ne_eqb id x (λ (q : id ≡ x). n (ap (λ z. Some z) q)))
lineage_push h e x n = family_kept h e x tt

pub lineage_sub : (h : List Event) (by : By) (parent x : ℕ) → lineage (h ++ events.Sub by parent x ∷ []) x ≡ x ∷ lineage h parent
lineage_sub h by parent x = family_sub h by parent x x ∙ ap (λ b. cond b (x ∷ lineage h parent) (lineage h x)) (eqb-refl x)

pub top_sub : (h : List Event) (by : By) (parent id x : ℕ) →
    top (h ++ events.Sub by parent id ∷ []) x ≡ cond (id == x) (top h parent) (top h x)
top_sub h by parent id x =
    ap (λ (l : List ℕ). top_line l x) (family_sub h by parent id x)
    ∙ elim (id == x) as (λ b. top_line (cond b (x ∷ lineage h parent) (lineage h x)) x ≡ cond b (top h parent) (top h x)) [ true ↦ top_of_sub h parent x | false ↦ refl ]

pub enclosing_sub : (h : List Event) (by : By) (parent id x : ℕ) →
    enclosing (h ++ events.Sub by parent id ∷ []) x ≡ cond (id == x) (x ∷ enclosing h parent) (enclosing h x)
enclosing_sub h by parent id x =
    ap enclosing_line (family_sub h by parent id x)
    ∙ elim (id == x) as (λ b. enclosing_line (cond b (x ∷ lineage h parent) (lineage h x)) ≡ cond b (x ∷ enclosing h parent) (enclosing h x)) [ true ↦ enclosing_of_sub h parent x | false ↦ refl ]
