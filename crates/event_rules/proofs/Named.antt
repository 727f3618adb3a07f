-- Whether a commit has its record.
use Rattle.std.proofs.Common.{◌≡◌, ◌↔◌, ◌<◌, ℕ, zero, suc, Bool, true, false, List, [], ◌∷◌, length, get_or, refl, sym, ap, subst, ◌∙◌, arith, eqb-true, ⊎_elim, ◌||◌}
use Rattle.std.specs.Prelude.{Contains, IsTrue}
use Rattle.std.specs.List.{list_any}
use Rattle.std.proofs.lemmas.Bool.{cases_Bool}
use Rattle.tx_events.specs.declared.record.Rec.{Rec}
use Rattle.tx_events.specs.declared.record.Rec.TheVariants as records
use Rattle.tx_events.proofs.ListSteps.{eqb-refl}
use Rattle.life_law.specs.Pending.{is_commit_of}

abbrev IsNamed : List Rec → ℕ → Type 0
IsNamed recs x = (subs : List ℕ) × Contains recs (records.Commit x subs)

named_later : (rec : Rec) (recs : List Rec) (x : ℕ) → IsNamed recs x → IsNamed (rec ∷ recs) x
named_later rec recs x n = let l = n.1.1 in (n.0, (suc n.1.0, omega arith, n.1.2))

named_first : (rec : Rec) (recs : List Rec) (x : ℕ) → is_commit_of x rec ≡ true → IsNamed (rec ∷ recs) x
named_first (records.Commit top subs) recs x t = (subs, (0, omega arith, ap (λ n. records.Commit n subs) (eqb-true top x t)))
named_first rec recs x t = absurd cc

is_named : (recs : List Rec) (x : ℕ) → list_any (is_commit_of x) recs ≡ true → IsNamed recs x
is_named [] x t = absurd cc
is_named (rec ∷ recs) x t =
    ⊎_elim
    (λ (u : is_commit_of x rec ≡ true). named_first rec recs x u)
    (λ (u : is_commit_of x rec ≡ false). named_later rec recs x (is_named recs x (ap (λ b. b || list_any (is_commit_of x) recs) (sym u) ∙ t)))
    (cases_Bool (is_commit_of x rec))

or_true : (a b : Bool) → b ≡ true → (a || b) ≡ true
or_true true b e = refl
or_true false b e = e

has_named : (recs : List Rec) (x : ℕ) (subs : List ℕ) (k : ℕ) → k < length recs → get_or recs k (records.Commit x subs) ≡ records.Commit x subs → list_any (is_commit_of x) recs ≡ true
has_named [] x subs k l is = absurd (omega arith)
has_named (rec ∷ recs) x subs zero l is = subst (λ (r : Rec). list_any (is_commit_of x) (r ∷ recs) ≡ true) (sym is) (rw (eqb-refl x) refl)
has_named (rec ∷ recs) x subs (suc k) l is = or_true (is_commit_of x rec) (list_any (is_commit_of x) recs) (has_named recs x subs k (omega arith) is)

pub commit_named : (recs : List Rec) (b : Bool) (x : ℕ) → b ≡ list_any (is_commit_of x) recs → IsTrue b ↔ IsNamed recs x
commit_named recs b x is = (
  λ t. is_named recs x (sym is ∙ t),
  λ n. is ∙ has_named recs x n.0 n.1.0 n.1.1 n.1.2,
)
