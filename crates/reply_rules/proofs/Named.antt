-- Which transactions and multixacts records name.
use Rattle.std.proofs.Common.{◌≡◌, ◌↔◌, ◌<◌, ℕ, zero, suc, Bool, true, List, [], ◌∷◌, Some, length, get_or, refl, sym, ap, subst, ◌∙◌, arith, eqb-true, ⊎_elim}
use Rattle.std.specs.Prelude.{Contains, IsTrue}
use Rattle.std.specs.List.{list_any}
use Rattle.tx_events.specs.declared.multi.Member.{Member}
use Rattle.tx_events.specs.declared.record.Rec.{Rec}
use Rattle.tx_events.specs.declared.record.Rec.TheVariants as records
use Rattle.tx_events.proofs.ListSteps.{eqb-refl}
use Rattle.life_law.specs.Pending.{is_commit_of}
use Rattle.report_law.specs.Records.{is_same_multi}
use Rattle.reply_rules.specs.Logs.{IsCommitLogged}
use Rattle.reply_rules.proofs.Faulty.{either, right_true}

-- ---- transactions

abbrev IsNamed : List Rec → ℕ → Type 0
IsNamed recs x = (subs : List ℕ) × Contains recs (records.Commit x subs)

named_later : (rec : Rec) (recs : List Rec) (x : ℕ) → IsNamed recs x → IsNamed (rec ∷ recs) x
named_later rec recs x n = let l = n.1.1 in (n.0, (suc n.1.0, omega arith, n.1.2))

named_first : (rec : Rec) (recs : List Rec) (x : ℕ) → is_commit_of x rec ≡ true → IsNamed (rec ∷ recs) x
named_first (records.Commit top subs) recs x t = (subs, (0, omega arith, ap (λ n. records.Commit n subs) (eqb-true top x t)))
named_first rec recs x t = absurd cc

is_named : (recs : List Rec) (x : ℕ) → list_any (is_commit_of x) recs ≡ true → IsNamed recs x
is_named [] x t = absurd cc
is_named (rec ∷ recs) x t =
    ⊎_elim
    (λ (u : is_commit_of x rec ≡ true). named_first rec recs x u)
    (λ (u : list_any (is_commit_of x) recs ≡ true). named_later rec recs x (is_named recs x u))
    (either (is_commit_of x rec) (list_any (is_commit_of x) recs) t)

has_named : (recs : List Rec) (x : ℕ) (subs : List ℕ) (k : ℕ) → k < length recs → get_or recs k (records.Commit x subs) ≡ records.Commit x subs → list_any (is_commit_of x) recs ≡ true
has_named [] x subs k l is = absurd (omega arith)
has_named (rec ∷ recs) x subs zero l is = subst (λ (r : Rec). list_any (is_commit_of x) (r ∷ recs) ≡ true) (sym is) (rw (eqb-refl x) refl)
has_named (rec ∷ recs) x subs (suc k) l is = right_true (is_commit_of x rec) (list_any (is_commit_of x) recs) (has_named recs x subs k (omega arith) is)

pub commit_named : (recs : List Rec) (b : Bool) (x : ℕ) → b ≡ list_any (is_commit_of x) recs → IsTrue b ↔ IsCommitLogged recs (Some x)
commit_named recs b x is = (
  λ t. is_named recs x (sym is ∙ t),
  λ n. is ∙ has_named recs x n.0 n.1.0 n.1.1 n.1.2,
)

-- ---- multixacts

abbrev pub IsGiven : List Rec → ℕ → Type 0
IsGiven recs x = (at : ℕ) × (members : List Member) × Contains recs (records.Multi x at members)

given_later : (rec : Rec) (recs : List Rec) (x : ℕ) → IsGiven recs x → IsGiven (rec ∷ recs) x
given_later rec recs x n = let l = n.2.1 in (n.0, n.1, (suc n.2.0, omega arith, n.2.2))

given_first : (rec : Rec) (recs : List Rec) (x : ℕ) → is_same_multi x rec ≡ true → IsGiven (rec ∷ recs) x
given_first (records.Multi multi at members) recs x t = (at, members, (0, omega arith, ap (λ n. records.Multi n at members) (eqb-true multi x t)))
given_first rec recs x t = absurd cc

pub is_given : (recs : List Rec) (x : ℕ) → list_any (is_same_multi x) recs ≡ true → IsGiven recs x
is_given [] x t = absurd cc
is_given (rec ∷ recs) x t =
    ⊎_elim
    (λ (u : is_same_multi x rec ≡ true). given_first rec recs x u)
    (λ (u : list_any (is_same_multi x) recs ≡ true). given_later rec recs x (is_given recs x u))
    (either (is_same_multi x rec) (list_any (is_same_multi x) recs) t)

has_multi : (recs : List Rec) (x at : ℕ) (members : List Member) (k : ℕ) → k < length recs → get_or recs k (records.Multi x at members) ≡ records.Multi x at members → list_any (is_same_multi x) recs ≡ true
has_multi [] x at members k l is = absurd (omega arith)
has_multi (rec ∷ recs) x at members zero l is = subst (λ (r : Rec). list_any (is_same_multi x) (r ∷ recs) ≡ true) (sym is) (rw (eqb-refl x) refl)
has_multi (rec ∷ recs) x at members (suc k) l is = right_true (is_same_multi x rec) (list_any (is_same_multi x) recs) (has_multi recs x at members k (omega arith) is)

pub has_given : (recs : List Rec) (x : ℕ) → IsGiven recs x → list_any (is_same_multi x) recs ≡ true
has_given recs x g = has_multi recs x g.0 g.1 g.2.0 g.2.1 g.2.2
