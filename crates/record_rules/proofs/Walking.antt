-- From record to record.
use Rattle.std.proofs.Common.{◌≡◌, ℕ, zero, suc, ◌+◌, ◌<◌, ◌≤◌, List, [], ◌∷◌, ◌++◌, Option, Some, None, IfSome, length, get_or, take, ap, sym, subst, ◌∙◌, ⊎_elim, arith}
use Rattle.std.proofs.lemmas.Bool.{cases_lt}
use Rattle.std.proofs.lemmas.List.{take_more}
use Rattle.std.proofs.lemmas.Option.{slice_get-get_or}
use Rattle.std.specs.List.{slice_get}
use Rattle.tx_events.specs.After.{after_records}
use Rattle.tx_events.specs.Base.{IsBase}
use Rattle.tx_events.specs.declared.record.Rec.{Rec}
use Rattle.record_rules.specs.Behind.{IsFirstNoBase}
use Rattle.report_law.specs.Records.{IsLawfulRecord}
use Rattle.report_law.specs.Steps.{Judged}

pub stands_at : (xs : List Rec) (i : ℕ) (x : Rec) → i < length xs → x ≡ get_or xs i x → slice_get xs i ≡ Some x
stands_at xs i x l is = slice_get-get_or xs i x l ∙ ap Some (sym is)

pub one_further : (xs : List Rec) (i : ℕ) (x : Rec) → i < length xs → x ≡ get_or xs i x → take i xs ++ x ∷ [] ≡ take (i + 1) xs
one_further xs i x l is = ap (λ (y : Rec). take i xs ++ y ∷ []) is ∙ sym (take_more xs i x l)

pub within : (xs : List Rec) (i : ℕ) (x : Rec) → slice_get xs i ≡ Some x → i < length xs
within [] i x s = absurd cc
within (y ∷ xs) zero x s = omega arith
within (y ∷ xs) (suc i) x s = let l = within xs i x s in omega arith

-- all records up to this place are lawful
pub before_more : (j : Judged) (xs : List Rec) (i : ℕ) (x : Rec) → slice_get xs i ≡ Some x → IsLawfulRecord j i x → ((p : ℕ) (rec : Rec) → p < i → slice_get xs p ≡ Some rec → IsLawfulRecord j p rec)
    → (p : ℕ) (rec : Rec) → p < i + 1 → slice_get xs p ≡ Some rec → IsLawfulRecord j p rec
before_more j xs i x stands lawful before p rec l s =
    ⊎_elim
    (λ (m : p < i). before p rec m s)
    (λ (m : i ≤ p).
    let same : i ≡ p = omega arith in
    let both : Some x ≡ Some rec = sym stands ∙ ap (slice_get xs) same ∙ s in
    let is : x ≡ rec = cc in
    subst (λ k. IsLawfulRecord j k rec) same (subst (IsLawfulRecord j i) is lawful))
    (cases_lt p i)

-- the first record behind which the counters aren't a base comes later than a lawful one
pub upto_more : (j : Judged) (o : Option ℕ) (i : ℕ) (rec : Rec) → IfSome o (λ p. IsFirstNoBase j.begun.counters j.life.recs p) → IfSome o (λ p. i ≤ p) → IsLawfulRecord j i rec → IfSome o (λ p. i + 1 ≤ p)
upto_more j None i rec b l w = tt
upto_more j (Some q) i rec b l w =
    ⊎_elim
    (λ (m : i < q). let r : i + 1 ≤ q = omega arith in r)
    (λ (m : q ≤ i).
    let same : i ≡ q = omega arith in
    absurd (b.broken (subst (λ k. IsBase (after_records j.begun.counters (take (k + 1) j.life.recs))) same w.counters)))
    (cases_lt i q)
