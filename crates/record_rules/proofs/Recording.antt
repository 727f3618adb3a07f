-- The rule of a record from its parts.
use Rattle.std.proofs.Common.{◌≡◌, ◌↔◌, ℕ, zero, suc, ◌+◌, ◌<◌, ◌≤◌, Bool, IsTrue, List, [], ◌∷◌, Option, Some, None, IfNone, IfSome, length, take, refl, ap, sym, subst, ⊎_elim, arith}
use Rattle.std.proofs.lemmas.Bool.{cases_lt}
use Rattle.std.proofs.lemmas.List.{length-take}
use Rattle.std.specs.List.{All, AllByRecursion, Contains}
use Rattle.tx_events.specs.After.{after_records}
use Rattle.tx_events.specs.declared.event.By.{By}
use Rattle.tx_events.specs.declared.multi.Member.{Member}
use Rattle.tx_events.specs.declared.multi.MultiEvent.{MultiEvent}
use Rattle.tx_events.specs.declared.multi.MultiEvent.TheVariants as multi_events
use Rattle.tx_events.specs.Base.{IsBase}
use Rattle.tx_events.specs.declared.record.Counters.{Counters}
use Rattle.tx_events.specs.declared.record.Rec.{Rec}
use Rattle.tx_events.specs.declared.record.Rec.TheVariants as records
use Rattle.record_rules.specs.Behind.{AreBases, IsFirstNoBase}
use Rattle.report_law.specs.Records.{IsFirstOf, IsLawfulRecord, IsRecordAt, IsTrueRecord}
use Rattle.report_law.specs.Steps.{Judged}
use Rattle.record_rules.specs.Judging.{IsBrokenAt}

take_of_take : (n k : ℕ) (recs : List Rec) → n ≤ k → take n (take k recs) ≡ take n recs
take_of_take zero k recs l = refl
take_of_take (suc n) zero recs l = absurd (omega arith)
take_of_take (suc n) (suc k) [] l = refl
take_of_take (suc n) (suc k) (r ∷ recs) l = ap (λ (t : List Rec). r ∷ t) (take_of_take n k recs (omega arith))

pub sound_iff : (base : Counters) (recs : List Rec) (o : Option ℕ) (place : ℕ) → IfNone o (AreBases base recs) → IfSome o (λ p. IsFirstNoBase base recs p) → place < length recs → IfSome o (λ p. place ≤ p) → (IsBrokenAt o place → ⊥) ↔ IsBase (after_records base (take (place + 1) recs))
sound_iff base recs None place bases broken l m = (λ f. bases (place + 1) (omega arith), λ b x. x)
sound_iff base recs (Some p) place bases broken l m =
    let size = length-take p recs in
    let within = broken.within in (
      λ f. ⊎_elim
          (λ (u : place < p).
          subst (λ (t : List Rec). IsBase (after_records base t)) (take_of_take (place + 1) p recs (omega arith)) (broken.before (place + 1) (omega arith)))
          (λ (u : p ≤ place). absurd (f (omega arith)))
          (cases_lt place p),
      λ b same. broken.broken (subst (λ k. IsBase (after_records base (take (k + 1) recs))) (sym same) b),
    )

pub behind_first : (j : Judged) (place : ℕ) (rec : Rec) (b : Bool) → (place ≡ 0 → ⊥) → IsTrue b ↔ IsTrueRecord j rec → IsTrue b ↔ IsRecordAt j place rec
behind_first j zero rec b some i = absurd (some refl)
behind_first j (suc place) rec b some i = i

pub the_first : (j : Judged) (place : ℕ) (rec : Rec) (b : Bool) (from : ℕ) (base : Counters) → place ≡ 0 → from ≡ j.life.from → base ≡ j.begun.counters → IsTrue b ↔ (rec ≡ records.Checkpoint from base) → IsTrue b ↔ IsRecordAt j place rec
the_first j place rec b from base none from_is base_is i =
    subst (λ k. IsTrue b ↔ IsRecordAt j k rec) (sym none)
    (subst (λ (n : ℕ). IsTrue b ↔ (rec ≡ records.Checkpoint n j.begun.counters)) from_is (subst (λ (c : Counters). IsTrue b ↔ (rec ≡ records.Checkpoint from c)) base_is i))

-- all three parts
pub lawful_iff : (j : Judged) (place : ℕ) (rec : Rec) (says first sound some all : Bool) (o : Option ℕ) → IsTrue says ↔ IsRecordAt j place rec → IsTrue first ↔ IsFirstOf (take place j.life.recs) rec → IsTrue sound ↔ (IsBrokenAt o place → ⊥)
    → IsTrue some ↔ (IsTrue says × IsTrue first) → IsTrue all ↔ (IsTrue some × IsTrue sound)
    → (IsBrokenAt o place → ⊥) ↔ IsBase (after_records j.begun.counters (take (place + 1) j.life.recs)) → IsTrue all ↔ IsLawfulRecord j place rec
lawful_iff j place rec says first sound some all o a b c d e f = (
  λ t. let x = e.0 t in let y = d.0 x.0 in record { true_there = a.0 y.0; alone = b.0 y.1; counters = f.0 (c.0 x.1) },
  λ r. e.1 (d.1 (a.1 r.true_there, b.1 r.alone), c.1 (f.1 r.counters)),
)

pub both_iff : (P Q : Type 0) (one other all : Bool) → IsTrue one ↔ P → IsTrue other ↔ Q → IsTrue all ↔ (IsTrue one × IsTrue other) → IsTrue all ↔ (P × Q)
both_iff P Q one other all p q both = (λ t. let x = both.0 t in (p.0 x.0, q.0 x.1), λ x. both.1 (p.1 x.0, q.1 x.1))

pub by_places : {X : Type 0} (P : X → Type 0) (xs : List X) → All P xs → AllByRecursion P xs
by_places P [] a = tt
by_places P (x ∷ xs) a = (a 0 x (omega arith), by_places P xs (λ k d l. a (suc k) d (omega arith)))

pub multi_iff : (j : Judged) (multi offset : ℕ) (its members : List Member) (h : List MultiEvent) (b : Bool) → its ≡ members → h ≡ j.life.multis → IsTrue b ↔ ((by : By) × Contains h (multi_events.Gen by multi offset its)) → IsTrue b ↔ IsTrueRecord j (records.Multi multi offset members)
multi_iff j multi offset its members h b same are i =
    subst (λ (m : List Member). IsTrue b ↔ ((by : By) × Contains j.life.multis (multi_events.Gen by multi offset m))) same
    (subst (λ (t : List MultiEvent). IsTrue b ↔ ((by : By) × Contains t (multi_events.Gen by multi offset its))) are i)
