-- Which record may come next.
use Rattle.std.proofs.Common.{◌≡◌, ◌⊎◌, inl, inr, ℕ, Bool, true, false, sym, subst}
use Rattle.std.specs.Prelude.{IsTrue, IsNone, IsSome, IfSome, ◌↔◌, Option, Some, None, [], ◌∷◌}
use Rattle.tx_events.specs.declared.record.Rec.{Rec}
use Rattle.tx_events.specs.declared.record.Counters.{Counters}
use Rattle.tx_events.specs.After.{after_record}
use Rattle.tx_events.specs.Base.{IsBase}
use Rattle.wal_core.specs.BaseTest.{is_base_of}
use Rattle.wal_core.specs.Opening.{first_number, number_fits}
use Rattle.wal_records.specs.Lawful.{is_lawful}
use Rattle.wal_core.specs.Log.{counters_or_none, MayAppend}
use Rattle.tx_events.proofs.ListSteps.{not_both}
use Rattle.wal_records.proofs.LawfulTests.{lawful_if, lawful_passes}
use Rattle.wal_core.proofs.Append.{after_is}
use Rattle.wal_core.proofs.BaseTests.{base_passes}

both : (n : Option ℕ) → IsSome n → IsNone n → ⊥
both None some none = absurd cc
both (Some n) some none = absurd cc

abbrev Answers : Bool → Option Counters → ℕ → Rec → Type 0
Answers said counters number r = IsTrue said ↔ MayAppend counters number r

pub unlawful : (counters : Option Counters) (number : ℕ) (r : Rec) → is_lawful r ≡ false → Answers false counters number r
unlawful counters number r e = (λ isnt. absurd (is_not isnt), λ may. not_both (is_lawful r) (lawful_passes r may.lawful) e)
  where
    is_not : false ≡ true → ⊥
    is_not e = cc

pub wrong_number : (counters : Option Counters) (number : ℕ) (r : Rec) → number_fits number r ≡ false → Answers false counters number r
wrong_number counters number r e = (λ isnt. absurd (is_not isnt), λ may. not_both (number_fits number r) may.fits e)
  where
    is_not : false ≡ true → ⊥
    is_not e = cc

pub may_if : (counters : Option Counters) (number : ℕ) (r : Rec) (after : Counters) (said : Bool) → after ≡ after_record (counters_or_none counters) r → is_lawful r ≡ true → number_fits number r ≡ true
    → (IsNone counters → IsSome (first_number (r ∷ []))) → (IsTrue said ↔ IsBase after) → Answers said counters number r
may_if counters number r after said is lawful fits first base = (
  λ yes. record { lawful = lawful_if r lawful; first = first; fits = fits; base = subst IsBase is (base.0 yes) },
  λ may. base.1 (subst IsBase (sym is) may.base),
)

pub may_not : (counters : Option Counters) (number : ℕ) (r : Rec) → (is_base_of (after_record (counters_or_none counters) r) ≡ false) ⊎ (IsNone counters × IsNone (first_number (r ∷ []))) → Answers false counters number r
may_not counters number r (inl isnt) = (λ yes. absurd (is_not yes), λ may. not_both (is_base_of (after_record (counters_or_none counters) r)) (base_passes (after_record (counters_or_none counters) r) may.base) isnt)
  where
    is_not : false ≡ true → ⊥
    is_not e = cc
may_not counters number r (inr none) = (λ yes. absurd (is_not yes), λ may. absurd (both (first_number (r ∷ [])) (may.first none.0) none.1))
  where
    is_not : false ≡ true → ⊥
    is_not e = cc

pub counted : (counters : Option Counters) (r : Rec) (given : Option Counters) → IfSome given (λ n. n ≡ after_record (counters_or_none counters) r)
    → (IsNone given → (is_base_of (after_record (counters_or_none counters) r) ≡ false) ⊎ (IsNone counters × IsNone (first_number (r ∷ []))))
    → (IsNone counters → IsSome (first_number (r ∷ []))) → IsBase (after_record (counters_or_none counters) r) → given ≡ Some (after_record (counters_or_none counters) r)
counted counters r given some none first base =
    after_is given (after_record (counters_or_none counters) r) some (λ isnt. elim (none isnt) [ inl e ↦ e | inr e ↦ absurd (both (first_number (r ∷ [])) (first e.0) e.1) ]) base
