-- The records of transactions in the law's words.
use Rattle.std.proofs.Common.{◌↔◌, ◌⊎◌, ℕ, Bool, IsTrue, List, ⊎_elim, inl, inr}
use Rattle.tx_events.specs.declared.record.Rec.TheVariants as records
use Rattle.tx_events.specs.declared.xact_end.XactEnd.{XactEnd}
use Rattle.tx_events.specs.declared.xact_end.XactEnd.TheVariants as ends
use Rattle.report_law.specs.Records.{IsEndedAs, IsOpenOf, IsTrueRecord}
use Rattle.report_law.specs.Steps.{Judged, lines_of}
use Rattle.record_rules.specs.Answered.{may_have}
use Rattle.record_rules.proofs.OpenAtEnd.{abort_told, commit_told}

abbrev pub IsEndRecorded : Judged → XactEnd → ℕ → List ℕ → Type 0
IsEndRecorded j how top subs = IsEndedAs j.life.events how top subs ⊎ ((s : ℕ) × IsOpenOf j.life.events s top subs × IsTrue (may_have how (lines_of j) s))

pub commit_iff : (j : Judged) (top : ℕ) (subs : List ℕ) (b : Bool) → IsTrue b ↔ IsEndRecorded j ends.Commit top subs → IsTrue b ↔ IsTrueRecord j (records.Commit top subs)
commit_iff j top subs b iff = (
  λ t. ⊎_elim (λ (e : IsEndedAs j.life.events ends.Commit top subs). inl e) (λ o. let told = (commit_told (lines_of j) o.0).0 o.2 in inr (o.0, o.1, told.0, told.1)) (iff.0 t),
  λ r. iff.1 (⊎_elim (λ (e : IsEndedAs j.life.events ends.Commit top subs). inl e) (λ o. inr (o.0, o.1, (commit_told (lines_of j) o.0).1 (o.2, o.3))) r),
)

pub abort_iff : (j : Judged) (top : ℕ) (subs : List ℕ) (b : Bool) → IsTrue b ↔ IsEndRecorded j ends.Abort top subs → IsTrue b ↔ IsTrueRecord j (records.Abort top subs)
abort_iff j top subs b iff = (
  λ t. ⊎_elim (λ (e : IsEndedAs j.life.events ends.Abort top subs). inl e) (λ o. let told = (abort_told (lines_of j) o.0).0 o.2 in inr (o.0, o.1, told.0, told.1)) (iff.0 t),
  λ r. iff.1 (⊎_elim (λ (e : IsEndedAs j.life.events ends.Abort top subs). inl e) (λ o. inr (o.0, o.1, (abort_told (lines_of j) o.0).1 (o.2, o.3))) r),
)
