-- What a life begins from, by the one before it.
use Rattle.std.specs.Prelude.{◌≡◌, ℕ, ◌+◌, ◌-◌, ◌<◌, ◌≤◌, List, length, take}
use Rattle.tx_events.specs.declared.record.Counters.{Counters}
use Rattle.tx_events.specs.declared.record.Rec.{Rec}
use Rattle.tx_events.specs.After.{after_records}
use Rattle.tx_events.specs.Base.{IsBase}
use Rattle.tx_model.specs.declared.report.Life.{Life}
use Rattle.tx_model.specs.declared.report.LifeReport.{LifeReport}
use Rattle.report_law.specs.Begun.{records_end}

-- it begins a log
abbrev pub BeginsLog : Life → Type 0
BeginsLog life = (life.from ≡ 0) × IsBase life.base

-- it begins from as many records of this one as its number tells, at least from all that were known to be flushed
abbrev pub BeginsFrom : Life → Life → Type 0
BeginsFrom last life =
    (last.flushed ≤ life.from) × (life.from ≤ records_end last) × (life.base ≡ after_records last.base (take (life.from - last.from) last.recs))

abbrev pub BeginsBehind : LifeReport → Life → Type 0
BeginsBehind last life = BeginsFrom last.life life

-- behind each of the records the counters are a base
abbrev pub AreBases : Counters → List Rec → Type 0
AreBases base recs = (n : ℕ) → n ≤ length recs → IsBase (after_records base (take n recs))

-- behind some of them they aren't
abbrev pub IsNoBase : Counters → List Rec → Type 0
IsNoBase base recs = (n : ℕ) × (n ≤ length recs) × (IsBase (after_records base (take n recs)) → ⊥)

-- the record at this place is the first behind which they aren't
pub record IsFirstNoBase (base : Counters) (recs : List Rec) (place : ℕ) : Type 0 where
  pub within : place < length recs
  pub before : AreBases base (take place recs)
  pub broken : IsBase (after_records base (take (place + 1) recs)) → ⊥
