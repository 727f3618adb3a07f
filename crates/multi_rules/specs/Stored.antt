-- Where the lives before gave the multixacts that the log has recorded.
use Rattle.std.specs.Prelude.{◌≡◌, ℕ, ◌<◌, List, Some, Contains, length, map, slice_get}
use Rattle.std.specs.List.{HoldsAt}
use Rattle.tx_events.specs.declared.event.By.{By}
use Rattle.tx_events.specs.declared.multi.Member.{Member}
use Rattle.tx_events.specs.declared.multi.MultiEvent.TheVariants as multis
use Rattle.tx_events.specs.IdLists.{Ascending}
use Rattle.tx_model.specs.declared.report.LifeReport.{LifeReport}
use Rattle.report_law.specs.Begun.{Recorded}
use Rattle.multi_rules.specs.declared.homes.Home.{Home}

-- the event there gives these members
pub record IsHome (lives : List LifeReport) (home : Home) (members : List Member) : Type 0 where
  pub report : LifeReport
  pub lived : slice_get lives home.life ≡ Some report
  pub by : By
  pub stands : slice_get report.life.multis home.event ≡ Some (multis.Gen by home.multi home.offset members)

-- each recorded multixact has one home, in the order of their numbers
pub record AreHomes (lives : List LifeReport) (recorded : List Recorded) (homes : List Home) : Type 0 where
  pub order : Ascending (map (λ (h : Home). h.multi) homes)
  pub told : (home : Home) → Contains homes home → (members : List Member) × IsHome lives home members × Contains recorded (home.multi, home.offset, members)
  pub all : (multi offset : ℕ) (members : List Member) → Contains recorded (multi, offset, members)
      → (home : Home) × Contains homes home × (home.multi ≡ multi) × (home.offset ≡ offset) × IsHome lives home members

-- the multixact's home stands at place i
abbrev pub IsPlaceOf : List Home → ℕ → ℕ → Type 0
IsPlaceOf homes multi i = (i < length homes) × HoldsAt (λ (h : Home). h.multi ≡ multi) homes i

-- it stands at no place
abbrev pub IsMissing : List Home → ℕ → Type 0
IsMissing homes multi = (k : ℕ) → k < length homes → HoldsAt (λ (h : Home). h.multi ≡ multi → ⊥) homes k
