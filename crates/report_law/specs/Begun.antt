-- What a life begins from, by the records of the lives before it.
use Rattle.std.specs.Prelude.{◌≡◌, ℕ, ◌+◌, ◌-◌, ◌≤◌, List, [], ◌∷◌, ◌++◌, Option, Some, None, length, take}
use Rattle.std.specs.List.{filter_map, flat_map, fold}
use Rattle.tx_events.specs.declared.record.Counters.{Counters}
use Rattle.tx_events.specs.declared.record.Rec.{Rec}
use Rattle.tx_events.specs.declared.record.Rec.TheVariants as records
use Rattle.tx_events.specs.After.{after_records}
use Rattle.tx_events.specs.Base.{IsBase}
use Rattle.tx_model.specs.declared.report.Life.{Life}
use Rattle.tx_model.specs.declared.report.LifeReport.{LifeReport}
pub use Rattle.life_law.specs.MultiPlaces.{Recorded, recorded_by}

-- the ids that the record commits
abbrev pub committed_by : Rec → List ℕ
committed_by (records.Commit top subs) = top ∷ subs
committed_by _ = []

-- what a life begins from: counters, committed ids and recorded multixacts
pub record Begun : Type 0 where
  pub counters : Counters
  pub committed : List ℕ
  pub recorded : List Recorded

-- the first n records of a life are kept
abbrev pub begun_after : Begun → List Rec → Begun
begun_after b recs = record {
  counters = after_records b.counters recs;
  committed = b.committed ++ flat_map committed_by recs;
  recorded = b.recorded ++ filter_map recorded_by recs;
}

-- what the life begins from that comes after these; the first one from its own counters, and a life after others from
-- as many records as its number tells
abbrev pub begun_from : List LifeReport → Life → Begun
begun_from [] life = record { counters = life.base; committed = []; recorded = [] }
begun_from (r ∷ before) life = behind (record { counters = r.life.base; committed = []; recorded = [] }) r before
  where
    behind : Begun → LifeReport → List LifeReport → Begun
    behind b r [] = begun_after b (take (life.from - r.life.from) r.life.recs)
    behind b r (next ∷ rest) = behind (begun_after b (take (next.life.from - r.life.from) r.life.recs)) next rest

-- the last of the lives before
abbrev pub last_life : List LifeReport → Option LifeReport
last_life before = fold (λ earlier l. Some l) None before

-- where a life's log ends, as a number of records of all lives
abbrev pub records_end : Life → ℕ
records_end life = life.from + length life.recs

-- The first life begins a log. A later one begins from the records of the one before it, at least from all that were
-- known to be flushed, and has the counters that these give.
abbrev pub BeginsRight : List LifeReport → Life → Option LifeReport → Type 0
BeginsRight before life None = (life.from ≡ 0) × IsBase life.base
BeginsRight before life (Some last) =
    (last.life.flushed ≤ life.from) × (life.from ≤ records_end last.life) × (life.base ≡ (begun_from before life).counters)

abbrev pub IsLawfulStart : List LifeReport → Life → Type 0
IsLawfulStart before life = BeginsRight before life (last_life before)
