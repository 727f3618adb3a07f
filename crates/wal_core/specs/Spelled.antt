-- What a volume opens to, said by how records are spelled.
use Rattle.std.specs.Prelude.{◌≡◌, ◌↔◌, ◌⊎◌, ℕ, ◌<◌, ◌≤◌, ◌^◌, List, [], ◌∷◌, ◌++◌, All, length, take, drop, map, Some, None, Ok}
use Rattle.std.specs.List.{AllByRecursion}
use Rattle.tx_events.specs.declared.record.Rec.{Rec}
use Rattle.disk_core.specs.Volume.{Volume}
use Rattle.wal_records.specs.Spelling.{IsLawful}
use Rattle.wal_core.specs.Opening.{History, BeginsOpen, batches_bytes, first_number, began, joined, opened}
use Rattle.wal_core.specs.Log.{bytes_of}

-- from its first byte on, without an open gate that anything stands behind
abbrev pub IsNewVolume : Volume → Type 0
IsNewVolume v = (v.start ≡ 0) × ((length v.bytes ≤ 1) ⊎ (BeginsOpen v.bytes → ⊥))

-- A volume opens to no history exactly where it is new.
abbrev pub NewExactly : Type 0
NewExactly = (v : Volume) (gate : ℕ) → (opened v ≡ Ok (record { history = None; gate = gate })) ↔ (IsNewVolume v × (gate ≡ 0))

-- the records of batches, one after the other
abbrev pub all_of : List (List Rec) → List Rec
all_of [] = []
all_of (batch ∷ batches) = batch ++ all_of batches

abbrev pub first_of : List (List Rec) → List Rec
first_of [] = []
first_of (batch ∷ batches) = batch

abbrev pub bodies_of : List (List Rec) → List (List ℕ)
bodies_of batches = map bytes_of batches

-- From its start up to the gate the volume has these batches, each record lawful and spelled. The gate isn't open.
pub record IsSpelled (v : Volume) (batches : List (List Rec)) (gate : ℕ) : Type 0 where
  pub begins : v.start ≤ gate
  pub within : gate ≤ length v.bytes
  pub front : drop v.start (take gate v.bytes) ≡ batches_bytes (bodies_of batches)
  pub lawful : AllByRecursion (AllByRecursion IsLawful) batches
  pub few : AllByRecursion (λ body. length body < 2 ^ 32) (bodies_of batches)
  pub closed : BeginsOpen (drop gate v.bytes) → ⊥

-- The first record is a checkpoint whose number isn't past the start. Each later checkpoint has its own number, and the
-- counters after each record are a base.
pub record IsHistoryOf (start : ℕ) (batches : List (List Rec)) (h : History) : Type 0 where
  pub starts : first_number (first_of batches) ≡ Some h.first
  pub low : h.first ≤ start
  pub joins : joined (began h.first) (all_of batches) ≡ Some h

-- A volume of bytes opens to a history and a gate exactly where it has batches of these records up to this gate.
abbrev pub OpensExactly : Type 0
OpensExactly = (v : Volume) (h : History) (gate : ℕ) → All (λ b. b < 2 ^ 8) (drop v.start v.bytes)
    → (opened v ≡ Ok (record { history = Some h; gate = gate })) ↔ ((batches : List (List Rec)) × (IsSpelled v batches gate × IsHistoryOf v.start batches h))
