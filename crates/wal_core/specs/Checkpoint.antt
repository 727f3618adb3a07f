-- The checkpoint before which a log can be forgotten.
use Rattle.std.specs.Prelude.{◌≡◌, ◌⊎◌, ℕ, ◌-◌, ◌≤◌, nat_lt, cond, List, [], ◌∷◌, Option, Some, None, Ok}
use Rattle.std.specs.List.{slice_get}
use Rattle.tx_events.specs.declared.record.Rec.{Rec}
use Rattle.tx_events.specs.declared.record.Rec.TheVariants as records
use Rattle.tx_events.specs.declared.record.Counters.{Counters}
use Rattle.disk_core.specs.Volume.{Volume}
use Rattle.wal_core.specs.Opening.{History, recs_of, opened}
use Rattle.wal_core.specs.LastBatch.{Batch}
use Rattle.wal_core.specs.Log.{history_on, IsReady, EndsWithin}
use Rattle.wal_core.specs.declared.checkpoint.LastCheckpoint.{LastCheckpoint}

-- The batch at this gate is a checkpoint alone, with the counters that the log has after it. Or it isn't.
abbrev pub IsLastCheckpoint : ℕ → List Rec → Option Counters → Option LastCheckpoint → Type 0
IsLastCheckpoint gate batch after (Some k) = (k.gate ≡ gate) × ((batch ≡ records.Checkpoint k.number k.counters ∷ []) × (after ≡ Some k.counters))
IsLastCheckpoint gate batch after None = (number : ℕ) (counters : Counters) → batch ≡ records.Checkpoint number counters ∷ [] → after ≡ Some counters → ⊥

-- the same of the last batch, if there is one
abbrev pub IsCheckpointIn : Option Batch → Option Counters → Option LastCheckpoint → Type 0
IsCheckpointIn (Some batch) after k = (recs : List Rec) × ((recs_of batch.1 ≡ Some recs) × IsLastCheckpoint batch.0 recs after k)
IsCheckpointIn None after k = k ≡ None

-- the checkpoint's record
abbrev pub record_of : LastCheckpoint → Rec
record_of k = records.Checkpoint k.number k.counters

-- a log that begins with it
abbrev pub begun_with : LastCheckpoint → History
begun_with k = record { first = k.number; recs = record_of k ∷ []; counters = k.counters }

-- the same bytes, kept from a place on
abbrev pub kept_from : ℕ → Volume → Volume
kept_from at v = record { start = at; bytes = v.bytes }

-- the record of this number
abbrev pub numbered : ℕ → Option History → Option Rec
numbered n None = None
numbered n (Some h) = cond (nat_lt n h.first) None (slice_get h.recs (n - h.first))

-- the volume has the checkpoint. Kept from it on, it opens to that alone, and what is pending goes on from there
pub record MayBegin (k : LastCheckpoint) (gate : ℕ) (pending : List Rec) (counters : Option Counters) (next : ℕ) (v : Volume) : Type 0 where
  pub has : numbered k.number (history_on v) ≡ Some (record_of k)
  pub not_past : v.start ≤ k.gate
  pub ready : IsReady gate pending counters next (kept_from k.gate v)
  pub alone : history_on (kept_from k.gate v) ≡ Some (begun_with k)

-- an image of before opens so, or the log begins with the checkpoint. The closed gate behind it is a byte of this volume
abbrev pub OpensOrBegins : (Volume → Type 0) → LastCheckpoint → ℕ → Volume → Type 0
OpensOrBegins images k gate c = (d : Volume) × images d × (((opened c ≡ opened d) ⊎ (opened c ≡ Ok (record { history = Some (begun_with k); gate = gate }))) × EndsWithin c)
