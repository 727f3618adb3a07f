-- The state of a log over a disk.
use Rattle.std.specs.Prelude.{◌≡◌, ◌≢◌, ◌⊎◌, ℕ, ◌+◌, ◌<◌, ◌≤◌, ◌^◌, IsTrue, ◌-◌, List, [], ◌∷◌, ◌++◌, take, drop, remove, slice_index, length, Option, Some, None, Result, Ok, Err, IsNone, IsSome, IfOk}
use Rattle.std.specs.List.{flat_map}
use Rattle.tx_events.specs.declared.record.Rec.{Rec}
use Rattle.tx_events.specs.declared.record.Counters.{Counters}
use Rattle.tx_events.specs.After.{after_record}
use Rattle.tx_events.specs.Base.{IsBase}
use Rattle.disk_core.specs.Volume.{Volume}
use Rattle.wal_records.specs.Numbers.{le_bytes}
use Rattle.wal_records.specs.Spelling.{rec_bytes, IsLawful}
use Rattle.wal_records.specs.Reading.{◌>>=◌}
use Rattle.wal_core.specs.Opening.{History, Opened, walked, AtRest, with_body, opened, behind_gate, no_counters, number_fits, first_number, next_number}

abbrev pub history_in : Result Opened ℕ → Option History
history_in (Ok o) = o.history
history_in (Err at) = None

-- what the volume has
abbrev pub history_on : Volume → Option History
history_on v = history_in (opened v)

abbrev pub bytes_of : List Rec → List ℕ
bytes_of recs = flat_map rec_bytes recs

-- ---- where records end

-- the counters after the last of them, if there is one, and the number of the next
pub record End : Type 0 where
  pub counters : Option Counters
  pub next : ℕ

abbrev pub end_of : Option History → End
end_of None = record { counters = None; next = 0 }
end_of (Some h) = record { counters = Some h.counters; next = next_number h }

-- with these records more, if they may come next
abbrev pub end_with : ℕ → Option History → List Rec → Option End
end_with gate h [] = Some (end_of h)
end_with gate h (r ∷ recs) = with_body gate h (bytes_of (r ∷ recs)) >>= λ x. Some (end_of (Some x))

-- whole batches up to this gate, behind which these records may be put, to end so
pub record IsReady (gate : ℕ) (pending : List Rec) (counters : Option Counters) (next : ℕ) (v : Volume) : Type 0 where
  pub at_rest : AtRest v (walked v).bodies gate
  pub opens : opened v ≡ Ok (record { history = history_on v; gate = gate })
  pub ends : end_with gate (history_on v) pending ≡ Some (record { counters = counters; next = next })

-- what is written next
pub record IsNextBatch (behind : List ℕ) (pending : List Rec) : Type 0 where
  pub spelled : behind ≡ behind_gate (bytes_of pending)
  pub few : length (bytes_of pending) < 2 ^ 32

-- with these bytes more before the last gate
abbrev pub with_more : List ℕ → List ℕ → List ℕ
with_more behind more = le_bytes 4 (length (behind ++ more) - 5) ++ drop 4 (remove (behind ++ (more ++ 0 ∷ [])) (length behind - 1))

-- ---- what a crash leaves

-- where the volume opens to a history, the closed gate behind it is a byte of the volume
abbrev pub EndsWithin : Volume → Type 0
EndsWithin v = IfOk (opened v) (λ o. IsSome o.history → o.gate < length v.bytes)

-- a volume that opens as v does, or with these records more
abbrev pub OpensBeforeOrAfter : Volume → ℕ → List Rec → Volume → Type 0
OpensBeforeOrAfter v gate pending c =
    (opened c ≡ opened v)
    ⊎ (opened c ≡ Ok (record { history = with_body gate (history_on v) (bytes_of pending); gate = gate + (5 + length (bytes_of pending)) }))

-- an image of before opens so, or with these records more, and the closed gate behind them is a byte of this volume
abbrev pub OpensFromImage : (Volume → Type 0) → ℕ → List Rec → Volume → Type 0
OpensFromImage images gate pending c = (d : Volume) × images d × (OpensBeforeOrAfter d gate pending c × EndsWithin c)

-- a volume that opens as v does. Where v has its closed gate within, this one has
abbrev pub OpensAs : Volume → Volume → Type 0
OpensAs v c = (opened c ≡ opened v) × (EndsWithin v → EndsWithin c)

-- an image of before opens so
abbrev pub OpensAsBefore : (Volume → Type 0) → Volume → Type 0
OpensAsBefore images c = (d : Volume) × images d × OpensAs d c

-- ---- what may be appended

abbrev pub counters_or_none : Option Counters → Counters
counters_or_none (Some c) = c
counters_or_none None = no_counters

-- the record may be appended to a log with these counters, whose next record has this number
pub record MayAppend (counters : Option Counters) (number : ℕ) (r : Rec) : Type 0 where
  pub lawful : IsLawful r
  pub first : IsNone counters → IsSome (first_number (r ∷ []))
  pub fits : IsTrue (number_fits number r)
  pub base : IsBase (after_record (counters_or_none counters) r)

-- the log would pass its greatest length, or the batch its own
abbrev pub IsFull : ℕ → ℕ → ℕ → Type 0
IsFull gate pending more = (2 ^ 40 < gate + 6 + pending + more) ⊎ (2 ^ 32 ≤ pending + more)

-- ---- what is found at the start

-- the volume opens as v does, has the same batches and is ready
pub record OpensAgainAs (gate : ℕ) (counters : Option Counters) (next : ℕ) (v u : Volume) : Type 0 where
  pub opens : opened u ≡ opened v
  pub batches : IsSome counters → (walked u).bodies ≡ (walked v).bodies
  pub ready : IsReady gate [] counters next u

-- once a closed gate stands behind these batches, the volume opens as it did and is ready
pub record OpensOnceClosed (gate : ℕ) (counters : Option Counters) (next : ℕ) (v : Volume) : Type 0 where
  pub within : gate ≤ length v.bytes
  -- a byte behind an old log, or the first of more than one byte of a new log, is a closed gate
  pub closed : (counters ≡ None → 1 < length v.bytes) → gate < length v.bytes → slice_index v.bytes gate ≢ 1
  pub again : (u : Volume) → u.start ≡ v.start → take gate u.bytes ≡ take gate v.bytes → gate < length u.bytes → slice_index u.bytes gate ≢ 1 → OpensAgainAs gate counters next v u
