-- The promise over the whole list of a log's records: what a crash leaves of it.
use Rattle.std.specs.Prelude.{◌≡◌, ◌⊎◌, ℕ, ◌+◌, ◌<◌, ◌≤◌, List, ◌++◌, cond, length, nat_lt, Option, Some, None, Result, Ok, Err}
use Rattle.tx_events.specs.declared.record.Rec.{Rec}
use Rattle.disk_core.specs.Volume.{Volume}
use Rattle.wal_core.specs.Opening.{History, Opened, next_number, opened}
use Rattle.wal_core.specs.Log.{EndsWithin, history_on}

-- these records, the first of which has this number, stand one after the other in a list whose first has the number `first`
pub record IsStretch (first : ℕ) (all : List Rec) (number : ℕ) (recs : List Rec) : Type 0 where
  pub before : List Rec
  pub after : List Rec
  pub split : all ≡ before ++ (recs ++ after)
  pub place : first + length before ≡ number

-- records of the list from a number on that is at most `kept`, up to one that is at least `flushed`
abbrev pub HasRecords : ℕ → List Rec → ℕ → ℕ → Option History → Type 0
HasRecords first all kept flushed None = (flushed ≤ first) × (first ≤ kept)
HasRecords first all kept flushed (Some h) = IsStretch first all h.first h.recs × ((h.first ≤ kept) × (flushed ≤ next_number h))

abbrev pub OpensToRecords : ℕ → List Rec → ℕ → ℕ → Result Opened ℕ → Type 0
OpensToRecords first all kept flushed (Ok o) = HasRecords first all kept flushed o.history
OpensToRecords first all kept flushed (Err at) = ⊥

-- The volume opens to records of the list from the first that it keeps on, which isn't past `kept`. Those from there to
-- below `flushed` are among them, and the closed gate behind them is a byte of the volume.
pub record HasFlushed (first : ℕ) (all : List Rec) (kept flushed : ℕ) (v : Volume) : Type 0 where
  pub opens : OpensToRecords first all kept flushed (opened v)
  pub ends : EndsWithin v

-- the number of the first record, 0 where there is none
abbrev pub first_in : Option History → ℕ
first_in None = 0
first_in (Some h) = h.first

abbrev pub first_on : Volume → ℕ
first_on v = first_in (history_on v)

-- each begins with the record `kept` or with one other
abbrev pub BeginWith : ℕ → ℕ → (Volume → Type 0) → Type 0
BeginWith kept other images = (c : Volume) → images c → (first_on c ≡ kept) ⊎ (first_on c ≡ other)

-- which other, once they are to begin with the record of this number: the one with which they were to begin so far, where
-- it stands before that
abbrev pub other_behind : ℕ → ℕ → ℕ → ℕ
other_behind number kept other = cond (nat_lt kept number) kept other

-- The list ends with the records appended since the start, and each crash leaves records of it from the first retained
-- one on, which isn't past `kept`, up to one that is at least the flushed number. That first one is the record `kept` or
-- one other, the same in each image; and where a record behind `kept` is flushed, it is `kept`.
pub record KeepsRecords (first : ℕ) (all recs : List Rec) (next kept flushed : ℕ) (images : Volume → Type 0) : Type 0 where
  pub earlier : List Rec
  pub whole : all ≡ earlier ++ recs
  pub count : first + length all ≡ next
  pub each : (c : Volume) → images c → HasFlushed first all kept flushed c
  pub other : ℕ
  pub begins : BeginWith kept other images
  pub settled : kept + 1 < flushed → (c : Volume) → images c → first_on c ≡ kept
