-- What a crash leaves of a log, by what it might have left before a call.
use Rattle.std.specs.Prelude.{ℕ, List}
use Rattle.disk_core.specs.Volume.{Volume, Wrote}
use Rattle.wal_core.specs.Opening.{walked, IsBeforeOrAfter}

-- an image from before, after a write of n bytes at a place that may be cut short
abbrev pub IsWritten : (Volume → Type 0) → ℕ → ℕ → Volume → Type 0
IsWritten images at n c = (d : Volume) × images d × Wrote at n d c

-- the batches of an image from before, with one more or without
abbrev pub IsFromImage : (Volume → Type 0) → ℕ → List ℕ → Volume → Type 0
IsFromImage images gate body c = (d : Volume) × images d × IsBeforeOrAfter (walked d).bodies gate body c
