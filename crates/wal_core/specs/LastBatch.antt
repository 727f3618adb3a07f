-- The last batch of a log volume.
use Rattle.std.specs.Prelude.{ℕ, ◌+◌, List, [], ◌∷◌, length, drop, Option, Some, None, cond}
use Rattle.disk_core.specs.Volume.{Volume}
use Rattle.wal_core.specs.Opening.{walk, is_new}

-- the place of its gate, and its bytes
abbrev pub Batch : Type 0
Batch = ℕ × List ℕ

-- the last of the batches from a place on, or the one before them
abbrev pub last_of : Option Batch → ℕ → List (List ℕ) → Option Batch
last_of before at [] = before
last_of before at (body ∷ bodies) = last_of (Some (at, body)) (at + (5 + length body)) bodies

-- behind a volume's start
abbrev pub last_in : ℕ → List ℕ → Option Batch
last_in start bytes = last_of None start (walk (length bytes + 1) bytes).bodies

-- of a volume, where it isn't new
unfoldable pub last_batch : Volume → Option Batch
last_batch v = cond (is_new v) None (last_in v.start (drop v.start v.bytes))
