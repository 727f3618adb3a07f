-- What a snapshot holds, by how it is held.
use Rattle.std.specs.Prelude.{ℕ, [], false}
use Rattle.tx_events.specs.declared.snapshot.SnapData.{SnapData}
use Rattle.tx_events.specs.declared.shared_snap.Held.{Held}
use Rattle.tx_events.specs.declared.shared_snap.Held.TheVariants as helds

-- where nothing ran
abbrev pub idle_data : ℕ → ℕ → SnapData
idle_data xmin xmax = record { xmin = xmin; xmax = xmax; xip = []; subxip = []; overflowed = false }

abbrev pub data_in : Held → SnapData
data_in (helds.Idle xmin xmax) = idle_data xmin xmax
data_in (helds.Lists block) = block.value
