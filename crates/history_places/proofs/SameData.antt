-- What a snapshot holds, field by field.
use Rattle.std.proofs.Common.{◌≡◌}
use Rattle.tx_events.specs.declared.snapshot.SnapData.{SnapData}

pub same_data : (a b : SnapData) → a.xmin ≡ b.xmin → a.xmax ≡ b.xmax → a.xip ≡ b.xip → a.subxip ≡ b.subxip → a.overflowed ≡ b.overflowed → a ≡ b
same_data a b n x i s o = λ j. record { xmin = n j; xmax = x j; xip = i j; subxip = s j; overflowed = o j }
