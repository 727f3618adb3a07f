use Rattle.recoverable.proofs.Offsets.{no_stray_offset}
use Rattle.recoverable.proofs.laws.no_stray_offset.Goals as goal

pub returns : goal.returns
returns c = no_stray_offset
