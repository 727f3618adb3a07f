use Rattle.std.proofs.Common.{arith}
use Rattle.host_sections.proofs.home.take_multi.Goals as goal

pub take_part-part-requires-clause-lock : goal.take_part-part-requires-clause-lock
take_part-part-requires-clause-lock g c = omega (arith, c.requires.alone.laid)
