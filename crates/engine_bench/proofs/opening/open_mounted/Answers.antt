use Rattle.std.proofs.Common.{subst}
use Rattle.replay_core.specs.Opened.{IsFoundLog}
use Rattle.engine_bench.proofs.Beginning.{each_store, empty_log}
use Rattle.engine_bench.proofs.opening.open_mounted.Goals as goal

pub open_parts-requires-clause-volumes : goal.open_parts-requires-clause-volumes
open_parts-requires-clause-volumes c = let h = c.requires.banks in each_store _ h.xact h.subtrans h.offsets h.members

pub open_parts-requires-clause-new : goal.open_parts-requires-clause-new
open_parts-requires-clause-new c =
    empty_log c.args.volumes.log c.in-New.log (subst (λ f. IsFoundLog c.args.volumes.log f) c.in-New.is c.in-Ok.ensures.found)
