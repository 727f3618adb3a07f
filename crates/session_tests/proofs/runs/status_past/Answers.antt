use Rattle.std.proofs.Common.{refl}
use Rattle.session_run.specs.Unknown.{no_log}
use Rattle.session_run.proofs.Handed.{mem_may_begin}
use Rattle.session_tests.proofs.runs.status_past.Goals as goal

pub status_over-requires-clause-may : goal.status_over-requires-clause-may
status_over-requires-clause-may g c κs within =
    mem_may_begin no_log c.new-media.result c.new-media.ensures.log c.new-media.ensures.new refl (λ log. refl)
