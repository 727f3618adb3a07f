use Rattle.std.proofs.Common.{refl}
use Rattle.rule_tests.proofs.fact_tests.half_of_six.Goals as goal

pub found-requires : goal.found-requires
found-requires c = (3, refl)
