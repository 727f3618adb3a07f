use Rattle.hall_counts.specs.Steps.{opening}
use Rattle.hall_counts.proofs.counters.Given as goal

abbrev pub ghost-by : goal.ghost-by
ghost-by a = opening
