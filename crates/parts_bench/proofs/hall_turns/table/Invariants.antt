use Rattle.parts_bench.specs.Plain.{opening}
use Rattle.parts_bench.proofs.hall_turns.table.Given as goal

abbrev pub ghost-by : goal.ghost-by
ghost-by a = opening a._about.now.0 a._about.now.1
