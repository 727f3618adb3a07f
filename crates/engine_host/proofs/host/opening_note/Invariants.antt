use Rattle.engine_host.specs.Hosts.{opening}
use Rattle.engine_host.proofs.host.opening_note.Given as goal

abbrev pub ghost-by : goal.ghost-by
ghost-by a = opening a._about.now.value
