use Rattle.engine_host.specs.Opening.{new_life}
use Rattle.engine_host.proofs.building.life_note.Given as goal

abbrev pub ghost-by : goal.ghost-by
ghost-by g a = new_life a._about.now.cluster g.begins a._about.now.locks.items
