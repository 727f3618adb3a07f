use Rattle.engine_life.specs.Reopening.{behind}
use Rattle.engine_life.proofs.old_parts.open_old.Given as goal

abbrev pub ghost-open_recovered : goal.ghost-open_recovered
ghost-open_recovered g a = behind g.P.PageDisk.tells g.kept a.recovered.from
