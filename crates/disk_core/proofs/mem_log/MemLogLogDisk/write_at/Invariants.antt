use Rattle.std.proofs.Common.{[], ◌∷◌, ◌++◌}
use Rattle.disk_core.specs.MemLogViews.{log_moment}
use Rattle.disk_core.proofs.mem_log.MemLogLogDisk.write_at.Given as goal

abbrev pub ghost-by : goal.ghost-by
ghost-by a = a._about.now.past.value ++ log_moment a._about.now ∷ []
