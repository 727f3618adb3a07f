use Rattle.std.proofs.Common.{[]}
use Rattle.disk_core.proofs.mem_pages.MemPages.new.Given as goal

abbrev pub ghost-by : goal.ghost-by
ghost-by a = []
