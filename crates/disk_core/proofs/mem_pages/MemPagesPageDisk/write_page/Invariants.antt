use Rattle.std.proofs.Common.{[], ◌∷◌, ◌++◌}
use Rattle.disk_core.specs.MemPagesViews.{page_moment}
use Rattle.disk_core.proofs.mem_pages.MemPagesPageDisk.write_page.Given as goal

abbrev pub ghost-by : goal.ghost-by
ghost-by a = a._about.now.past.value ++ page_moment a._about.now ∷ []
