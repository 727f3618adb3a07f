use Rattle.std.specs.Prelude.{IfSome}
use Rattle.disk_core.specs.Pages.{IsAfter}
use Rattle.disk_folder.proofs.folder_pages.FolderPages.next_page.Given as goal

abbrev pub invariant-loop-entry : goal.invariant-loop-entry
invariant-loop-entry g l = IfSome l.next (IsAfter l.page)
