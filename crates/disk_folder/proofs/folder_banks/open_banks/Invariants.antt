use Rattle.std.proofs.Common.{◌≡◌, length}
use Rattle.std.specs.List.{All}
use Rattle.disk_folder.specs.FolderViews.{IsNewBank}
use Rattle.disk_folder.proofs.folder_banks.open_banks.Given as goal

abbrev pub invariant-loop-bank : goal.invariant-loop-bank
invariant-loop-bank g l = (length l.volumes.items ≡ l.bank) × All IsNewBank l.volumes.items
