use Rattle.std.proofs.Common.{◌≡◌, length}
use Rattle.std.specs.List.{All}
use Rattle.disk_core.specs.MemMediaViews.{IsNewBank}
use Rattle.disk_core.proofs.mem_banks.new_banks.Given as goal

abbrev pub invariant-loop : goal.invariant-loop
invariant-loop l = (length l.banks.items ≡ l.counter) × All IsNewBank l.banks.items
