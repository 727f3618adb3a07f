use Rattle.std.proofs.Common.{◌≡◌, false, take}
use Rattle.proc_table.specs.Lists.{some_overflowed, entries_below}
use Rattle.proc_table.proofs.entries.has_overflow_below.Given as goal

abbrev pub invariant-loop-entry : goal.invariant-loop-entry
invariant-loop-entry l = some_overflowed (entries_below (take l.entry-index l.entries) l.limit) ≡ false
