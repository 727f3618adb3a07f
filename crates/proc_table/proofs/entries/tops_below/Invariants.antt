use Rattle.std.proofs.Common.{◌≡◌, take}
use Rattle.proc_table.specs.Lists.{tops_of, entries_below}
use Rattle.proc_table.proofs.entries.tops_below.Given as goal

abbrev pub invariant-loop-entry : goal.invariant-loop-entry
invariant-loop-entry l = l.tops ≡ tops_of (entries_below (take l.entry-index l.entries) l.limit)
