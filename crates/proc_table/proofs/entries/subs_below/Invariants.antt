use Rattle.std.proofs.Common.{◌≡◌, take}
use Rattle.proc_table.specs.Lists.{subs_of, entries_below}
use Rattle.proc_table.proofs.entries.subs_below.Given as goal

abbrev pub invariant-loop-entry : goal.invariant-loop-entry
invariant-loop-entry l = l.subs.items ≡ subs_of (entries_below (take l.entry-index l.entries) l.limit)
