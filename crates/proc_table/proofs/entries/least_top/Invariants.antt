use Rattle.std.proofs.Common.{◌≡◌, take, min}
use Rattle.std.specs.List.{fold}
use Rattle.proc_table.specs.Lists.{tops_of}
use Rattle.proc_table.proofs.entries.least_top.Given as goal

abbrev pub invariant-loop-entry : goal.invariant-loop-entry
invariant-loop-entry l = l.least ≡ fold min l.fn.from (tops_of (take l.entry-index l.entries))
