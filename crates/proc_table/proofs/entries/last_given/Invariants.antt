use Rattle.std.proofs.Common.{◌≡◌, false, take}
use Rattle.tx_events.specs.IdLists.{has}
use Rattle.proc_table.specs.Lists.{tops_of}
use Rattle.proc_table.proofs.entries.last_given.Given as goal

abbrev pub invariant-loop-entry : goal.invariant-loop-entry
invariant-loop-entry l = has (tops_of (take l.entry-index l.entries)) l.top ≡ false
