use Rattle.std.proofs.Common.{◌≡◌, false, take}
use Rattle.std.specs.List.{list_any}
use Rattle.proc_table.specs.Entries.{is_of_entry}
use Rattle.proc_table.proofs.entries.is_running.Given as goal

abbrev pub invariant-loop-entry : goal.invariant-loop-entry
invariant-loop-entry l = list_any (is_of_entry l.id) (take l.entry-index l.entries) ≡ false
