use Rattle.std.proofs.Common.{◌≡◌, false, take, ◌==◌}
use Rattle.std.specs.List.{list_any}
use Rattle.proc_table.specs.declared.entry.Entry.{Entry}
use Rattle.proc_table.proofs.entries.top_of.Given as goal

abbrev pub invariant-loop-entry : goal.invariant-loop-entry
invariant-loop-entry l = list_any (λ (e : Entry). e.session == l.session) (take l.entry-index l.entries) ≡ false
