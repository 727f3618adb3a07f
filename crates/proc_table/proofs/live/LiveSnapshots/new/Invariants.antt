use Rattle.std.proofs.Common.{◌≡◌, ℕ, List, length, None}
use Rattle.proc_table.specs.Lives.{kept_xmin}
use Rattle.proc_table.proofs.live.LiveSnapshots.new.Given as goal

abbrev pub invariant-loop : goal.invariant-loop
invariant-loop l = (length l.names.items ≡ l.counter) × ((t : ℕ) (ns : List ℕ) → kept_xmin l.names.items t ns ≡ None)
