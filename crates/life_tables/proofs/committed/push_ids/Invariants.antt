use Rattle.std.proofs.Common.{◌≡◌, ◌++◌, take}
use Rattle.life_tables.proofs.committed.push_ids.Given as goal

abbrev pub invariant-loop-id : goal.invariant-loop-id
invariant-loop-id l = l.all.items ≡ l.fn.all.items ++ take l.id-index l.ids
