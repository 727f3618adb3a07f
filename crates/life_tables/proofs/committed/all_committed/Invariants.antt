use Rattle.std.proofs.Common.{◌≡◌, take}
use Rattle.std.specs.List.{flat_map}
use Rattle.report_law.specs.Begun.{committed_by}
use Rattle.life_tables.proofs.committed.all_committed.Given as goal

abbrev pub invariant-loop-rec : goal.invariant-loop-rec
invariant-loop-rec l = l.all.items ≡ flat_map committed_by (take l.rec-index l.recs)
