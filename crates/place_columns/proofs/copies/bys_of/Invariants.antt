use Rattle.std.proofs.Common.{◌≡◌, take, map}
use Rattle.place_columns.proofs.copies.bys_of.Given as goal

abbrev pub invariant-loop-e : goal.invariant-loop-e
invariant-loop-e g l = l.bys.items ≡ map g.E.Owned.by (take l.e-index l.events)
