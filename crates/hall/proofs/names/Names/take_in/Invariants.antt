use Rattle.std.proofs.Common.{◌≡◌}
use Rattle.hall.proofs.Naming.{AreUnited}
use Rattle.hall.proofs.names.Names.take_in.Given as goal

abbrev pub invariant-loop-name : goal.invariant-loop-name
invariant-loop-name l = (l.self.own ≡ l.fn.self.own) × AreUnited 65 l.name l.fn.self.held l.other.held l.self.held
