use Rattle.std.proofs.Common.{sym, subst, arith, ◌<◌, ◌^◌}
use Rattle.proc_table.proofs.Bounds.{next_id_to}
use Rattle.proc_table.proofs.StateBounds.{late_bounds}
use Rattle.proc_table.proofs.table.ProcTable.xmax.Goals as goal

pub advance-requires-clause-from : goal.advance-requires-clause-from
advance-requires-clause-from c = (late_bounds _ _ _ _ _ _ _ _ c.self.invariant.0).0

pub advance-requires-clause-to : goal.advance-requires-clause-to
advance-requires-clause-to c = let b = (late_bounds _ _ _ _ _ _ _ _ c.self.invariant.0).1 in omega (arith, b)

pub returns-clause-to : goal.returns-clause-to
returns-clause-to c = subst (λ n. n < 2 ^ 63) (sym c.advance.ensures.value) (next_id_to _ (late_bounds _ _ _ _ _ _ _ _ c.self.invariant.0).1)
