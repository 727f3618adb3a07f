use Rattle.std.proofs.Common.{refl, sym, ◌∙◌, eqb-true}
use Rattle.proc_table.proofs.entries.last_given.Goals as goal

pub returns-then-eq-clause-some : goal.returns-then-eq-clause-some
returns-then-eq-clause-some c = (c.loop-entry.entry-index, c.entry-item.result, c.loop-entry-test.true, sym c.entry-item.is, (sym (eqb-true _ _ (sym c.eq.ensures ∙ c.if-eq.true)), refl))
