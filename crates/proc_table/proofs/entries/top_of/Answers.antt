use Rattle.std.proofs.Common.{refl, sym}
use Rattle.proc_table.proofs.entries.top_of.Goals as goal

pub returns-then-entry-session-clause-some : goal.returns-then-entry-session-clause-some
returns-then-entry-session-clause-some c = (c.loop-entry.entry-index, c.entry-item.result, c.loop-entry-test.true, sym c.entry-item.is, (c.if-entry-session.true, refl))
