use Rattle.std.proofs.Common.{sym, ◌∙◌}
use Rattle.proc_table.proofs.EntryLists.{over_at, cmp_lt}
use Rattle.proc_table.proofs.entries.has_overflow_below.Goals as goal

pub returns-then-entry : goal.returns-then-entry
returns-then-entry c =
    sym (over_at c.args.entries.now c.args.limit c.loop-entry.entry-index c.entry-item.result c.loop-entry-test.true c.entry-item.is
    (sym (cmp_lt c.entry-item.result.top c.args.limit) ∙ sym c.lt.ensures ∙ c.if-lt.true) c.if-entry.true)
