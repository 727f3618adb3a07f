use Rattle.std.proofs.Common.{sym, ◌∙◌, subst, ap, min}
use Rattle.proc_table.specs.Table.{Table, data_at}
use Rattle.std.specs.List.{fold}
use Rattle.proc_table.specs.Lists.{tops_of, entries_below, some_overflowed, AreListed}
use Rattle.tx_events.specs.Snapshots.{snapshot_xmax}
use Rattle.proc_table.proofs.SnapshotLemmas.{taken_is}
use Rattle.proc_table.proofs.table.ProcTable.compute.Goals as goal

pub returns : goal.returns
returns c =
    taken_is _ _ _ _ _ _ _ _ c.least_top.result c.xmax-xmax.result c.in_ok-tops_below.field-0 c.in_ok-listed_subs.field-0 c.has_overflow_below-overflowed.result c.self.invariant.0
    (c.xmax-xmax.ensures.is ∙ sym (ap (λ (t : Table). snapshot_xmax t.base.next t.events) c.self.view_is))
    (c.least_top.ensures ∙ ap (λ es. fold min c.xmax-xmax.result (tops_of es)) c.deref-2.ensures.value)
    (c.in_ok-tops_below.ensures ∙ ap (λ es. tops_of (entries_below es c.xmax-xmax.result)) c.deref-3.ensures.value)
    (c.has_overflow_below-overflowed.ensures ∙ ap (λ es. some_overflowed (entries_below es c.xmax-xmax.result)) c.deref.ensures.value)
    (subst (λ es. AreListed es c.xmax-xmax.result c.has_overflow_below-overflowed.result c.in_ok-listed_subs.field-0) c.deref-4.ensures.value c.in_ok-listed_subs.ensures)
    ∙ ap data_at c.self.view_is
