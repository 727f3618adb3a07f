use Rattle.std.proofs.Common.{sym, ◌∙◌, ap, min}
use Rattle.std.specs.List.{fold}
use Rattle.std.proofs.Common.{map}
use Rattle.proc_table.specs.Lists.{tops_of}
use Rattle.proc_table.specs.Table.{Table, xmin_of}
use Rattle.tx_events.specs.Horizon.{LiveSnap, live_snaps}
use Rattle.tx_events.specs.Snapshots.{snapshot_xmax}
use Rattle.proc_table.proofs.QuietStates.{oldest_xmin_is}
use Rattle.proc_table.proofs.table.ProcTable.oldest_xmin.Goals as goal

pub returns : goal.returns
returns c =
    c.least_xmin.ensures (live_snaps c.self.inside.base.next c.self.inside.events.items) c.self.invariant.0.live
    ∙ ap (λ m. fold min m (map (λ (s : LiveSnap). s.xmin) (live_snaps c.self.inside.base.next c.self.inside.events.items)))
    (c.least_top.ensures ∙ ap (λ es. fold min c.xmax.result (tops_of es)) c.deref.ensures.value
    ∙ ap (λ m. fold min m (tops_of c.self.inside.entries.items)) (c.xmax.ensures.is ∙ sym (ap (λ (t : Table). snapshot_xmax t.base.next t.events) c.self.view_is)))
    ∙ oldest_xmin_is _ _ _ _ _ _ _ _ c.self.invariant.0
    ∙ ap xmin_of c.self.view_is
