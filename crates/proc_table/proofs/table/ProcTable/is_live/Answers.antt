use Rattle.std.proofs.Common.{◌∙◌, ap}
use Rattle.std.specs.Prelude.{is_some}
use Rattle.tx_events.specs.Horizon.{live_snaps, is_live}
use Rattle.proc_table.specs.Table.{Table}
use Rattle.proc_table.proofs.LiveLemmas.{live_is_some}
use Rattle.proc_table.proofs.table.ProcTable.is_live.Goals as goal

pub returns : goal.returns
returns c =
    c.is_some.ensures
    ∙ ap is_some (c.xmin_of.ensures (live_snaps c.self.inside.base.next c.self.inside.events.items) c.self.invariant.0.live)
    ∙ live_is_some (live_snaps c.self.inside.base.next c.self.inside.events.items) c.args.session c.args.name.now
    ∙ ap (λ (t : Table). is_live t.base.next c.args.session c.args.name.now t.events) c.self.view_is
