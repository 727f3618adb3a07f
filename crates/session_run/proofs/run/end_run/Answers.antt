use Rattle.std.proofs.Common.{None, subst}
use Rattle.disk_core.specs.Images.{Only}
use Rattle.session_run.proofs.Running.{not_written, report_told, told_so}
use Rattle.session_run.proofs.run.end_run.Goals as goal

pub tell_part-volumes-requires-clause-lived : goal.tell_part-volumes-requires-clause-lived
tell_part-volumes-requires-clause-lived g c κs within =
    let ran = c.requires.ran in
    let run = ran.running in
    (ran.its, run.cluster, run.begins, run.faults, run.mounted, ran.is)

pub returns-in-Ok-clause-last : goal.returns-in-Ok-clause-last
returns-in-Ok-clause-last g c = λ ran.
    let m = g.M.Media in
    let run = ran.running in
    let w = rw c.in-Ok.is at (c.tell_part-volumes.ensures.told ran.its run.cluster run.begins run.faults run.mounted ran.is) in (
      report_told g.M.Log.LogDisk g.M.Pages.PageDisk m.falls c.args.names.now c.args.number c.args.lived ran None w.0 w.1,
      told_so g.M.Log.LogDisk g.M.Pages.PageDisk m.falls c.args.names.now c.args.number c.args.lived ran None w.0 w.1,
      w.2,
      subst (λ volumes. Only volumes (m.gives c.rest.new.self)) c.tell_part-volumes.ensures.volumes c.rest.ensures.same,
    )

pub returns-clause-stopped : goal.returns-clause-stopped
returns-clause-stopped g c = λ ran.
    let m = g.M.Media in
    let k = g.K.Sink in
    let run = ran.running in
    let new = c.tell_part-volumes.new.sink in
    not_written g.M.Log.LogDisk g.M.Pages.PageDisk m.falls c.args.names.now c.args.number c.args.lived ran None (k.held c.args.sink.now) (k.held new) (k.faults c.args.sink.now) (k.faults new)
    (m.faults c.args.media.now) (m.faults c.rest.new.self) (m.gives c.rest.new.self)
    (subst (λ volumes. Only volumes (m.gives c.rest.new.self)) c.tell_part-volumes.ensures.volumes c.rest.ensures.same) c.in-Err.stop
    (rw c.in-Err.is at (c.tell_part-volumes.ensures.told ran.its run.cluster run.begins run.faults run.mounted ran.is))
