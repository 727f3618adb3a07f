use Rattle.report_usual.proofs.Told.{snap_front_is}
use Rattle.report_usual.proofs.lists_told.snap_front.Goals as goal

pub returns-clause-text : goal.returns-clause-text
returns-clause-text c =
    snap_front_is c.args.bytes.now c.in_ok-name.rest.now c.in_ok-xmin.rest.now c.in_ok-xmax.rest.now c.in_ok-rest.rest.now c.in_ok-name.name c.in_ok-xmin.xmin c.in_ok-xmax.xmax c.in_ok-name.ensures.0 c.in_ok-xmin.ensures c.in_ok-xmax.ensures c.in_ok-rest.ensures
