use Rattle.engine_life.specs.Lives.{volumes_left}
use Rattle.session_run.specs.Fits.{FitsLife}
use Rattle.session_run.specs.OneLife.{life_over}
use Rattle.session_run.proofs.GoingOn.{found_where}
use Rattle.session_run.proofs.ended.log_left.Goals as goal

pub found-requires : goal.found-requires
found-requires g c =
    let ended = c.args.ended.now in
    let found = found_where g.P.PageDisk.tells g.L.LogDisk.tells (FitsLife g.L.LogDisk g.P.PageDisk (life_over ended.start.value ended.closed) (volumes_left ended.closed)) c.requires.fit in
    (record { marker = record {}; kept = found.0 }, found.1)
