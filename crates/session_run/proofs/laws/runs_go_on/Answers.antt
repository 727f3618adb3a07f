use Rattle.engine_life.specs.FirstLives.{MayMount}
use Rattle.session_run.proofs.Again.{runs_go_on}
use Rattle.session_run.proofs.laws.runs_go_on.Goals as goal

pub returns : goal.returns
returns g c =
    let m = g.M.Media in
    let old = c.args._before.now in
    runs_go_on g.M.Log.LogDisk g.M.Pages.PageDisk (MayMount (m.is_new old) (m.begins old) (m.gives old)) m.falls (m.gives c.args._after.now)
