use Rattle.std.proofs.Common.{false, length, ◌≡◌, ◌≤◌}
use Rattle.engine_life.specs.FirstLives.{MayMount}
use Rattle.session_run.proofs.LivesRun.{HasCome}
use Rattle.session_run.proofs.run.run_script.Given as goal

abbrev pub invariant-lives : goal.invariant-lives
invariant-lives g l =
    let m = g.M.Media in
    let k = g.K.Sink in
    HasCome {l = g.M.Log.LogDisk} {p = g.M.Pages.PageDisk} l.fn.script (MayMount (m.is_new l.fn.media) (m.begins l.fn.media) (m.gives l.fn.media)) g.kept (m.is_new l.fn.media ≡ false) m.falls (k.held l.fn.sink) (k.held l.sink) l.items l.number l.life.value
    × (m.faults l.fn.media ≤ m.faults l.media) × (k.faults l.fn.sink ≤ k.faults l.sink)

abbrev pub decreases-lives : goal.decreases-lives
decreases-lives g l = length l.items

abbrev pub ghost-open_life : goal.ghost-open_life
ghost-open_life g a = g.kept
