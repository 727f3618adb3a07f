use Rattle.std.proofs.Common.{refl, subst}
use Rattle.disk_folder.specs.FolderViews.{given_by}
use Rattle.session_run.specs.Unknown.{no_log}
use Rattle.session_run.proofs.Handed.{silent_may_begin}
use Rattle.media_tests.proofs.runs.status_in.Goals as goal

pub status_over-requires-clause-may : goal.status_over-requires-clause-may
status_over-requires-clause-may g c κs within = λ banks v mounted.
    let f = subst (λ o. given_by o v) c.new-media.ensures.first (mounted.again refl) in
    silent_may_begin _ _ no_log f.0 v f.1.has refl
