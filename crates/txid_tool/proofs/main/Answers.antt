use Rattle.std.proofs.Common.{refl, subst}
use Rattle.disk_folder.specs.FolderViews.{given_by}
use Rattle.session_run.specs.Unknown.{no_log}
use Rattle.session_run.proofs.Handed.{mem_may_begin, silent_may_begin}
use Rattle.txid_tool.proofs.main.Goals as goal

pub run_over-status-requires-clause-may : goal.run_over-status-requires-clause-may
run_over-status-requires-clause-may g c κs = λ banks v mounted.
    let f = subst (λ o. given_by o v) c.new-folder.ensures.first (mounted.again refl) in
    silent_may_begin _ _ no_log f.0 v f.1.has refl

pub run_over-status-requires-in-None-clause-may : goal.run_over-status-requires-in-None-clause-may
run_over-status-requires-in-None-clause-may g c κs =
    mem_may_begin no_log c.new-memory.result c.new-memory.ensures.log c.new-memory.ensures.new refl (λ log. refl)
