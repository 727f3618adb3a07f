use mir.Syntax.{of_param}
use Rattle.std.proofs.Common.{refl, subst, sym, false, ◌≡◌, rules}
use Rattle.engine_life.specs.FirstLives.{MayMount}
use Rattle.script_gen.specs.declared.task.Task.TheVariants as tasks
use Rattle.session_run.specs.Runs.{IsTakenAlone}
use Rattle.session_run.proofs.Endings.{alone_ends, is_taken, refusal_last, summed}
use Rattle.session_run.proofs.ToolEnds.{refused_mounted}
use Rattle.session_run.proofs.tool.run_generated.Goals as goal

pub count_script-requires : goal.count_script-requires
count_script-requires g c κs within =
    let own = c.requires.1.1.1.1.1 in
    let log = own.0 in
    let pages = own.1.0 in
    let by = own.1.1.0 in
    let gate = own.1.1.1.0 in
    let logs = own.1.1.1.1.0 in
    let paged = own.1.1.1.1.1.0 in
    let asked = own.1.1.1.1.1.1 in
    let taken = subst IsTakenAlone (sym c.in-Ok.ensures) (is_taken c.args.seed c.args.size (c.generated_scripts_run.ensures c.args.seed c.args.size asked.0)) in
    (search (rules, within), (search (rules, within), (search (rules, within), (search (rules, within), (search (rules, within), (record { owned = log.owned; leaving = λ k. log.leaving (λ a. k (of_param 3)) }, (record { owned = pages.owned; leaving = λ k. pages.leaving (λ a. k (of_param 4)) }, (record { shared = by.shared }, (record { shared = gate.shared }, (record { shared = logs.shared }, (record { shared = paged.shared }, (taken, (asked.1.0, λ volumes mounted. asked.1.1 c.in-Ok.script.banks volumes mounted)))))))))))))

pub returns-in-Ok-count_script-clause-ends : goal.returns-in-Ok-count_script-clause-ends
returns-in-Ok-count_script-clause-ends g c = λ left faults.
    let t = summed g.M.Log.LogDisk g.M.Pages.PageDisk c.args.seed c.args.size c.in-Ok.script c.in-Ok-count_script.text.items (MayMount (g.M.Media.is_new c.args.media.now) (g.M.Media.begins c.args.media.now) (g.M.Media.gives c.args.media.now)) g.kept (g.M.Media.is_new c.args.media.now ≡ false) g.M.Media.falls (g.M.Media.gives c.count_script.new.media) c.in-Ok.ensures c.in-Ok-count_script.ensures.counts in
    (refl, t.0, t.1, t.2, t.3, t.4)

pub returns-clause-ends : goal.returns-clause-ends
returns-clause-ends g c = λ left faults.
    let m = g.M.Media in
    alone_ends g.M.Log.LogDisk g.M.Pages.PageDisk (tasks.Gen c.args.seed c.args.size) left left faults faults (MayMount (m.is_new c.args.media.now) (m.begins c.args.media.now) (m.gives c.args.media.now)) g.kept (m.is_new c.args.media.now ≡ false) m.falls (m.faults c.args.media.now) (m.faults c.count_script.new.media) (m.gives c.count_script.new.media) c.in-Ok.script (c.in-Ok.ensures, refl) c.in-Err-count_script.refusal c.unopened.result c.unopened.ensures c.in-Err-count_script.ensures.refused

pub returns-clause-used : goal.returns-clause-used
returns-clause-used g c = λ mounted.
    c.in-Err-count_script.ensures.used_so (refused_mounted c.in-Err-count_script.refusal c.unopened.result c.unopened.ensures mounted)

pub returns-clause-written : goal.returns-clause-written
returns-clause-written g c = refusal_last c.in-Err-count_script.refusal c.unopened.result c.unopened.ensures
