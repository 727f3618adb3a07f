use mir.Syntax.{of_param}
use Rattle.std.proofs.Common.{List, subst, sym, ℕ, false, ◌≡◌, rules}
use Rattle.engine_life.specs.FirstLives.{MayMount}
use Rattle.session_run.specs.declared.ending.Ending.{Ending}
use Rattle.script_gen.specs.declared.task.Task.TheVariants as tasks
use Rattle.session_run.specs.Tool.{Ends, HasMounted, HasWritten}
use Rattle.session_run.proofs.Endings.{answers, stopped_ends, stopped_read, unread_ends}
use Rattle.session_run.proofs.ToolEnds.{stopped_mounted, unread_unmounted}
use Rattle.session_run.proofs.tool.run_source.Goals as goal

pub run_script-requires : goal.run_script-requires
run_script-requires g c κs within =
    let own = c.requires.1.1.1.1.1.1.1 in
    let log = own.0 in
    let pages = own.1.0 in
    let by = own.1.1.0 in
    let gate = own.1.1.1.0 in
    let logs = own.1.1.1.1.0 in
    let paged = own.1.1.1.1.1.0 in
    let asked = own.1.1.1.1.1.1 in
    (search (rules, within), (search (rules, within), (search (rules, within), (search (rules, within), (search (rules, within), (search (rules, within), (record { owned = log.owned; leaving = λ k. log.leaving (λ a. k (of_param 4)) }, (record { owned = pages.owned; leaving = λ k. pages.leaving (λ a. k (of_param 5)) }, (record { shared = by.shared }, (record { shared = gate.shared }, (record { shared = logs.shared }, (record { shared = paged.shared }, (record { runnable = c.in-Ok.ensures.script.runnable; banks = c.in-Ok.ensures.banks; few = c.in-Ok.ensures.few }, (asked.0, λ volumes mounted. asked.1 c.in-Ok.script.banks volumes mounted))))))))))))))

pub returns-in-Err-clause-ends : goal.returns-in-Err-clause-ends
returns-in-Err-clause-ends g c =
    let s = g.S.Source in
    let m = g.M.Media in
    let l = g.M.Log.LogDisk in
    let p = g.M.Pages.PageDisk in
    let old = c.args.source.now in
    let new = c.take_script.new.source in
    let held = g.K.Sink.held c.args.sink.now in
    let faults = g.K.Sink.faults c.args.sink.now in
    let first = MayMount (m.is_new c.args.media.now) (m.begins c.args.media.now) (m.gives c.args.media.now) in
    let before = m.faults c.args.media.now in
    let gives = m.gives c.args.media.now in
    subst (λ (e : Ending). (written : List ℕ) × Ends l p tasks.Run (s.left old) (s.left new) (s.faults old) (s.faults new) first g.kept (m.is_new c.args.media.now ≡ false) m.falls before before gives written e × HasWritten held held faults faults written e)
    (sym c.unread.ensures) (unread_ends l p (s.left old) (s.left new) held (s.faults old) (s.faults new) faults first g.kept (m.is_new c.args.media.now ≡ false) m.falls before before gives c.in-Err.refusal c.in-Err.ensures.refused)

pub returns-in-Ok-run_script-clause-ends : goal.returns-in-Ok-run_script-clause-ends
returns-in-Ok-run_script-clause-ends g c =
    let s = g.S.Source in
    let k = g.K.Sink in
    let m = g.M.Media in
    answers g.M.Log.LogDisk g.M.Pages.PageDisk (s.left c.args.source.now) (s.left c.take_script.new.source) (k.held c.args.sink.now) (k.held c.run_script.new.sink) (s.faults c.args.source.now) (s.faults c.take_script.new.source) (k.faults c.args.sink.now) (k.faults c.run_script.new.sink) c.in-Ok.script
    (MayMount (m.is_new c.args.media.now) (m.begins c.args.media.now) (m.gives c.args.media.now)) g.kept (m.is_new c.args.media.now ≡ false) m.falls (m.faults c.args.media.now) (m.faults c.run_script.new.media) (m.gives c.run_script.new.media) c.in-Ok.ensures.script c.in-Ok-run_script.ensures.report

pub returns-in-Err-run_script-clause-ends : goal.returns-in-Err-run_script-clause-ends
returns-in-Err-run_script-clause-ends g c =
    let s = g.S.Source in
    let k = g.K.Sink in
    let m = g.M.Media in
    stopped_ends g.M.Log.LogDisk g.M.Pages.PageDisk (s.left c.args.source.now) (s.left c.take_script.new.source) (k.held c.args.sink.now) (k.held c.run_script.new.sink) (s.faults c.args.source.now) (s.faults c.take_script.new.source) (k.faults c.args.sink.now) (k.faults c.run_script.new.sink)
    (MayMount (m.is_new c.args.media.now) (m.begins c.args.media.now) (m.gives c.args.media.now)) g.kept (m.is_new c.args.media.now ≡ false) m.falls (m.faults c.args.media.now) (m.faults c.run_script.new.media) (m.gives c.run_script.new.media) c.in-Ok.script c.in-Ok.ensures.script c.in-Err-run_script.stop c.stopped.result c.stopped.ensures c.in-Err-run_script.ensures.stopped

pub returns-in-Err-clause-used : goal.returns-in-Err-clause-used
returns-in-Err-clause-used g c = λ mounted. absurd (unread_unmounted c.in-Err.refusal (subst HasMounted c.unread.ensures mounted))

pub returns-in-Err-run_script-clause-unmounted : goal.returns-in-Err-run_script-clause-unmounted
returns-in-Err-run_script-clause-unmounted g c = λ unread. absurd (stopped_read c.in-Err-run_script.stop c.stopped.result c.stopped.ensures unread)

pub returns-in-Err-run_script-clause-used : goal.returns-in-Err-run_script-clause-used
returns-in-Err-run_script-clause-used g c = λ mounted.
    c.in-Err-run_script.ensures.used_so (stopped_mounted c.in-Err-run_script.stop c.stopped.result c.stopped.ensures mounted)
