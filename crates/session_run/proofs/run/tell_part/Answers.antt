use Rattle.std.proofs.Common.{subst, sym, ◌++◌, ◌≡◌}
use Rattle.report_text.specs.ReportText.{rest_text}
use Rattle.run_law.specs.Lives.{IsFrontOf, last_text}
use Rattle.tx_model.specs.declared.report.Life.{Life}
use Rattle.engine_life.specs.Lives.{life_told, volumes_left}
use Rattle.session_run.specs.Fits.{FitLife}
use Rattle.session_run.specs.OneLife.{life_of}
use Rattle.session_run.proofs.GoingOn.{life_over_is}
use Rattle.session_run.proofs.Running.{pieces, told_life}
use Rattle.session_run.proofs.run.tell_part.Goals as goal

pub log_left-left-requires : goal.log_left-left-requires
log_left-left-requires g c =
    let l = g.L.LogDisk in
    let p = g.P.PageDisk in
    let lived = c.args.lived in
    let closed = lived.ended.closed in
    let r = c.requires.lived in
    let is = r.5 in
    let over = rw c.in-Ok.is at is.over in
    let same = life_over_is r.1 r.2 r.3 lived.ended.start.value closed is.start_is in
    record { fit = λ pt lt. subst (λ (life : Life). FitLife l p life (volumes_left closed)) (sym same) (over.left.fit pt lt) }

pub returns-in-Ok-put_life-clause-told : goal.returns-in-Ok-put_life-clause-told
returns-in-Ok-put_life-clause-told g c = λ its k b faults mounted is.
    let lived = c.args.lived in
    let names = c.args.names.now in
    let crash = c.args.crash in
    let closed = lived.ended.closed in
    let over = rw c.in-Ok.is at is.over in
    let text = c.in-Ok-whole_text.text in
    let made = c.in-Ok-whole_text.ensures in
    let end = c.in-Ok-ended.end in
    let ends = subst (λ n. end.histories ++ end.log ≡ rest_text names (life_told n k.base b.committed b.recorded closed.events closed.multis.value.events closed.log) crash) over.number ((rw c.in-Ok-ended.is at c.end_life-volumes.ensures.text) k.base b.committed b.recorded) in
    let told = told_life g.L.LogDisk g.P.PageDisk k b mounted names its c.args.number crash closed lived.base c.in-Ok.steps text over
    (subst (λ n. IsFrontOf c.args.number n lived.base text.front) c.number-from.ensures made.front)
    (pieces c.in-Ok.steps end.histories end.log (last_text crash) (rest_text names (life_of k b closed) crash) text.steps text.histories text.log made.steps made.histories made.log ends) c.whole_text.ensures.multis in
    (text, told, c.in-Ok-put_life.ensures.ok)

pub returns-in-Err-clause-told : goal.returns-in-Err-clause-told
returns-in-Err-clause-told g c = λ its k b faults mounted is.
    let lived = c.args.lived in
    let names = c.args.names.now in
    let crash = c.args.crash in
    let closed = lived.ended.closed in
    let over = rw c.in-Ok.is at is.over in
    let text = c.in-Ok-whole_text.text in
    let made = c.in-Ok-whole_text.ensures in
    let end = c.in-Ok-ended.end in
    let ends = subst (λ n. end.histories ++ end.log ≡ rest_text names (life_told n k.base b.committed b.recorded closed.events closed.multis.value.events closed.log) crash) over.number ((rw c.in-Ok-ended.is at c.end_life-volumes.ensures.text) k.base b.committed b.recorded) in
    let told = told_life g.L.LogDisk g.P.PageDisk k b mounted names its c.args.number crash closed lived.base c.in-Ok.steps text over
    (subst (λ n. IsFrontOf c.args.number n lived.base text.front) c.number-from.ensures made.front)
    (pieces c.in-Ok.steps end.histories end.log (last_text crash) (rest_text names (life_of k b closed) crash) text.steps text.histories text.log made.steps made.histories made.log ends) c.whole_text.ensures.multis in
    let front = c.in-Err.ensures.front in
    (c.in-Err.ensures.cause.failed, text, told, front.0, front.1)
