use mir.Syntax.{of_param}
use Rattle.std.proofs.Common.{Err, IfErr, List, None, Ok, OnOk, Option, Result, Some, arith, refl, subst, sym, false, ◌≡◌, ◌∙◌, rules}
use Rattle.std.proofs.lemmas.Result.{err_from_is_err_and, on_ok_weaker}
use Rattle.tx_model.specs.declared.report.How.{How}
use Rattle.session_lang.specs.declared.script.Item.{Item}
use Rattle.run_law.specs.Lives.{IsFirstPart}
use Rattle.run_law.proofs.Lives.{rest_shorter}
use Rattle.engine_host.specs.declared.cluster.Cluster.{Cluster}
use Rattle.engine_host.specs.Opening.{IsCluster}
use Rattle.engine_life.specs.FirstLives.{MayMount}
use Rattle.engine_life.specs.Lives.{volumes_left}
use Rattle.session_run.proofs.GoingOn.{err_so}
use Rattle.session_run.proofs.LivesRun.{HasCome, come_first, come_on, part_stops, part_taken, run_ends, unopened_stops}
use Rattle.session_run.proofs.Opening.{is_first, may_over, unopened_first}
use Rattle.session_run.proofs.run.run_script.Goals as goal

-- With a ghost value the clauses of `requires` have no names: they stand in their order behind what is asked of lifetimes.

pub open_life-requires : goal.open_life-requires
open_life-requires g c κs within =
    let m = g.M.Media in
    let own = c.requires.1.1.1.1.1.1 in
    let log = own.0 in
    let pages = own.1.0 in
    let cluster = subst (λ (k : Cluster). IsCluster k) (sym c.same_cluster.ensures) c.cluster_of-cluster.ensures.cluster in
    let asked = own.1.1.1.1.1.1.1 in
    let may = may_over g.M.Log.LogDisk g.M.Pages.PageDisk c.args.script (MayMount (m.is_new c.args.media.now) (m.begins c.args.media.now) (m.gives c.args.media.now)) g.kept c.same_cluster.result (c.same_cluster.ensures ∙ c.cluster_of-cluster.ensures.is) asked.1 in
    (search (rules, within), (search (rules, within), (search (rules, within), (record { owned = log.owned; leaving = λ k. log.leaving (λ a. k (of_param 1)) }, (record { owned = pages.owned; leaving = λ k. pages.leaving (λ a. k (of_param 2)) }, (cluster, (asked.0, may)))))))

pub returns-in-Err-clause-stopped : goal.returns-in-Err-clause-stopped
returns-in-Err-clause-stopped g c =
    let s = c.args.script in
    let k = g.K.Sink in
    let m = g.M.Media in
    let l = g.M.Log.LogDisk in
    let p = g.M.Pages.PageDisk in
    let first = MayMount (m.is_new c.args.media.now) (m.begins c.args.media.now) (m.gives c.args.media.now) in
    let before = m.faults c.args.media.now in
    let now = m.faults c.open_life.new.media in
    let gives = m.gives c.open_life.new.media in
    unopened_stops l p s first g.kept (m.is_new c.args.media.now ≡ false) m.falls before now gives (k.held c.args.sink.now) (k.faults c.args.sink.now) (k.faults c.args.sink.now) c.in-Err.refusal
    (unopened_first l p s g.kept (m.is_new c.args.media.now) (m.begins c.args.media.now) (m.gives c.args.media.now) m.falls before now gives c.same_cluster.result c.in-Err.refusal (c.same_cluster.ensures ∙ c.cluster_of-cluster.ensures.is) c.in-Err.ensures.refused
    (λ was told. c.in-Err.ensures.again told was))

pub lives-init : goal.lives-init
lives-init g c =
    let s = c.args.script in
    let m = g.M.Media in
    let held = g.K.Sink.held c.args.sink.now in
    let first = MayMount (m.is_new c.args.media.now) (m.begins c.args.media.now) (m.gives c.args.media.now) in
    let life = c.in-Ok.life.value in
    let is = is_first g.M.Log.LogDisk g.M.Pages.PageDisk s first g.kept c.same_cluster.result life (c.same_cluster.ensures ∙ c.cluster_of-cluster.ensures.is) (c.requires.1.1.1.1.1.1.1.1.1.1.1.1.1.1) c.in-Ok.ensures.life in (
      subst (λ (its : List Item). HasCome {l = g.M.Log.LogDisk} {p = g.M.Pages.PageDisk} s first g.kept (m.is_new c.args.media.now ≡ false) m.falls held held its 1 life) (sym c.items-items.ensures) (come_first s first g.kept (m.is_new c.args.media.now ≡ false) m.falls held life (c.requires.1.1.1.1.1.1.1.1.1.1.1.1.0) is),
      c.in-Ok.ensures.count,
      omega arith,
    )

pub run_part-lived-requires-clause-taken : goal.run_part-lived-requires-clause-taken
run_part-lived-requires-clause-taken g c κs within =
    let m = g.M.Media in
    let k = g.K.Sink in
    let at = c.lives in
    let part = c.next_part-part.result in
    part_taken c.args.script (MayMount (m.is_new c.args.media.now) (m.begins c.args.media.now) (m.gives c.args.media.now)) g.kept (m.is_new c.args.media.now ≡ false) m.falls (k.held c.args.sink.now) (k.held at.sink) at.items at.number at.life.value at.invariant.0 part.0 part.1 part.2 c.next_part-part.ensures (c.requires.1.1.1.1.1.1.1.1.1.1.1.1.0)

pub run_part-lived-requires-clause-may : goal.run_part-lived-requires-clause-may
run_part-lived-requires-clause-may g c κs within =
    let run = c.lives.invariant.0.running in
    record { cluster = run.cluster; begins = run.begins; faults = run.faults; mounted = run.mounted; sessions_are = run.sessions; opened = run.opened }

-- ---- the last part

pub end_run-requires-clause-ran : goal.end_run-requires-clause-ran
end_run-requires-clause-ran g c κs within =
    let at = c.lives in
    let h = at.invariant.0 in
    let run = h.running in
    record { script = c.args.script; banks = h.banks; start = h.start; begun = h.begun; done = h.done; lives = h.lives; its = c.next_part-part.result.0; names_are = refl; count = h.count; life = at.life.value; running = run; is = c.run_part-lived.ensures.lived run.cluster run.begins run.faults run.mounted run.opened }

pub returns-in-None-clause-report : goal.returns-in-None-clause-report
returns-in-None-clause-report g c =
    let m = g.M.Media in
    let k = g.K.Sink in
    let at = c.lives in
    let h = at.invariant.0 in
    let run = h.running in
    let part = c.next_part-part.result in
    let is = subst (λ (o : Option How). IsFirstPart at.items part.0 o part.2) c.in-None.is c.next_part-part.ensures in
    let new = c.end_run.new in
    on_ok_weaker c.end_run.result
    (λ w.
    let e = run_ends c.args.script (MayMount (m.is_new c.args.media.now) (m.begins c.args.media.now) (m.gives c.args.media.now)) g.kept (m.is_new c.args.media.now ≡ false) m.falls (k.held c.args.sink.now) (k.held at.sink) at.items at.number at.life.value h part.0 None part.2 is (k.held new.sink) w.0 (volumes_left c.run_part-lived.result.ended.closed) w.1 (m.gives new.media) refl w.2 w.3 in
    (h.banks, h.start, e.0, e.1, e.2, e.3))
    (c.end_run.ensures.last
    (record { script = c.args.script; banks = h.banks; start = h.start; begun = h.begun; done = h.done; lives = h.lives; its = c.next_part-part.result.0; names_are = refl; count = h.count; life = at.life.value; running = run; is = c.run_part-lived.ensures.lived run.cluster run.begins run.faults run.mounted run.opened }))

pub returns-in-None-clause-stopped : goal.returns-in-None-clause-stopped
returns-in-None-clause-stopped g c =
    let m = g.M.Media in
    let k = g.K.Sink in
    let at = c.lives in
    let h = at.invariant.0 in
    let run = h.running in
    let part = c.next_part-part.result in
    let is = subst (λ (o : Option How). IsFirstPart at.items part.0 o part.2) c.in-None.is c.next_part-part.ensures in
    let new = c.end_run.new in
    err_so _ _ c.end_run.result
    (λ stop w. part_stops c.args.script (MayMount (m.is_new c.args.media.now) (m.begins c.args.media.now) (m.gives c.args.media.now)) g.kept (m.is_new c.args.media.now ≡ false) m.falls (k.held c.args.sink.now) (k.held at.sink) (k.held new.sink) at.items at.number at.life.value h part.0 None part.2 is
    (m.faults c.args.media.now) (m.faults at.media) (m.faults new.media) (m.gives new.media) (k.faults c.args.sink.now) (k.faults at.sink) (k.faults new.sink) at.invariant.1 at.invariant.2 stop w)
    (c.end_run.ensures.stopped
    (record { script = c.args.script; banks = h.banks; start = h.start; begun = h.begun; done = h.done; lives = h.lives; its = c.next_part-part.result.0; names_are = refl; count = h.count; life = at.life.value; running = run; is = c.run_part-lived.ensures.lived run.cluster run.begins run.faults run.mounted run.opened }))

where_ok : {T E X : Type 0} (r : Result T E) → X → OnOk r X
where_ok (Ok y) x = x
where_ok (Err e) x = tt

where_err : {T E : Type 0} (P : E → Type 0) (r : Result T E) → ((e : E) → P e) → IfErr r P
where_err P (Ok y) f = tt
where_err P (Err e) f = f e

pub returns-in-None-clause-used : goal.returns-in-None-clause-used
returns-in-None-clause-used g c = where_ok c.end_run.result c.end_run.ensures.used

pub returns-in-None-clause-used_so : goal.returns-in-None-clause-used_so
returns-in-None-clause-used_so g c = where_err _ c.end_run.result (λ stop first. c.end_run.ensures.used)

-- ---- a part that crashed

pub end_part-requires-clause-cluster : goal.end_part-requires-clause-cluster
end_part-requires-clause-cluster g c κs within = c.cluster_of-cluster.ensures.cluster

pub end_part-requires-clause-ran : goal.end_part-requires-clause-ran
end_part-requires-clause-ran g c κs within =
    let at = c.lives in
    let h = at.invariant.0 in
    let run = h.running in
    record { script = c.args.script; banks = h.banks; start = h.start; begun = h.begun; done = h.done; lives = h.lives; its = c.next_part-part.result.0; names_are = refl; count = h.count; life = at.life.value; running = run; is = c.run_part-lived.ensures.lived run.cluster run.begins run.faults run.mounted run.opened }

pub returns-in_err-life-clause-stopped : goal.returns-in_err-life-clause-stopped
returns-in_err-life-clause-stopped g c =
    let m = g.M.Media in
    let k = g.K.Sink in
    let at = c.lives in
    let h = at.invariant.0 in
    let run = h.running in
    let part = c.next_part-part.result in
    let how = c.in-Some.how in
    let is = subst (λ (o : Option How). IsFirstPart at.items part.0 o part.2) c.in-Some.is c.next_part-part.ensures in
    let new = c.end_part.new in
    let w = c.in_err-life.ensures.stopped
    (record { script = c.args.script; banks = h.banks; start = h.start; begun = h.begun; done = h.done; lives = h.lives; its = c.next_part-part.result.0; names_are = refl; count = h.count; life = at.life.value; running = run; is = c.run_part-lived.ensures.lived run.cluster run.begins run.faults run.mounted run.opened }) c.cluster_of-cluster.ensures.is in
    let stopped = part_stops c.args.script (MayMount (m.is_new c.args.media.now) (m.begins c.args.media.now) (m.gives c.args.media.now)) g.kept (m.is_new c.args.media.now ≡ false) m.falls (k.held c.args.sink.now) (k.held at.sink) (k.held new.sink) at.items at.number at.life.value h part.0 (Some how) part.2 is
    (m.faults c.args.media.now) (m.faults at.media) (m.faults new.media) (m.gives new.media) (k.faults c.args.sink.now) (k.faults at.sink) (k.faults new.sink) at.invariant.1 at.invariant.2 c.in_err-life.field-0.0 w in
    let err = err_from_is_err_and c.from_residual.result c.from_residual.ensures.1 in
    rw (err.1, err.2) stopped

pub lives-smaller : goal.lives-smaller
lives-smaller g c =
    let at = c.lives in
    let part = c.next_part-part.result in
    rest_shorter at.items part.0 part.1 part.2 c.next_part-part.ensures c.in-Some.how c.in-Some.is

pub lives-preserved : goal.lives-preserved
lives-preserved g c =
    let m = g.M.Media in
    let k = g.K.Sink in
    let at = c.lives in
    let h = at.invariant.0 in
    let run = h.running in
    let part = c.next_part-part.result in
    let how = c.in-Some.how in
    let is = subst (λ (o : Option How). IsFirstPart at.items part.0 o part.2) c.in-Some.is c.next_part-part.ensures in
    let new = c.end_part.new in
    let ran = c.in_ok-life.ensures in
    let w = ran.next
    (record { script = c.args.script; banks = h.banks; start = h.start; begun = h.begun; done = h.done; lives = h.lives; its = c.next_part-part.result.0; names_are = refl; count = h.count; life = at.life.value; running = run; is = c.run_part-lived.ensures.lived run.cluster run.begins run.faults run.mounted run.opened }) c.cluster_of-cluster.ensures.is in
    let media = at.invariant.1 in
    let sink = at.invariant.2 in
    let faults = ran.count in
    let later = ran.sink in (
      come_on c.args.script (MayMount (m.is_new c.args.media.now) (m.begins c.args.media.now) (m.gives c.args.media.now)) g.kept (m.is_new c.args.media.now ≡ false) m.falls (k.held c.args.sink.now) (k.held at.sink) at.items at.number at.life.value h part.0 (Some how) part.2 is (k.held new.sink) w.0 (volumes_left c.run_part-lived.result.ended.closed) w.1 how c.in_ok-life.life.value refl w.2 w.3,
      omega (arith, media, faults),
      omega (arith, sink, later),
    )
