use mir.Syntax.{of_param}
use Rattle.std.proofs.Common.{IsTrue, Some, inr, length, refl, rules, subst, sym, ◌∙◌, ℕ}
use Rattle.disk_core.specs.Images.{Only}
use Rattle.disk_core.specs.Media.{HasBanks}
use Rattle.tx_model.specs.declared.report.Life.{Life}
use Rattle.engine_host.specs.declared.cluster.Cluster.{Cluster}
use Rattle.engine_host.specs.Opening.{IsCluster}
use Rattle.engine_life.specs.Lives.{FitsLog, volumes_left}
use Rattle.session_run.specs.Fits.{FitsLife}
use Rattle.session_run.specs.Going.{HasGoneOn, IsCrashed, part_of}
use Rattle.session_run.specs.Lives.{HasFallen}
use Rattle.session_run.specs.Stops.{StayFitBehind}
use Rattle.session_run.proofs.GoingOn.{life_over_is, running_on, same_banks}
use Rattle.session_run.proofs.Running.{not_written, report_told, told_so}
use Rattle.session_run.proofs.run.end_part.Goals as goal

pub tell_part-volumes-requires-clause-lived : goal.tell_part-volumes-requires-clause-lived
tell_part-volumes-requires-clause-lived g c κs within =
    let ran = c.requires.ran in
    let run = ran.running in
    (ran.its, run.cluster, run.begins, run.faults, run.mounted, ran.is)

pub returns-in-Err-clause-stopped : goal.returns-in-Err-clause-stopped
returns-in-Err-clause-stopped g c = λ ran cluster.
    let m = g.M.Media in
    let k = g.K.Sink in
    let run = ran.running in
    let new = c.tell_part-volumes.new.sink in
    let w = rw c.in-Err.is at (c.tell_part-volumes.ensures.told ran.its run.cluster run.begins run.faults run.mounted ran.is) in
    not_written g.M.Log.LogDisk g.M.Pages.PageDisk m.falls c.args.names.now c.args.number c.args.lived ran (Some c.args.how) (k.held c.args.sink.now) (k.held new) (k.faults c.args.sink.now) (k.faults new)
    (m.faults c.args.media.now) (m.faults c.rest.new.self) (m.gives c.rest.new.self)
    (subst (λ volumes. Only volumes (m.gives c.rest.new.self)) c.tell_part-volumes.ensures.volumes c.rest.ensures.same) c.in-Err.stop w

pub go_on-requires : goal.go_on-requires
go_on-requires g c κs within =
    let l = g.M.Log.LogDisk in
    let p = g.M.Pages.PageDisk in
    let closed = c.args.lived.ended.closed in
    let ran = c.requires.ran in
    let run = ran.running in
    let w = rw c.in-Ok.is at (c.tell_part-volumes.ensures.told ran.its run.cluster run.begins run.faults run.mounted ran.is) in
    let has = same_banks l p run.cluster.banks run.mounted (volumes_left closed) run.opened.banks w.1.left.same in
    let many : HasBanks (length (volumes_left closed).xact.items) (volumes_left closed) = subst (λ n. HasBanks n (volumes_left closed)) (sym has.xact) has in
    let back = c.tell_part-volumes.ensures.volumes in
    let banks = subst (λ volumes. HasBanks (length volumes.xact.items) volumes) (sym back) many in
    let cluster = subst (λ (k : Cluster). IsCluster k) (sym c.same_cluster.ensures) c.requires.cluster in
    let kept = c.in-Ok.log.value.kept in
    let log = c.type_bounds.send-M-Log in
    let pages = c.type_bounds.send-M-Pages in
    let told = rw c.in-Ok.is at c.tell_part-volumes.ensures.fits in
    let fits = subst (λ volumes. IsTrue p.tells → IsTrue l.tells → FitsLog l p kept volumes) (sym back) (λ pt lt. (told pt lt).fit) in (
      search (rules, within),
      (search (rules, within), (search (rules, within), (record { owned = log.owned; leaving = λ k. log.leaving (λ a. k (of_param 1)) }, (record { owned = pages.owned; leaving = λ k. pages.leaving (λ a. k (of_param 2)) }, (cluster, (banks, fits)))))),
    )

pub returns-in-Ok-go_on-clause-next : goal.returns-in-Ok-go_on-clause-next
returns-in-Ok-go_on-clause-next g c = λ ran cluster.
    let m = g.M.Media in
    let k = g.K.Sink in
    let l = g.M.Log.LogDisk in
    let p = g.M.Pages.PageDisk in
    let closed = c.args.lived.ended.closed in
    let how = c.args.how in
    let next = c.in-Ok-go_on.life.value in
    let kept = c.in-Ok.log.value.kept in
    let run = ran.running in
    let new = c.tell_part-volumes.new.sink in
    let w = rw c.in-Ok.is at (c.tell_part-volumes.ensures.told ran.its run.cluster run.begins run.faults run.mounted ran.is) in
    let fits = rw c.in-Ok.is at c.tell_part-volumes.ensures.fits in
    let held = k.held c.args.sink.now in
    let r = report_told l p m.falls c.args.names.now c.args.number c.args.lived ran (Some how) w.0 w.1 in
    let part = told_so l p m.falls c.args.names.now c.args.number c.args.lived ran (Some how) w.0 w.1 in
    let same = life_over_is run.cluster run.begins run.faults c.args.lived.ended.start.value closed ran.is.start_is in
    let has = same_banks l p run.cluster.banks run.mounted (volumes_left closed) run.opened.banks w.1.left.same in
    let gone = subst (λ (x : Cluster × ℕ). HasGoneOn l p m.falls how kept x.0 x.1 (volumes_left closed) next) (λ j. ((c.same_cluster.ensures ∙ cluster) j, (has.xact ∙ run.banks_are) j))
    (subst (λ volumes. HasGoneOn l p m.falls how kept c.same_cluster.result (length volumes.xact.items) volumes next) c.tell_part-volumes.ensures.volumes c.in-Ok-go_on.ensures.next) in (
      r,
      part,
      w.2,
      running_on ran.script ran.banks ran.start m.falls ran.begun ran.done ran.lives (part_of ran.its (Some how)) r (volumes_left closed) part how refl next kept gone
          (λ pt. subst (λ (life : Life). FitsLife l p life (volumes_left closed) kept) same (fits pt (gone.tells pt))),
    )

pub returns-clause-stopped : goal.returns-clause-stopped
returns-clause-stopped g c = λ ran cluster.
    let m = g.M.Media in
    let k = g.K.Sink in
    let l = g.M.Log.LogDisk in
    let p = g.M.Pages.PageDisk in
    let closed = c.args.lived.ended.closed in
    let how = c.args.how in
    let refusal = c.in-Err-go_on.refusal in
    let kept = c.in-Ok.log.value.kept in
    let run = ran.running in
    let new = c.tell_part-volumes.new.sink in
    let w = rw c.in-Ok.is at (c.tell_part-volumes.ensures.told ran.its run.cluster run.begins run.faults run.mounted ran.is) in
    let fits = rw c.in-Ok.is at c.tell_part-volumes.ensures.fits in
    let held = k.held c.args.sink.now in
    let same = life_over_is run.cluster run.begins run.faults c.args.lived.ended.start.value closed ran.is.start_is in
    let back = c.tell_part-volumes.ensures.volumes in
    let before = m.faults c.args.media.now in
    let now = m.faults c.go_on.new.media in
    let gives = m.gives c.go_on.new.media in
    inr (
      how,
      refl,
      report_told l p m.falls c.args.names.now c.args.number c.args.lived ran (Some how) w.0 w.1,
      volumes_left closed,
      told_so l p m.falls c.args.names.now c.args.number c.args.lived ran (Some how) w.0 w.1,
      w.2,
      subst (λ (x : Cluster). IsCrashed l p x m.falls how before now (volumes_left closed) gives refusal) (c.same_cluster.ensures ∙ cluster)
          (subst (λ volumes. IsCrashed l p c.same_cluster.result m.falls how before now volumes gives refusal) back c.in-Err-go_on.ensures.refused),
      λ pt lt. (
        kept,
        subst (λ (life : Life). FitsLife l p life (volumes_left closed) kept) same (fits pt lt),
        subst (λ volumes. StayFitBehind l p kept (HasFallen l p m.falls how volumes) before now gives refusal) back (c.in-Err-go_on.ensures.still pt lt),
      ),
    )
