use Rattle.std.proofs.Common.{inl, length, rules, subst}
use Rattle.disk_core.specs.Media.{HasBanks}
use Rattle.engine_life.specs.FirstLives.{IsFirstLife, MayMount, with_banks}
use Rattle.engine_life.specs.NextLives.{StayFit}
use Rattle.engine_life.specs.Refusals.{IsUnopened}
use Rattle.session_run.specs.Going.{HasGoneOn, IsCrashed}
use Rattle.session_run.specs.Lives.{HasFallen}
use Rattle.session_run.specs.Stops.{StayFitBehind}
use Rattle.session_run.proofs.GoingOn.{crash_failed, err_so, may_go_on, mounts_again, none_goes_on, ok_so, still_fit}
use Rattle.session_run.proofs.run.go_on.Goals as goal

-- With a ghost value the clauses of `requires` have no names: they stand in their order behind what is asked of lifetimes.

pub open_life-requires : goal.open_life-requires
open_life-requires g c =
    let l = g.M.Log.LogDisk in
    let p = g.M.Pages.PageDisk in
    let m = g.M.Media in
    let asked = c.requires.1.1.1.1.1 in
    let cluster = asked.0 in
    let has = asked.1.0 in
    let fit = asked.1.1 in
    let fell = c.in-Ok.ensures in
    let crashed = c.crash.new.self in
    let holds = may_go_on l p g.kept (length c.args.volumes.xact.items) c.args.volumes (m.gives crashed) has c.crash.ensures.banks fell.left fell.tells fit c.crash_goes_on.ensures in
    let may = mounts_again l p g.kept (length c.args.volumes.xact.items) c.args.cluster.banks (m.is_new crashed) (m.begins crashed) (m.gives crashed) c.crash.ensures.old holds in
    search (rules, cluster, may)

pub returns-in-Err-clause-refused : goal.returns-in-Err-clause-refused
returns-in-Err-clause-refused g c =
    let m = g.M.Media in
    crash_failed g.M.Log.LogDisk g.M.Pages.PageDisk c.args.cluster m.falls c.args.how c.args.volumes (m.gives c.crash.new.self) (m.faults c.args.media.now) (m.faults c.crash.new.self) c.in-Err.ensures.cause.1

pub returns-in-Err-clause-still : goal.returns-in-Err-clause-still
returns-in-Err-clause-still g c = λ pt lt. inl c.in-Err.ensures.cause.1

pub returns-clause-next : goal.returns-clause-next
returns-clause-next g c =
    let l = g.M.Log.LogDisk in
    let p = g.M.Pages.PageDisk in
    let m = g.M.Media in
    let old = c.args.volumes in
    let fell = c.in-Ok.ensures in
    let asked = c.requires.1.1.1.1.1 in
    let crashed = c.crash.new.self in
    let many = length old.xact.items in
    let holds = may_go_on l p g.kept many old (m.gives crashed) asked.1.0 c.crash.ensures.banks fell.left fell.tells asked.1.1 c.crash_goes_on.ensures in
    ok_so (λ life. (v : _) × MayMount (m.is_new crashed) (m.begins crashed) (m.gives crashed) c.args.cluster.banks v × IsFirstLife g.kept (with_banks c.args.cluster (length v.xact.items)) v life.value)
    (λ life. HasGoneOn l p m.falls c.args.how g.kept c.args.cluster many old life.value) c.open_life.result
    (λ life k.
    let v = k.0 in
    let given = k.1.again c.crash.ensures.old in
    let has : HasBanks many v = (holds v given).0 in
    record {
      tells = fell.tells;
      mounted = v;
      fallen = record {
        fell = subst (λ how. m.falls how old v) c.crash_of.ensures (fell.fell v given);
        banks = c.crash.ensures.banks v given;
        crashed = λ lt pt. fell.left lt pt v given;
      };
      banks_are = has;
      fits = λ pt. ((holds v given).1 pt).1;
      goes = subst (λ n. IsFirstLife g.kept (with_banks c.args.cluster n) v life.value) has.xact k.2;
    })
    c.open_life.ensures.life

pub returns-clause-refused : goal.returns-clause-refused
returns-clause-refused g c =
    let m = g.M.Media in
    let l = g.M.Log.LogDisk in
    let p = g.M.Pages.PageDisk in
    let old = c.args.volumes in
    let how = c.args.how in
    let fell = c.in-Ok.ensures in
    let asked = c.requires.1.1.1.1.1 in
    let crashed = c.crash.new.self in
    let before = m.faults c.args.media.now in
    let now = m.faults c.open_life.new.media in
    err_so (λ refusal. IsUnopened l p c.args.cluster (MayMount (m.is_new crashed) (m.begins crashed) (m.gives crashed)) (m.faults crashed) now (m.gives c.open_life.new.media) refusal)
    (λ refusal. IsCrashed l p c.args.cluster m.falls how before now old (m.gives c.open_life.new.media) refusal) c.open_life.result
    (λ refusal k. none_goes_on l p c.args.cluster m.falls how old (MayMount (m.is_new crashed) (m.begins crashed) (m.gives crashed)) (m.gives c.open_life.new.media) before (m.faults crashed) now fell.cause.0
    (λ v mounted.
    let given = mounted.again c.crash.ensures.old in
    record { fell = subst (λ k. m.falls k old v) c.crash_of.ensures (fell.fell v given); banks = c.crash.ensures.banks v given; crashed = λ lt pt. fell.left lt pt v given })
    g.kept asked.1.1 refusal k)
    c.open_life.ensures.refused

pub returns-clause-still : goal.returns-clause-still
returns-clause-still g c = λ pt lt.
    let m = g.M.Media in
    let l = g.M.Log.LogDisk in
    let p = g.M.Pages.PageDisk in
    let old = c.args.volumes in
    let how = c.args.how in
    let fell = c.in-Ok.ensures in
    let asked = c.requires.1.1.1.1.1 in
    let crashed = c.crash.new.self in
    let before = m.faults c.args.media.now in
    let now = m.faults c.open_life.new.media in
    let gives = m.gives c.open_life.new.media in
    let holds = may_go_on l p g.kept (length old.xact.items) old (m.gives crashed) asked.1.0 c.crash.ensures.banks fell.left fell.tells asked.1.1 c.crash_goes_on.ensures in
    err_so (λ refusal. StayFit l p g.kept (m.gives crashed) gives refusal)
    (λ refusal. StayFitBehind l p g.kept (HasFallen l p m.falls how old) before now gives refusal) c.open_life.result
    (λ refusal k. still_fit l p g.kept (HasFallen l p m.falls how old) (m.gives crashed) gives before now
    (λ v given. (record { fell = subst (λ k. m.falls k old v) c.crash_of.ensures (fell.fell v given); banks = c.crash.ensures.banks v given; crashed = λ lt pt. fell.left lt pt v given }, ((holds v given).1 pt).1))
    refusal k)
    (c.open_life.ensures.again pt c.crash.ensures.old)
