use Rattle.std.proofs.Common.{[], ap, arith, subst, sym, ◌∙◌, ◌≡◌}
use Rattle.hall.specs.Calls.{start_of, view}
use Rattle.notes.specs.Lists.{at as list_at}
use Rattle.engine_host.specs.Hosts.{HoldsAllBut, IsHost}
use Rattle.engine_host.specs.declared.cluster.Cluster.{Cluster}
use Rattle.engine_life.specs.Lives.{IsBegun}
use Rattle.engine_life.specs.declared.life.OpenLife.{OpenLife}
use Rattle.engine_life.proofs.begun.begin_life.Goals as goal

pub volumes_of-requires : goal.volumes_of-requires
volumes_of-requires g c =
    let back = c.in-Err.ensures.refused in
    let long = back.count in
    let some = back.cluster.banks.0 in
    let few = back.cluster.banks.1 in
    record {
      count = omega (arith, long, some);
      few = omega (arith, long, few);
      stand = λ lock part there. (c.in-Err.parts.start.value, [], back.stand lock part there);
    }

-- where no box was made, the table is closed again

pub close-parts-requires : goal.close-parts-requires
close-parts-requires g c =
    let e = sym c.in-Err-new.ensures.value_returned in
    record {
      host = subst (λ (life : OpenLife g.row.L.Denot g.row.P.Denot g.L.LogDisk g.P.PageDisk). IsHost life.hall life.host) e c.in-Ok.ensures.host;
      all = subst (λ (life : OpenLife g.row.L.Denot g.row.P.Denot g.L.LogDisk g.P.PageDisk). HoldsAllBut life.host []) e c.in-Ok.ensures.names;
    }

pub volumes_of-requires-in-Err-new : goal.volumes_of-requires-in-Err-new
volumes_of-requires-in-Err-new g c =
    let life = c.in-Err-new.lacking.value in
    let long = c.close-parts.ensures.count in
    let same : life.host.cluster.banks ≡ c.args.parts.cluster.banks = ap (λ (l : OpenLife g.row.L.Denot g.row.P.Denot g.L.LogDisk g.P.PageDisk). l.host.cluster.banks) c.in-Err-new.ensures.value_returned ∙ ap (λ (k : Cluster). k.banks) c.in-Ok.ensures.cluster in
    let some = c.requires.parts.cluster.banks.0 in
    let few = c.requires.parts.cluster.banks.1 in
    record {
      count = omega (arith, long, some, same);
      few = omega (arith, long, few, same);
      stand = λ lock part there. (start_of life.hall, list_at (view life.host.pass).seen lock, c.close-parts.ensures.stand lock part there);
    }

pub returns-in-Ok-new-clause-life : goal.returns-in-Ok-new-clause-life
returns-in-Ok-new-clause-life g c =
    let k = c.in-Ok.ensures in
    subst (λ (life : OpenLife g.row.L.Denot g.row.P.Denot g.L.LogDisk g.P.PageDisk). IsBegun c.args.parts.cluster c.args.parts.start.value life) (sym c.in-Ok-new.ensures.ok)
    (record { host = k.host; cluster = k.cluster; start_is = k.start; unseen = k.unseen; names = k.names; parked = k.parked })
