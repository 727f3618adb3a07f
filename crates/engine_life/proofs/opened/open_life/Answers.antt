use Rattle.std.proofs.Common.{ap, arith, length, rules, subst, sym, ◌∙◌, ◌≡◌}
use Rattle.disk_core.specs.Media.{HasBanks}
use Rattle.engine_host.specs.declared.cluster.Cluster.{Cluster}
use Rattle.engine_life.specs.FirstLives.{IsFirstLife, MayMount, with_banks}
use Rattle.engine_life.specs.Refusals.{IsNoLife}
use Rattle.engine_life.proofs.GoingOn.{rested_fit}
use Rattle.engine_life.proofs.Living.{unopened}
use Rattle.engine_life.proofs.opened.open_life.Goals as goal

-- With a ghost value the clauses of `requires` have no names: they stand in their order behind what is asked of
-- lifetimes.

pub with_banks-cluster-requires-clause-some : goal.with_banks-cluster-requires-clause-some
with_banks-cluster-requires-clause-some g c =
    let may = c.requires.1.1.1.1.1.1.1 c.in-Ok.volumes (record { first = λ new. (c.in-Ok.ensures.first new, c.in-Ok.ensures.begins new); again = c.in-Ok.ensures.again }) in
    let some = may.banks.some in omega (arith, some, c.len.ensures)

pub with_banks-cluster-requires-clause-few : goal.with_banks-cluster-requires-clause-few
with_banks-cluster-requires-clause-few g c =
    let may = c.requires.1.1.1.1.1.1.1 c.in-Ok.volumes (record { first = λ new. (c.in-Ok.ensures.first new, c.in-Ok.ensures.begins new); again = c.in-Ok.ensures.again }) in
    let few = may.banks.few in omega (arith, few, c.len.ensures)

pub begin_over-requires : goal.begin_over-requires
begin_over-requires g c =
    let v = c.in-Ok.volumes in
    let may = c.requires.1.1.1.1.1.1.1 v (record { first = λ new. (c.in-Ok.ensures.first new, c.in-Ok.ensures.begins new); again = c.in-Ok.ensures.again }) in
    let count : length v.xact.items ≡ c.len.result = omega (arith, c.len.ensures) in
    let cluster = c.with_banks-cluster.ensures.cluster in
    let banks = subst (λ n. HasBanks n v) (count ∙ sym (ap (λ (k : Cluster). k.banks) c.with_banks-cluster.ensures.is)) may.banks in
    search (rules, cluster, banks, may)

pub returns-in-Ok-begin_over-clause-life : goal.returns-in-Ok-begin_over-clause-life
returns-in-Ok-begin_over-clause-life g c =
    let v = c.in-Ok.volumes in
    let count : c.len.result ≡ length v.xact.items = omega (arith, c.len.ensures) in
    let same : c.with_banks-cluster.result ≡ with_banks c.args.cluster (length v.xact.items) = c.with_banks-cluster.ensures.is ∙ ap (with_banks c.args.cluster) count in (
      v,
      record { first = λ new. (c.in-Ok.ensures.first new, c.in-Ok.ensures.begins new); again = c.in-Ok.ensures.again },
      subst (λ (k : Cluster). IsFirstLife g.kept k v c.in-Ok-begin_over.life.value) same c.in-Ok-begin_over.ensures.life,
    )

pub returns-in-Err-clause-again : goal.returns-in-Err-clause-again
returns-in-Err-clause-again g c told old =
    let media = g.M.Media in
    rested_fit g.M.Log.LogDisk g.M.Pages.PageDisk g.kept c.in-Ok.volumes c.in-Err.volumes (media.gives c.args.media.now) (media.gives c.rest.new.self) c.in-Err.refusal
    (c.in-Ok.ensures.again old) c.rest.ensures.same (c.in-Err.ensures.again told)

pub returns-in-Err-clause-refused : goal.returns-in-Err-clause-refused
returns-in-Err-clause-refused g c =
    let media = g.M.Media in let l = g.M.Log.LogDisk in let p = g.M.Pages.PageDisk in let v = c.in-Ok.volumes in let old = c.args.media.now in
    unopened l p c.args.cluster c.len.result (MayMount (media.is_new old) (media.begins old) (media.gives old)) (media.faults old) (media.faults c.rest.new.self) (media.gives c.rest.new.self) v c.in-Err.volumes c.in-Err.refusal
    (record { first = λ new. (c.in-Ok.ensures.first new, c.in-Ok.ensures.begins new); again = c.in-Ok.ensures.again }) c.rest.ensures.same
    (subst (λ (k : Cluster). IsNoLife l p k v c.in-Err.volumes c.in-Err.refusal) c.with_banks-cluster.ensures.is c.in-Err.ensures.refused)
