use Rattle.std.proofs.Common.{[], IsTrue, arith, false, length, rules, subst, sym, ◌∙◌, ◌≡◌}
use Rattle.engine_parts.specs.Sessions.{AreGivenBefore}
use Rattle.engine_host.specs.Opening.{IsCluster, ShowBeginning, life_from}
use Rattle.engine_host.specs.Stores.{volumes_in}
use Rattle.engine_life.specs.Reopening.{KeepsStart, banks_in, cluster_over}
use Rattle.engine_life.proofs.Reopened.{each_store, settled_begins}
use Rattle.engine_life.proofs.old_parts.open_recovered.Goals as goal

-- With a ghost value the clauses of `requires` have no names: they stand in their order behind what is asked of
-- lifetimes.

pub open_begun-requires : goal.open_begun-requires
open_begun-requires g c =
    let p = g.P.PageDisk in let r = c.args.recovered in
    let banks : c.len.result ≡ length r.xact.items = omega (arith, c.len.ensures) in
    let some = c.requires.1.1.0 in
    let few = c.requires.1.1.1.0 in
    let many = c.requires.1.1.1.1.0 in
    let settled = c.requires.1.1.1.1.1.1.0 in
    let cluster : IsCluster (cluster_over r.base c.len.result c.args.sessions) = record { base = settled.base; banks = (omega (arith, banks, some), omega (arith, banks, few)); sessions = c.requires.1.1.1.1.1.0 } in
    let each = each_store (λ k. length (volumes_in k (banks_in r)).items ≡ c.len.result) (sym banks) (many.0 ∙ sym banks) (many.1 ∙ sym banks) (many.2 ∙ sym banks) in
    let before = subst (λ n. AreGivenBefore (life_from (cluster_over r.base n c.args.sessions) g.begins [])) (sym banks) c.requires.1.1.1.1.1.1.1.1.0 in
    let past = subst (λ n. IsTrue g.L.LogDisk.tells → IsTrue g.begins.told → KeepsStart (cluster_over r.base n c.args.sessions) g.begins r.log) (sym banks) c.requires.1.1.1.1.1.1.1.1.1.1 in
    let log = settled_begins (cluster_over r.base c.len.result c.args.sessions) g.begins r.from r.log settled c.requires.1.1.1.1.1.1.1.0 past in
    let shown = subst (λ n. IsTrue p.tells → ShowBeginning p (cluster_over r.base n c.args.sessions) g.begins false 0 (banks_in r)) (sym banks) c.requires.1.1.1.1.1.1.1.1.1.0 in
    search (rules, cluster, each, before, log, shown)

pub returns-in-Err-clause-kept : goal.returns-in-Err-clause-kept
returns-in-Err-clause-kept g c = c.in-Err.ensures.kept
