use Rattle.std.proofs.Common.{Bool, IsTrue, ap, arith, false, length, map, refl, rules, subst, sym, true, ℕ, ◌∙◌, ◌≡◌, ◌≤◌}
use Rattle.std.proofs.lemmas.Result.{IfOk-weaker}
use Rattle.recoverable.specs.Whole.{BeganRight}
use Rattle.wal_core.specs.LogViews.{log_disk, log_next}
use Rattle.replay_core.specs.Banks.{NoCountFell}
use Rattle.replay_core.specs.Refused.{IsRefusal}
use Rattle.replay_core.specs.declared.refusal.RecoverRefusal.{RecoverRefusal}
use Rattle.engine_host.specs.declared.cluster.Cluster.{Cluster}
use Rattle.engine_host.specs.Opening.{AllOnDisk, ShowBeginning, faults_behind, gate_behind, new_life}
use Rattle.engine_host.specs.Stores.{volumes_in}
use Rattle.engine_life.specs.Reopening.{IsBaseAt, KeepsStart, banks_in, behind, cluster_over, volumes_over}
use Rattle.engine_life.proofs.Living.{of_err, of_oks}
use Rattle.engine_life.proofs.Reopened.{base_at_number, before_any, began_right, counted_before, each_store, empty_durable, empty_shown, given_before, may_recover, members_shown, offsets_shown, same_left, start_kept, states_shown}
use Rattle.engine_life.proofs.old_parts.open_old.Goals as goal

-- With a ghost value the clauses of `requires` have no names: they stand in their order behind what is asked of
-- lifetimes.

pub recover-requires-clause-found : goal.recover-requires-clause-found
recover-requires-clause-found g c = let f = c.requires.1.1.1.1.1.1 in (f.0, f.1)

pub open_recovered-requires : goal.open_recovered-requires
open_recovered-requires g c κs inside =
    let l = g.L.LogDisk in let p = g.P.PageDisk in let v = c.requires.1.1.1.1.1.1.0 in let a = c.args.volumes in let r = c.in-Ok.recovered in let e = c.in-Ok.ensures in
    let some = c.requires.1.1.0 in
    let few = c.requires.1.1.1.0 in
    let many = c.requires.1.1.1.1.0 in
    let sessions = c.requires.1.1.1.1.1.0 in
    let here : 1 ≤ length r.xact.items = (let same = e.banks.0 in omega (arith, some, same)) in
    let within : length r.xact.items ≤ 16 = (let same = e.banks.0 in omega (arith, few, same)) in
    let same : (length r.subtrans.items ≡ length r.xact.items) × (length r.offsets.items ≡ length r.xact.items) × (length r.members.items ≡ length r.xact.items) = (e.banks.1 ∙ (many.0 ∙ sym e.banks.0), e.banks.2 ∙ (many.1 ∙ sym e.banks.0), e.banks.3 ∙ (many.2 ∙ sym e.banks.0)) in
    let log = e.log in
    let before = before_any p.tells g.kept r.from c.args.sessions (length r.xact.items) r.base (λ told.
    let fit = c.requires.1.1.1.1.1.1.2 told in
    given_before l p v (log_disk r.log) a.xact.items r.xact.items r.offsets.items r.members.items r.from c.args.sessions r.base g.kept e.banks.0 some c.is_full_multi.ensures
    (g.met.L.LogDisk.reads_image (log_disk r.log) fit.0) (λ d. g.met.P.PageDisk.reads_image d told) (e.recovers v c.requires.1.1.1.1.1.1.1 fit.0 told g.kept fit.1).0) in
    let shown = λ (told : IsTrue p.tells).
    let fit = c.requires.1.1.1.1.1.1.2 told in
    let recovers = (e.recovers v c.requires.1.1.1.1.1.1.1 fit.0 told g.kept fit.1).0 in
    let is_shown : ShowBeginning p (cluster_over r.base (length r.xact.items) c.args.sessions) (behind true g.kept r.from) false 0 (banks_in r) = record {
      states = states_shown l p v (log_disk r.log) a.xact.items r.xact.items r.offsets.items r.members.items r.from c.args.sessions r.base g.kept e.banks.0 some c.is_full_multi.ensures (g.met.L.LogDisk.reads_image (log_disk r.log) fit.0) (λ d. g.met.P.PageDisk.reads_image d told) recovers;
      parents = empty_shown p r.subtrans.items (λ d. g.met.P.PageDisk.reads_image d told) (e.parents told);
      offsets = offsets_shown l p v (log_disk r.log) a.xact.items r.xact.items r.offsets.items r.members.items r.from c.args.sessions r.base g.kept e.banks.0 some c.is_full_multi.ensures (g.met.L.LogDisk.reads_image (log_disk r.log) fit.0) (λ d. g.met.P.PageDisk.reads_image d told) recovers;
      members = members_shown l p v (log_disk r.log) a.xact.items r.xact.items r.offsets.items r.members.items r.from c.args.sessions r.base g.kept e.banks.0 some c.is_full_multi.ensures (g.met.L.LogDisk.reads_image (log_disk r.log) fit.0) (λ d. g.met.P.PageDisk.reads_image d told) recovers same.2;
      durable = λ q.
          each_store (λ k. AllOnDisk p (volumes_in k (banks_in r)).items) (e.states told) (empty_durable p r.subtrans.items (e.parents told))
          (e.multis told).0 (e.multis told).1;
    } in
    subst (λ (t : Bool). ShowBeginning p (cluster_over r.base (length r.xact.items) c.args.sessions) (behind t g.kept r.from) false 0 (banks_in r)) (sym told) is_shown in
    let past = λ (log_tells : IsTrue l.tells) (told : IsTrue p.tells).
    let fit = c.requires.1.1.1.1.1.1.2 told in
    let recovers = e.recovers v c.requires.1.1.1.1.1.1.1 fit.0 told g.kept fit.1 in
    subst (λ (t : Bool). KeepsStart (cluster_over r.base (length r.xact.items) c.args.sessions) (behind t g.kept r.from) r.log) (sym told)
    (start_kept l p v (log_disk r.log) a.xact.items r.xact.items r.offsets.items r.members.items r.from c.args.sessions r.base g.kept e.banks.0 some c.is_full_multi.ensures
    (g.met.L.LogDisk.reads_image (log_disk r.log) fit.0) (λ d. g.met.P.PageDisk.reads_image d told) recovers.0 r.log recovers.1) in
    (search (rules, inside), (search (rules, inside), (here, (within, (same, (sessions, (log, (refl, (before, (shown, past))))))))))

pub returns-in-Ok-clause-start : goal.returns-in-Ok-clause-start
returns-in-Ok-clause-start g c =
    let l = g.L.LogDisk in let p = g.P.PageDisk in let v = c.requires.1.1.1.1.1.1.0 in let a = c.args.volumes in let r = c.in-Ok.recovered in let e = c.in-Ok.ensures in
    let here = e.all.0 in
    of_oks c.open_recovered.result _ _ _ (λ parts cluster start. (
      subst (λ (n : ℕ). parts.start.value ≡ new_life parts.cluster (behind p.tells g.kept n) parts.locks.items) here start,
      ap (λ (k : Cluster). k.base) cluster ∙ e.all.1,
      λ told.
          let fit = c.requires.1.1.1.1.1.1.2 told in
          subst (λ (k : Cluster). IsBaseAt g.kept (log_next c.args.found.log) k.base) (sym cluster)
          (subst (λ (n : ℕ). IsBaseAt g.kept n r.base) here
          (base_at_number l p v (log_disk r.log) a.xact.items r.xact.items r.offsets.items r.members.items r.from c.args.sessions r.base g.kept e.banks.0 c.requires.1.1.0 c.is_full_multi.ensures
          (g.met.L.LogDisk.reads_image (log_disk r.log) fit.0) (λ d. g.met.P.PageDisk.reads_image d told) (e.recovers v c.requires.1.1.1.1.1.1.1 fit.0 told g.kept fit.1).0)),
    ))
    c.open_recovered.ensures.cluster c.open_recovered.ensures.start

pub returns-in-Ok-clause-right : goal.returns-in-Ok-clause-right
returns-in-Ok-clause-right g c told =
    let l = g.L.LogDisk in let p = g.P.PageDisk in let v = c.requires.1.1.1.1.1.1.0 in let a = c.args.volumes in let r = c.in-Ok.recovered in let e = c.in-Ok.ensures in
    let fit = c.requires.1.1.1.1.1.1.2 told in
    of_oks c.open_recovered.result _ _ _ (λ parts cluster start.
    let right = began_right l p v (log_disk r.log) a.xact.items r.xact.items r.offsets.items r.members.items r.from c.args.sessions r.base g.kept e.banks.0 c.requires.1.1.0 c.is_full_multi.ensures
    (g.met.L.LogDisk.reads_image (log_disk r.log) fit.0) (λ d. g.met.P.PageDisk.reads_image d told) (e.recovers v c.requires.1.1.1.1.1.1.1 fit.0 told g.kept fit.1).0 (gate_behind parts.locks.items) (map faults_behind parts.locks.items) in
    subst BeganRight (sym start)
    (subst (λ (k : Cluster). BeganRight (new_life k (behind p.tells g.kept r.from) parts.locks.items)) (sym cluster)
    (subst (λ (t : Bool). BeganRight (new_life (cluster_over r.base (length r.xact.items) c.args.sessions) (behind t g.kept r.from) parts.locks.items)) (sym told) right)))
    c.open_recovered.ensures.cluster c.open_recovered.ensures.start

pub returns-in-Ok-clause-refused : goal.returns-in-Ok-clause-refused
returns-in-Ok-clause-refused g c v is =
    of_err c.open_recovered.result _ _ (λ e memory. subst (λ (r : RecoverRefusal). IsRefusal g.L.LogDisk g.P.PageDisk (volumes_over v c.args.volumes) e.0 r) (sym memory) tt) c.open_recovered.ensures.refused

pub returns-in-Ok-clause-again : goal.returns-in-Ok-clause-again
returns-in-Ok-clause-again g c told v is =
    let l = g.L.LogDisk in let p = g.P.PageDisk in let v = c.requires.1.1.1.1.1.1.0 in let a = c.args.volumes in let r = c.in-Ok.recovered in let e = c.in-Ok.ensures in
    let fit = c.requires.1.1.1.1.1.1.2 told in
    let left = may_recover l p v (log_disk r.log) a.xact.items r.xact.items r.offsets.items r.members.items r.from c.args.sessions r.base g.kept e.banks.0 c.requires.1.1.0 c.is_full_multi.ensures
    (g.met.L.LogDisk.reads_image (log_disk r.log) fit.0) (λ d. g.met.P.PageDisk.reads_image d told) (e.recovers v c.requires.1.1.1.1.1.1.1 fit.0 told g.kept fit.1).0 in
    of_err c.open_recovered.result _ _ (λ e kept. same_left l p (volumes_over v a) r e.0 g.kept kept.0 kept.1 left) c.open_recovered.ensures.kept

pub returns-in-Err-clause-again : goal.returns-in-Err-clause-again
returns-in-Err-clause-again g c told v is = let f = c.requires.1.1.1.1.1.1 in let fit = f.2 told in c.in-Err.ensures.again f.0 f.1 fit.0 told g.kept fit.1

pub returns-in-Ok-clause-counted : goal.returns-in-Ok-clause-counted
returns-in-Ok-clause-counted g c v is =
    let a = c.args.volumes in let r = c.in-Ok.recovered in let e = c.in-Ok.ensures in
    let up = e.counted v is in
    IfOk-weaker c.open_recovered.result _ _ (λ parts now.
    counted_before g.L.LogDisk g.P.PageDisk v (log_disk r.log) a (banks_in r) parts.start.value.faults
    (each_store (λ k. length (volumes_in k (banks_in r)).items ≡ length (volumes_in k a).items) e.banks.0 e.banks.1 e.banks.2 e.banks.3) up.0
    (each_store (λ k. NoCountFell g.P.PageDisk (volumes_in k a).items (volumes_in k (banks_in r)).items) up.1 up.2 up.3 up.4) now)
    c.open_recovered.ensures.counted

pub returns-in-Ok-clause-end : goal.returns-in-Ok-clause-end
returns-in-Ok-clause-end g c =
    IfOk-weaker c.open_recovered.result _ _ (λ parts here. here ∙ c.in-Ok.ensures.end) c.open_recovered.ensures.end
