use Rattle.std.proofs.Common.{inl, inr, length, rules, subst, sym}
use Rattle.std.proofs.lemmas.Result.{IfOk-weaker}
use Rattle.replay_core.specs.Opened.{IsFound, IsFoundLog, IsFoundNew}
use Rattle.replay_core.specs.Refused.{IsOpenRefusal}
use Rattle.engine_host.specs.Stores.{HaveEach, banks_of}
use Rattle.engine_life.specs.declared.refusal.NoLife.{NoLife}
use Rattle.engine_life.specs.Refusals.{IsNoLife}
use Rattle.engine_life.specs.Reopening.{LeavesLog}
use Rattle.engine_life.proofs.Finding.{found_there, new_opens, none_fits, not_found, together, unopened_fits}
use Rattle.engine_life.proofs.GoingOn.{when_fits}
use Rattle.engine_life.proofs.Living.{of_err}
use Rattle.engine_life.proofs.Reopened.{each_store}
use Rattle.engine_life.proofs.opened.begin_over.Goals as goal

-- With a ghost value the clauses of `requires` have no names: they stand in their order behind what is asked of
-- lifetimes.

pub begin_new-requires-clause-banks : goal.begin_new-requires-clause-banks
begin_new-requires-clause-banks g c = let h = c.requires.1.1.1.0 in each_store _ h.xact h.subtrans h.offsets h.members

pub begin_new-requires-clause-found : goal.begin_new-requires-clause-found
begin_new-requires-clause-found g c = (c.args.volumes.log, subst (λ f. IsFoundLog c.args.volumes.log f) c.in-New.is c.in-Ok-find_log.ensures.found)

pub begin_old-requires : goal.begin_old-requires
begin_old-requires g c =
    let v = c.args.volumes in
    let may = c.requires.1.1.1.1 in
    let found : IsFound v.log c.in-Old.found = subst (λ f. IsFoundLog v.log f) c.in-Old.is c.in-Ok-find_log.ensures.found in
    let some = may.banks.some in
    let few = may.banks.few in
    let as_many : HaveEach (length v.xact.items) (banks_of v) = each_store _ may.banks.xact may.banks.subtrans may.banks.offsets may.banks.members in
    let sessions = c.requires.1.1.0.sessions in
    let fits = found_there g.L.LogDisk g.P.PageDisk g.kept v c.in-Old.found found may in
    search (rules, some, few, as_many, sessions, fits)

-- the log wasn't opened

pub returns-in-Err-clause-again : goal.returns-in-Err-clause-again
returns-in-Err-clause-again g c told fit =
    let l = g.L.LogDisk in let p = g.P.PageDisk in let v = c.args.volumes in let h = c.requires.1.1.1.1.banks in
    let reads = c.requires.1.1.1.1.tells told in
    let left = unopened_fits l p g.kept v fit (g.met.L.LogDisk.reads_image v.log reads) (λ d. g.met.P.PageDisk.reads_image d told) c.in-Err.log h.offsets h.members (c.in-Err.ensures.still_err reads) in
    let w = c.with_log.ensures in
    when_fits l p g.kept v c.with_log.result c.unrecovered.result
    (subst (λ z. LeavesLog l p v z g.kept) (sym (together c.with_log.result c.in-Err.log (banks_of v) w.log w.banks)) left)

pub returns-in-Err-clause-refused : goal.returns-in-Err-clause-refused
returns-in-Err-clause-refused g c =
    let l = g.L.LogDisk in let p = g.P.PageDisk in let v = c.args.volumes in
    subst (λ (r : NoLife). IsNoLife l p c.args.cluster v c.with_log.result r) (sym c.unrecovered.ensures)
    (not_found l p c.args.cluster v c.with_log.result c.in-Err.refusal (subst (λ d. IsOpenRefusal l v.log d c.in-Err.refusal) (sym c.with_log.ensures.log) c.in-Err.ensures.refused))

-- it has no record

pub returns-in-New-clause-life : goal.returns-in-New-clause-life
returns-in-New-clause-life g c =
    let l = g.L.LogDisk in let p = g.P.PageDisk in let v = c.args.volumes in
    let found : IsFoundNew v.log c.in-New.log = subst (λ f. IsFoundLog v.log f) c.in-New.is c.in-Ok-find_log.ensures.found in
    IfOk-weaker c.begin_new.result _ _ (λ life new. inl (record {
      opens = new_opens l v.log c.in-New.log found;
      unfit = λ told kept fit.
          let reads = c.requires.1.1.1.1.tells told in
          none_fits l p kept v fit (g.met.L.LogDisk.reads_image v.log reads) (λ d. g.met.P.PageDisk.reads_image d told) c.in-New.log found reads;
      new = new;
    })) (c.begin_new.ensures.life v.log found)

pub returns-in-New-clause-again : goal.returns-in-New-clause-again
returns-in-New-clause-again g c told =
    let l = g.L.LogDisk in let p = g.P.PageDisk in let v = c.args.volumes in
    let found : IsFoundNew v.log c.in-New.log = subst (λ f. IsFoundLog v.log f) c.in-New.is c.in-Ok-find_log.ensures.found in
    let reads = c.requires.1.1.1.1.tells told in
    of_err c.begin_new.result _ _ (λ e refused fit. absurd (none_fits l p g.kept v fit (g.met.L.LogDisk.reads_image v.log reads) (λ d. g.met.P.PageDisk.reads_image d told) c.in-New.log found reads)) (c.begin_new.ensures.refused v.log found)

pub returns-in-New-clause-refused : goal.returns-in-New-clause-refused
returns-in-New-clause-refused g c = c.begin_new.ensures.refused c.args.volumes.log (subst (λ f. IsFoundLog c.args.volumes.log f) c.in-New.is c.in-Ok-find_log.ensures.found)

-- it has records

pub returns-in-Old-clause-life : goal.returns-in-Old-clause-life
returns-in-Old-clause-life g c =
    IfOk-weaker c.begin_old.result _ _ (λ life goes. inr goes) (c.begin_old.ensures.life c.args.volumes.log (subst (λ f. IsFoundLog c.args.volumes.log f) c.in-Old.is c.in-Ok-find_log.ensures.found))

pub returns-in-Old-clause-again : goal.returns-in-Old-clause-again
returns-in-Old-clause-again g c told =
    of_err c.begin_old.result _ _ (λ e left fit. left) (c.begin_old.ensures.again told c.args.volumes.log (subst (λ f. IsFoundLog c.args.volumes.log f) c.in-Old.is c.in-Ok-find_log.ensures.found))

pub returns-in-Old-clause-refused : goal.returns-in-Old-clause-refused
returns-in-Old-clause-refused g c = c.begin_old.ensures.refused c.args.volumes.log (subst (λ f. IsFoundLog c.args.volumes.log f) c.in-Old.is c.in-Ok-find_log.ensures.found) c.args.cluster
