use Rattle.std.proofs.Common.{◌≡◌, ◌+◌, ◌*◌, ◌∙◌, arith, subst}
use Rattle.hall.specs.Calls.{start_of, view}
use Rattle.host_calls.specs.Added.{AddsSyncs}
use Rattle.host_calls.proofs.Adding.{syncs_then}
use Rattle.host_calls.proofs.Stages.{followed}
use Rattle.host_calls.proofs.syncs.sync_all.Goals as goal

pub returns-in_err-sync_bank-clause-stages : goal.returns-in_err-sync_bank-clause-stages
returns-in_err-sync_bank-clause-stages g c =
    followed (start_of c.args.hall.now) (view c.args.pass.now).seen (view c.loop-bank.pass).seen (view c.sync_bank.new.pass).seen c.loop-bank.invariant.stages c.in_err-sync_bank.ensures.stages

pub loop-bank-preserved : goal.loop-bank-preserved
loop-bank-preserved g c =
    let old = (view c.args.pass.now).seen in
    let mid = (view c.loop-bank.pass).seen in
    let new = (view c.sync_bank.new.pass).seen in
    let i = c.loop-bank.invariant in
    let s = c.in_ok-sync_bank.ensures in
    let bank = c.loop-bank.bank in
    let end : 7 + 4 * bank ≡ 3 + 4 * (bank + 1) = omega arith in
    record {
      alone = s.alone;
      holds = s.holds ∙ i.holds;
      kept = s.kept;
      stages = followed (start_of c.args.hall.now) old mid new i.stages s.stages;
      synced = syncs_then c.args.by 3 (3 + 4 * bank) (3 + 4 * (bank + 1)) old mid new (omega arith) (omega arith) i.synced (subst (λ n. AddsSyncs c.args.by (3 + 4 * bank) n mid new) end s.adds);
    }
