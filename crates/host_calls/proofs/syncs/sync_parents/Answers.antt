use Rattle.std.proofs.Common.{arith}
use Rattle.hall.specs.Calls.{start_of, view}
use Rattle.tx_core.specs.Locks.{subtrans_lock}
use Rattle.host_calls.proofs.Stages.{synced}
use Rattle.host_calls.proofs.syncs.sync_parents.Goals as goal

pub returns-in-Ok-clause-stages : goal.returns-in-Ok-clause-stages
returns-in-Ok-clause-stages g c =
    synced (start_of c.args.hall.now) c.args.by (subtrans_lock c.args.bank) (view c.args.pass.now).seen (view c.sync_subtrans.new.pass).seen c.sync_subtrans.result (omega arith) c.sync_subtrans.ensures.asks c.sync_subtrans.ensures.adds c.sync_subtrans.ensures.kept

pub returns-in-Err-clause-stages : goal.returns-in-Err-clause-stages
returns-in-Err-clause-stages g c =
    synced (start_of c.args.hall.now) c.args.by (subtrans_lock c.args.bank) (view c.args.pass.now).seen (view c.sync_subtrans.new.pass).seen c.sync_subtrans.result (omega arith) c.sync_subtrans.ensures.asks c.sync_subtrans.ensures.adds c.sync_subtrans.ensures.kept
