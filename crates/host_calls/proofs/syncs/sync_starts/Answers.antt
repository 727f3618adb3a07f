use Rattle.std.proofs.Common.{arith}
use Rattle.hall.specs.Calls.{start_of, view}
use Rattle.tx_core.specs.Locks.{offsets_lock}
use Rattle.host_calls.proofs.Stages.{synced}
use Rattle.host_calls.proofs.syncs.sync_starts.Goals as goal

pub returns-in-Ok-clause-stages : goal.returns-in-Ok-clause-stages
returns-in-Ok-clause-stages g c =
    synced (start_of c.args.hall.now) c.args.by (offsets_lock c.args.bank) (view c.args.pass.now).seen (view c.sync_offsets.new.pass).seen c.sync_offsets.result (omega arith) c.sync_offsets.ensures.asks c.sync_offsets.ensures.adds c.sync_offsets.ensures.kept

pub returns-in-Err-clause-stages : goal.returns-in-Err-clause-stages
returns-in-Err-clause-stages g c =
    synced (start_of c.args.hall.now) c.args.by (offsets_lock c.args.bank) (view c.args.pass.now).seen (view c.sync_offsets.new.pass).seen c.sync_offsets.result (omega arith) c.sync_offsets.ensures.asks c.sync_offsets.ensures.adds c.sync_offsets.ensures.kept
