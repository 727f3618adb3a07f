use Rattle.std.proofs.Common.{arith}
use Rattle.hall.specs.Calls.{start_of, view}
use Rattle.tx_core.specs.Locks.{members_lock}
use Rattle.host_calls.proofs.Stages.{synced}
use Rattle.host_calls.proofs.syncs.sync_slots.Goals as goal

pub returns-in-Ok-clause-stages : goal.returns-in-Ok-clause-stages
returns-in-Ok-clause-stages g c =
    synced (start_of c.args.hall.now) c.args.by (members_lock c.args.bank) (view c.args.pass.now).seen (view c.sync_members.new.pass).seen c.sync_members.result (omega arith) c.sync_members.ensures.asks c.sync_members.ensures.adds c.sync_members.ensures.kept

pub returns-in-Err-clause-stages : goal.returns-in-Err-clause-stages
returns-in-Err-clause-stages g c =
    synced (start_of c.args.hall.now) c.args.by (members_lock c.args.bank) (view c.args.pass.now).seen (view c.sync_members.new.pass).seen c.sync_members.result (omega arith) c.sync_members.ensures.asks c.sync_members.ensures.adds c.sync_members.ensures.kept
