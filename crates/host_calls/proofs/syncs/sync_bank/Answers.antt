use Rattle.hall.specs.Calls.{start_of, view}
use Rattle.host_calls.proofs.Stages.{followed}
use Rattle.host_calls.proofs.syncs.sync_bank.Goals as goal

pub returns-in_err-sync_parents-clause-stages : goal.returns-in_err-sync_parents-clause-stages
returns-in_err-sync_parents-clause-stages g c =
    let start = start_of c.args.hall.now in
    followed start (view c.args.pass.now).seen (view c.sync_states.new.pass).seen (view c.sync_parents.new.pass).seen c.sync_states.ensures.stages c.sync_parents.ensures.stages

pub returns-in_err-sync_starts-clause-stages : goal.returns-in_err-sync_starts-clause-stages
returns-in_err-sync_starts-clause-stages g c =
    let start = start_of c.args.hall.now in
    let last = (view c.sync_starts.new.pass).seen in
    followed start (view c.args.pass.now).seen (view c.sync_states.new.pass).seen last c.sync_states.ensures.stages
    (followed start (view c.sync_states.new.pass).seen (view c.sync_parents.new.pass).seen last c.sync_parents.ensures.stages c.sync_starts.ensures.stages)

pub returns-clause-stages : goal.returns-clause-stages
returns-clause-stages g c =
    let start = start_of c.args.hall.now in
    let last = (view c.sync_slots.new.pass).seen in
    followed start (view c.args.pass.now).seen (view c.sync_states.new.pass).seen last c.sync_states.ensures.stages
    (followed start (view c.sync_states.new.pass).seen (view c.sync_parents.new.pass).seen last c.sync_parents.ensures.stages
    (followed start (view c.sync_parents.new.pass).seen (view c.sync_starts.new.pass).seen last c.sync_starts.ensures.stages c.sync_slots.ensures.stages))
