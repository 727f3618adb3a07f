use Rattle.run_law.proofs.Known.{script_known}
use Rattle.script_source.proofs.RunLemmas.{fault_told, script_runs}
use Rattle.script_source.proofs.StreamLemmas.{refused_so}
use Rattle.script_source.proofs.source.script_of.Goals as goal

pub returns-in-Ok-clause-script : goal.returns-in-Ok-clause-script
returns-in-Ok-clause-script c text few same =
    (c.in-Ok.ensures.reads text few same, script_runs c.in-Ok.script c.in-Ok.ensures.sound (c.in-Ok.ensures.ranges text same))

pub returns-in-Ok-clause-banks : goal.returns-in-Ok-clause-banks
returns-in-Ok-clause-banks c text few same = (script_known text c.in-Ok.script (c.in-Ok.ensures.reads text few same)).banks

pub returns-in-Ok-clause-few : goal.returns-in-Ok-clause-few
returns-in-Ok-clause-few c text few same = (script_known text c.in-Ok.script (c.in-Ok.ensures.reads text few same)).few

pub returns-in-Err-Fault-clause-refused : goal.returns-in-Err-Fault-clause-refused
returns-in-Err-Fault-clause-refused c text few same =
    let reads = c.in-Err-Fault.ensures.reads text few same in
    refused_so text (c.in-Err-Fault.line, c.in-Err-Fault.kind) c.refused.result (fault_told text c.in-Err-Fault.line c.in-Err-Fault.kind (rw c.in-Err-Fault.field-0-is at reads)) c.refused.ensures
