use Rattle.slru_bank.specs.Calls.{faults_of}
use Rattle.engine_parts.specs.Faults.{fault_by}
use Rattle.engine_parts.proofs.fault_notes.fault_note.Given as goal

abbrev pub ghost-by : goal.ghost-by
ghost-by g a = fault_by a._about.now.0 (faults_of a._about.now.1.now)
