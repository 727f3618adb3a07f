use Rattle.engine_host.specs.Opening.{nothing_before}
use Rattle.engine_host.proofs.first_parts.open_new.Given as goal

abbrev pub ghost-first_locks : goal.ghost-first_locks
ghost-first_locks g a = nothing_before

abbrev pub ghost-add_banks : goal.ghost-add_banks
ghost-add_banks g a = nothing_before

abbrev pub ghost-gather : goal.ghost-gather
ghost-gather g a = nothing_before
