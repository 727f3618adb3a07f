use Rattle.engine_host.proofs.begun_parts.open_begun.Given as goal

abbrev pub ghost-first_locks : goal.ghost-first_locks
ghost-first_locks g a = g.begins

abbrev pub ghost-add_banks : goal.ghost-add_banks
ghost-add_banks g a = g.begins

abbrev pub ghost-gather : goal.ghost-gather
ghost-gather g a = g.begins
