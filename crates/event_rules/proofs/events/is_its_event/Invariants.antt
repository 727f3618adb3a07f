use Rattle.event_rules.proofs.events.is_its_event.Given as goal

abbrev pub ghost-stands : goal.ghost-stands
ghost-stands g a = g.j

abbrev pub ghost-is_commit_logged : goal.ghost-is_commit_logged
ghost-is_commit_logged g a = g.j

abbrev pub ghost-is_told_at : goal.ghost-is_told_at
ghost-is_told_at g a = g.j
