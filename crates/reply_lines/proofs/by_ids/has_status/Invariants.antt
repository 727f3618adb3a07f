use Rattle.reply_lines.proofs.by_ids.has_status.Given as goal

abbrev pub ghost-is_status_at : goal.ghost-is_status_at
ghost-is_status_at g a = record { ids = g.s.at.j.begun.committed; by = g.s.asking.by }
