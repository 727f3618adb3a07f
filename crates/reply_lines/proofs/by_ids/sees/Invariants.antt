use Rattle.reply_lines.proofs.by_ids.sees.Given as goal

abbrev pub ghost-line_of : goal.ghost-line_of
ghost-line_of g a = g.s

abbrev pub ghost-is_seen : goal.ghost-is_seen
ghost-is_seen g a = record { ids = g.s.spot.at.j.begun.committed; by = g.s.spot.asking.by; number = g.s.number }
