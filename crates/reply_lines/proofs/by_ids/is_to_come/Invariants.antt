use Rattle.reply_lines.proofs.by_ids.is_to_come.Given as goal

abbrev pub ghost-is_future_at : goal.ghost-is_future_at
ghost-is_future_at g a = g.s.asking.by
