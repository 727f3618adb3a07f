use Rattle.reply_lines.proofs.by_multis.read_before.Given as goal

abbrev pub ghost-multi_reading_at : goal.ghost-multi_reading_at
ghost-multi_reading_at g a = record { at = g.s.at; known = g.s.known }
