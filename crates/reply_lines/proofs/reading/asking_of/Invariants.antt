use Rattle.reply_lines.proofs.reading.asking_of.Given as goal

abbrev pub ghost-reading_at : goal.ghost-reading_at
ghost-reading_at g a = g.of

abbrev pub ghost-multi_reading_at : goal.ghost-multi_reading_at
ghost-multi_reading_at g a = g.of
