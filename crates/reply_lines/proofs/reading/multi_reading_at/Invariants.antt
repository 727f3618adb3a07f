use Rattle.reply_lines.proofs.reading.multi_reading_at.Given as goal

abbrev pub ghost-multi_reading_of : goal.ghost-multi_reading_of
ghost-multi_reading_of g a = g.of.known.multi_places.events
