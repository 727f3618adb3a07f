use Rattle.reply_lines.proofs.reading.reading_at.Given as goal

abbrev pub ghost-reading_of : goal.ghost-reading_of
ghost-reading_of g a = g.of.known.places.events
