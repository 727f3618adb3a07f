use Rattle.reply_lines.proofs.replies.open_below.Given as goal

abbrev pub ghost-open_before : goal.ghost-open_before
ghost-open_before g a = record { base = g.of.at.j.begun.counters; events = g.of.known.places.events }
