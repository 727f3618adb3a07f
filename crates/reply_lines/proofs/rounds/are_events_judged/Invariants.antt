use Rattle.reply_lines.proofs.rounds.are_events_judged.Given as goal

abbrev pub ghost-are_theirs : goal.ghost-are_theirs
ghost-are_theirs g a = g.at.j
