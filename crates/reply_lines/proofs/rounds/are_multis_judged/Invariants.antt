use Rattle.reply_lines.proofs.rounds.are_multis_judged.Given as goal

abbrev pub ghost-are_multis_theirs : goal.ghost-are_multis_theirs
ghost-are_multis_theirs g a = g.at.j
