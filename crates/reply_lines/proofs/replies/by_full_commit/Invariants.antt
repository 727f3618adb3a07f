use Rattle.reply_lines.proofs.replies.by_full_commit.Given as goal

abbrev pub ghost-ids_below : goal.ghost-ids_below
ghost-ids_below g a = record { at = g.at; known = a.known.now }
