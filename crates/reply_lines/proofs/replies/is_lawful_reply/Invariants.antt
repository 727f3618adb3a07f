use Rattle.reply_lines.proofs.replies.is_lawful_reply.Given as goal

abbrev pub ghost-by_log_reply : goal.ghost-by_log_reply
ghost-by_log_reply g a = g.at

abbrev pub ghost-asking_of : goal.ghost-asking_of
ghost-asking_of g a = record { at = g.at; known = a.known.now }

abbrev pub ghost-by_places : goal.ghost-by_places
ghost-by_places g a = record { at = g.at; known = a.known.now; asking = a.asking }
