use Rattle.reply_lines.proofs.replies.by_log_reply.Given as goal

abbrev pub ghost-by_log : goal.ghost-by_log
ghost-by_log g a = g.at
