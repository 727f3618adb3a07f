use Rattle.reply_lines.proofs.replies.by_log.Given as goal

abbrev pub ghost-by_log_of_commit : goal.ghost-by_log_of_commit
ghost-by_log_of_commit g a = g.at
