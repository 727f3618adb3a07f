use Rattle.reply_lines.proofs.replies.by_log_of_commit.Given as goal

abbrev pub ghost-by_full_commit : goal.ghost-by_full_commit
ghost-by_full_commit g a = g.at
