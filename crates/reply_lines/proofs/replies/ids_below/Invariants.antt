use Rattle.reply_lines.proofs.replies.ids_below.Given as goal

abbrev pub ghost-open_below : goal.ghost-open_below
ghost-open_below g a = g.of
