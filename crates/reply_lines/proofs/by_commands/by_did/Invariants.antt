use Rattle.reply_lines.proofs.by_commands.by_did.Given as goal

abbrev pub ghost-did : goal.ghost-did
ghost-did g a = g.s

abbrev pub ghost-did_too_old : goal.ghost-did_too_old
ghost-did_too_old g a = g.s
