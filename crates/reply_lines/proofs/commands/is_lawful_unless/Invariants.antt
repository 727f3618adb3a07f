use Rattle.reply_lines.proofs.commands.is_lawful_unless.Given as goal

abbrev pub ghost-is_lawful_reply : goal.ghost-is_lawful_reply
ghost-is_lawful_reply g a = g.at
