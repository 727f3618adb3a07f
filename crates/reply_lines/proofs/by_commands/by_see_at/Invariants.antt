use Rattle.reply_lines.proofs.by_commands.by_see_at.Given as goal

abbrev pub ghost-sees : goal.ghost-sees
ghost-sees g a = record { spot = g.s; number = a.number }

abbrev pub ghost-is_older_than : goal.ghost-is_older_than
ghost-is_older_than g a = record { spot = g.s; number = a.number }
