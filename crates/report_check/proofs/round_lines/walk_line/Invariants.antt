use Rattle.report_check.proofs.round_lines.walk_line.Given as goal

abbrev pub ghost-is_lawful_command : goal.ghost-is_lawful_command
ghost-is_lawful_command g a = g.at

abbrev pub ghost-pass_line : goal.ghost-pass_line
ghost-pass_line g a = g.at
