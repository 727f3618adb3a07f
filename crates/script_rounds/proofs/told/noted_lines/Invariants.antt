use Rattle.script_rounds.proofs.told.noted_lines.Given as goal

abbrev pub ghost-of : goal.ghost-of
ghost-of g a = g.noted
