use Rattle.notes.proofs.note.Note.by.Given as goal

abbrev pub ghost-of : goal.ghost-of
ghost-of g a = g.noted
