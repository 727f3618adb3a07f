use Rattle.command_events.proofs.multis.is_of_shape.Given as goal

abbrev pub ghost-is_near_pin : goal.ghost-is_near_pin
ghost-is_near_pin g a = g.t

abbrev pub ghost-is_of_gen : goal.ghost-is_of_gen
ghost-is_of_gen g a = g.t
