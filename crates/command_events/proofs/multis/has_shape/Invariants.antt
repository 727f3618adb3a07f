use Rattle.command_events.proofs.multis.has_shape.Given as goal

abbrev pub ghost-is_near_a_pin : goal.ghost-is_near_a_pin
ghost-is_near_a_pin g a = g.t
