use Rattle.hall_counts.proofs.count.Given as goal

abbrev pub ghost-by : goal.ghost-by
ghost-by a = record { by = a._about.now.0.now.seat.me.0.name; amount = a._about.now.1 }
