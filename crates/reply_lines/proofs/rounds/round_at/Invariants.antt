use Rattle.reply_lines.proofs.rounds.round_at.Given as goal

abbrev pub ghost-count_of_events : goal.ghost-count_of_events
ghost-count_of_events g a = g.at.j

abbrev pub ghost-count_of_multis : goal.ghost-count_of_multis
ghost-count_of_multis g a = g.at.j

abbrev pub ghost-are_events_judged : goal.ghost-are_events_judged
ghost-are_events_judged g a = g.at

abbrev pub ghost-are_multis_judged : goal.ghost-are_multis_judged
ghost-are_multis_judged g a = g.at

abbrev pub ghost-reach_of : goal.ghost-reach_of
ghost-reach_of g a = record { base = g.at.j.begun.counters; events = g.at.j.life.events; multis = g.at.j.life.multis }
