use Rattle.report_check.proofs.told_multis.is_told_of.Given as goal

abbrev pub ghost-reach_of : goal.ghost-reach_of
ghost-reach_of g a = record { base = g.of.judged.begun.counters; events = g.of.judged.life.events; multis = g.of.judged.life.multis }

abbrev pub ghost-is_told_multi : goal.ghost-is_told_multi
ghost-is_told_multi g a = g.of
