use Rattle.report_law.specs.Steps.{gave_multi, lines_of}
use Rattle.report_check.proofs.dumps.gens_if.Given as goal

abbrev pub ghost-gens_of : goal.ghost-gens_of
ghost-gens_of g a = record { ok = gave_multi (lines_of g.j); all = g.j.life.multis }
