use Rattle.command_events.specs.Reached.{span}
use Rattle.report_check.proofs.told_multis.is_told_in.Given as goal

abbrev pub ghost-count_of_events : goal.ghost-count_of_events
ghost-count_of_events g a = g.j

abbrev pub ghost-is_told_of : goal.ghost-is_told_of
ghost-is_told_of g a = record { judged = g.j; round = span a.from a.to }
