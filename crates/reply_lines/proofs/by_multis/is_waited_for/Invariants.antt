use Rattle.report_law.specs.Steps.{gave_multi, lines_of}
use Rattle.reply_lines.specs.At.{base_of, history_of, multi_round_of, multis_of_life}
use Rattle.reply_lines.proofs.by_multis.is_waited_for.Given as goal

abbrev pub ghost-is_not_yet : goal.ghost-is_not_yet
ghost-is_not_yet g a = record { base = base_of g.s; events = history_of g.s; all = multis_of_life g.s; recorded = g.s.at.j.begun.recorded; ok = gave_multi (lines_of g.s.at.j); round = multi_round_of g.s; by = g.s.asking.by }
