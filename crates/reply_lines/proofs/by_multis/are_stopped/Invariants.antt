use Rattle.reply_lines.specs.At.{multi_round_of}
use Rattle.reply_lines.proofs.by_multis.are_stopped.Given as goal

abbrev pub ghost-is_multi_stop_at : goal.ghost-is_multi_stop_at
ghost-is_multi_stop_at g a = record { round = multi_round_of g.s; by = g.s.asking.by }
