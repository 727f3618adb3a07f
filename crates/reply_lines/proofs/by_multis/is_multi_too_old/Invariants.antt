use Rattle.reply_lines.specs.At.{multi_round_of}
use Rattle.reply_lines.proofs.by_multis.is_multi_too_old.Given as goal

abbrev pub ghost-is_multi_too_old_at : goal.ghost-is_multi_too_old_at
ghost-is_multi_too_old_at g a = record { round = multi_round_of g.s; by = g.s.asking.by }
