use Rattle.reply_lines.specs.At.{round_of}
use Rattle.reply_lines.proofs.by_ids.is_ungiven.Given as goal

abbrev pub ghost-is_not_given : goal.ghost-is_not_given
ghost-is_not_given g a = record { round = round_of g.s; by = g.s.asking.by }
