use Rattle.reply_lines.specs.At.{round_of}
use Rattle.reply_lines.proofs.by_ids.is_old.Given as goal

abbrev pub ghost-is_carried : goal.ghost-is_carried
ghost-is_carried g a = g.s

abbrev pub ghost-is_old_member : goal.ghost-is_old_member
ghost-is_old_member g a = record { round = round_of g.s; by = g.s.asking.by }
