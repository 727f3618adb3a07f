use Rattle.reply_lines.specs.At.{round_of}
use Rattle.reply_lines.proofs.by_ids.is_older_than.Given as goal

abbrev pub ghost-line_of : goal.ghost-line_of
ghost-line_of g a = g.s

abbrev pub ghost-is_carried : goal.ghost-is_carried
ghost-is_carried g a = g.s.spot

abbrev pub ghost-is_too_old_for : goal.ghost-is_too_old_for
ghost-is_too_old_for g a = record { round = round_of g.s.spot; by = g.s.spot.asking.by; number = g.s.number }
