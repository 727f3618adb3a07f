use Rattle.reply_lines.specs.At.{round_of}
use Rattle.reply_lines.proofs.by_events.is_too_new.Given as goal

abbrev pub ghost-is_too_new_at : goal.ghost-is_too_new_at
ghost-is_too_new_at g a = record { round = round_of g.s; by = g.s.asking.by }
