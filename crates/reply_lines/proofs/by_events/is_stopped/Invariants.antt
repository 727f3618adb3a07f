use Rattle.reply_lines.specs.At.{round_of}
use Rattle.reply_lines.proofs.by_events.is_stopped.Given as goal

abbrev pub ghost-is_stopped_at : goal.ghost-is_stopped_at
ghost-is_stopped_at g a = record { round = round_of g.s; by = g.s.asking.by }
