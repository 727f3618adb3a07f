use Rattle.reply_lines.specs.At.{round_of}
use Rattle.reply_lines.proofs.by_events.is_carried.Given as goal

abbrev pub ghost-may_carry : goal.ghost-may_carry
ghost-may_carry g a = round_of g.s
