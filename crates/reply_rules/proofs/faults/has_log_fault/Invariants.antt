use Rattle.std.proofs.Common.{◌≡◌, false, take}
use Rattle.life_law.specs.Facts.{has_log_fault}
use Rattle.reply_rules.proofs.faults.has_log_fault.Given as goal

abbrev pub invariant-loop-line : goal.invariant-loop-line
invariant-loop-line l = has_log_fault (take l.line-index l.lines) ≡ false
