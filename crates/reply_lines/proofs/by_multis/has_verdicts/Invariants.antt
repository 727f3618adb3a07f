use Rattle.reply_lines.specs.At.{round_of}
use Rattle.reply_lines.proofs.by_multis.has_verdicts.Given as goal

abbrev pub ghost-line_of : goal.ghost-line_of
ghost-line_of g a = g.s

abbrev pub ghost-are_verdicts : goal.ghost-are_verdicts
ghost-are_verdicts g a = record { ids = g.s.spot.at.j.begun.committed; recorded = g.s.spot.at.j.begun.recorded; round = round_of g.s.spot; by = g.s.spot.asking.by; number = g.s.number }
