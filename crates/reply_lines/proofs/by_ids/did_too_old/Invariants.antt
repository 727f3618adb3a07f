use Rattle.reply_lines.specs.At.{round_of}
use Rattle.reply_lines.proofs.by_ids.did_too_old.Given as goal

abbrev pub ghost-is_carried : goal.ghost-is_carried
ghost-is_carried g a = g.s

abbrev pub ghost-is_did_too_old : goal.ghost-is_did_too_old
ghost-is_did_too_old g a = record { round = round_of g.s; by = g.s.asking.by }
