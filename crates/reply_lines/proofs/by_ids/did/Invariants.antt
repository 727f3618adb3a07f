use Rattle.reply_lines.specs.At.{round_of}
use Rattle.reply_lines.proofs.by_ids.did.Given as goal

abbrev pub ghost-is_did_at : goal.ghost-is_did_at
ghost-is_did_at g a = record { ids = g.s.at.j.begun.committed; recs = g.s.at.j.life.recs; round = round_of g.s; by = g.s.asking.by }
