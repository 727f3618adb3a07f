use Rattle.report_text.proofs.MoreWords.{go_on}
use Rattle.report_text.proofs.record.put_checkpoint.Goals as goal

pub returns : goal.returns
returns c = record { ok = go_on _ _ _ _ _ _ c.in_ok-word.ensures.ok c.put_counters.ensures.ok }
