use Rattle.report_text.proofs.MoreWords.{join_on, verdict_joined}
use Rattle.report_text.proofs.member.put_verdict.Goals as goal

pub returns : goal.returns
returns c = record { ok = join_on _ _ _ _ _ _ _ c.in_ok-put_verdict_id.ensures.ok (verdict_joined _) c.put_verdict_word.ensures.ok }
