use Rattle.report_text.proofs.MoreWords.{join_on, id_joined}
use Rattle.report_text.proofs.member.put_id.Goals as goal

pub returns : goal.returns
returns c = record { ok = join_on _ _ _ _ _ _ _ c.in_ok-number.ensures.ok (id_joined _ _) c.put_mode.ensures.ok }
