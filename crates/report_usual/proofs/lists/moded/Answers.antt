use Rattle.report_usual.proofs.ListWords.{is_moded}
use Rattle.report_usual.proofs.lists.moded.Goals as goal

pub returns : goal.returns
returns c = is_moded c.args.bytes.now c.in_ok-number.rest.now c.in_ok-rest.rest.now c.in_ok-mode.rest.now c.in_ok-number.number c.in_ok-mode.mode c.in_ok-number.ensures c.in_ok-rest.ensures c.in_ok-mode.ensures
