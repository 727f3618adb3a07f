use Rattle.tx_core.proofs.Seeing.{answer_right}
use Rattle.tx_core.proofs.verdict.is_seen.Goals as goal

pub returns-clause-visible : goal.returns-clause-visible
returns-clause-visible c = answer_right c.args.snap.now c.args.state c.args.topmost c.args.x _ c.answer.ensures
