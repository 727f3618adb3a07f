use Rattle.multi_sections.proofs.PinnedRaises.{not_raised_now}
use Rattle.multi_sections.proofs.settling.raise_pinned.Goals as goal

pub returns-in-Err : goal.returns-in-Err
returns-in-Err c = (c.in-Err.ensures.0, not_raised_now c.args.multis.now c.args.held.now c.args.low c.in-Err.refusal c.in-Err.ensures.1)
