use Rattle.multi_sections.proofs.Beginning.{begins_next, not_raised, raised_next}
use Rattle.multi_sections.proofs.raising.raise_next.Goals as goal

pub raise_oldest-requires : goal.raise_oldest-requires
raise_oldest-requires c = begins_next c.args.multis.now c.args.multi c.args.offset c.requires.past c.requires.free

pub returns-in-Ok : goal.returns-in-Ok
returns-in-Ok c =
    let e = c.in-Ok.ensures in
    (raised_next c.args.multis.now c.args.multi c.requires.past e.0 e.1, c.requires.free, e.0, e.1, e.2)

pub returns-in-Err : goal.returns-in-Err
returns-in-Err c = (c.in-Err.ensures.0, not_raised c.args.multis.now c.args.multi c.in-Err.refusal c.in-Err.ensures.1)
