use Rattle.event_rules.proofs.Telling.{told_at}
use Rattle.event_rules.proofs.events.is_told_at.Goals as goal

pub returns : goal.returns
returns g c = λ e at s.
    told_at g.j c.args.place e s c.args.own.now c.args.told.now c.number_at.result c.rank_at.result c.count_before-first.result c.said_at.result c.requires.0 c.requires.1.0 c.requires.1.1.0 at
    c.number_at.ensures.number c.rank_at.ensures c.count_before-first.ensures c.said_at.ensures
