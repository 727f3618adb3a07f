use Rattle.event_rules.proofs.Judging.{reached_told}
use Rattle.event_rules.proofs.judged.is_reached.Goals as goal

pub returns-else-count-eq0 : goal.returns-else-count-eq0
returns-else-count-eq0 c = reached_told c.args.lines c.count_before-count.result c.reach_at.result c.args.own.now.numbers c.reach_at.ensures c.count_before-count.ensures c.if-count-eq0.false
