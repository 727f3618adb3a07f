use Rattle.reply_lines.proofs.Judging.{round_is, spans}
use Rattle.reply_lines.proofs.rounds.round_at.Goals as goal

pub reach_of-requires : goal.reach_of-requires
reach_of-requires g c =
    let r = c.requires in
    let w = spans g.at.j g.at.rounds g.at.lines c.args.start c.args.end c.count_of_events-from.result c.count_of_events-to.result r.1.0 r.1.1.0 c.count_of_events-from.ensures c.count_of_events-to.ensures in
    (r.0.counts, (w.0, w.1))

pub returns : goal.returns
returns g c =
    let r = c.requires in
    round_is g.at.j g.at.rounds g.at.lines c.args.known.now r.0 c.args.start c.args.end r.1.0 r.1.1.0 c.count_of_events-from.result c.count_of_events-to.result c.count_of_multis-multi_from.result c.count_of_multis-multi_to.result
    c.reach_of.result c.are_events_judged.result c.are_multis_judged.result c.both-judged.result c.count_of_events-from.ensures c.count_of_events-to.ensures c.count_of_multis-multi_from.ensures c.count_of_multis-multi_to.ensures
    c.reach_of.ensures c.are_events_judged.ensures c.are_multis_judged.ensures c.both-judged.ensures
