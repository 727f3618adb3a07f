use Rattle.reply_lines.proofs.Judging.{events_judged}
use Rattle.reply_lines.proofs.rounds.are_events_judged.Goals as goal

pub returns : goal.returns
returns g c =
    let r = c.requires in
    let w = r.0 in
    events_judged g.at.j g.at.rounds g.at.lines c.args.start c.args.end c.args.to c.args.known.now.places r.1.0 r.1.1.0 r.1.1.1.1 w.front
    c.are_theirs.result c.are_theirs-2.result c.is_legal_to.result c.all_three.result c.are_theirs.ensures c.are_theirs-2.ensures c.is_legal_to.ensures c.all_three.ensures
