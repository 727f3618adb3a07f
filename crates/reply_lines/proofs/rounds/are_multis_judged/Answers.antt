use Rattle.reply_lines.proofs.Judging.{multis_judged}
use Rattle.reply_lines.proofs.rounds.are_multis_judged.Goals as goal

pub returns : goal.returns
returns g c =
    let r = c.requires in
    let w = r.0 in
    multis_judged g.at.j g.at.rounds g.at.lines c.args.start c.args.end c.args.to c.args.known.now.multi_places r.1.0 r.1.1.0 r.1.1.1.1 w.multi_front w.offsets
    c.are_multis_theirs.result c.are_multis_theirs-2.result c.are_legal_to.result c.all_three.result c.are_multis_theirs.ensures c.are_multis_theirs-2.ensures c.are_legal_to.ensures c.all_three.ensures
