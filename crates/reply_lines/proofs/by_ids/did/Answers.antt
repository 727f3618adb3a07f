use Rattle.std.proofs.Common.{length}
use Rattle.report_law.specs.Steps.{IsDidAt}
use Rattle.report_law.proofs.Fronts.{did_whole}
use Rattle.reply_lines.specs.At.{base_of, history_of, round_of}
use Rattle.reply_lines.proofs.Spots.{asked, fits, lift, read_places, reading_within}
use Rattle.reply_lines.proofs.by_ids.did.Goals as goal

pub is_did_at-requires : goal.is_did_at-requires
is_did_at-requires g c =
    (c.requires.1.0, ((asked g.s c.args.known.now c.args.asking c.requires.0).known.recorded, (read_places g.s c.args.known.now c.args.asking c.requires.0, (reading_within g.s c.args.known.now c.args.asking c.requires.0, c.requires.1.1))))

pub returns : goal.returns
returns g c =
    let s = g.s in
    let k = c.args.known.now in
    let a = c.args.asking in
    let n = length c.args.known.now.places.events in
    let r = c.requires.0 in
    lift s k a r (λ b h. IsDidAt b g.s.at.j.begun.committed h g.s.at.j.life.recs (round_of g.s) g.s.asking.by c.args.x.number c.args.yes) c.is_did_at.result
    (did_whole (history_of g.s) n (round_of g.s) (fits s k a r) (base_of g.s) g.s.at.j.begun.committed g.s.at.j.life.recs g.s.asking.by c.args.x.number c.args.yes) c.is_did_at.ensures
