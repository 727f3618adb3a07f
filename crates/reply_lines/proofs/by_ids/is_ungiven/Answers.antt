use Rattle.std.proofs.Common.{length}
use Rattle.report_law.specs.MultiLines.{IsNotGiven}
use Rattle.report_law.proofs.Fronts.{ungiven_whole}
use Rattle.reply_lines.specs.At.{base_of, history_of, round_of}
use Rattle.reply_lines.proofs.Spots.{fits, lift, read_places, reading_within}
use Rattle.reply_lines.proofs.by_ids.is_ungiven.Goals as goal

pub is_not_given-requires : goal.is_not_given-requires
is_not_given-requires g c =
    (read_places g.s c.args.known.now c.args.asking c.requires, reading_within g.s c.args.known.now c.args.asking c.requires)

pub returns : goal.returns
returns g c =
    let s = g.s in
    let k = c.args.known.now in
    let a = c.args.asking in
    let n = length c.args.known.now.places.events in
    let r = c.requires in
    lift s k a r (λ b h. IsNotGiven b h (round_of g.s) g.s.asking.by c.args.pairs.now c.args.x.number) c.is_not_given.result
    (ungiven_whole (history_of g.s) n (round_of g.s) (fits s k a r) (base_of g.s) g.s.asking.by c.args.pairs.now c.args.x.number) c.is_not_given.ensures
