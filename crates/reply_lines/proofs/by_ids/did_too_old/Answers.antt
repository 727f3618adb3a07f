use Rattle.std.proofs.Common.{length}
use Rattle.report_law.specs.Steps.{IsDidTooOld}
use Rattle.report_law.proofs.Fronts.{did_old_whole}
use Rattle.reply_lines.specs.At.{base_of, history_of, round_of}
use Rattle.reply_lines.proofs.Spots.{fits, lift, read_places, reading_within}
use Rattle.reply_lines.proofs.by_ids.did_too_old.Goals as goal

pub is_did_too_old-requires : goal.is_did_too_old-requires
is_did_too_old-requires g c =
    (read_places g.s c.args.known.now c.args.asking c.requires, (reading_within g.s c.args.known.now c.args.asking c.requires, c.is_carried.ensures.front))

pub returns : goal.returns
returns g c =
    let s = g.s in
    let k = c.args.known.now in
    let a = c.args.asking in
    let n = length c.args.known.now.places.events in
    let r = c.requires in
    lift s k a r (λ b h. IsDidTooOld b h (round_of g.s) g.s.asking.by c.args.x.number c.args.oldest) c.is_did_too_old.result
    (did_old_whole (history_of g.s) n (round_of g.s) (fits s k a r) (base_of g.s) g.s.asking.by c.args.x.number c.args.oldest) c.is_did_too_old.ensures
