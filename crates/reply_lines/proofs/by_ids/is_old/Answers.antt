use Rattle.std.proofs.Common.{length}
use Rattle.report_law.specs.MultiLines.{IsOldMember}
use Rattle.report_law.proofs.Fronts.{old_member_whole}
use Rattle.reply_lines.specs.At.{base_of, history_of, round_of}
use Rattle.reply_lines.proofs.Spots.{fits, lift, read_places, reading_within}
use Rattle.reply_lines.proofs.by_ids.is_old.Goals as goal

pub is_old_member-requires : goal.is_old_member-requires
is_old_member-requires g c =
    (read_places g.s c.args.known.now c.args.asking c.requires, (reading_within g.s c.args.known.now c.args.asking c.requires, c.is_carried.ensures.front))

pub returns : goal.returns
returns g c =
    let s = g.s in
    let k = c.args.known.now in
    let a = c.args.asking in
    let n = length c.args.known.now.places.events in
    let r = c.requires in
    lift s k a r (λ b h. IsOldMember b h (round_of g.s) g.s.asking.by c.args.pairs.now c.args.oldest) c.is_old_member.result
    (old_member_whole (history_of g.s) n (round_of g.s) (fits s k a r) (base_of g.s) g.s.asking.by c.args.pairs.now c.args.oldest) c.is_old_member.ensures
