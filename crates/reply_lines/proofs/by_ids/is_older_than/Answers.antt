use Rattle.std.proofs.Common.{length}
use Rattle.tx_model.specs.Replies.{taken_by}
use Rattle.report_law.specs.Steps.{IsTooOldFor}
use Rattle.report_law.proofs.FrontsAtEvents.{too_old_whole}
use Rattle.reply_lines.specs.At.{base_of, history_of, round_of}
use Rattle.reply_lines.proofs.Spots.{fits, lift, taken_there, within_of}
use Rattle.reply_lines.proofs.by_ids.is_older_than.Goals as goal

pub is_too_old_for-requires : goal.is_too_old_for-requires
is_too_old_for-requires g c = (taken_there g.s.spot c.args.known.now c.args.asking c.requires.0 c.line_of-line.result (taken_by g.s.spot.asking.by g.s.number) c.as_slice.result.now c.taken_in.result.now c.line_of-line.ensures c.as_slice.ensures.value c.taken_in.ensures, c.is_carried.ensures.front)

pub returns : goal.returns
returns g c =
    let s = g.s.spot in
    let k = c.args.known.now in
    let a = c.args.asking in
    let r = c.requires.0 in
    let n = length c.args.known.now.places.events in
    lift s k a r (λ b h. IsTooOldFor b h (round_of g.s.spot) g.s.spot.asking.by g.s.number c.args.x.number c.args.oldest) c.is_too_old_for.result
    (too_old_whole (base_of s) (history_of s) n (round_of s) s.asking.by g.s.number c.args.x.number c.args.oldest (fits s k a r) (within_of s k a r (taken_by s.asking.by g.s.number) c.requires.1.1)) c.is_too_old_for.ensures
