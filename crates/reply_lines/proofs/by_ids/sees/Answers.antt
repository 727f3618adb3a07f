use Rattle.std.proofs.Common.{length}
use Rattle.tx_model.specs.Replies.{taken_by}
use Rattle.report_law.specs.Steps.{IsSeen}
use Rattle.report_law.proofs.FrontsAtEvents.{seen_whole}
use Rattle.reply_lines.specs.At.{base_of, history_of}
use Rattle.reply_lines.proofs.Spots.{lift, taken_there, within_of}
use Rattle.reply_lines.proofs.by_ids.sees.Goals as goal

pub is_seen-requires : goal.is_seen-requires
is_seen-requires g c = (c.requires.1.1.1, taken_there g.s.spot c.args.known.now c.args.asking c.requires.0 c.line_of-line.result (taken_by g.s.spot.asking.by g.s.number) c.as_slice.result.now c.taken_in.result.now c.line_of-line.ensures c.as_slice.ensures.value c.taken_in.ensures)

pub returns : goal.returns
returns g c =
    let s = g.s.spot in
    let k = c.args.known.now in
    let a = c.args.asking in
    let r = c.requires.0 in
    let n = length c.args.known.now.places.events in
    lift s k a r (λ b h. IsSeen b g.s.spot.at.j.begun.committed h g.s.spot.asking.by g.s.number c.args.x.number c.args.visible) c.is_seen.result
    (seen_whole (base_of s) s.at.j.begun.committed (history_of s) n s.asking.by g.s.number c.args.x.number c.args.visible (within_of s k a r (taken_by s.asking.by g.s.number) c.requires.1.1.0)) c.is_seen.ensures
