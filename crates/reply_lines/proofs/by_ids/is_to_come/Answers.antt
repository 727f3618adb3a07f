use Rattle.std.proofs.Common.{length}
use Rattle.report_law.specs.Steps.{IsFutureAt}
use Rattle.report_law.proofs.FrontsAtEvents.{future_whole}
use Rattle.reply_lines.specs.At.{base_of, history_of}
use Rattle.reply_lines.proofs.Spots.{asked, few_events, its_places_here, its_within, lift}
use Rattle.reply_lines.proofs.by_ids.is_to_come.Goals as goal

pub places-requires : goal.places-requires
places-requires g c = few_events g.s c.args.known.now c.args.asking c.requires c.args.asking.number c.args.asking.by (asked g.s c.args.known.now c.args.asking c.requires).number

pub is_future_at-requires : goal.is_future_at-requires
is_future_at-requires g c = its_places_here g.s c.args.known.now c.args.asking c.requires c.places.result.now c.places.ensures

pub returns : goal.returns
returns g c =
    let s = g.s in
    let k = c.args.known.now in
    let a = c.args.asking in
    let n = length c.args.known.now.places.events in
    let r = c.requires in
    lift s k a r (λ b h. IsFutureAt b h g.s.asking.by c.args.x c.args.next) c.is_future_at.result
    (future_whole (base_of g.s) (history_of g.s) n g.s.asking.by c.args.x c.args.next (its_within s k a r)) c.is_future_at.ensures
