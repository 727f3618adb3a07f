use Rattle.std.proofs.Common.{length}
use Rattle.tx_model.specs.Replies.{IsWarned}
use Rattle.report_law.proofs.FrontsAtEvents.{warned_whole}
use Rattle.reply_lines.specs.At.{base_of, history_of}
use Rattle.reply_lines.proofs.Spots.{asked, few_events, its_places_here, its_within, lift}
use Rattle.reply_lines.proofs.by_events.is_given_late.Goals as goal

pub places-requires : goal.places-requires
places-requires g c = few_events g.s c.args.known.now c.args.asking c.requires c.args.asking.number c.args.asking.by (asked g.s c.args.known.now c.args.asking c.requires).number

pub is_warned-requires : goal.is_warned-requires
is_warned-requires g c = its_places_here g.s c.args.known.now c.args.asking c.requires c.places.result.now c.places.ensures

pub returns : goal.returns
returns g c =
    let s = g.s in
    let k = c.args.known.now in
    let a = c.args.asking in
    let n = length c.args.known.now.places.events in
    lift s k a c.requires (λ b h. IsWarned b h g.s.asking.by) c.is_warned.result
    (warned_whole (base_of g.s) (history_of g.s) n g.s.asking.by (its_within s k a c.requires)) c.is_warned.ensures
