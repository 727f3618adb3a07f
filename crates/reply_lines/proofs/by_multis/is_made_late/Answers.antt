use Rattle.std.proofs.Common.{length}
use Rattle.report_law.specs.MultiLines.{IsMultiWarned}
use Rattle.reply_lines.proofs.Warnings.{multi_warned_whole}
use Rattle.reply_lines.specs.At.{base_of, multis_of_life}
use Rattle.reply_lines.proofs.Spots.{few_multis, its_multis_within, lift_multis, multi_places_here}
use Rattle.reply_lines.proofs.by_multis.is_made_late.Goals as goal

pub places-requires : goal.places-requires
places-requires g c = few_multis g.s c.args.known.now c.args.asking c.requires

pub is_multi_warned-requires : goal.is_multi_warned-requires
is_multi_warned-requires g c = multi_places_here g.s c.args.known.now c.args.asking c.requires c.places.result.now c.places.ensures

pub returns : goal.returns
returns g c =
    let s = g.s in
    let k = c.args.known.now in
    let a = c.args.asking in
    let n = length c.args.known.now.multi_places.events in
    lift_multis s k a c.requires (λ b h. IsMultiWarned b h g.s.asking.by c.args.multi) c.is_multi_warned.result
    (multi_warned_whole (base_of g.s) (multis_of_life g.s) n g.s.asking.by c.args.multi (its_multis_within s k a c.requires)) c.is_multi_warned.ensures
