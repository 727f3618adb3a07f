use Rattle.std.proofs.Common.{length}
use Rattle.report_law.specs.MultiLines.{IsMultiBackward}
use Rattle.report_law.proofs.FrontsOfMultis.{multi_backward_all}
use Rattle.reply_lines.specs.At.{base_of, multi_round_of, multis_of_life}
use Rattle.reply_lines.proofs.Spots.{lift_multis, multi_fits, multis_here, multis_reading_within}
use Rattle.reply_lines.proofs.by_multis.is_behind.Goals as goal

pub is_multi_backward_at-requires : goal.is_multi_backward_at-requires
is_multi_backward_at-requires g c =
    (multis_here g.s c.args.known.now c.args.asking c.requires, multis_reading_within g.s c.args.known.now c.args.asking c.requires)

pub returns : goal.returns
returns g c =
    let s = g.s in
    let k = c.args.known.now in
    let a = c.args.asking in
    let n = length c.args.known.now.multi_places.events in
    lift_multis s k a c.requires (λ b h. IsMultiBackward b h (multi_round_of g.s) g.s.asking.by c.args.multi c.args.now) c.is_multi_backward_at.result
    (multi_backward_all (multis_of_life g.s) n (multi_round_of g.s) (multi_fits s k a c.requires) (base_of g.s) g.s.asking.by c.args.multi c.args.now) c.is_multi_backward_at.ensures
