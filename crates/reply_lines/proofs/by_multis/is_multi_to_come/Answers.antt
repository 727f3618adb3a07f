use Rattle.std.proofs.Common.{length}
use Rattle.report_law.specs.MultiLines.{IsMultiFuture}
use Rattle.report_law.proofs.FrontsOfMultis.{multi_future_all}
use Rattle.reply_lines.specs.At.{base_of, multi_round_of, multis_of_life}
use Rattle.reply_lines.proofs.Spots.{lift_multis, multi_fits, multis_reading_within, read_multis}
use Rattle.reply_lines.proofs.by_multis.is_multi_to_come.Goals as goal

pub is_multi_future_at-requires : goal.is_multi_future_at-requires
is_multi_future_at-requires g c =
    (read_multis g.s c.args.known.now c.args.asking c.requires, multis_reading_within g.s c.args.known.now c.args.asking c.requires)

pub returns : goal.returns
returns g c =
    let s = g.s in
    let k = c.args.known.now in
    let a = c.args.asking in
    let n = length c.args.known.now.multi_places.events in
    lift_multis s k a c.requires (λ b h. IsMultiFuture b h (multi_round_of g.s) g.s.asking.by c.args.m.number c.args.next) c.is_multi_future_at.result
    (multi_future_all (multis_of_life g.s) n (multi_round_of g.s) (multi_fits s k a c.requires) (base_of g.s) g.s.asking.by c.args.m.number c.args.next) c.is_multi_future_at.ensures
