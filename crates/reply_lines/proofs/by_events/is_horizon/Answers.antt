use Rattle.std.proofs.Common.{length}
use Rattle.report_law.specs.Steps.{IsHorizonAt}
use Rattle.report_law.proofs.Fronts.{horizon_whole}
use Rattle.reply_lines.specs.At.{base_of, history_of, round_of}
use Rattle.reply_lines.proofs.Spots.{fits, lift, reading_here, reading_within}
use Rattle.reply_lines.proofs.by_events.is_horizon.Goals as goal

pub is_horizon_at-requires : goal.is_horizon_at-requires
is_horizon_at-requires g c =
    (reading_here g.s c.args.known.now c.args.asking c.requires, reading_within g.s c.args.known.now c.args.asking c.requires)

pub returns : goal.returns
returns g c =
    let s = g.s in
    let k = c.args.known.now in
    let a = c.args.asking in
    let n = length c.args.known.now.places.events in
    lift s k a c.requires (λ b h. IsHorizonAt b h (round_of g.s) g.s.asking.by c.args.xmin) c.is_horizon_at.result
    (horizon_whole (history_of g.s) n (round_of g.s) (fits s k a c.requires) (base_of g.s) g.s.asking.by c.args.xmin) c.is_horizon_at.ensures
