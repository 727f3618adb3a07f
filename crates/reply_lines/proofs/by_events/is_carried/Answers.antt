use Rattle.std.proofs.Common.{length}
use Rattle.report_law.specs.MultiLines.{MayCarry}
use Rattle.report_law.proofs.Fronts.{carry_whole}
use Rattle.reply_lines.specs.At.{base_of, history_of, round_of}
use Rattle.reply_lines.proofs.Spots.{asked, fits, lift}
use Rattle.reply_lines.proofs.by_events.is_carried.Goals as goal

pub may_carry-requires : goal.may_carry-requires
may_carry-requires g c =
    let x = asked g.s c.args.known.now c.args.asking c.requires in (x.to, x.within)

pub returns-clause-whole : goal.returns-clause-whole
returns-clause-whole g c =
    let s = g.s in
    let k = c.args.known.now in
    let a = c.args.asking in
    let n = length c.args.known.now.places.events in
    lift s k a c.requires (λ b h. MayCarry b h (round_of g.s) c.args.oldest) c.may_carry.result
    (carry_whole (history_of g.s) n (round_of g.s) (fits s k a c.requires) (base_of g.s) c.args.oldest) c.may_carry.ensures
