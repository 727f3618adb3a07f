use Rattle.std.proofs.Common.{◌↔◌, ◌<◌, length, subst}
use Rattle.std.specs.Prelude.{IsTrue}
use Rattle.report_law.specs.Steps.{IsBackwardAt}
use Rattle.report_law.proofs.Fronts.{backward_whole}
use Rattle.reply_lines.specs.At.{base_of, history_of, round_of}
use Rattle.reply_lines.proofs.Spots.{fits, lift, reading_here, reading_within}
use Rattle.reply_lines.proofs.Replying.{backward_by}
use Rattle.reply_lines.proofs.by_events.is_backward.Goals as goal

pub is_backward_at-requires : goal.is_backward_at-requires
is_backward_at-requires g c =
    (reading_here g.s c.args.known.now c.args.asking c.requires, reading_within g.s c.args.known.now c.args.asking c.requires)

pub was_oldest-requires : goal.was_oldest-requires
was_oldest-requires g c = reading_within g.s c.args.known.now c.args.asking c.requires

pub returns-in-Some : goal.returns-in-Some
returns-in-Some g c =
    let s = g.s in
    let k = c.args.known.now in
    let a = c.args.asking in
    let n = length c.args.known.now.places.events in
    subst (λ m. IsTrue c.is_backward_at.result ↔ IsBackwardAt (base_of g.s) (history_of g.s) (round_of g.s) g.s.asking.by c.args.oldest m) c.in-Some.ensures.1
    (lift s k a c.requires (λ b h. IsBackwardAt b h (round_of g.s) g.s.asking.by c.args.oldest c.in-Some.id) c.is_backward_at.result
    (backward_whole (history_of g.s) n (round_of g.s) (fits s k a c.requires) (base_of g.s) g.s.asking.by c.args.oldest c.in-Some.id) c.is_backward_at.ensures)

pub returns-then-number-now : goal.returns-then-number-now
returns-then-number-now g c =
    let s = g.s in
    let k = c.args.known.now in
    let a = c.args.asking in
    let n = length c.args.known.now.places.events in
    lift s k a c.requires (λ b h. IsBackwardAt b h (round_of g.s) g.s.asking.by c.args.oldest c.args.now) c.was_oldest.result
    (backward_whole (history_of g.s) n (round_of g.s) (fits s k a c.requires) (base_of g.s) g.s.asking.by c.args.oldest c.args.now)
    (backward_by k.places.base k.places.events (round_of g.s) g.s.asking.by a.reading c.args.oldest c.args.now c.was_oldest.result (reading_here s k a c.requires) (subst (λ m. m < c.args.now) c.number.ensures.value c.if-number-now.true) c.was_oldest.ensures)
