use Rattle.std.proofs.Common.{◌≡◌, ⊎_elim, true, None, List, [], inr, sym, subst, ap}
use Rattle.std.specs.List.{slice_get}
use Rattle.tx_events.specs.declared.multi.MultiEvent.{MultiEvent}
use Rattle.report_law.specs.Kinds.{BeginAsToldMultis}
use Rattle.command_events.specs.declared.shape.Shape.{Shape}
use Rattle.command_events.specs.Shapes.{IsShaped, may_have_none, shape_of}
use Rattle.command_events.proofs.Shaping.{by_shape, teller}
use Rattle.command_events.proofs.multis.is_told_multi.Goals as goal

pub returns : goal.returns
returns g c =
    let j = g.of.judged in
    let l = c.args.line.now in
    let t = teller j.begun.counters j.life.events g.of.round j.life.multis l.by l.command in
    let way = by_shape j.begun.counters j.life.events g.of.round j.life.multis l.by l.command l.reply in (
      λ y.
          let z = c.is_of_shape.ensures.0 y in
          let s : IsShaped t (shape_of l.command l.reply) z.0 = subst (λ (s : Shape). IsShaped t s z.0) c.shape_of-shape.ensures z.1 in
          (z.0, ((way z.0).1 (inr s), subst (λ (own : List MultiEvent). BeginAsToldMultis z.0 own) c.requires.1.1.1.0 z.2), z.3),
      λ z. c.is_of_shape.ensures.1 (⊎_elim
          (λ (none : (may_have_none l.command l.reply ≡ true) × (z.0 ≡ [])).
          let s : slice_get z.0 c.args.place ≡ None = ap (λ (es : List MultiEvent). slice_get es c.args.place) none.1 in absurd cc)
          (λ (s : IsShaped t (shape_of l.command l.reply) z.0). (z.0, subst (λ (s : Shape). IsShaped t s z.0) (sym c.shape_of-shape.ensures) s, subst (λ (own : List MultiEvent). BeginAsToldMultis z.0 own) (sym c.requires.1.1.1.0) z.1.1, z.2))
          ((way z.0).0 z.1.0)),
    )
