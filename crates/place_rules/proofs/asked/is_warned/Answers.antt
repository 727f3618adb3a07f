use Rattle.std.proofs.Common.{get_or, refl, sym, ◌∙◌, arith}
use Rattle.std.proofs.lemmas.Bool.{false≢true}
use Rattle.place_rules.proofs.Looking.{none_more}
use Rattle.place_rules.specs.Runs.{IsWarnedHere}
use Rattle.place_rules.proofs.SeenRules.{no_warning, warned_here}
use Rattle.place_rules.proofs.asked.is_warned.Goals as goal

pub returns-then-warns : goal.returns-then-warns
returns-then-warns g c = (λ t. warned_here c.args.places.now.base c.args.places.now.events g.by (get_or c.args.run.now c.loop-place.place-index 0) (c.warns.ensures.0 c.if-warns.true), λ u. refl)

pub loop-place-preserved : goal.loop-place-preserved
loop-place-preserved g c = record {
  none = none_more (IsWarnedHere c.args.places.now.base c.args.places.now.events g.by) c.args.run.now c.loop-place.place-index c.loop-place.invariant.none (λ q. false≢true (sym c.if-warns.false ∙ c.warns.ensures.1 q));
}

pub returns : goal.returns
returns g c = (λ t. absurd (false≢true t), λ s. absurd (no_warning c.args.places.now.base c.args.places.now.events c.args.run.now c.loop-place.place-index (omega arith) g.by c.requires c.loop-place.invariant.none s))
