use Rattle.std.proofs.Common.{get_or, refl, sym, ◌∙◌, arith}
use Rattle.std.proofs.lemmas.Bool.{false≢true}
use Rattle.place_rules.proofs.Looking.{none_more}
use Rattle.place_rules.specs.Runs.{IsStatusHere}
use Rattle.place_rules.proofs.SeenRules.{no_status, status_here}
use Rattle.place_rules.proofs.asked.is_status_at.Goals as goal

pub returns-then-stood_so : goal.returns-then-stood_so
returns-then-stood_so g c = (λ t. status_here c.args.places.now.base g.asking.ids c.args.places.now.events g.asking.by c.args.x c.args.status (get_or c.args.run.now c.loop-place.place-index 0) (c.stood_so.ensures.0 c.if-stood_so.true), λ u. refl)

pub loop-place-preserved : goal.loop-place-preserved
loop-place-preserved g c = record {
  none = none_more (IsStatusHere c.args.places.now.base g.asking.ids c.args.places.now.events g.asking.by c.args.x c.args.status) c.args.run.now c.loop-place.place-index c.loop-place.invariant.none (λ q. false≢true (sym c.if-stood_so.false ∙ c.stood_so.ensures.1 q));
}

pub returns : goal.returns
returns g c = (λ t. absurd (false≢true t), λ s. absurd (no_status c.args.places.now.base c.args.places.now.events c.args.run.now c.loop-place.place-index (omega arith) g.asking.ids g.asking.by c.args.x c.args.status c.requires.1.1 c.loop-place.invariant.none s))
