use Rattle.std.proofs.Common.{refl, sym, ◌∙◌, arith}
use Rattle.std.proofs.lemmas.Bool.{false≢true}
use Rattle.place_rules.specs.Runs.{IsDidHere}
use Rattle.place_rules.proofs.SnapsRead.{none_up_to, up_to}
use Rattle.place_rules.proofs.SeenRules.{did_here, not_did}
use Rattle.place_rules.proofs.did.is_did_at.Goals as goal

pub returns-then-is_right_answer : goal.returns-then-is_right_answer
returns-then-is_right_answer g c = (
  λ t. did_here c.args.places.now.base c.args.places.now.events g.did.round g.did.by c.args.from c.args.to c.requires.1.1.0 g.did.ids g.did.recs c.args.x.number c.args.yes c.args.to
      (omega arith) (omega arith) (c.is_right_answer.ensures.0 c.if-is_right_answer.true),
  λ u. refl,
)

pub returns-then-is_right_answer-2 : goal.returns-then-is_right_answer-2
returns-then-is_right_answer-2 g c = (
  λ t. did_here c.args.places.now.base c.args.places.now.events g.did.round g.did.by c.args.from c.args.to c.requires.1.1.0 g.did.ids g.did.recs c.args.x.number c.args.yes c.loop-place.place
      (omega arith) (omega arith) (c.is_right_answer-in-loop-place.ensures.0 c.if-is_right_answer-2.true),
  λ u. refl,
)

pub loop-place-preserved : goal.loop-place-preserved
loop-place-preserved g c = record {
  none = none_up_to (IsDidHere c.args.places.now.base g.did.ids c.args.places.now.events g.did.recs c.args.from c.args.x.number c.args.yes) c.args.from c.loop-place.place c.loop-place.invariant.none
      (λ q. false≢true (sym c.if-is_right_answer-2.false ∙ c.is_right_answer-in-loop-place.ensures.1 q));
}

pub returns : goal.returns
returns g c =
    let none = up_to (IsDidHere c.args.places.now.base g.did.ids c.args.places.now.events g.did.recs c.args.from c.args.x.number c.args.yes) c.args.from c.loop-place.place c.args.to (omega arith) c.loop-place.invariant.none in (
      λ t. absurd (false≢true t),
      λ s. absurd (not_did c.args.places.now.base c.args.places.now.events g.did.round g.did.by c.args.from c.args.to c.requires.1.1.0 g.did.ids g.did.recs c.args.x.number c.args.yes c.legal.ensures.legal none
          (λ q. false≢true (sym c.if-is_right_answer.false ∙ c.is_right_answer.ensures.1 q)) s),
    )
