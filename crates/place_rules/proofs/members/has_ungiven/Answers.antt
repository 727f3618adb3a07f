use Rattle.std.proofs.Common.{eqb-true, eq-eqb, sym, ◌∙◌, arith}
use Rattle.std.proofs.lemmas.Bool.{false≢true}
use Rattle.place_rules.proofs.Refusing.{first_is, given_more, no_ungiven}
use Rattle.place_rules.proofs.members.has_ungiven.Goals as goal

pub returns-then-is_ungiven : goal.returns-then-is_ungiven
returns-then-is_ungiven c =
    let i = first_is c.args.pairs.now c.loop-pair.pair-index _ (omega arith) c.args.next c.args.x.number c.loop-pair.invariant.given (c.is_ungiven.ensures.0 c.if-is_ungiven.true) in
    (λ t. i.0 (eqb-true _ c.args.x.number t), λ h. eq-eqb _ c.args.x.number (i.1 h))

pub loop-pair-preserved : goal.loop-pair-preserved
loop-pair-preserved c = record {
  given = given_more c.args.next c.args.pairs.now c.loop-pair.pair-index _ c.loop-pair.invariant.given (omega arith) (λ u. false≢true (sym c.if-is_ungiven.false ∙ c.is_ungiven.ensures.1 u));
}

pub returns : goal.returns
returns c = (λ t. absurd (false≢true t), λ h. absurd (no_ungiven c.args.next c.args.pairs.now c.loop-pair.pair-index c.args.x.number c.loop-pair.invariant.given (omega arith) h))
