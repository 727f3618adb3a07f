use Rattle.std.proofs.Common.{refl, sym, ◌∙◌, arith}
use Rattle.std.proofs.lemmas.Bool.{false≢true}
use Rattle.place_rules.proofs.Refusing.{given_more, no_old, none_behind, none_old_more, old_here}
use Rattle.place_rules.proofs.members.has_old.Goals as goal

pub returns-then-is_old : goal.returns-then-is_old
returns-then-is_old c =
    let old = c.is_old.ensures.0 c.if-is_old.true in
    (λ t. old_here c.args.pairs.now c.loop-pair.pair-index _ (omega arith) c.args.next c.args.oldest c.loop-pair.invariant.given old, λ h. refl)

pub returns-then-is_ungiven : goal.returns-then-is_ungiven
returns-then-is_ungiven c =
    let more = none_old_more c.args.pairs.now c.loop-pair.pair-index _ (omega arith) c.args.next c.args.oldest c.loop-pair.invariant.young (λ q. false≢true (sym c.if-is_old.false ∙ c.is_old.ensures.1 q)) in
    (λ t. absurd (false≢true t), λ h. absurd (none_behind c.args.pairs.now c.loop-pair.pair-index _ (omega arith) c.args.next c.args.oldest more (c.is_ungiven.ensures.0 c.if-is_ungiven.true) h))

pub loop-pair-preserved : goal.loop-pair-preserved
loop-pair-preserved c = record {
  given = given_more c.args.next c.args.pairs.now c.loop-pair.pair-index _ c.loop-pair.invariant.given (omega arith) (λ u. false≢true (sym c.if-is_ungiven.false ∙ c.is_ungiven.ensures.1 u));
  young = none_old_more c.args.pairs.now c.loop-pair.pair-index _ (omega arith) c.args.next c.args.oldest c.loop-pair.invariant.young (λ q. false≢true (sym c.if-is_old.false ∙ c.is_old.ensures.1 q));
}

pub returns : goal.returns
returns c = (λ t. absurd (false≢true t), λ h. absurd (no_old c.args.next c.args.oldest c.args.pairs.now c.loop-pair.pair-index c.loop-pair.invariant.young (omega arith) h))
