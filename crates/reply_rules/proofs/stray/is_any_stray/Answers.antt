use Rattle.std.proofs.Common.{refl, subst}
use Rattle.std.specs.List.{AllByRecursion}
use Rattle.tx_events.specs.declared.record.Rec.{Rec}
use Rattle.reply_rules.specs.Gens.{IsStrayRec}
use Rattle.reply_rules.proofs.Strays.{all_taken, none_more, none_stray, stray_found}
use Rattle.reply_rules.proofs.stray.is_any_stray.Goals as goal

pub returns-then-are_in_turn : goal.returns-then-are_in_turn
returns-then-are_in_turn c = λ j r m. (
  λ t. absurd cc,
  λ s. absurd (none_stray j c.args.recs.now c.args.multis.now r m (c.are_in_turn.ensures c.if-are_in_turn.true) s),
)

pub returns-then-branch : goal.returns-then-branch
returns-then-branch c = λ j r m. (
  λ t. stray_found j c.args.recs.now c.args.multis.now c.rec-item.result c.loop-rec.rec-index r m c.loop-rec-test.true c.rec-item.is
      ((c.in_ok-is_stray.ensures c.args.multis.now c.in_ok-gens.ensures).0 c.if-branch.true),
  λ s. refl,
)

pub loop-rec-preserved : goal.loop-rec-preserved
loop-rec-preserved c =
    none_more c.args.multis.now c.args.recs.now c.loop-rec.rec-index c.rec-item.result c.loop-rec.invariant c.loop-rec-test.true c.rec-item.is
    (λ s. let t = (c.in_ok-is_stray.ensures c.args.multis.now c.in_ok-gens.ensures).1 s in let f = c.if-branch.false in cc)

pub returns : goal.returns
returns c = λ j r m. (
  λ t. absurd cc,
  λ s. absurd (none_stray j c.args.recs.now c.args.multis.now r m
      (subst (AllByRecursion (λ (rec : Rec). IsStrayRec c.args.multis.now rec → ⊥)) (all_taken c.loop-rec.rec-index c.args.recs.now c.loop-rec-test.false) c.loop-rec.invariant) s),
)
