use Rattle.std.proofs.Common.{List, ℕ, ◌∷◌, [], arith, subst, sym, take}
use Rattle.replay_core.specs.Redo.{NamesNone}
use Rattle.replay_core.proofs.Emptying.{none_both}
use Rattle.replay_core.proofs.Redoing.{named_none, take_at, take_whole}
use Rattle.replay_core.proofs.empty.are_other.Goals as goal

pub loop-i-init : goal.loop-i-init
loop-i-init c = record { within = omega arith; none = named_none c.args.share.now c.args.oldest }

pub loop-i-preserved : goal.loop-i-preserved
loop-i-preserved c =
    let ids : List ℕ = c.args.ids.now in let x : ℕ = c.index-ids-i.result in
    record {
      within = omega arith;
      none = subst (λ (t : List ℕ). NamesNone c.args.share.now c.args.oldest t) (sym (take_at ids c.loop-i.i x c.loop-i-test.true c.index-ids-i.is))
          (none_both c.args.share.now c.args.oldest (take c.loop-i.i ids) (x ∷ []) c.loop-i.invariant.none (c.is_other.ensures (grind (arith, c.if-not-is_other.false))));
    }

pub returns : goal.returns
returns c told =
    subst (λ (t : List ℕ). NamesNone c.args.share.now c.args.oldest t) (take_whole c.args.ids.now c.loop-i.i (omega (arith, c.loop-i.invariant.within))) c.loop-i.invariant.none
