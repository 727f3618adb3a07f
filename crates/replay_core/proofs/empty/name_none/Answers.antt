use Rattle.std.proofs.Common.{List, ℕ, ◌∙◌, ap, arith, subst, sym, take}
use Rattle.tx_events.specs.declared.record.Rec.{Rec}
use Rattle.tx_events.specs.LifeBase.{committed_by, committed_in}
use Rattle.replay_core.specs.Redo.{NamesNone}
use Rattle.replay_core.proofs.Emptying.{none_both}
use Rattle.replay_core.proofs.Redoing.{committed_push, named_none, take_at, take_whole}
use Rattle.replay_core.proofs.empty.name_none.Goals as goal

pub loop-i-init : goal.loop-i-init
loop-i-init c = record { within = omega arith; none = named_none c.args.share.now c.args.oldest }

pub loop-i-preserved : goal.loop-i-preserved
loop-i-preserved c =
    let recs : List Rec = c.args.recs.now in let x : Rec = c.index-recs-i.result in
    record {
      within = omega arith;
      none = subst (λ (t : List ℕ). NamesNone c.args.share.now c.args.oldest t)
          (sym (ap committed_in (take_at recs c.loop-i.i x c.loop-i-test.true c.index-recs-i.is) ∙ committed_push (take c.loop-i.i recs) x))
          (none_both c.args.share.now c.args.oldest (committed_in (take c.loop-i.i recs)) (committed_by x) c.loop-i.invariant.none (c.names_none.ensures (grind (arith, c.if-not-names_none.false))));
    }

pub returns : goal.returns
returns c told =
    subst (λ (t : List Rec). NamesNone c.args.share.now c.args.oldest (committed_in t)) (take_whole c.args.recs.now c.loop-i.i (omega (arith, c.loop-i.invariant.within))) c.loop-i.invariant.none
