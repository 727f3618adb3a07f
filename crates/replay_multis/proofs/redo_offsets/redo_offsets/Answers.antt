use Rattle.std.proofs.Common.{List, ◌++◌, ◌∷◌, Ok, [], arith, rules, subst, sym, take}
use Rattle.tx_events.proofs.Membership.{has_left, has_right, has_take}
use Rattle.tx_events.specs.declared.record.Rec.{Rec}
use Rattle.replay_multis.specs.Named.{IsOffsetByte}
use Rattle.replay_multis.specs.Steps.{RedoesBank}
use Rattle.replay_multis.proofs.Naming.{has_item, near_in, offsets_cases, offsets_in, take_at, take_whole}
use Rattle.replay_multis.proofs.Stepping.{both_failed, both_redone}
use Rattle.replay_multis.proofs.redo_offsets.redo_offsets.Goals as goal

pub redo_offset-requires-clause-near : goal.redo_offset-requires-clause-near
redo_offset-requires-clause-near g c =
    near_in c.args.oldest (c.index-recs-i.result ∷ []) c.args.recs.now (has_item c.args.recs.now c.loop-i.i c.index-recs-i.result c.loop-i-test.true c.index-recs-i.is) c.requires.near

pub returns-in_err-redo_offset : goal.returns-in_err-redo_offset
returns-in_err-redo_offset g c =
    let recs : List Rec = c.args.recs.now in let x : Rec = c.index-recs-i.result in let done : List Rec = take c.loop-i.i c.args.recs.now in
    let all = both_failed (IsOffsetByte c.args.share.now c.args.oldest done) (IsOffsetByte c.args.share.now c.args.oldest (x ∷ [])) (IsOffsetByte c.args.share.now c.args.oldest recs) c.args.bank.now c.loop-i.bank c.redo_offset.new.bank
    (offsets_in c.args.share.now c.args.oldest done recs (λ y h. has_take c.loop-i.i recs y h)) (offsets_in c.args.share.now c.args.oldest (x ∷ []) recs (has_item recs c.loop-i.i x c.loop-i-test.true c.index-recs-i.is))
    c.loop-i.invariant.redone _ c.in_err-redo_offset.ensures in
    search (rules, all)

pub loop-i-preserved : goal.loop-i-preserved
loop-i-preserved g c =
    let recs : List Rec = c.args.recs.now in let x : Rec = c.index-recs-i.result in let done : List Rec = take c.loop-i.i c.args.recs.now in
    record {
      within = omega arith;
      redone = subst (λ (t : List Rec). RedoesBank (IsOffsetByte c.args.share.now c.args.oldest t) c.args.bank.now c.redo_offset.new.bank (Ok (tt {0}))) (sym (take_at recs c.loop-i.i x c.loop-i-test.true c.index-recs-i.is))
          (both_redone (IsOffsetByte c.args.share.now c.args.oldest done) (IsOffsetByte c.args.share.now c.args.oldest (x ∷ [])) (IsOffsetByte c.args.share.now c.args.oldest (done ++ x ∷ [])) c.args.bank.now c.loop-i.bank c.redo_offset.new.bank
          (offsets_in c.args.share.now c.args.oldest done (done ++ x ∷ []) (λ y h. has_left done (x ∷ []) y h)) (offsets_in c.args.share.now c.args.oldest (x ∷ []) (done ++ x ∷ []) (λ y h. has_right done (x ∷ []) y h))
          c.loop-i.invariant.redone (Ok (tt {0})) (offsets_cases c.args.share.now c.args.oldest done (x ∷ [])) c.in_ok-redo_offset.ensures);
    }

pub returns : goal.returns
returns g c =
    subst (λ (t : List Rec). RedoesBank (IsOffsetByte c.args.share.now c.args.oldest t) c.args.bank.now c.loop-i.bank (Ok (tt {0}))) (take_whole c.args.recs.now c.loop-i.i (omega (arith, c.loop-i.invariant.within))) c.loop-i.invariant.redone
