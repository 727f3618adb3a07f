use Rattle.std.proofs.Common.{List, ◌++◌, ◌∷◌, Ok, [], arith, rules, subst, sym, take}
use Rattle.tx_events.proofs.Membership.{has_left, has_right, has_take}
use Rattle.tx_events.specs.declared.record.Rec.{Rec}
use Rattle.replay_multis.specs.Named.{IsMemberByte}
use Rattle.replay_multis.specs.Steps.{RedoesBank}
use Rattle.replay_multis.proofs.Naming.{below_in, has_item, members_cases, members_in, take_at, take_whole}
use Rattle.replay_multis.proofs.Stepping.{both_failed, both_redone}
use Rattle.replay_multis.proofs.redo_members.redo_members.Goals as goal

pub redo_members_of-requires-clause-below : goal.redo_members_of-requires-clause-below
redo_members_of-requires-clause-below g c =
    below_in c.args.span.now.next (c.index-recs-i.result ∷ []) c.args.recs.now (has_item c.args.recs.now c.loop-i.i c.index-recs-i.result c.loop-i-test.true c.index-recs-i.is) c.requires.below

pub returns-in_err-redo_members_of : goal.returns-in_err-redo_members_of
returns-in_err-redo_members_of g c =
    let recs : List Rec = c.args.recs.now in let x : Rec = c.index-recs-i.result in let done : List Rec = take c.loop-i.i c.args.recs.now in
    let all = both_failed (IsMemberByte c.args.share.now c.args.span.now.oldest c.args.span.now.oldest_offset done) (IsMemberByte c.args.share.now c.args.span.now.oldest c.args.span.now.oldest_offset (x ∷ [])) (IsMemberByte c.args.share.now c.args.span.now.oldest c.args.span.now.oldest_offset recs) c.args.bank.now c.loop-i.bank c.redo_members_of.new.bank
    (members_in c.args.share.now c.args.span.now.oldest c.args.span.now.oldest_offset done recs (λ y h. has_take c.loop-i.i recs y h)) (members_in c.args.share.now c.args.span.now.oldest c.args.span.now.oldest_offset (x ∷ []) recs (has_item recs c.loop-i.i x c.loop-i-test.true c.index-recs-i.is))
    c.loop-i.invariant.redone _ c.in_err-redo_members_of.ensures in
    search (rules, all)

pub loop-i-preserved : goal.loop-i-preserved
loop-i-preserved g c =
    let recs : List Rec = c.args.recs.now in let x : Rec = c.index-recs-i.result in let done : List Rec = take c.loop-i.i c.args.recs.now in
    record {
      within = omega arith;
      redone = subst (λ (t : List Rec). RedoesBank (IsMemberByte c.args.share.now c.args.span.now.oldest c.args.span.now.oldest_offset t) c.args.bank.now c.redo_members_of.new.bank (Ok (tt {0}))) (sym (take_at recs c.loop-i.i x c.loop-i-test.true c.index-recs-i.is))
          (both_redone (IsMemberByte c.args.share.now c.args.span.now.oldest c.args.span.now.oldest_offset done) (IsMemberByte c.args.share.now c.args.span.now.oldest c.args.span.now.oldest_offset (x ∷ [])) (IsMemberByte c.args.share.now c.args.span.now.oldest c.args.span.now.oldest_offset (done ++ x ∷ [])) c.args.bank.now c.loop-i.bank c.redo_members_of.new.bank
          (members_in c.args.share.now c.args.span.now.oldest c.args.span.now.oldest_offset done (done ++ x ∷ []) (λ y h. has_left done (x ∷ []) y h)) (members_in c.args.share.now c.args.span.now.oldest c.args.span.now.oldest_offset (x ∷ []) (done ++ x ∷ []) (λ y h. has_right done (x ∷ []) y h))
          c.loop-i.invariant.redone (Ok (tt {0})) (members_cases c.args.share.now c.args.span.now.oldest c.args.span.now.oldest_offset done (x ∷ [])) c.in_ok-redo_members_of.ensures);
    }

pub returns : goal.returns
returns g c =
    subst (λ (t : List Rec). RedoesBank (IsMemberByte c.args.share.now c.args.span.now.oldest c.args.span.now.oldest_offset t) c.args.bank.now c.loop-i.bank (Ok (tt {0}))) (take_whole c.args.recs.now c.loop-i.i (omega (arith, c.loop-i.invariant.within))) c.loop-i.invariant.redone
