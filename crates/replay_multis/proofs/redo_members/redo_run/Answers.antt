use Rattle.std.proofs.Common.{List, Ok, Some, [], arith, rules, subst, sym, take, length, ◌+◌, ◌++◌, ◌∷◌, ◌≡◌}
use Rattle.std.specs.List.{slice_get}
use Rattle.std.proofs.lemmas.List.{length-take-le}
use Rattle.tx_events.specs.declared.multi.Member.{Member}
use Rattle.replay_multis.specs.Named.{IsRunByte}
use Rattle.replay_multis.specs.Steps.{RedoesBank}
use Rattle.replay_multis.proofs.Naming.{front_at, run_cases, run_in, run_last, take_at, take_whole, taken_at}
use Rattle.replay_multis.proofs.Stepping.{both_failed, both_redone}
use Rattle.replay_multis.proofs.redo_members.redo_run.Goals as goal

pub returns-in_err-redo_member : goal.returns-in_err-redo_member
returns-in_err-redo_member g c =
    let ms : List Member = c.args.members.now in let x : Member = c.index-members-i.result in let done : List Member = take c.loop-i.i c.args.members.now in
    let long : c.loop-i.i ≡ length (take c.loop-i.i c.args.members.now) = sym (length-take-le c.loop-i.i c.args.members.now (omega (arith, c.loop-i.invariant.within))) in
    let more : take (c.loop-i.i + 1) c.args.members.now ≡ take c.loop-i.i c.args.members.now ++ c.index-members-i.result ∷ [] = take_at ms c.loop-i.i x c.loop-i-test.true c.index-members-i.is in
    let all = both_failed (IsRunByte c.args.share.now c.args.low c.args.offset done) (IsRunByte c.args.share.now c.args.low (c.args.offset + c.loop-i.i) (x ∷ [])) (IsRunByte c.args.share.now c.args.low c.args.offset ms) c.args.bank.now c.loop-i.bank c.redo_member.new.bank
    (run_in c.args.share.now c.args.low c.args.offset done ms (λ n m e. taken_at c.loop-i.i ms n m e))
    (λ q i b h. run_in c.args.share.now c.args.low c.args.offset (done ++ x ∷ []) ms (λ n m e. taken_at (c.loop-i.i + 1) ms n m (subst (λ (t : List Member). slice_get t n ≡ Some m) (sym more) e)) q i b (run_last c.args.share.now c.args.low c.args.offset done c.loop-i.i x long q i b h))
    c.loop-i.invariant.redone _ c.in_err-redo_member.ensures in
    search (rules, all)

pub loop-i-preserved : goal.loop-i-preserved
loop-i-preserved g c =
    let ms : List Member = c.args.members.now in let x : Member = c.index-members-i.result in let done : List Member = take c.loop-i.i c.args.members.now in
    let long : c.loop-i.i ≡ length (take c.loop-i.i c.args.members.now) = sym (length-take-le c.loop-i.i c.args.members.now (omega (arith, c.loop-i.invariant.within))) in
    record {
      within = omega arith;
      redone = subst (λ (t : List Member). RedoesBank (IsRunByte c.args.share.now c.args.low c.args.offset t) c.args.bank.now c.redo_member.new.bank (Ok (tt {0}))) (sym (take_at ms c.loop-i.i x c.loop-i-test.true c.index-members-i.is))
          (both_redone (IsRunByte c.args.share.now c.args.low c.args.offset done) (IsRunByte c.args.share.now c.args.low (c.args.offset + c.loop-i.i) (x ∷ [])) (IsRunByte c.args.share.now c.args.low c.args.offset (done ++ x ∷ [])) c.args.bank.now c.loop-i.bank c.redo_member.new.bank
          (run_in c.args.share.now c.args.low c.args.offset done (done ++ x ∷ []) (λ n m e. front_at done (x ∷ []) n m e)) (run_last c.args.share.now c.args.low c.args.offset done c.loop-i.i x long)
          c.loop-i.invariant.redone (Ok (tt {0})) (run_cases c.args.share.now c.args.low c.args.offset done c.loop-i.i x long) c.in_ok-redo_member.ensures);
    }

pub returns : goal.returns
returns g c =
    subst (λ (t : List Member). RedoesBank (IsRunByte c.args.share.now c.args.low c.args.offset t) c.args.bank.now c.loop-i.bank (Ok (tt {0}))) (take_whole c.args.members.now c.loop-i.i (omega (arith, c.loop-i.invariant.within))) c.loop-i.invariant.redone
