use Rattle.std.proofs.Common.{List, ℕ, ◌++◌, ◌∙◌, Ok, ap, arith, rules, subst, sym, take}
use Rattle.tx_events.proofs.Membership.{has_left, has_right}
use Rattle.tx_events.specs.declared.record.Rec.{Rec}
use Rattle.tx_events.specs.LifeBase.{committed_by, committed_in}
use Rattle.replay_core.specs.Redo.{IsNamed, RedoesBank}
use Rattle.replay_core.proofs.Redoing.{both_failed, both_redone, committed_item, committed_push, committed_taken, named_cases, named_in, near_in, take_at, take_whole}
use Rattle.replay_core.proofs.redo.redo_records.Goals as goal

pub redo_record-requires-clause-near : goal.redo_record-requires-clause-near
redo_record-requires-clause-near g c =
    near_in c.args.oldest (committed_by c.index-recs-i.result) (committed_in c.args.recs.now) (committed_item c.args.recs.now c.loop-i.i c.index-recs-i.result c.loop-i-test.true c.index-recs-i.is) c.requires.near

pub returns-in_err-redo_record : goal.returns-in_err-redo_record
returns-in_err-redo_record g c =
    let recs : List Rec = c.args.recs.now in let x : Rec = c.index-recs-i.result in
    let all_ids : List ℕ = committed_in recs in let own : List ℕ = committed_by x in let done : List ℕ = committed_in (take c.loop-i.i recs) in
    let all = both_failed (IsNamed c.args.share.now c.args.oldest done) (IsNamed c.args.share.now c.args.oldest own) (IsNamed c.args.share.now c.args.oldest all_ids) c.args.bank.now c.loop-i.bank c.redo_record.new.bank
    (named_in c.args.share.now c.args.oldest done all_ids (λ y h. committed_taken c.loop-i.i recs y h)) (named_in c.args.share.now c.args.oldest own all_ids (committed_item recs c.loop-i.i x c.loop-i-test.true c.index-recs-i.is))
    c.loop-i.invariant.redone _ c.in_err-redo_record.ensures in
    search (rules, all)

pub loop-i-preserved : goal.loop-i-preserved
loop-i-preserved g c =
    let recs : List Rec = c.args.recs.now in let x : Rec = c.index-recs-i.result in
    let own : List ℕ = committed_by x in let done : List ℕ = committed_in (take c.loop-i.i recs) in
    record {
      within = omega arith;
      redone = subst (λ (t : List ℕ). RedoesBank (IsNamed c.args.share.now c.args.oldest t) c.args.bank.now c.redo_record.new.bank (Ok (tt {0})))
          (sym (ap committed_in (take_at recs c.loop-i.i x c.loop-i-test.true c.index-recs-i.is) ∙ committed_push (take c.loop-i.i recs) x))
          (both_redone (IsNamed c.args.share.now c.args.oldest done) (IsNamed c.args.share.now c.args.oldest own) (IsNamed c.args.share.now c.args.oldest (done ++ own)) c.args.bank.now c.loop-i.bank c.redo_record.new.bank
          (named_in c.args.share.now c.args.oldest done (done ++ own) (λ y h. has_left done own y h)) (named_in c.args.share.now c.args.oldest own (done ++ own) (λ y h. has_right done own y h))
          c.loop-i.invariant.redone (Ok (tt {0})) (named_cases c.args.share.now c.args.oldest done own) c.in_ok-redo_record.ensures);
    }

pub returns : goal.returns
returns g c =
    subst (λ (t : List Rec). RedoesBank (IsNamed c.args.share.now c.args.oldest (committed_in t)) c.args.bank.now c.loop-i.bank (Ok (tt {0}))) (take_whole c.args.recs.now c.loop-i.i (omega (arith, c.loop-i.invariant.within))) c.loop-i.invariant.redone
