use Rattle.std.proofs.Common.{List, ℕ, ◌++◌, ◌∷◌, Ok, [], arith, rules, subst, sym, take}
use Rattle.tx_events.proofs.Membership.{has_left, has_right, has_take}
use Rattle.replay_core.specs.Redo.{IsNamed, RedoesBank}
use Rattle.replay_core.proofs.Redoing.{both_failed, both_redone, has_item, named_cases, named_in, near_in, take_at, take_whole}
use Rattle.replay_core.proofs.redo.redo_ids.Goals as goal

pub redo_named-requires-clause-near : goal.redo_named-requires-clause-near
redo_named-requires-clause-near g c =
    near_in c.args.oldest (c.index-ids-i.result ∷ []) c.args.ids.now (has_item c.args.ids.now c.loop-i.i c.index-ids-i.result c.loop-i-test.true c.index-ids-i.is) c.requires.near

pub returns-in_err-redo_named : goal.returns-in_err-redo_named
returns-in_err-redo_named g c =
    let ids : List ℕ = c.args.ids.now in let x : ℕ = c.index-ids-i.result in let done : List ℕ = take c.loop-i.i c.args.ids.now in
    let all = both_failed (IsNamed c.args.share.now c.args.oldest done) (IsNamed c.args.share.now c.args.oldest (x ∷ [])) (IsNamed c.args.share.now c.args.oldest ids) c.args.bank.now c.loop-i.bank c.redo_named.new.bank
    (named_in c.args.share.now c.args.oldest done ids (λ y h. has_take c.loop-i.i ids y h)) (named_in c.args.share.now c.args.oldest (x ∷ []) ids (has_item ids c.loop-i.i x c.loop-i-test.true c.index-ids-i.is))
    c.loop-i.invariant.redone _ c.in_err-redo_named.ensures in
    search (rules, all)

pub loop-i-preserved : goal.loop-i-preserved
loop-i-preserved g c =
    let ids : List ℕ = c.args.ids.now in let x : ℕ = c.index-ids-i.result in let done : List ℕ = take c.loop-i.i c.args.ids.now in
    record {
      within = omega arith;
      redone = subst (λ (t : List ℕ). RedoesBank (IsNamed c.args.share.now c.args.oldest t) c.args.bank.now c.redo_named.new.bank (Ok (tt {0}))) (sym (take_at ids c.loop-i.i x c.loop-i-test.true c.index-ids-i.is))
          (both_redone (IsNamed c.args.share.now c.args.oldest done) (IsNamed c.args.share.now c.args.oldest (x ∷ [])) (IsNamed c.args.share.now c.args.oldest (done ++ x ∷ [])) c.args.bank.now c.loop-i.bank c.redo_named.new.bank
          (named_in c.args.share.now c.args.oldest done (done ++ x ∷ []) (λ y h. has_left done (x ∷ []) y h)) (named_in c.args.share.now c.args.oldest (x ∷ []) (done ++ x ∷ []) (λ y h. has_right done (x ∷ []) y h))
          c.loop-i.invariant.redone (Ok (tt {0})) (named_cases c.args.share.now c.args.oldest done (x ∷ [])) c.in_ok-redo_named.ensures);
    }

pub returns : goal.returns
returns g c =
    subst (λ (t : List ℕ). RedoesBank (IsNamed c.args.share.now c.args.oldest t) c.args.bank.now c.loop-i.bank (Ok (tt {0}))) (take_whole c.args.ids.now c.loop-i.i (omega (arith, c.loop-i.invariant.within))) c.loop-i.invariant.redone
