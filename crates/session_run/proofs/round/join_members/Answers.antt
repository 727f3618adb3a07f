use Rattle.std.proofs.Common.{◌≡◌, ◌+◌, ◌++◌, ◌∷◌, [], ap, refl, subst, sym, ◌∙◌, get_or, take, false}
use Rattle.std.proofs.lemmas.List.{take_more}
use Rattle.std.proofs.lemmas.List.Elements.{All-push}
use Rattle.std.specs.List.{All}
use Rattle.session_run.specs.declared.member.Member.{Member}
use Rattle.session_run.specs.Rounds.{with_members}
use Rattle.session_run.proofs.Joining.{callers_back, callers_set, here_same, rest_same}
use Rattle.session_run.proofs.Rounding.{members_push}
use Rattle.session_run.proofs.round.join_members.Goals as goal

pub loop-member-preserved : goal.loop-member-preserved
loop-member-preserved g c =
    let keep = g.K.LineKeeper in
    let i = c.loop-member.invariant in
    let k = c.loop-member.member-index in
    let d = c.member-item.result in
    let xs = c.deref_mut-member-items.result.now in
    let ys = c.loop-member.member-items in
    let m = get_or ys k d in
    let here = here_same xs ys k d i.rest in
    let more : take (k + 1) xs ≡ take k xs ++ m ∷ [] = take_more xs k d c.loop-member-test.true ∙ ap (λ (x : Member _ _ _ _ _). take k xs ++ x ∷ []) (sym here) in
    let joined : Member _ _ _ _ _ = record { caller = m.caller; kept = c.join.new.other; lines = m.lines; lost = m.lost } in
    record {
      sufficed = subst (All (λ (x : Member _ _ _ _ _). x.lost ≡ false)) (sym more) (All-push (λ (x : Member _ _ _ _ _). x.lost ≡ false) (take k xs) m i.sufficed c.if-member.false);
      kept =
          c.in_ok-join.ensures.kept ∙ ap (λ z. keep.joined z m.kept) i.kept
          ∙ sym (members_push keep c.args.kept.now (take k xs) m) ∙ ap (with_members keep c.args.kept.now) (sym more);
      callers = callers_set xs ys k d joined refl i.callers;
      rest = rest_same xs ys k joined i.rest;
    }

pub returns-in_err-join-clause-callers : goal.returns-in_err-join-clause-callers
returns-in_err-join-clause-callers g c =
    let k = c.loop-member.member-index in
    let d = c.member-item.result in
    let ys = c.loop-member.member-items in
    let was = get_or ys k d in
    callers_back c.deref_mut-member-items.result.now ys c.args.members.now.items c.args.members.now.len k d
    (record { caller = was.caller; kept = c.join.new.other; lines = was.lines; lost = was.lost }) refl c.loop-member.invariant.callers
    c.deref_mut-member-items.ensures.len c.deref_mut-member-items.ensures.value
