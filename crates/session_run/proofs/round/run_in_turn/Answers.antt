use Rattle.std.proofs.Common.{List, ap, false, get_or, length, rules, subst, sym, ◌∙◌, ◌≡◌}
use Rattle.std.specs.List.{All}
use Rattle.session_run.specs.declared.member.Member.{Member}
use Rattle.session_run.specs.Rounds.{HaveRun}
use Rattle.session_run.specs.Turns.{MayGo, RunsRound, keeping}
use Rattle.session_run.proofs.InTurn.{go_keeping, none_yet, turn_on, turns_done}
use Rattle.session_run.proofs.Joining.{here_same}
use Rattle.session_run.proofs.Rounding.{written_back}
use Rattle.session_run.proofs.TurnLemmas.{Keeps}
use Rattle.session_run.proofs.round.run_in_turn.Goals as goal

pub loop-member-init : goal.loop-member-init
loop-member-init g c =
    none_yet g.K.LineKeeper c.args.hall.now c.args.banks c.args.names.now c.args.round.now c.args.kept.now c.deref_mut-member-items.result.now

pub run_member-requires-clause-may : goal.run_member-requires-clause-may
run_member-requires-clause-may g c =
    let h = c.args.hall.now in
    let banks = c.args.banks in
    let round = c.args.round.now in
    let plan = c.args.plan.now in
    let k = c.loop-member.member-index in
    let d = c.member-item.result in
    let old = c.deref_mut-member-items.result.now in
    let now = c.loop-member.member-items in
    let may = subst (λ (ms : List (Member _ _ _ _ _)). All (MayGo h banks round plan) ms) (sym c.deref_mut-member-items.ensures.value) c.requires.may in
    go_keeping h banks round plan (get_or now k d) c.swap.new.x
    (subst (λ (m : Member _ _ _ _ _). MayGo h banks round plan m) (sym (here_same old now k d c.loop-member.invariant.rest)) (may k d c.loop-member-test.true))

pub loop-member-preserved : goal.loop-member-preserved
loop-member-preserved g c =
    let keep = g.K.LineKeeper in
    let kind = g.met.K.LineKeeper in
    let h = c.args.hall.now in
    let banks = c.args.banks in
    let names = c.args.names.now in
    let round = c.args.round.now in
    let laws : Keeps keep names = record { none = kind.no_lines names; then = kind.then_lines names; join = kind.join_lines names } in
    let k = c.loop-member.member-index in
    let d = c.member-item.result in
    let low = c.loop-member-test.true in
    let so_far = c.loop-member.invariant in
    let old = c.deref_mut-member-items.result.now in
    let now = c.loop-member.member-items in
    let none = subst (λ (ms : List (Member _ _ _ _ _)). All (λ (m : Member _ _ _ _ _). m.kept ≡ keep.nothing) ms) (sym c.deref_mut-member-items.ensures.value) c.requires.none in
    let here = here_same old now k d so_far.rest in
    let x = get_or now k d in
    let ran = c.run_member.new.member in
    let kept' = c.swap-in-loop-member.new.y in
    let first = subst (λ z. RunsRound keep h banks names round (ran.lost ≡ false) (keeping x z) ran) c.swap.ensures.x_after c.run_member.ensures in
    let then = subst (λ z. RunsRound keep h banks names round (ran.lost ≡ false) (keeping x c.loop-member.kept) (keeping ran z)) (sym c.swap-in-loop-member.ensures.y_after) first in
    let nothing = c.swap-in-loop-member.ensures.x_after ∙ c.swap.ensures.y_after ∙ ap (λ (m : Member _ _ _ _ _). m.kept) here ∙ none k d low in
    turn_on keep h banks names round laws k c.args.kept.now old c.loop-member.kept kept' now d (keeping ran c.swap-in-loop-member.new.x) low so_far (none k d low) nothing then

pub returns : goal.returns
returns g c =
    let keep = g.K.LineKeeper in
    let kind = g.met.K.LineKeeper in
    let h = c.args.hall.now in
    let banks = c.args.banks in
    let names = c.args.names.now in
    let round = c.args.round.now in
    let laws : Keeps keep names = record { none = kind.no_lines names; then = kind.then_lines names; join = kind.join_lines names } in
    let old = c.deref_mut-member-items.result.now in
    let xs = c.args.members.now.items in
    let ys = c.loop-member.member-items in
    let kept = c.loop-member.kept in
    let so_far = c.loop-member.invariant in
    let value = c.deref_mut-member-items.ensures.value in
    let done = turns_done keep h banks names round laws c.loop-member.member-index c.args.kept.now old kept ys c.loop-member-test.false so_far in
    let ran = subst (λ (ms : List (Member _ _ _ _ _)). HaveRun keep h banks names round c.args.kept.now kept ms ys) value done in
    subst (λ (ms : List (Member _ _ _ _ _)). HaveRun keep h banks names round c.args.kept.now kept xs ms) (sym (written_back c.args.members.now.len xs ys (so_far.same ∙ ap length value) (search rules))) ran
