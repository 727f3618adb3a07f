use Rattle.std.proofs.Common.{ℕ, List, get_or, All, Contains, ap, sym, refl, subst, ◌∙◌, arith}
use Rattle.group_list.specs.declared.view.View.{View}
use Rattle.group_list.specs.Log.{EachOnce}
use Rattle.group_list.specs.Calls.{view}
use Rattle.group_list.proofs.Numbers.{still_owed}
use Rattle.parts_bench.proofs.group_turns.hand_all_back.Goals as goal

pub loop-i-init : goal.loop-i-init
loop-i-init c = let owed = subst (λ (z : List ℕ). All (Contains (view c.args.member.now).owes) z) (sym c.numbers-numbers.ensures) c.requires.owes in
    (c.requires.own, (refl, refl), refl, omega arith, λ k _ lt. owed k 0 lt)

pub hand_back-requires-clause-own : goal.hand_back-requires-clause-own
hand_back-requires-clause-own c = c.loop-i.invariant.0

pub hand_back-requires-clause-owes : goal.hand_back-requires-clause-owes
hand_back-requires-clause-owes c = c.loop-i.invariant.4 c.loop-i.i (omega arith) c.loop-i-test.true

pub loop-i-preserved : goal.loop-i-preserved
loop-i-preserved c = let i = c.loop-i.invariant in let h = c.hand_back.ensures in
    let once = subst EachOnce (sym c.numbers-numbers.ensures) c.requires.once in
    let still = still_owed _ (view c.loop-i.member).owes c.loop-i.i c.loop-i-test.true once i.4 in (
      h.own.0,
      (h.own.1.0 ∙ i.1.0, h.own.1.1 ∙ i.1.1),
      ap (λ (z : View). z.stage) h.hands.view_is ∙ i.2,
      ap (λ (z : View). z.publications) h.hands.view_is ∙ i.3,
      λ k later lt. subst (λ (z : List ℕ). Contains z (get_or c.numbers-numbers.result.now k 0)) (sym (ap (λ (z : View). z.owes) h.hands.view_is)) (still k later lt),
    )
