use Rattle.std.proofs.Common.{◌∷◌, ◌++◌, ◌∙◌, [], List, ℕ, ap, arith, subst, sym}
use Rattle.script_rounds.specs.declared.places.Places.TheInside.{Inside}
use Rattle.script_rounds.proofs.Stepping.{IsOneMore, far_more, near_more}
use Rattle.script_rounds.proofs.places.Places.push.Goals.{After-self-1, then-step-eq0+in_ok-push_far, else-step-eq0+in_ok-push}
use Rattle.script_rounds.proofs.places.Places.push.Goals as goal

one_more : (c : After-self-1) → IsOneMore c.in-Ok.place c.self.inside.steps.items c.self.inside.far.items
    c.if-step-eq0.self-inside.steps.items c.if-step-eq0.self-inside.far.items
one_more c =
    let s = c.self.inside in
    let place = c.in-Ok.place in
    let More : Inside → Type 0 = λ i. IsOneMore place s.steps.items s.far.items i.steps.items i.far.items in
    elim c.if-step-eq0.branch [
      | then-step-eq0+in_ok-push_far w ↦ subst More (sym w.self-inside-is) (
          far_more s.last place s.steps.items s.far.items w.push_far.new.steps.items w.push_far.new.far.items
          c.self.invariant w.in_ok-push_far.ensures.steps w.in_ok-push_far.ensures.far)
      | else-step-eq0+in_ok-push w ↦ subst More (sym w.self-inside-is) (
          let step = c.step_to-step.result in
          near_more s.last step place s.steps.items s.far.items w.push.new.self.items
          c.self.invariant w.in_ok-push.ensures.items (omega (arith, w.if-step-eq0.false))
          (c.step_to-step.ensures (omega (arith, w.if-step-eq0.false))) (omega (arith, c.in-Ok.ensures.0, c.in-Ok.ensures.1)))
    ]

pub invariant_of-self-2 : goal.invariant_of-self-2
invariant_of-self-2 c = (one_more c).end

pub returns : goal.returns
returns c =
    (one_more c).places ∙ ap (λ (places : List ℕ). places ++ c.in-Ok.place ∷ []) c.self.view_is
    ∙ ap (λ place. c.args.self.now ++ place ∷ []) c.in-Ok.ensures.1
