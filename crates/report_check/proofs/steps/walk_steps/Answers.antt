use Rattle.std.proofs.Common.{◌≡◌, ◌<◌, ◌+◌, ℕ, length, take, ap, subst, sym, ◌∙◌, refl, arith}
use Rattle.tx_model.specs.declared.report.Step.{Step}
use Rattle.report_law.specs.ReportLines.{step_lines}
use Rattle.report_check.proofs.Sections.{steps_next}
use Rattle.report_check.specs.Stepping.{IsSoFar, step_or}
use Rattle.report_check.specs.Walked.{IfLawful, IsWalked}
use Rattle.report_check.specs.declared.walked.Walked.{Walked}
use Rattle.report_check.proofs.StepByStep.{step_broken, step_there, steps_counted}
use Rattle.report_check.proofs.steps.walk_steps.Goals as goal

pub loop-place-init : goal.loop-place-init
loop-place-init g c = record { lawful = tt; counted = refl; so_far = c.in_ok-so_far.ensures g.j c.args.known.now (sym c.requires.0.life) }

pub walk_step-requires : goal.walk_step-requires
walk_step-requires g c =
    let r = c.requires in
    let steps : c.items-steps.result.now ≡ g.j.steps = c.items-steps.ensures ∙ r.0.steps in
    let size : length c.items-steps.result.now ≡ length g.j.steps = ap length steps in
    let l : c.loop-place.place < length c.items-steps.result.now = c.loop-place-test.true in
    let within : c.loop-place.place < length g.j.steps = omega arith in
    (r.0, (r.1.0, (r.1.1.0, (refl, (c.in_ok-tables.ensures, (steps, (refl, (step_there g.j.steps c.loop-place.place within, (l, c.loop-place.invariant.so_far)))))))))

pub returns-in-Broken-clause-walked : goal.returns-in-Broken-clause-walked
returns-in-Broken-clause-walked g c =
    let steps : c.items-steps.result.now ≡ g.j.steps = c.items-steps.ensures ∙ c.requires.0.steps in
    let size : length c.items-steps.result.now ≡ length g.j.steps = ap length steps in
    let p : ℕ = c.loop-place.place in
    let l : p < length c.items-steps.result.now = c.loop-place-test.true in
    let at = step_there g.j.steps p (omega arith) in
    let s : Step = step_or g.j.steps p in
    let broken = subst (λ (w : Walked). IsWalked (step_lines g.j (take p g.j.steps) s) w) c.in-Broken.is c.in_ok-lines.ensures.walked in
    step_broken g.j p s c.loop-place.count c.in-Broken.lines c.in_ok-plus-in-Broken.field-0 c.loop-place.invariant.lawful at c.loop-place.invariant.counted c.in_ok-plus-in-Broken.ensures broken

pub loop-place-preserved : goal.loop-place-preserved
loop-place-preserved g c =
    let steps : c.items-steps.result.now ≡ g.j.steps = c.items-steps.ensures ∙ c.requires.0.steps in
    let size : length c.items-steps.result.now ≡ length g.j.steps = ap length steps in
    let p : ℕ = c.loop-place.place in
    let l : p < length c.items-steps.result.now = c.loop-place-test.true in
    let at = step_there g.j.steps p (omega arith) in
    let s : Step = step_or g.j.steps p in
    let walked = subst (λ (w : Walked). IsWalked (step_lines g.j (take p g.j.steps) s) w) c.in-Lawful.is c.in_ok-lines.ensures.walked in
    let so_far = subst (λ (w : Walked). IfLawful w (IsSoFar g.j (take (p + 1) g.j.steps) c.args.known.now c.walk_step.new.so_far)) c.in-Lawful.is c.in_ok-lines.ensures.so_far in
    record {
      lawful = steps_next g.j g.j.steps p s c.loop-place.invariant.lawful at walked.0;
      counted = steps_counted g.j p s c.loop-place.count c.in-Lawful.lines c.in_ok-count-in-Lawful.count at c.loop-place.invariant.counted walked.1 c.in_ok-count-in-Lawful.ensures;
      so_far = so_far;
    }
