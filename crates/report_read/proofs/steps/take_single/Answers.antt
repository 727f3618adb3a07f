use Rattle.std.proofs.Common.{◌∷◌, ◌++◌, [], List, sym, ap, ◌∙◌, drop}
use Rattle.tx_model.specs.declared.report.Step.{Step}
use Rattle.report_read.specs.Item as items
use Rattle.report_read.specs.Grammar.{after}
use Rattle.report_read.specs.declared.told.Told.{Told}
use Rattle.report_read.specs.declared.told.Stage.TheVariants as stages
use Rattle.report_read.proofs.Standing.{if_err, unread_none}
use Rattle.report_read.proofs.StepsStanding.{no_step, step_taken, steps_names, step_unnoted, step_unread}
use Rattle.report_read.proofs.steps.take_single.Goals as goal

pub returns-in_err-note_pending-clause-refused : goal.returns-in_err-note_pending-clause-refused
returns-in_err-note_pending-clause-refused c =
    let t = c.args.told.now in
    if_err c.from_residual.result _ _ c.from_residual.ensures.1 (λ u q. no_step u t (drop 1 c.args.line.now) (λ f.
    step_unnoted t c.args.line.now c.requires.some c.requires.few (c.in_err-note_pending.ensures.refused (sym q ∙ f))))

pub returns-in_err-step-clause-refused : goal.returns-in_err-step-clause-refused
returns-in_err-step-clause-refused c =
    let t = c.args.told.now in
    if_err c.from_residual-in_err-step.result _ _ c.from_residual-in_err-step.ensures.1 (λ u q. no_step u t (drop 1 c.args.line.now) (λ f.
    step_unread t c.args.line.now c.note_pending.new.names c.requires.some c.in_ok-note_pending.ensures.noted (λ s i. unread_none {X = Step} c.in_err-step.field-0.0 s (sym q ∙ f) (c.in_err-step.ensures.only s i))))

pub returns-clause-taken : goal.returns-clause-taken
returns-clause-taken c =
    let t = c.args.told.now in
    let s = c.in_ok-step.step in
    step_taken t c.args.line.now c.note_pending.new.names s _ c.requires.stage c.requires.some c.in_ok-note_pending.ensures.noted c.in_ok-note_pending.ensures.few c.in_ok-step.ensures.found
    (ap (λ (ss : List Step). record c.close_round.new.told { stage = stages.Steps; steps = ss }) c.in_ok-push.ensures.ok
    ∙ ap (λ (q : Told). record q { stage = stages.Steps; steps = q.steps ++ s ∷ [] }) c.in_ok-close_round.ensures
    ∙ ap (λ (ss : List Step). record (after t (items.step s)) { names = c.note_pending.new.names; steps = ss ++ s ∷ [] }) (steps_names t.stage t c.note_pending.new.names))
