use Rattle.std.proofs.Common.{ℕ, ◌+◌, [], List, None, refl, sym, ap, ◌∙◌, drop}
use Rattle.std.proofs.lemmas.List.{take_rest}
use Rattle.tx_events.specs.declared.event.Event.{Event}
use Rattle.report_read.specs.Item as items
use Rattle.report_read.specs.declared.told.Told.{Told}
use Rattle.report_read.specs.Grammar.{history_line}
use Rattle.report_read.specs.declared.told.Stage.TheVariants as stages
use Rattle.std.proofs.lemmas.Bool.{false≢true}
use Rattle.report_read.proofs.Standing.{if_err_too, is_text, not_text, plain_taken}
use Rattle.report_read.proofs.StepsStanding.{none_silent, nothing_stands}
use Rattle.report_read.proofs.steps.take_unsaid.Goals as goal

pub returns-then-not-begins_step-clause-refused : goal.returns-then-not-begins_step-clause-refused
returns-then-not-begins_step-clause-refused c = none_silent c.args.told.now c.args.line.now c.requires.stage c.requires.some c.requires.unsaid (sym c.begins_step.ensures ∙ c.if-not-begins_step.true)

pub returns-then-is_history-clause-taken : goal.returns-then-is_history-clause-taken
returns-then-is_history-clause-taken c =
    let t = c.args.told.now in
    plain_taken t items.history _ (drop 1 c.args.line.now) (sym c.begins_step.ensures ∙ c.if-not-begins_step.false) refl (is_text (drop 1 c.args.line.now) history_line c.is_history.result (rw (take_rest c.args.line.now 1) at c.is_history.ensures) c.if-is_history.true) refl
    (ap (λ (es : List Event). record c.close_round.new.told { stage = stages.History; events = es }) c.new.ensures
    ∙ ap (λ (q : Told). record q { stage = stages.History; events = [] }) c.in_ok-close_round.ensures)

pub returns-then-branch-clause-taken : goal.returns-then-branch-clause-taken
returns-then-branch-clause-taken c =
    let t = c.args.told.now in
    let x = items.round (t.round + 1) in
    let is = c.in_ok-begins_round.ensures.0 c.if-branch.true in
    plain_taken t x _ (drop 1 c.args.line.now) (sym c.begins_step.ensures ∙ c.if-not-begins_step.false) (refl, refl, is.0) (sym (take_rest c.args.line.now 1) ∙ is.1) refl
    (ap (λ (ss : List ℕ). record c.close_round-then-branch.new.told { stage = stages.Silent; round = c.close_round-then-branch.new.told.round + 1; speaker = None; spoken = ss }) c.new-then-branch.ensures
    ∙ ap (λ (q : Told). record q { stage = stages.Silent; round = q.round + 1; speaker = None; spoken = [] }) c.in_ok-close_round-2.ensures)

pub returns-clause-refused : goal.returns-clause-refused
returns-clause-refused c =
    let l = c.args.line.now in
    if_err_too c.take_single.result _ _ c.take_single.ensures.refused (λ u i.
    nothing_stands u c.args.told.now l c.requires.stage c.requires.some c.requires.unsaid
    (λ a e. false≢true (sym c.if-branch.false ∙ c.in_ok-begins_round.ensures.1 (a, take_rest l 1 ∙ e)))
    (not_text (drop 1 l) history_line c.is_history.result (rw (take_rest l 1) at c.is_history.ensures) c.if-is_history.false) i)
