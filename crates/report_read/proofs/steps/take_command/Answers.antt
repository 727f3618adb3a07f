use Rattle.std.proofs.Common.{ℕ, List, [], ◌∷◌, ◌++◌, sym, ap, ◌∙◌, drop}
use Rattle.report_read.specs.Item as items
use Rattle.report_read.specs.Grammar.{after}
use Rattle.tx_model.specs.declared.report.Line.{Line}
use Rattle.std.proofs.lemmas.Bool.{false≢true}
use Rattle.report_read.proofs.Standing.{cannot, if_err, refuse, unread_none}
use Rattle.report_read.proofs.StepsStanding.{command_cannot, command_outside, command_taken, command_unread, command_wrong}
use Rattle.report_read.proofs.steps.take_command.Goals as goal

pub returns-then-not-in_round-clause-refused : goal.returns-then-not-in_round-clause-refused
returns-then-not-in_round-clause-refused c = command_outside c.args.told.now c.args.line.now c.args.name.now c.requires.stage c.requires.some c.requires.name (sym c.in_round.ensures ∙ c.if-not-in_round.true)

pub returns-in_err-place-clause-refused : goal.returns-in_err-place-clause-refused
returns-in_err-place-clause-refused c =
    let t = c.args.told.now in
    if_err c.from_residual.result _ _ c.from_residual.ensures.1 (λ u q. refuse u t (drop 1 c.args.line.now) (λ f.
    command_cannot t c.args.line.now c.args.name.now c.requires.stage c.requires.some c.requires.name (cannot c.in_err-place.field-0.0 t.names c.args.name.now (sym q ∙ f) c.in_err-place.ensures.refused)))

pub returns-in_err-said-clause-refused : goal.returns-in_err-said-clause-refused
returns-in_err-said-clause-refused c =
    let t = c.args.told.now in
    if_err c.from_residual-in_err-said.result _ _ c.from_residual-in_err-said.ensures.1 (λ u q. refuse u t (drop 1 c.args.line.now) (λ f.
    command_unread t c.args.line.now c.args.name.now c.note.new.names c.requires.stage c.requires.some c.requires.name c.in_ok-place.ensures.noted (λ l i. unread_none {X = Line} c.in_err-said.field-0.0 l (sym q ∙ f) (c.in_err-said.ensures.only l i))))

pub returns-then-not-is_next-clause-refused : goal.returns-then-not-is_next-clause-refused
returns-then-not-is_next-clause-refused c =
    command_wrong c.args.told.now c.args.line.now c.args.name.now c.note.new.names c.in_ok-said.said c.requires.stage c.requires.some c.requires.name c.in_ok-place.ensures.noted c.in_ok-place.ensures.few c.in_ok-said.ensures.found
    (λ number turn. false≢true (sym c.if-not-is_next.true ∙ c.is_next.ensures.1 number))

pub returns-then-not-may_speak-clause-refused : goal.returns-then-not-may_speak-clause-refused
returns-then-not-may_speak-clause-refused c =
    command_wrong c.args.told.now c.args.line.now c.args.name.now c.note.new.names c.in_ok-said.said c.requires.stage c.requires.some c.requires.name c.in_ok-place.ensures.noted c.in_ok-place.ensures.few c.in_ok-said.ensures.found
    (λ number turn. false≢true (sym c.if-not-may_speak.true ∙ c.may_speak.ensures ∙ turn))

pub returns-clause-taken : goal.returns-clause-taken
returns-clause-taken c =
    let t = c.args.told.now in
    let l = c.in_ok-said.said in
    command_taken t c.args.line.now c.args.name.now c.note.new.names l _ (sym c.in_round.ensures ∙ c.if-not-in_round.false) c.requires.some c.requires.name c.in_ok-place.ensures.noted c.in_ok-place.ensures.few c.in_ok-said.ensures.found
    (c.is_next.ensures.0 c.if-not-is_next.false) (sym c.may_speak.ensures ∙ c.if-not-may_speak.false)
    c.in_ok-add_line.ensures
