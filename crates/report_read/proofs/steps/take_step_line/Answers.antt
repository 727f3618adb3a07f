use Rattle.std.proofs.Common.{refl, sym, ◌∙◌, drop}
use Rattle.std.proofs.lemmas.List.{take_rest}
use Rattle.report_read.specs.Item as items
use Rattle.report_read.proofs.Standing.{plain_taken}
use Rattle.report_read.proofs.steps.take_step_line.Goals as goal

pub returns-in_ok-add_line-in-Some-clause-taken : goal.returns-in_ok-add_line-in-Some-clause-taken
returns-in_ok-add_line-in-Some-clause-taken c =
    let s = c.in-Some in
    let f = c.in_ok-said.ensures in
    plain_taken c.args.told.now (items.command s.said) _ (drop 1 c.args.line.now) (rw s.is at f.stands) (rw s.is at f.rule) (sym (take_rest c.args.line.now 1) ∙ (rw s.is at f.text)) refl c.in_ok-add_line-in-Some.ensures
