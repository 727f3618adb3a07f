use Rattle.std.proofs.Common.{ℕ, List, [], ◌∷◌, ◌++◌, ap, ◌∙◌}
use Rattle.report_read.specs.Item as items
use Rattle.report_read.specs.Grammar.{after}
use Rattle.tx_model.specs.declared.report.Line.{Line}
use Rattle.report_read.proofs.steps.add_line.Goals as goal

pub returns : goal.returns
returns c =
    let t = c.args.told.now in
    let l = c.args.said in
    ap (λ (ls : List Line). record (after t (items.command l)) { lines = ls; spoken = c.note_turn.new.spoken }) (c.in_ok-push.ensures.ok ∙ ap (λ (x : Line). t.lines ++ x ∷ []) (c.in_ok-of.ensures ∙ c.in_ok-line.ensures))
    ∙ ap (λ (ss : List ℕ). record (after t (items.command l)) { spoken = ss }) c.in_ok-note_turn.ensures
