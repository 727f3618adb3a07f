use Rattle.std.proofs.Common.{List, [], ap, append_assoc, codes, ℕ, ◌++◌, ◌∙◌, ◌∷◌}
use Rattle.std.proofs.lemmas.Result.{on_ok_weaker}
use Rattle.report_text.specs.ReportText.{history_text}
use Rattle.report_text.specs.Words.{line_text}
use Rattle.text_pieces.specs.Lines.{events_text}
use Rattle.text_pieces.proofs.pieces.Pieces.put_history.Goals as goal

pub returns : goal.returns
unfolding history_text
returns g c =
    let text = events_text c.args.names.now c.args.events.items in
    on_ok_weaker c.put_events.result
    (λ k. k ∙ ap (λ (t : List ℕ). t ++ text) c.in_ok-put_word.ensures ∙ append_assoc c.args.self.now (line_text (codes "history" ∷ [])) text)
    c.put_events.ensures
