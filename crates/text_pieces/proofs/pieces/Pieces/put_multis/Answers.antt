use Rattle.std.proofs.Common.{[], codes, ◌∷◌}
use Rattle.std.proofs.lemmas.Result.{on_ok_weaker}
use Rattle.report_text.specs.EventText.{multi_event_words}
use Rattle.report_text.specs.ReportText.{multis_text}
use Rattle.report_text.specs.Words.{line_text}
use Rattle.text_pieces.proofs.Printed.{after_word}
use Rattle.text_pieces.proofs.pieces.Pieces.put_multis.Goals as goal

pub returns : goal.returns
unfolding multis_text
returns g c =
    on_ok_weaker c.put_list.result
    (λ k. after_word (λ e. line_text (multi_event_words c.args.names.now e)) c.args.multis.now c.args.self.now (line_text (codes "multis" ∷ [])) c.put_word.new.self c.put_list.new.self c.in_ok-put_word.ensures k)
    c.put_list.ensures
