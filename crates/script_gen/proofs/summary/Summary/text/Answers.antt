use Rattle.std.proofs.Common.{◌≡◌, ◌++◌, ◌∷◌, ◌∙◌, [], ap, codes}
use Rattle.report_text.specs.Words.{line_text, more}
use Rattle.report_text.proofs.MoreWords.{then_more}
use Rattle.script_gen.specs.Counts.{first_counts, last_counts, summary_text}
use Rattle.script_gen.proofs.summary.Summary.text.Goals as goal

pub returns : goal.returns
unfolding summary_text line_text
returns c =
    let s = c.args.self.now in
    let word : c.put.new.self ≡ codes "commands" = c.in_ok-put.ensures.ok ∙ ap (λ t. t ++ codes "commands") c.new-text.ensures in
    let first : c.put_first.new.text ≡ codes "commands" ++ more (first_counts s) =
    c.in_ok-put_first.ensures.ok ∙ ap (λ t. t ++ more (first_counts s)) word in
    let last : c.put_last.new.text ≡ codes "commands" ++ more (first_counts s ++ last_counts s) =
    c.in_ok-put_last.ensures.ok ∙ ap (λ t. t ++ more (last_counts s)) first
    ∙ then_more (codes "commands") (first_counts s) (last_counts s) in
    c.into_bytes.ensures ∙ c.in_ok-end_line.ensures.ok ∙ ap (λ t. t ++ 10 ∷ []) last
