-- What the text leaves out doesn't change it.
use Rattle.std.proofs.Common.{◌≡◌, ℕ, ◌+◌, List, [], ◌∷◌, ◌++◌, refl, ap, ◌∙◌}
use Rattle.tx_model.specs.declared.report.LifeReport.{LifeReport}
use Rattle.tx_model.specs.declared.report.Report.{Report}
use Rattle.report_text.specs.ReportText.{end_text, life_text, lives_text, log_text, report_text, title_text}
use Rattle.report_read.specs.AsRead.{as_read, life_as_read, lives_as_read}

same_life : (names : List (List ℕ)) (n : ℕ) (r : LifeReport) → life_text names n (life_as_read r) ≡ life_text names n r
unfolding log_text
same_life names n r = refl

same_lives : (names : List (List ℕ)) (n : ℕ) (lives : List LifeReport) → lives_text names n (lives_as_read lives) ≡ lives_text names n lives
unfolding lives_text
same_lives names n [] = refl
same_lives names n (r ∷ lives) =
    ap (λ t. t ++ lives_text names (n + 1) (lives_as_read lives)) (same_life names n r)
    ∙ ap (λ t. life_text names n r ++ t) (same_lives names (n + 1) lives)

pub same_text : (r : Report) → report_text (as_read r) ≡ report_text r
same_text r = ap (λ t. title_text ++ t ++ end_text) (same_lives r.names 1 r.lives)
